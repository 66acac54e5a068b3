-- Each step finds the terms that it takes.
use Rattle.std.proofs.Common.{◌≡◌, ℕ, ◌+◌, ◌-◌, ◌≤◌, List, [], ◌∷◌, ◌++◌, length, Option, Some, None, subst, ap, sym, ◌∙◌, arith, length-append}
use Rattle.std.proofs.lemmas.List.{length-take}
use Rattle.ir_laws.specs.Label.{row}
use Rattle.ir_laws.specs.Phrase.{Phrase, Name}
use Rattle.ir_syntax.specs.Frames.{KeepsEnd, KeepsGroup, KeepsWord, gives, maybe_on, needs, put_by, taken_by}
use Rattle.ir_syntax.specs.Reading.{HasRoom}
use Rattle.ir_syntax.specs.Steps.{AreAmple, IsAmple, Stack, below, kid_count, step_on, steps_on}
use Rattle.ir_syntax.specs.declared.frames.Around.{Around}
use Rattle.ir_syntax.specs.declared.frames.Frame.{Frame}
use Rattle.ir_syntax.specs.declared.frames.Taken.{Taken}
use Rattle.ir_syntax.specs.declared.steps.Step.{Step}
use Rattle.ir_syntax.specs.declared.steps.Step.TheVariants as code

pub ample-push : (st : Stack) (ss : List Step) (s : Step) → AreAmple st ss → IsAmple (steps_on st ss) s → AreAmple st (ss ++ s ∷ [])
ample-push st [] s all one = (one, tt)
ample-push st (t ∷ ss) s all one = (all.0, ample-push (step_on st t) ss s all.1 one)

-- how many terms there are behind a step
over : (n : ℕ) (ps : List Phrase) (p : Phrase) → length (below n ps ++ p ∷ []) ≡ length ps - n + 1
over n ps p = omega (arith, length-append (below n ps) (p ∷ []), length-take (length ps - n) ps)

pub maybe-length : (o : Option Step) (st : Stack) → length (maybe_on o st).terms ≡ length st.terms - taken_by o + put_by o
maybe-length None st = omega arith
maybe-length (Some (code.Name name)) st = omega (arith, length-append st.terms (Name name.now ∷ []))
maybe-length (Some (code.Field f)) st = omega arith
maybe-length (Some (code.Variable k)) st = omega arith
maybe-length (Some (code.Bind n)) st = omega arith
maybe-length (Some (code.Label w)) st = over (kid_count (row w).parts) st.terms _
maybe-length (Some (code.List w n)) st = over n st.terms _

more-room : (fs : List Frame) (n m : ℕ) → n ≤ m → HasRoom fs n → HasRoom fs m
more-room [] n m le room = tt
more-room (f ∷ fs) n m le room = (omega (arith, room.0, le), more-room fs (n - needs f + gives f) (m - needs f + gives f) (omega (arith, le)) room.1)

module _ (f : Frame) (fs : List Frame) (n : ℕ) (room : HasRoom (f ∷ fs) n) where
  pub room-word : (t : Taken) → KeepsWord (needs f) (gives f) t → HasRoom (t.frame ∷ fs) (n - taken_by t.step + put_by t.step)
  room-word t keeps = (omega (arith, room.0, keeps.1, keeps.3), more-room fs _ _ (omega (arith, room.0, keeps.1, keeps.2, keeps.3)) room.1)

  pub room-group : (a : Around) → KeepsGroup (needs f) (gives f) a → HasRoom (a.inner ∷ a.outer ∷ fs) n
  room-group a keeps = (omega (arith, keeps.2), (omega (arith, room.0, keeps.2, keeps.3), more-room fs _ _ (omega (arith, room.0, keeps.2, keeps.3, keeps.4)) room.1))

  pub room-end : (o : Option Step) → KeepsEnd (needs f) (gives f) o → HasRoom fs (n - taken_by o + put_by o)
  room-end o keeps = more-room fs _ _ (omega (arith, keeps.0, keeps.1)) room.1

-- the same of stacks with a step more
pub room-put : (fs : List Frame) (o : Option Step) (st put : Stack) → put ≡ maybe_on o st → HasRoom fs (length st.terms - taken_by o + put_by o) → HasRoom fs (length put.terms)
room-put fs o st put is room = subst (HasRoom fs) (sym (ap (λ st. length st.terms) is ∙ maybe-length o st)) room
