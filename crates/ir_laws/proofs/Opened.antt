-- A closed binder is opened by replacing the variables of its body.
use Rattle.std.proofs.Common.{◌≡◌, ℕ, zero, suc, ◌+◌, ◌<◌, ◌≤◌, List, [], ◌∷◌, length, Option, Some, None, true, false, Bool, nat_eq, find, refl, ap, ap₂, ◌∙◌, arith}
use Rattle.ir_core.specs.declared.ids.SolverDefId.{SolverDefId}
use Rattle.ir_laws.specs.declared.words.Word.TheVariants.{UnsafeBinderType}
use Rattle.ir_laws.specs.Word.{same_word}
use Rattle.ir_laws.specs.Tree.{Kind, Label, Var, Param, Node, End, And, Term, Terms}
use Rattle.ir_laws.specs.Counts.{outer, outers}
use Rattle.ir_laws.specs.Reading.{outside, at_level, look, Closure, Frame, Put, Repl, frame_var, read, reads, back}
use Rattle.ir_laws.specs.Form.{Replacement}
use Rattle.ir_laws.specs.CommandReading.{under_no_frame, first_or, body, replaced_by}
use Rattle.ir_laws.specs.Laws.{OpenIsReplaced}
use Rattle.ir_laws.proofs.Replace.{repl_read}

-- what stands past the end of the frames is looked at by no variable
look_alike : (off off' : ℕ → Frame) (fs : List Frame) (i : ℕ) → i < length fs → look off fs i ≡ look off' fs i
look_alike off off' [] i h = absurd (omega arith)
look_alike off off' (f ∷ fs) zero h = refl
look_alike off off' (f ∷ fs) (suc i) h = look_alike off off' fs i (omega arith)

module _ (p : Option (List Closure)) (out out' : ℕ) where
  mutual
    read_alike : (t : Term) (fs : List Frame) (d : ℕ) → outer t ≤ length fs → read t fs p out d ≡ read t fs p out' d
    read_alike (Var i n k) fs d h = ap (λ f. frame_var f n k d) (look_alike (λ r. Put (outside (r + out))) (λ r. Put (outside (r + out'))) fs i (omega arith))
    read_alike (Param q) fs d h = refl
    read_alike (Node l None ts) fs d h = ap (Node l None) (reads_alike ts fs d h)
    read_alike (Node l (Some b) ts) fs d h = ap (Node l (Some b)) (reads_alike ts (Put (at_level d) ∷ fs) (suc d) (omega arith))

    reads_alike : (ts : Terms) (fs : List Frame) (d : ℕ) → outers ts ≤ length fs → reads ts fs p out d ≡ reads ts fs p out' d
    reads_alike End fs d h = refl
    reads_alike (And t ts) fs d h = ap₂ And (read_alike t fs d (omega arith)) (reads_alike ts fs d (omega arith))

-- the body of a closed binder speaks of that binder alone
first_closed : (l : Label SolverDefId) (ts : Terms) → outers ts ≤ 1 → outer (first_or (Node l None ts) ts) ≤ 1
first_closed l End h = h
first_closed l (And t ts) h = omega arith

chosen_closed : (b : Bool) (t u : Term) → outer t ≤ 1 → outer u ≤ 1 → outer (elim b [ true ↦ t | false ↦ u ]) ≤ 1
chosen_closed true t u h g = h
chosen_closed false t u h g = g

body_closed : (l : Label SolverDefId) (b : Option (List (Kind SolverDefId))) (ts : Terms) → outers ts ≤ 1 → outer (body (Node l b ts)) ≤ 1
body_closed l b ts h = chosen_closed (same_word l.word UnsafeBinderType) (first_or (Node l None ts) ts) (Node l None ts) (first_closed l ts h) h

-- a replacement stands under no frame
bare : (r : Option (Replacement Term)) (n : ℕ) (k : Kind SolverDefId) → (let c : Closure = elim r [ Some r ↦ under_no_frame r.term | None ↦ under_no_frame (Var 0 n k) ] in c.frames ≡ [])
bare (Some r) n k = refl
bare None n k = refl

pub open_is_replaced : OpenIsReplaced
open_is_replaced l ks ts rs h =
    let b = body (Node l (Some ks) ts) in
    ap (λ r. back r 0) (read_alike None 0 1 b (Repl (replaced_by rs) ∷ []) 0 (body_closed l (Some ks) ts (omega arith)))
    ∙ repl_read (replaced_by rs) (λ n k. bare (find (λ r. nat_eq r.number n) rs) n k) b 0
