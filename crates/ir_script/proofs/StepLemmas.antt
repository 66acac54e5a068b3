-- Steps one after the other, and what their stacks hold.
use Rattle.std.proofs.Common.{◌≡◌, ℕ, zero, suc, ◌+◌, ◌-◌, ◌<◌, List, [], ◌∷◌, ◌++◌, length, get_or, take, drop, Option, None, refl, sym, ap, subst, ◌∙◌, arith}
use Rattle.std.proofs.lemmas.List.{take_more}
use Rattle.ir_laws.specs.Environment.{Environment}
use Rattle.ir_laws.specs.Heap.{Each}
use Rattle.ir_laws.specs.Label.{row}
use Rattle.ir_laws.specs.Phrase.{Phrase, Phrases, Labelled, phrase_list}
use Rattle.ir_laws.specs.Tree.{Text, Kind, Label}
use Rattle.ir_script.specs.Resolved.{IsResolved, AreResolved}
use Rattle.ir_script.specs.Scope.{Named}
use Rattle.ir_syntax.specs.Steps.{AreAmple, IsAmple, Stack, below, built, kid_count, label_taken, group_taken, only, phrases, step_on, steps_on, top}
use Rattle.ir_script.specs.declared.resolved.Resolved.{Resolved}
use Rattle.ir_syntax.specs.declared.steps.Step.{Step}
use Rattle.ir_syntax.specs.declared.steps.Step.TheVariants as code

-- one step more
pub steps_on-push : (st : Stack) (steps : List Step) (step : Step) → steps_on st (steps ++ step ∷ []) ≡ step_on (steps_on st steps) step
steps_on-push st [] step = refl
steps_on-push st (s ∷ steps) step = steps_on-push (step_on st s) steps step

-- the next of the steps
pub built_next : (steps : List Step) (i : ℕ) (d : Step) → i < length steps → built (take (i + 1) steps) ≡ step_on (built (take i steps)) (get_or steps i d)
built_next steps i d h = ap built (take_more steps i d h) ∙ steps_on-push (only []) (take i steps) (get_or steps i d)

-- each of the steps finds what it takes
pub ample_at : (st : Stack) (steps : List Step) (i : ℕ) (d : Step) → i < length steps → AreAmple st steps → IsAmple (steps_on st (take i steps)) (get_or steps i d)
ample_at st [] i d h all = absurd (omega arith)
ample_at st (s ∷ steps) zero d h all = all.0
ample_at st (s ∷ steps) (suc i) d h all = ample_at (step_on st s) steps i d (omega arith) all.1

module _ (env : Environment) (ns : List Named) where
  -- The next of the resolved steps is that of a step
  pub record IsNext (steps : List Step) (i : ℕ) (r : Resolved) : Type 0 where
    pub step : Step
    pub built_is : built (take (i + 1) steps) ≡ step_on (built (take i steps)) step
    pub is : IsResolved env ns (built (take i steps)) step r

  next_from : (st : Stack) (steps : List Step) (rs : List Resolved) (i : ℕ) (d : Resolved) → AreResolved env ns st steps rs → i < length rs
      → (step : Step) × (steps_on st (take (suc i) steps) ≡ step_on (steps_on st (take i steps)) step) × IsResolved env ns (steps_on st (take i steps)) step (get_or rs i d)
  next_from st [] [] i d all h = absurd (omega arith)
  next_from st [] (r ∷ rs) i d all h = absurd all
  next_from st (s ∷ steps) [] i d all h = absurd all
  next_from st (s ∷ steps) (r ∷ rs) zero d all h = (s, refl, all.0)
  next_from st (s ∷ steps) (r ∷ rs) (suc i) d all h = next_from (step_on st s) steps rs i d all.1 (omega arith)

  pub resolved_next : (steps : List Step) (rs : List Resolved) (i : ℕ) (d : Resolved) → AreResolved env ns (only []) steps rs → i < length rs → IsNext steps i (get_or rs i d)
  resolved_next steps rs i d all h =
      let next = next_from (only []) steps rs i d all h in
      let one : i + 1 ≡ suc i = omega arith in
      record { step = next.0; built_is = ap (λ n. built (take n steps)) one ∙ next.1; is = next.2 }

  pub resolved_length : (st : Stack) (steps : List Step) (rs : List Resolved) → AreResolved env ns st steps rs → length steps ≡ length rs
  resolved_length st [] [] all = refl
  resolved_length st [] (r ∷ rs) all = absurd all
  resolved_length st (s ∷ steps) [] all = absurd all
  resolved_length st (s ∷ steps) (r ∷ rs) all = ap suc (resolved_length (step_on st s) steps rs all.1)

  -- one step more is resolved
  push_from : (st : Stack) (steps : List Step) (rs : List Resolved) (s : Step) (r : Resolved) → AreResolved env ns st steps rs → IsResolved env ns (steps_on st steps) s r → AreResolved env ns st (steps ++ s ∷ []) (rs ++ r ∷ [])
  push_from st [] [] s r all one = (one, tt)
  push_from st [] (q ∷ rs) s r all one = absurd all
  push_from st (t ∷ steps) [] s r all one = absurd all
  push_from st (t ∷ steps) (q ∷ rs) s r all one = (all.0, push_from (step_on st t) steps rs s r all.1 one)

  pub resolved_push : (steps : List Step) (rs : List Resolved) (i : ℕ) (d : Step) (r : Resolved) → i < length steps → AreResolved env ns (only []) (take i steps) rs → IsResolved env ns (built (take i steps)) (get_or steps i d) r
      → AreResolved env ns (only []) (take (i + 1) steps) (rs ++ r ∷ [])
  resolved_push steps rs i d r h all one =
      subst (λ ss. AreResolved env ns (only []) ss (rs ++ r ∷ [])) (sym (take_more steps i d h)) (push_from (only []) (take i steps) rs (get_or steps i d) r all one)

-- ---- what holds of all that the steps leave, and with a phrase of its kids, held before

pub list-phrases : (ps : List Phrase) → phrase_list (phrases ps) ≡ ps
list-phrases [] = refl
list-phrases (p ∷ ps) = ap (λ qs. p ∷ qs) (list-phrases ps)

module _ (Q : Phrase → Type 0) where
  each-split : (xs ys : List Phrase) → Each Q (xs ++ ys) → Each Q xs × Each Q ys
  each-split [] ys e = (tt, e)
  each-split (x ∷ xs) ys e = let rest = each-split xs ys e.1 in ((e.0, rest.0), rest.1)

  each-join : (n : ℕ) (xs : List Phrase) → Each Q (take n xs) → Each Q (drop n xs) → Each Q xs
  each-join zero xs e f = f
  each-join (suc n) [] e f = tt
  each-join (suc n) (x ∷ xs) e f = (e.0, each-join n xs e.1 f)

  module _ (closed : (l : Label Text) (b : Option (List (Kind Text))) (ps : Phrases) → Q (Labelled l b ps) → Each Q (phrase_list ps)) where
    -- a label over the topmost so many
    held_under : (n : ℕ) (xs : List Phrase) (l : Label Text) (b : Option (List (Kind Text))) → Each Q (below n xs ++ Labelled l b (phrases (top n xs)) ∷ []) → Each Q xs
    held_under n xs l b e =
        let sides = each-split (below n xs) (Labelled l b (phrases (top n xs)) ∷ []) e in
        each-join (length xs - n) xs sides.0 (subst (Each Q) (list-phrases (top n xs)) (closed l b (phrases (top n xs)) sides.1.0))

    pub held_step : (st : Stack) (step : Step) → Each Q (step_on st step).terms → Each Q st.terms
    held_step st (code.Name name) e = (each-split st.terms _ e).0
    held_step st (code.Field f) e = e
    held_step st (code.Variable k) e = e
    held_step st (code.Bind n) e = e
    held_step st (code.Label w) e = held_under (kid_count (row w).parts) st.terms (label_taken w st) (group_taken (row w).parts st) e
    held_step st (code.List w n) e = held_under n st.terms (record { word = w; fields = [] }) None e

    pub held_before : (steps : List Step) (st : Stack) → Each Q (steps_on st steps).terms → Each Q st.terms
    held_before [] st e = e
    held_before (s ∷ steps) st e = held_step st s (held_before steps (step_on st s) e)

    -- of the stacks that the first of the steps leave
    pub held_at : (steps : List Step) (i : ℕ) → Each Q (built steps).terms → Each Q (built (take i steps)).terms
    held_at steps i e = from (only []) steps i e
      where
        from : (st : Stack) (steps : List Step) (i : ℕ) → Each Q (steps_on st steps).terms → Each Q (steps_on st (take i steps)).terms
        from st steps zero e = held_before steps st e
        from st [] (suc i) e = e
        from st (s ∷ steps) (suc i) e = from (step_on st s) steps i e
