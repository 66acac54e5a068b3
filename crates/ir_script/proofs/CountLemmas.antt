-- What is counted in steps is what is counted in the phrases that they build.
use Rattle.std.proofs.Common.{◌≡◌, ℕ, ◌+◌, ◌-◌, ◌<◌, ◌≤◌, Bool, true, false, List, [], ◌∷◌, ◌++◌, length, get_or, take, Option, Some, None, sum_by, flat_map, subst, refl, sym, ap, ◌∙◌, arith}
use Rattle.std.proofs.lemmas.List.{length-drop, take_all, take_more}
use Rattle.std.proofs.lemmas.List.Sums.{sum_by-cons, sum_by_push, sum_by-take-drop, sum_by-take-le}
use Rattle.ir_laws.specs.Cause.{Cause}
use Rattle.ir_laws.specs.Label.{row}
use Rattle.ir_laws.specs.Names.{by_form}
use Rattle.ir_laws.specs.declared.labels.FieldForm.{FieldForm}
use Rattle.ir_laws.specs.Parts.{has_for_group}
use Rattle.ir_laws.specs.Phrase.{Phrase, Phrases, Name, Labelled, NoPhrase, ThenPhrase}
use Rattle.ir_laws.specs.Tree.{Text, Field, Kind, Label, OfKind}
use Rattle.ir_laws.specs.declared.labels.Part.{Part}
use Rattle.ir_script.specs.LookedUp.{step_count}
use Rattle.ir_syntax.specs.Grammar.{field_seen, kind_seen}
use Rattle.ir_syntax.specs.Steps.{Stack, below, built, field_count, first_of, group_count, group_taken, kid_count, label_taken, only, phrases, step_on, steps_on, top}
use Rattle.ir_syntax.specs.declared.steps.Step.{Step}
use Rattle.ir_syntax.specs.declared.steps.Step.TheVariants as code

-- the topmost are no more than so many
pub top_few : {A : Type 0} (n : ℕ) (xs : List A) → take n (top n xs) ≡ top n xs
top_few n xs = take_all n (top n xs) (omega (arith, length-drop (length xs - n) xs))

module _ (f : Text → ℕ) (g : Field Text → ℕ) where
  abbrev pub count_kind : Kind Text → ℕ
  count_kind k = g (OfKind k)

  abbrev pub count_kinds : List (Kind Text) → ℕ
  count_kinds = sum_by count_kind

  abbrev pub count_bind : Option (List (Kind Text)) → ℕ
  count_bind None = 0
  count_bind (Some ks) = count_kinds ks

  -- the fields of a label that have a place in its row
  abbrev pub count_fields : Label Text → ℕ
  count_fields l = sum_by g (take (field_count (row l.word).parts) l.fields)

  abbrev mutual
    pub count : Phrase → ℕ
    count (Name name) = f name
    count (Labelled l b ps) = count_fields l + count_bind b + counts ps

    pub counts : Phrases → ℕ
    counts NoPhrase = 0
    counts (ThenPhrase p ps) = count p + counts ps

  abbrev pub stack_count : Stack → ℕ
  stack_count st = sum_by count st.terms + sum_by g st.fields + count_kinds st.kinds + sum_by count_kinds st.groups

  abbrev pub steps_count : List Step → ℕ
  steps_count = sum_by (step_count f g)

  counts-list : (ps : List Phrase) → counts (phrases ps) ≡ sum_by count ps
  counts-list [] = refl
  counts-list (p ∷ ps) = ap (λ n. count p + n) (counts-list ps) ∙ sym (sum_by-cons count p ps)

  split : {A : Type 0} (h : A → ℕ) (n : ℕ) (xs : List A) → sum_by h xs ≡ sum_by h (below n xs) + sum_by h (top n xs)
  split h n xs = sym (sum_by-take-drop h xs (length xs - n))

  -- of the groups a label takes one at most
  of_group : (parts : List Part) (gs : List (List (Kind Text))) → sum_by count_kinds gs ≡ sum_by count_kinds (below (group_count parts) gs) + count_bind (first_of (top (group_count parts) gs))
  of_group parts gs = split count_kinds (group_count parts) gs ∙ ap (λ n. sum_by count_kinds (below (group_count parts) gs) + n) (by (top (group_count parts) gs) few)
    where
      most : (b : Bool) → elim b as (λ b. ℕ) [ true ↦ 1 | false ↦ 0 ] ≤ 1
      most true = omega arith
      most false = omega arith

      few : length (top (group_count parts) gs) ≤ 1
      few = omega (arith, length-drop (length gs - group_count parts) gs, most (has_for_group parts))

      by : (xs : List (List (Kind Text))) → length xs ≤ 1 → sum_by count_kinds xs ≡ count_bind (first_of xs)
      by [] short = refl
      by (x ∷ []) short = omega (arith, sum_by-cons count_kinds x [])
      by (x ∷ y ∷ xs) short = absurd (omega arith)

  -- a label over what it takes
  over : (n : ℕ) (xs : List Phrase) (l : Label Text) (b : Option (List (Kind Text))) → sum_by count (below n xs ++ Labelled l b (phrases (top n xs)) ∷ []) ≡ sum_by count xs + count_fields l + count_bind b
  over n xs l b = omega (arith, sum_by_push count (below n xs) (Labelled l b (phrases (top n xs))), counts-list (top n xs), split count n xs)

  pub count_step : (st : Stack) (step : Step) → stack_count (step_on st step) ≡ stack_count st + step_count f g step
  count_step st (code.Name name) = omega (arith, sum_by_push count st.terms (Name name.now))
  count_step st (code.Field x) = omega (arith, sum_by_push g st.fields (field_seen x))
  count_step st (code.Variable k) = omega (arith, sum_by_push count_kind st.kinds (kind_seen k))
  count_step st (code.Bind n) = omega (arith, sum_by_push count_kinds st.groups (top n st.kinds), split count_kind n st.kinds)
  count_step st (code.Label w) =
      let parts = (row w).parts in
      omega (arith, over (kid_count parts) st.terms (label_taken w st) (group_taken parts st), split g (field_count parts) st.fields, ap (sum_by g) (top_few (field_count parts) st.fields), of_group parts st.groups)
  count_step st (code.List w n) = omega (arith, over n st.terms (record { word = w; fields = [] }) None, ap (sum_by g) (take_all (field_count (row w).parts) [] (omega arith)))

  count_steps : (st : Stack) (steps : List Step) → stack_count (steps_on st steps) ≡ stack_count st + steps_count steps
  count_steps st [] = omega arith
  count_steps st (s ∷ steps) = omega (arith, count_steps (step_on st s) steps, count_step st s, sum_by-cons (step_count f g) s steps)

  -- the names in steps are those of the phrases that they build
  pub count_built : (steps : List Step) → stack_count (built steps) ≡ steps_count steps
  count_built steps = omega (arith, count_steps (only []) steps)

  -- what is counted at one step is counted at the end
  pub counted_at : (steps : List Step) (i : ℕ) (d : Step) → i < length steps → steps_count (take i steps) + step_count f g (get_or steps i d) ≤ steps_count steps
  counted_at steps i d h = omega (arith, ap steps_count (take_more steps i d h), sum_by_push (step_count f g) (take i steps) (get_or steps i d), sum_by-take-le (step_count f g) steps (i + 1))

-- ---- what is counted of things may tell of the causes that they have

module _ (Tells : ℕ → List Cause → Type 0) (none : Tells 0 []) (both : (m n : ℕ) (cs ds : List Cause) → Tells m cs → Tells n ds → Tells (m + n) (cs ++ ds)) where
  pub tells_each : {X : Type 0} (n : X → ℕ) (cs : X → List Cause) → ((x : X) → Tells (n x) (cs x)) → (xs : List X) → Tells (sum_by n xs) (flat_map cs xs)
  tells_each n cs own [] = none
  tells_each n cs own (x ∷ xs) = subst (λ m. Tells m (flat_map cs (x ∷ xs))) (sym (sum_by-cons n x xs)) (both (n x) (sum_by n xs) (cs x) (flat_map cs xs) (own x) (tells_each n cs own xs))

  pub tells_fields : (n : Field Text → ℕ) (cs : FieldForm → Field Text → List Cause) → ((form : FieldForm) (x : Field Text) → Tells (n x) (cs form x)) → (forms : List FieldForm) (xs : List (Field Text)) → Tells (sum_by n (take (length forms) xs)) (by_form cs forms xs)
  tells_fields n cs own [] xs = none
  tells_fields n cs own (form ∷ forms) [] = none
  tells_fields n cs own (form ∷ forms) (x ∷ xs) =
      let rest = take (length forms) xs in
      subst (λ m. Tells m (by_form cs (form ∷ forms) (x ∷ xs))) (sym (sum_by-cons n x rest)) (both (n x) (sum_by n rest) (cs form x) (by_form cs forms xs) (own form x) (tells_fields n cs own forms xs))
