-- The terms that resolved steps make, and their faults.
use Rattle.std.proofs.Common.{◌≡◌, ℕ, zero, suc, ◌+◌, ◌-◌, ◌≤◌, List, [], ◌∷◌, ◌++◌, length, map, take, sum_by, Some, None, Option, option_map, refl, sym, ap, subst, ◌∙◌, arith}
use Rattle.std.proofs.lemmas.List.{append-nil, length-drop, take-append-drop, take_all}
use Rattle.std.proofs.lemmas.List.Sums.{sum_by-cons, sum_by_push, sum_by-take-le}
use Rattle.ir_core.specs.declared.ids.SolverDefId.{SolverDefId}
use Rattle.ir_core.specs.declared.handles.Part.{Part as Held}
use Rattle.ir_laws.specs.Cause.{Cause, WrongSort}
use Rattle.ir_laws.specs.Counts.{sort_of, sort_of_label, word_of}
use Rattle.ir_laws.specs.Environment.{Environment, field_meant, kind_in, term_named}
use Rattle.ir_laws.specs.Heap.{Heap, tree_of}
use Rattle.ir_laws.specs.Label.{row}
use Rattle.ir_laws.specs.Names.{field_forms, unless}
use Rattle.ir_laws.specs.Phrase.{Phrase, Name, Labelled, and_then}
use Rattle.ir_laws.specs.Sorts.{an_argument, Wanted, Members, Arguments, argument_sorts, bind_misfits, each_misfits, field_misfits, fields_counted, fields_misfits, first_item, kid_wanted, kids_wanted, kind_misfits, length_misfits, misfits, operand, places, sort_of_phrase, suits, term_misfits}
use Rattle.ir_laws.specs.Tree.{Text, KindName, Nameless, Environment as EnvName, Called, Kind, Field, Item, OfKind, Label}
use Rattle.ir_laws.specs.declared.labels.FieldForm.{FieldForm}
use Rattle.ir_laws.specs.declared.labels.FieldForm.TheVariants.{ItemOf}
use Rattle.ir_laws.specs.declared.labels.KidForm.TheVariants.{ArgumentsOf}
use Rattle.ir_laws.specs.declared.labels.Part.{Part}
use Rattle.ir_laws.specs.declared.labels.Part.TheVariants.{AKid}
use Rattle.ir_laws.specs.declared.labels.Sort.{Sort}
use Rattle.ir_laws.specs.declared.words.Word.{Word}
use Rattle.ir_nodes.specs.Fits.{part_sort}
use Rattle.ir_script.specs.LookedUp.{no_name, field_names, step_count}
use Rattle.ir_script.specs.Open.{kids_made, kids_open, own_misfits, places_made, sort_made}
use Rattle.ir_syntax.specs.Grammar.{field_seen, kind_seen}
use Rattle.ir_script.specs.Resolved.{AreResolved, IsResolved}
use Rattle.ir_script.specs.Scope.{AreTerms, Named, env_of, part_named}
use Rattle.ir_syntax.specs.Steps.{Stack, below, group_taken, kid_count, label_over, label_taken, built, only, phrases, step_on, top}
use Rattle.ir_script.specs.Wanted.{bare}
use Rattle.ir_script.specs.declared.resolved.Resolved.{Resolved}
use Rattle.ir_script.specs.declared.resolved.Resolved.TheVariants as seen
use Rattle.ir_syntax.specs.declared.steps.Step.{Step}
use Rattle.ir_syntax.specs.declared.steps.Step.TheVariants as code
use Rattle.ir_script.proofs.CountLemmas.{tells_each, tells_fields, count, count_built, count_bind, count_fields, count_step, stack_count, steps_count}
use Rattle.ir_script.proofs.PendingLemmas.{one_each}
use Rattle.ir_script.proofs.ScopeLemmas.{named_is_term, term_is}
use Rattle.ir_script.proofs.StepLemmas.{list-phrases}

-- the names in a field that no item has, where none is declared
abbrev pub wrongs : Field Text → ℕ
wrongs (OfKind k) = field_names (OfKind k)
wrongs (Item name) = 1
wrongs f = 0

-- where none is counted there is no cause
abbrev IsClean : ℕ → List Cause → Type 0
IsClean n cs = n ≡ 0 → cs ≡ []

clean_both : (m n : ℕ) (cs ds : List Cause) → IsClean m cs → IsClean n ds → IsClean (m + n) (cs ++ ds)
clean_both m n cs ds left right = λ none i. left (omega (arith, none)) i ++ right (omega (arith, none)) i

kids_few : (n : ℕ) (xs : List Phrase) → n ≤ length xs → length (top n xs) ≡ n
kids_few n xs h = omega (arith, length-drop (length xs - n) xs, h)

open_many : (ws : List Wanted) (further : Wanted) (n : ℕ) → length (kids_open ws further n) ≡ n
open_many ws further zero = refl
open_many [] further (suc n) = ap suc (open_many [] further n)
open_many (w ∷ ws) further (suc n) = ap suc (open_many ws further n)

module _ (h : Heap Held) (ns : List Named) where
  abbrev env : Environment
  env = env_of h ns

  -- ---- labels without such names

  clean_kind : (k : Kind Text) → IsClean (wrongs (OfKind k)) (kind_misfits env k)
  clean_kind k = by k.name
    where
      by : (n : KindName Text) → IsClean (elim n as (λ n. ℕ) [ Nameless ↦ 0 | EnvName ↦ 0 | Called name ↦ 1 ]) (elim n as (λ n. List Cause) [ Nameless ↦ [] | EnvName ↦ [] | Called name ↦ WrongSort ∷ [] ])
      by (Called name) = λ none. absurd (cc)
      by n = λ none. refl

  clean_field : (form : FieldForm) (x : Field Text) → IsClean (wrongs x) (field_misfits env form x)
  clean_field (ItemOf at) (OfKind k) = clean_kind k
  clean_field form (OfKind k) = clean_kind k
  clean_field form (Item name) = λ none. absurd (cc)
  clean_field form x = λ none. refl

  clean_fields : (l : Label Text) → IsClean (count_fields no_name wrongs l) (fields_misfits env l)
  clean_fields l = tells_fields IsClean (λ none. refl) clean_both wrongs (field_misfits env) clean_field (field_forms (row l.word).parts) l.fields

  clean_bind : (b : Option (List (Kind Text))) → IsClean (count_bind no_name wrongs b) (bind_misfits env b)
  clean_bind None = λ none. refl
  clean_bind (Some ks) = tells_each IsClean (λ none. refl) clean_both (λ k. wrongs (OfKind k)) (kind_misfits env) clean_kind ks

  -- ---- the places of kids: whichever fields are counted, no item is among them

  no_item : (fs : List (Field Text)) → first_item env fs ≡ None
  no_item [] = refl
  no_item (Item name ∷ fs) = refl
  no_item (f ∷ fs) = no_item fs

  kids_alike : (fs : List (Field Text)) (parts : List Part) → kids_wanted env fs parts ≡ kids_wanted env [] parts
  kids_alike fs [] = refl
  kids_alike fs (AKid (ArgumentsOf count) ∷ parts) = λ i. Arguments (and_then (no_item fs i) (argument_sorts env count)) ∷ kids_alike fs parts i
  kids_alike fs (AKid form ∷ parts) = ap (λ ws. kid_wanted env [] form ∷ ws) (kids_alike fs parts)
  kids_alike fs (part ∷ parts) = kids_alike fs parts

  places_alike : (wanted : Wanted) (l : Label Text) → places env wanted l ≡ places env wanted (bare l.word)
  places_alike (Members sort if_empty) l = refl
  places_alike (Arguments None) l = refl
  places_alike (Arguments (Some sorts)) l = refl
  places_alike wanted l = λ i. record { first = (kids_alike (fields_counted env l) (row l.word).parts ∙ sym (kids_alike (fields_counted env (bare l.word)) (row l.word).parts)) i; further = an_argument }

  -- ---- the faults of a label, and of its kids

  -- in a place that wants this, or as an operand
  abbrev pub fault : Option Wanted → Phrase → List Cause
  fault None p = misfits env operand p
  fault (Some wanted) p = misfits env wanted p

  each_fault : (ws : List Wanted) (further : Wanted) (qs : List Phrase) → each_misfits env ws further (phrases qs) ≡ one_each fault (kids_open ws further (length qs)) qs
  each_fault ws further [] = refl
  each_fault [] further (q ∷ qs) = ap (λ cs. misfits env further q ++ cs) (each_fault [] further qs)
  each_fault (w ∷ ws) further (q ∷ qs) = ap (λ cs. misfits env w q ++ cs) (each_fault ws further qs)

  label_faults : (wanted : Wanted) (l : Label Text) (b : Option (List (Kind Text))) (qs : List Phrase) → count_fields no_name wrongs l ≡ 0 → count_bind no_name wrongs b ≡ 0
      → misfits env wanted (Labelled l b (phrases qs)) ≡ own_misfits wanted l.word (sort_of_label l) (Some (l.word, length qs)) ++ one_each fault (places_made env wanted (Some (l.word, length qs))) qs
  label_faults wanted l b qs fields bound =
      let own = unless (suits wanted l.word (sort_of_label l)) WrongSort in
      (λ i. own ++ clean_fields l fields i ++ clean_bind b bound i ++ length_misfits wanted (length (list-phrases qs i)) ++ each_misfits env (places_alike wanted l i).first (places_alike wanted l i).further (phrases qs))
      ∙ (λ i. append-nil (append-nil own i) i ++ length_misfits wanted (length qs) ++ each_fault (places env wanted (bare l.word)).first (places env wanted (bare l.word)).further qs i)

  -- ---- steps

  kind_clean : (k : Kind Text) (v : Kind SolverDefId) → kind_in env k ≡ Some v → wrongs (OfKind k) ≡ 0
  kind_clean k v is = by k.name is
    where
      by : (n : KindName Text) → elim n as (λ n. Option (Kind SolverDefId)) [ Nameless ↦ Some (record { sort = k.sort; name = Nameless }) | EnvName ↦ Some (record { sort = k.sort; name = EnvName }) | Called name ↦ None ] ≡ Some v → elim n as (λ n. ℕ) [ Nameless ↦ 0 | EnvName ↦ 0 | Called name ↦ 1 ] ≡ 0
      by (Called name) is = absurd (cc)
      by n is = refl

  field_clean : (x : Field Text) (y : Field SolverDefId) → field_meant env x ≡ Some y → wrongs x ≡ 0
  field_clean (Item name) y is = absurd (cc)
  field_clean (OfKind k) y is = by (kind_in env k) refl is
    where
      by : (o : Option (Kind SolverDefId)) → kind_in env k ≡ o → option_map OfKind o ≡ Some y → wrongs (OfKind k) ≡ 0
      by (Some v) e is = kind_clean k v e
      by None e is = absurd (cc)
  field_clean x y is = refl

  step_clean : (st : Stack) (step : Step) (r : Resolved) → IsResolved env ns st step r → step_count no_name wrongs step ≡ 0
  step_clean st (code.Name name) r is = refl
  step_clean st (code.Field f) (seen.Field g) is = field_clean (field_seen f) _ is
  step_clean st (code.Variable k) (seen.Variable v) is = kind_clean (kind_seen k) _ is
  step_clean st (code.Bind n) r is = refl
  step_clean st (code.Label w) r is = refl
  step_clean st (code.List w n) r is = refl
  step_clean st step r is = absurd is

  steps_clean : (st : Stack) (steps : List Step) (rs : List Resolved) → AreResolved env ns st steps rs → steps_count no_name wrongs steps ≡ 0
  steps_clean st [] rs all = refl
  steps_clean st (s ∷ steps) [] all = absurd all
  steps_clean st (s ∷ steps) (r ∷ rs) all = omega (arith, sum_by-cons (step_count no_name wrongs) s steps, step_clean st s r all.0, steps_clean (step_on st s) steps rs all.1)

  -- the stacks hold no name that is no item's
  pub stack_clean : (steps : List Step) (rs : List Resolved) (i : ℕ) → AreResolved env ns (only []) steps rs → stack_count no_name wrongs (built (take i steps)) ≡ 0
  stack_clean steps rs i all = omega (arith, count_built no_name wrongs (take i steps), sum_by-take-le (step_count no_name wrongs) steps i, steps_clean (only []) steps rs all)

  -- What a step makes of the terms: a term over the last ones, with the faults of its own and those of its kids
  pub record Makes (before after : List Phrase) (sort : Sort) (kids : Option (Word × ℕ)) : Type 0 where
    pub rest : List Phrase
    pub taken : List Phrase
    pub phrase : Phrase
    pub word : Word
    pub before_is : before ≡ rest ++ taken
    pub after_is : after ≡ rest ++ phrase ∷ []
    pub sort_is : sort_of_phrase env phrase ≡ Some sort
    pub faults_are : (wanted : Wanted) → misfits env wanted phrase ≡ own_misfits wanted word sort kids ++ one_each fault (places_made env wanted kids) taken
    pub as_many : (wanted : Wanted) → length (places_made env wanted kids) ≡ length taken

  name_makes : AreTerms h ns → (before : List Phrase) (name : Text) (q : Held) → part_named ns name ≡ Some q → Makes before (before ++ Name name ∷ []) (part_sort q) None
  name_makes are before name q is =
      let term : term_named env name ≡ Some (tree_of h q) = term_is h ns name ∙ ap (option_map (tree_of h)) is in
      let sort : sort_of (tree_of h q) ≡ part_sort q = (named_is_term h ns name q are is).sort in
      record {
        rest = before;
        taken = [];
        phrase = Name name;
        word = word_of (tree_of h q);
        before_is = sym (append-nil before);
        after_is = refl;
        sort_is = ap (λ t. elim t [ Some t ↦ Some (sort_of t) | None ↦ None ]) term ∙ ap Some sort;
        faults_are = λ wanted.
            let own = unless (suits wanted (word_of (tree_of h q)) (part_sort q)) WrongSort in
            ap (term_misfits wanted) term ∙ ap (λ s. unless (suits wanted (word_of (tree_of h q)) s) WrongSort) sort ∙ sym (append-nil (own ++ []) ∙ append-nil own);
        as_many = λ wanted. refl;
      }

  label_makes : (before : List Phrase) (l : Label Text) (b : Option (List (Kind Text))) (n : ℕ) → n ≤ length before → count_fields no_name wrongs l ≡ 0 → count_bind no_name wrongs b ≡ 0
      → Makes before (below n before ++ Labelled l b (phrases (top n before)) ∷ []) (sort_of_label l) (Some (l.word, n))
  label_makes before l b n ample fields bound = record {
    rest = below n before;
    taken = top n before;
    phrase = Labelled l b (phrases (top n before));
    word = l.word;
    before_is = sym (take-append-drop (length before - n) before);
    after_is = refl;
    sort_is = refl;
    faults_are = λ wanted. label_faults wanted l b (top n before) fields bound ∙ ap (λ m. own_misfits wanted l.word (sort_of_label l) (Some (l.word, m)) ++ one_each fault (places_made env wanted (Some (l.word, m))) (top n before)) (kids_few n before ample);
    as_many = λ wanted. open_many (places env wanted (bare l.word)).first (places env wanted (bare l.word)).further n ∙ sym (kids_few n before ample);
  }

  -- the label that the stacks make has no such name either
  over_clean : (st : Stack) (w : Word) → stack_count no_name wrongs st ≡ 0 → count_fields no_name wrongs (label_taken w st) + count_bind no_name wrongs (group_taken (row w).parts st) ≡ 0
  over_clean st w clean = omega (arith, clean, count_step no_name wrongs st (code.Label w), sum_by_push (count no_name wrongs) (below (kid_count (row w).parts) st.terms) (label_over w st))

  pub step_makes : AreTerms h ns → (st : Stack) (step : Step) (r : Resolved) (sort : Sort) → stack_count no_name wrongs st ≡ 0 → IsResolved env ns st step r → sort_made r ≡ Some sort → Makes st.terms (step_on st step).terms sort (kids_made r)
  step_makes are st (code.Name name) (seen.Term q) sort clean is some =
      let same : part_sort q ≡ sort = cc in
      subst (λ s. Makes st.terms (st.terms ++ Name name.now ∷ []) s None) same (name_makes are st.terms name.now q is)
  step_makes are st (code.Label w) (seen.Label v s) sort clean is some =
      let zero_sum = over_clean st w clean in
      let same : sort_of_label (label_taken w st) ≡ sort = sym is.1 ∙ cc in
      let kids : Some (w, kid_count (row w).parts) ≡ kids_made (seen.Label v s) = ap (λ v. Some (v, kid_count (row v).parts)) is.0 in
      subst (λ k. Makes st.terms (step_on st (code.Label w)).terms sort k) kids
      (subst (λ t. Makes st.terms (step_on st (code.Label w)).terms t (Some (w, kid_count (row w).parts))) same
      (label_makes st.terms (label_taken w st) (group_taken (row w).parts st) (kid_count (row w).parts) is.2.0 (omega (arith, zero_sum)) (omega (arith, zero_sum))))
  step_makes are st (code.List w n) (seen.List v m) sort clean is some =
      let same : sort_of_label (bare w) ≡ sort = ap (λ v. sort_of_label (bare v)) is.0 ∙ cc in
      let kids : Some (w, n) ≡ kids_made (seen.List v m) = (λ i. Some (is.0 i, is.1 i)) in
      let none : count_fields no_name wrongs (bare w) ≡ 0 = ap (sum_by wrongs) (take_all (length (field_forms (row w).parts)) [] (omega arith)) in
      subst (λ k. Makes st.terms (step_on st (code.List w n)).terms sort k) kids
      (subst (λ t. Makes st.terms (step_on st (code.List w n)).terms t (Some (w, n))) same
      (label_makes st.terms (bare w) None n is.2.0 none refl))
  step_makes are st (code.Field f) (seen.Field g) sort clean is some = absurd (cc)
  step_makes are st (code.Variable k) (seen.Variable v) sort clean is some = absurd (cc)
  step_makes are st (code.Bind n) (seen.Bind m) sort clean is some = absurd (cc)
  step_makes are st step r sort clean is some = absurd is

  -- other steps make none
  pub step_quiet : (st : Stack) (step : Step) (r : Resolved) → IsResolved env ns st step r → sort_made r ≡ None → (step_on st step).terms ≡ st.terms
  step_quiet st (code.Name name) (seen.Term q) is none = absurd (cc)
  step_quiet st (code.Label w) (seen.Label v s) is none = absurd (cc)
  step_quiet st (code.List w n) (seen.List v m) is none = absurd (cc)
  step_quiet st (code.Field f) r is none = refl
  step_quiet st (code.Variable k) r is none = refl
  step_quiet st (code.Bind n) r is none = refl
  step_quiet st step r is none = absurd is
