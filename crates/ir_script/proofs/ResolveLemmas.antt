-- Names that are looked up step by step: the sorts of labels, and what the names of a line's phrases give.
use Rattle.std.proofs.Common.{◌≡◌, ℕ, zero, suc, ◌+◌, ◌-◌, ◌<◌, Bool, true, false, List, [], ◌∷◌, ◌++◌, length, get_or, map, take, drop, sum_by, take_all, ◌≤◌, replicate, Some, None, Option, is_some, Ok, Err, refl, sym, ap, subst, ◌∙◌, arith, ◌⊎◌, inl, inr}
use Rattle.std.proofs.lemmas.List.{drop-map, length-map, replicate-append-replicate, take-map, take_more}
use Rattle.std.proofs.lemmas.List.Sums.{sum_by_push}
use Rattle.ir_core.specs.declared.handles.Part.{Part}
use Rattle.ir_laws.specs.Cause as spec
use Rattle.ir_laws.specs.Cause.{is_cause_among, Unknown, WrongSort}
use Rattle.ir_laws.specs.Causes.{earliest}
use Rattle.ir_laws.specs.Counts.{sort_of_fields, sort_of_label}
use Rattle.ir_laws.specs.Environment.{Environment, is_known}
use Rattle.ir_laws.specs.Heap.{Heap}
use Rattle.ir_laws.specs.Label.{row, Always, ByKind}
use Rattle.ir_laws.specs.Names.{field_forms, unknown_bind, unknown_each, unknown_field, unknown_in, unknown_kind, unknown_list, unless}
use Rattle.ir_laws.specs.Phrase.{Phrase, Phrases, Name, Labelled, NoPhrase, ThenPhrase, phrase_list}
use Rattle.ir_laws.specs.Sorts.{Wanted, fields_misfits, bind_misfits, each_misfits, field_misfits, kind_misfits, length_misfits, misfits, operand, places, suits}
use Rattle.ir_laws.specs.Tree.{Text, KindName, Nameless, Environment as EnvName, Called, Kind, Field, Item, OfKind}
use Rattle.ir_laws.specs.declared.labels.FieldForm.{FieldForm}
use Rattle.ir_laws.specs.declared.labels.FieldForm.TheVariants.{IdOf}
use Rattle.ir_laws.specs.declared.labels.Sort.{Sort}
use Rattle.ir_laws.specs.declared.words.Word.{Word}
use Rattle.ir_script.specs.Causes.{cause_seen, Says}
use Rattle.ir_script.specs.LookedUp.{no_name, IsFaultOf, field_names, field_sort, field_unknowns, name_unknowns, sort_of_sorts, step_names, step_unknowns}
use Rattle.ir_script.specs.Operands.{AnswersNames, operand_misfits, operand_unknowns}
use Rattle.ir_script.specs.Resolved.{AreResolved, IsResolved}
use Rattle.ir_script.specs.Scope.{Named, env_of, part_named}
use Rattle.ir_syntax.specs.Steps.{Stack, AreAmple, IsAmple, below, built, only, step_on, top}
use Rattle.ir_script.specs.declared.causes.Cause.{Cause}
use Rattle.ir_script.specs.declared.causes.Cause.TheVariants as cause
use Rattle.ir_script.specs.declared.resolved.Resolved.{Resolved}
use Rattle.ir_syntax.specs.declared.steps.Step.{Step}
use Rattle.ir_script.proofs.CauseLemmas.{among_left, among_right}
use Rattle.ir_script.proofs.CountLemmas.{tells_each, tells_fields, count, count_bind, count_built, stack_count, counted_at, counts, steps_count}
use Rattle.ir_script.proofs.ScopeLemmas.{known_is}
use Rattle.ir_script.proofs.StepLemmas.{ample_at, built_next, resolved_push}

-- ---- the sort of a label

pub sorts_of : (fs : List (Field Text)) → sort_of_sorts (map field_sort fs) ≡ sort_of_fields fs
sorts_of [] = refl
sorts_of (OfKind k ∷ fs) = refl
sorts_of (f ∷ fs) = sorts_of fs

pub sort_by_kind : (w : Word) (fs : List (Field Text)) → (row w).sort ≡ ByKind → sort_of_fields fs ≡ sort_of_label (record { word = w; fields = fs })
sort_by_kind w fs is = sym (ap (λ s. elim s [ Always t ↦ t | ByKind ↦ sort_of_fields fs ]) is)

pub sort_always : (w : Word) (fs : List (Field Text)) (s : Sort) → (row w).sort ≡ Always s → s ≡ sort_of_label (record { word = w; fields = fs })
sort_always w fs s is = sym (ap (λ s. elim s [ Always t ↦ t | ByKind ↦ sort_of_fields fs ]) is)

module _ {A B : Type 0} (f : A → B) (xs : List A) (ys : List B) (n rest : ℕ) (is : map f xs ≡ ys) (cut : rest ≡ length ys - n) where
  place : length xs - n ≡ rest
  place = ap (λ m. m - n) (sym (length-map xs f) ∙ ap length is) ∙ sym cut

  pub map_top : map f (top n xs) ≡ drop rest ys
  map_top = sym (drop-map f (length xs - n) xs) ∙ (λ i. drop (place i) (is i))

  pub map_below : map f (below n xs) ≡ take rest ys
  map_below = sym (take-map f (length xs - n) xs) ∙ (λ i. take (place i) (is i))

-- ---- names that aren't declared: as many causes as are counted

many : ℕ → List spec.Cause
many n = replicate n Unknown

abbrev IsMany : ℕ → List spec.Cause → Type 0
IsMany n cs = cs ≡ many n

module _ (h : Heap Part) (ns : List Named) where
  abbrev env : Environment
  env = env_of h ns

  abbrev unknowns : Phrase → ℕ
  unknowns = count (name_unknowns ns) (field_unknowns ns)

  joined : (m n : ℕ) (cs ds : List spec.Cause) → cs ≡ many m → ds ≡ many n → cs ++ ds ≡ many (m + n)
  unfolding many
  joined m n cs ds left right = (λ i. left i ++ right i) ∙ replicate-append-replicate m n Unknown

  of_name : (name : Text) → unless (is_known env name) Unknown ≡ many (name_unknowns ns name)
  unfolding many
  of_name name = ap (λ b. unless b Unknown) (known_is h ns name) ∙ by (part_named ns name)
    where
      by : (o : Option Part) → unless (is_some o) Unknown ≡ replicate (elim o [ Some q ↦ 0 | None ↦ 1 ]) Unknown
      by (Some q) = refl
      by None = refl

  of_kind : (k : Kind Text) → unknown_kind env None k ≡ many (field_unknowns ns (OfKind k))
  unfolding many
  of_kind k = by k.name
    where
      by : (n : KindName Text) → elim n [ Nameless ↦ [] | EnvName ↦ [] | Called name ↦ unless (is_known env name) Unknown ] ≡ replicate (elim n [ Nameless ↦ 0 | EnvName ↦ 0 | Called name ↦ name_unknowns ns name ]) Unknown
      by Nameless = refl
      by EnvName = refl
      by (Called name) = of_name name

  of_field : (form : FieldForm) (x : Field Text) → unknown_field env None form x ≡ many (field_unknowns ns x)
  unfolding many
  of_field (IdOf at) (Item name) = of_name name
  of_field form (Item name) = of_name name
  of_field form (OfKind k) = of_kind k
  of_field form x = refl

  of_bind : (b : Option (List (Kind Text))) → unknown_bind env None b ≡ many (count_bind (name_unknowns ns) (field_unknowns ns) b)
  unfolding many
  of_bind None = refl
  of_bind (Some ks) = tells_each IsMany refl joined (λ k. field_unknowns ns (OfKind k)) (unknown_kind env None) of_kind ks

  mutual
    unfolding many

    of_phrase : (p : Phrase) → unknown_in env None p ≡ many (unknowns p)
    of_phrase (Name name) = of_name name
    of_phrase (Labelled l b ps) =
        let fields = sum_by (field_unknowns ns) (take (length (field_forms (row l.word).parts)) l.fields) in
        let bound = count_bind (name_unknowns ns) (field_unknowns ns) b in
        joined (fields + bound) (counts (name_unknowns ns) (field_unknowns ns) ps) _ _ (joined fields bound _ _ (tells_fields IsMany refl joined (field_unknowns ns) (unknown_field env None) of_field (field_forms (row l.word).parts) l.fields) (of_bind b)) (of_phrases ps)

    of_phrases : (ps : Phrases) → unknown_each env None ps ≡ many (counts (name_unknowns ns) (field_unknowns ns) ps)
    of_phrases NoPhrase = refl
    of_phrases (ThenPhrase p ps) = joined (unknowns p) (counts (name_unknowns ns) (field_unknowns ns) ps) _ _ (of_phrase p) (of_phrases ps)

  of_list : (ps : List Phrase) → unknown_list env None ps ≡ many (sum_by unknowns ps)
  unfolding many
  of_list ps = tells_each IsMany refl joined unknowns (unknown_in env None) of_phrase ps

  -- ---- kinds with names: where some are counted there is a fault of sorts

  abbrev names : Phrase → ℕ
  names = count no_name field_names

  record Shows (n : ℕ) (cs : List spec.Cause) : Type 0 where
    says : 0 < n → is_cause_among cs WrongSort ≡ true

  both : (m n : ℕ) (cs ds : List spec.Cause) → Shows m cs → Shows n ds → Shows (m + n) (cs ++ ds)
  both zero n cs ds left right = record { says = λ some. among_right cs ds WrongSort (right.says (omega (arith, some))) }
  both (suc m) n cs ds left right = record { says = λ some. among_left cs ds WrongSort (left.says (omega arith)) }

  none : (cs : List spec.Cause) → Shows 0 cs
  none cs = record { says = λ some. absurd (omega (arith, some)) }

  kind_shows : (k : Kind Text) → Shows (field_names (OfKind k)) (kind_misfits env k)
  kind_shows k = by k.name
    where
      by : (n : KindName Text) → Shows (elim n as (λ n. ℕ) [ Nameless ↦ 0 | EnvName ↦ 0 | Called name ↦ 1 ]) (elim n [ Nameless ↦ [] | EnvName ↦ [] | Called name ↦ WrongSort ∷ [] ])
      by (Called name) = record { says = λ some. refl }
      by n = none []

  field_shows : (form : FieldForm) (x : Field Text) → Shows (field_names x) (field_misfits env form x)
  field_shows (IdOf at) (OfKind k) = kind_shows k
  field_shows form (OfKind k) = kind_shows k
  field_shows form x = none (field_misfits env form x)

  bind_shows : (b : Option (List (Kind Text))) → Shows (count_bind no_name field_names b) (bind_misfits env b)
  bind_shows None = none []
  bind_shows (Some ks) = tells_each Shows (none []) both (λ k. field_names (OfKind k)) (kind_misfits env) kind_shows ks

  mutual
    phrase_shows : (wanted : Wanted) (p : Phrase) → Shows (names p) (misfits env wanted p)
    phrase_shows wanted (Name name) = none (misfits env wanted (Name name))
    phrase_shows wanted (Labelled l b ps) =
        let here = unless (suits wanted l.word (sort_of_label l)) WrongSort in
        let short = length_misfits wanted (length (phrase_list ps)) in
        let fields = tells_fields Shows (none []) both field_names (field_misfits env) field_shows (field_forms (row l.word).parts) l.fields in
        let n = sum_by field_names (take (length (field_forms (row l.word).parts)) l.fields) + count_bind no_name field_names b in
        let own = both _ 0 _ short (both _ _ _ _ (both 0 _ here _ (none here) fields) (bind_shows b)) (none short) in
        both n _ _ _ (subst (λ m. Shows m (here ++ fields_misfits env l ++ bind_misfits env b ++ short)) (omega arith) own) (phrases_show (places env wanted l).first (places env wanted l).further ps)

    phrases_show : (ws : List Wanted) (further : Wanted) (ps : Phrases) → Shows (counts no_name field_names ps) (each_misfits env ws further ps)
    phrases_show ws further NoPhrase = none (each_misfits env ws further NoPhrase)
    phrases_show [] further (ThenPhrase p ps) = both _ _ _ _ (phrase_shows further p) (phrases_show [] further ps)
    phrases_show (w ∷ ws) further (ThenPhrase p ps) = both _ _ _ _ (phrase_shows w p) (phrases_show ws further ps)

  list_shows : (ps : List Phrase) → Shows (sum_by names ps) (operand_misfits env ps)
  list_shows ps = tells_each Shows (none []) both names (misfits env operand) (phrase_shows operand) ps

-- ---- the loop over the steps

module _ (ns : List Named) (steps : List Step) where
  -- what stands after so many steps, and whether one of them is a kind with a name: then the lists are of no more use
  pub record AreLooked (i : ℕ) (named : Bool) (sorts : List (Option Sort)) (rs : List Resolved) : Type 0 where
    pub known : sum_by (step_unknowns ns) (take i steps) ≡ 0
    pub names_are : named ≡ true → 0 < sum_by step_names (take i steps)
    pub sorts_are : named ≡ false → map field_sort (built (take i steps)).fields ≡ sorts
    pub resolved : named ≡ false → (h : Heap Part) → AreAmple (only []) steps → AreResolved (env_of h ns) ns (only []) (take i steps) rs

  pub look_none : AreLooked 0 false [] []
  look_none = record { known = refl; names_are = λ e. absurd (cc); sorts_are = λ e. refl; resolved = λ e h ample. tt }

  one_more : (f : Step → ℕ) (i : ℕ) (d : Step) → i < length steps → sum_by f (take (i + 1) steps) ≡ sum_by f (take i steps) + f (get_or steps i d)
  one_more f i d h = ap (sum_by f) (take_more steps i d h) ∙ sum_by_push f (take i steps) (get_or steps i d)

  module _ (i : ℕ) (d : Step) (below : i < length steps) (named : Bool) (sorts sorts2 : List (Option Sort)) (rs : List Resolved) (so_far : AreLooked i named sorts rs) where
    pub look_next : (r : Resolved) → step_unknowns ns (get_or steps i d) ≡ 0
        → ((h : Heap Part) (st : Stack) → map field_sort st.fields ≡ sorts → IsAmple st (get_or steps i d) → IsResolved (env_of h ns) ns st (get_or steps i d) r)
        → ((st : Stack) → map field_sort st.fields ≡ sorts → map field_sort (step_on st (get_or steps i d)).fields ≡ sorts2)
        → AreLooked (i + 1) named sorts2 (rs ++ r ∷ [])
    look_next r known is sorts_are = record {
      known = omega (arith, one_more (step_unknowns ns) i d below, known, so_far.known);
      names_are = λ e. omega (arith, one_more step_names i d below, so_far.names_are e);
      sorts_are = λ e. ap (λ st. map field_sort st.fields) (built_next steps i d below) ∙ sorts_are (built (take i steps)) (so_far.sorts_are e);
      resolved = λ e h ample. resolved_push (env_of h ns) ns steps rs i d r below (so_far.resolved e h ample) (is h (built (take i steps)) (so_far.sorts_are e) (ample_at (only []) steps i d below ample));
    }

    pub look_named : IsFaultOf (step_unknowns ns (get_or steps i d)) (step_names (get_or steps i d)) cause.Sort → AreLooked (i + 1) true sorts2 rs
    look_named fault = record {
      known = omega (arith, one_more (step_unknowns ns) i d below, fault.0, so_far.known);
      names_are = λ e. omega (arith, one_more step_names i d below, fault.1);
      sorts_are = λ e. absurd (cc);
      resolved = λ e. absurd (cc);
    }

  module _ (h : Heap Part) (ps : List Phrase) (is : built steps ≡ only ps) where
    abbrev faults : List spec.Cause
    faults = earliest (operand_unknowns (env_of h ns) ps ∷ operand_misfits (env_of h ns) ps ∷ [])

    all_of : (f : Text → ℕ) (g : Field Text → ℕ) → sum_by (count f g) ps ≡ steps_count f g steps
    all_of f g = omega (arith, ap (stack_count f g) is, count_built f g steps)

    unknowns_are : operand_unknowns (env_of h ns) ps ≡ replicate (sum_by (step_unknowns ns) steps) Unknown
    unfolding many
    unknowns_are = of_list h ns ps ∙ ap many (all_of (name_unknowns ns) (field_unknowns ns))

    -- a name that isn't declared
    look_unknown : (i : ℕ) (d : Step) → i < length steps → step_unknowns ns (get_or steps i d) ≡ 1 → Says cause.Unknown faults
    look_unknown i d below one =
        by (sum_by (step_unknowns ns) steps) (omega (arith, counted_at (name_unknowns ns) (field_unknowns ns) steps i d below, one)) unknowns_are
      where
        by : (n : ℕ) → 0 < n → operand_unknowns (env_of h ns) ps ≡ replicate n Unknown → Says cause.Unknown faults
        by zero some are = absurd (omega (arith, some))
        by (suc n) some are = ap (λ cs. is_cause_among (earliest (cs ∷ operand_misfits (env_of h ns) ps ∷ [])) Unknown) are

    pub look_fault : (rs : List Resolved) (i : ℕ) (d : Step) (c : Cause) → i < length steps → IsFaultOf (step_unknowns ns (get_or steps i d)) (step_names (get_or steps i d)) c → (c ≡ cause.Sort → ⊥) → AnswersNames (env_of h ns) ns rs ps (Err c)
    look_fault rs i d c here fault other = record { known = tt; stand = tt; fault = by c fault other }
      where
        by : (c : Cause) → IsFaultOf (step_unknowns ns (get_or steps i d)) (step_names (get_or steps i d)) c → (c ≡ cause.Sort → ⊥) → (cause_seen c ≡ None) ⊎ Says c faults
        by cause.Unknown fault other = inr (look_unknown i d here fault)
        by cause.Memory fault other = inl refl
        by cause.Sort fault other = absurd (other refl)
        by c fault other = absurd fault

    module _ (i : ℕ) (named : Bool) (sorts : List (Option Sort)) (rs : List Resolved) (all : length steps ≤ i) (looked : AreLooked i named sorts rs) where
      look_known : operand_unknowns (env_of h ns) ps ≡ []
      look_known =
          let no_more : sum_by (step_unknowns ns) steps ≡ 0 = omega (arith, ap (sum_by (step_unknowns ns)) (take_all i steps all), looked.known) in
          unknowns_are ∙ ap (λ n. replicate n Unknown) no_more

      pub look_wrong : named ≡ true → AnswersNames (env_of h ns) ns rs ps (Err cause.Sort)
      look_wrong e = record { known = tt; stand = tt; fault = inr (first (operand_unknowns (env_of h ns) ps) look_known wrong) }
        where
          wrong : is_cause_among (operand_misfits (env_of h ns) ps) WrongSort ≡ true
          wrong = (list_shows h ns ps).says (omega (arith, ap (sum_by step_names) (take_all i steps all), all_of no_name field_names, looked.names_are e))

          only_stage : (cs : List spec.Cause) → is_cause_among (earliest (cs ∷ [])) WrongSort ≡ is_cause_among cs WrongSort
          only_stage [] = refl
          only_stage (c ∷ cs) = refl

          first : (cs : List spec.Cause) → cs ≡ [] → is_cause_among (operand_misfits (env_of h ns) ps) WrongSort ≡ true → Says cause.Sort (earliest (cs ∷ operand_misfits (env_of h ns) ps ∷ []))
          first [] no_more w = only_stage (operand_misfits (env_of h ns) ps) ∙ w
          first (c ∷ cs) no_more w = absurd (cc)

      pub look_stand : named ≡ false → AreAmple (only []) steps → AnswersNames (env_of h ns) ns rs ps (Ok tt)
      look_stand e ample = record {
        known = look_known;
        stand = record { steps = steps; built_is = is; resolved = subst (λ ss. AreResolved (env_of h ns) ns (only []) ss rs) (take_all i steps all) (looked.resolved e h ample) };
        fault = tt;
      }
