-- The loop over the steps from the last one on.
use Rattle.std.proofs.Common.{◌≡◌, ℕ, ◌+◌, ◌-◌, ◌<◌, ◌≤◌, get_or, true, ◌&&◌, List, [], ◌∷◌, ◌++◌, length, map, take, flat_map, Some, None, Option, option_map, refl, sym, ap, subst, ◌∙◌, inl, inr, ◌⊎◌, Ok, Err, arith, take_all, append_assoc, unwrap_or}
use Rattle.std.proofs.Math.Bool.{and-true}
use Rattle.std.proofs.lemmas.List.{append-nil}
use Rattle.ir_core.specs.declared.handles.Part.{Part}
use Rattle.ir_laws.specs.Cause as spec
use Rattle.ir_laws.specs.Heap.{Heap}
use Rattle.ir_laws.specs.Phrase.{Phrase}
use Rattle.ir_laws.specs.Sorts.{Wanted, misfits, sort_of_phrase}
use Rattle.ir_laws.specs.declared.labels.Sort.{Sort}
use Rattle.ir_laws.specs.declared.words.Word.{Word}
use Rattle.ir_script.specs.Causes.{cause_seen, Says}
use Rattle.ir_script.specs.Open.{kids_made, open_places, own_misfits, place_open, places_made, sort_behind, sort_made, sort_open}
use Rattle.ir_script.specs.Operands.{AnswersPlaces, are_alike, operand_misfits}
use Rattle.ir_script.specs.Resolved.{StandFor}
use Rattle.ir_script.specs.Scope.{AreTerms, Named, env_of}
use Rattle.ir_syntax.specs.Steps.{built, only, step_on}
use Rattle.ir_script.specs.Wanted.{wanted_seen}
use Rattle.ir_script.specs.declared.causes.Cause.{Cause}
use Rattle.ir_script.specs.declared.resolved.Resolved.{Resolved}
use Rattle.ir_script.specs.declared.sorts.Pending.{Pending}
use Rattle.ir_script.specs.declared.sorts.Operands.{Operands}
use Rattle.ir_script.specs.declared.sorts.Wanted as code
use Rattle.ir_script.specs.declared.sorts.Wanted.TheVariants as wants
use Rattle.ir_script.proofs.CauseLemmas.{says_left, says_right}
use Rattle.ir_script.proofs.FaultLemmas.{Makes, fault, stack_clean, step_makes, step_quiet}
use Rattle.ir_script.proofs.PendingLemmas.{all_operands, in_last, in_more, in_none, in_places, one_each}
use Rattle.ir_script.proofs.StepLemmas.{IsNext, resolved_length, resolved_next}

module _ (h : Heap Part) (ns : List Named) (ps : List Phrase) where
  abbrev faults : Option Wanted → Phrase → List spec.Cause
  faults = fault h ns

  -- the sort of an operand
  abbrev own_sort : Option Wanted → Phrase → List (Option Sort)
  own_sort None p = sort_of_phrase (env_of h ns) p ∷ []
  own_sort (Some wanted) p = []

  -- The faults of the terms in their places are those of the operands, and so is whether all have one sort, with what is behind
  pub record AreOpen (ts : List Phrase) (pending : List Pending) (operands : Operands) : Type 0 where
    pub faults_are : in_places faults (open_places pending) ts ≡ operand_misfits (env_of h ns) ps
    pub alike_is : (are_alike (in_places own_sort (open_places pending) ts ++ sort_behind operands.first) && operands.alike) ≡ are_alike (map (sort_of_phrase (env_of h ns)) ps)

  sorts_are : (ps : List Phrase) → flat_map (own_sort None) ps ≡ map (sort_of_phrase (env_of h ns)) ps
  sorts_are [] = refl
  sorts_are (p ∷ ps) = ap (λ ss. sort_of_phrase (env_of h ns) p ∷ ss) (sorts_are ps)

  pub open_all : (operands : Operands) → operands.first ≡ None → operands.alike ≡ true → AreOpen ps [] operands
  open_all operands first alike = record {
    faults_are = all_operands faults ps;
    alike_is = (λ i. are_alike (in_places own_sort [] ps ++ sort_behind (first i)) && alike i) ∙ and-true (are_alike (in_places own_sort [] ps ++ [])) ∙ ap are_alike (append-nil (in_places own_sort [] ps) ∙ all_operands own_sort ps ∙ sorts_are ps);
  }

  -- when no term is left
  pub open_none : (pending : List Pending) (operands : Operands) → AreOpen [] pending operands → AnswersPlaces (env_of h ns) ps (Ok operands.alike)
  open_none pending operands so_far = record {
    fit = sym so_far.faults_are ∙ in_none faults (open_places pending);
    alike = by operands.first ∙ ap (λ ss. are_alike (ss ++ sort_behind operands.first) && operands.alike) (sym (in_none own_sort (open_places pending))) ∙ so_far.alike_is;
    fault = tt;
  }
    where
      by : (first : Option Sort) → operands.alike ≡ (are_alike (sort_behind first) && operands.alike)
      by None = refl
      by (Some s) = refl

  module _ (before after : List Phrase) (sort : Sort) (kids : Option (Word × ℕ)) (makes : Makes h ns before after sort kids) (xs ys : List Pending) (operands : Operands) (so_far : AreOpen after xs operands)
      (place : Option code.Wanted) (places : open_places xs ≡ open_places ys ++ place_open place) (empty : place ≡ None → ys ≡ []) (w : code.Wanted) (is : w ≡ unwrap_or place wants.Operand) where
    abbrev wanted : Wanted
    wanted = wanted_seen w

    -- its own faults, those of its kids and those of the terms before it
    abbrev own : List spec.Cause
    own = own_misfits wanted makes.word sort kids

    abbrev deeper : List spec.Cause
    deeper = one_each faults (places_made (env_of h ns) wanted kids) makes.taken

    abbrev others : List spec.Cause
    others = in_places faults (open_places ys) makes.rest

    -- in its place the term has the faults of its own and those of its kids
    of_term : faults (option_map wanted_seen place) makes.phrase ≡ own ++ deeper
    of_term = by place is ∙ makes.faults_are wanted
      where
        by : (place : Option code.Wanted) → w ≡ unwrap_or place wants.Operand → faults (option_map wanted_seen place) makes.phrase ≡ misfits (env_of h ns) (wanted_seen w) makes.phrase
        by None e = ap (λ w. misfits (env_of h ns) (wanted_seen w) makes.phrase) (sym e)
        by (Some v) e = ap (λ w. misfits (env_of h ns) (wanted_seen w) makes.phrase) (sym e)

    whole : others ++ own ++ deeper ≡ operand_misfits (env_of h ns) ps
    whole =
        append_assoc others own deeper
        ∙ ap (λ cs. others ++ cs) (sym of_term)
        ∙ sym (in_last faults xs ys place makes.rest makes.phrase places empty)
        ∙ ap (in_places faults (open_places xs)) (sym makes.after_is)
        ∙ so_far.faults_are

    -- a term that does not fit
    pub open_fault : (c : Cause) → (cause_seen c ≡ None) ⊎ ((word : Word) → Says c (own_misfits wanted word sort kids)) → AnswersPlaces (env_of h ns) ps (Err c)
    open_fault c (inl memory) = record { fit = tt; alike = tt; fault = inl memory }
    open_fault c (inr says) = record { fit = tt; alike = tt; fault = inr (subst (λ cs. Says c cs) whole (says_left (others ++ own) deeper c (says_right others own c (says makes.word)))) }

    -- one that does: the places of its kids are open
    pub open_next : (zs : List Pending) (with : Operands) → ((word : Word) → own_misfits wanted word sort kids ≡ []) → open_places zs ≡ open_places ys ++ places_made (env_of h ns) wanted kids
        → ((front : List (Option Sort)) → (are_alike (front ++ sort_open place sort ++ sort_behind operands.first) && operands.alike) ≡ (are_alike (front ++ sort_behind with.first) && with.alike))
        → AreOpen before zs with
    open_next zs with fits opened alike = record {
      faults_are = more faults ∙ ap (λ cs. cs ++ deeper) (sym (append-nil others) ∙ ap (λ cs. others ++ cs) (sym (fits makes.word))) ∙ whole;
      alike_is =
          ap (λ ss. are_alike (ss ++ sort_behind with.first) && with.alike) (more own_sort ∙ ap (λ ss. sorts ++ ss) (no_sorts (places_made (env_of h ns) wanted kids) makes.taken) ∙ append-nil sorts)
          ∙ sym (alike sorts)
          ∙ ap (λ ss. are_alike (ss ++ sort_behind operands.first) && operands.alike) (ap (λ ss. sorts ++ ss) (sym (of_sort place)) ∙ sym (in_last own_sort xs ys place makes.rest makes.phrase places empty) ∙ ap (in_places own_sort (open_places xs)) (sym makes.after_is))
          ∙ so_far.alike_is;
    }
      where
        sorts : List (Option Sort)
        sorts = in_places own_sort (open_places ys) makes.rest

        more : {A : Type 0} (f : Option Wanted → Phrase → List A) → in_places f (open_places zs) before ≡ in_places f (open_places ys) makes.rest ++ one_each f (places_made (env_of h ns) wanted kids) makes.taken
        more f = (λ i. in_places f (opened i) (makes.before_is i)) ∙ in_more f (open_places ys) (places_made (env_of h ns) wanted kids) makes.rest makes.taken (makes.as_many wanted)

        no_sorts : (ws : List Wanted) (qs : List Phrase) → one_each own_sort ws qs ≡ []
        no_sorts [] qs = refl
        no_sorts (w ∷ ws) [] = refl
        no_sorts (w ∷ ws) (q ∷ qs) = no_sorts ws qs

        of_sort : (place : Option code.Wanted) → own_sort (option_map wanted_seen place) makes.phrase ≡ sort_open place sort
        of_sort None = ap (λ s. s ∷ []) makes.sort_is
        of_sort (Some w) = refl

  -- ---- the steps

  module _ (are : AreTerms h ns) (rs : List Resolved) (stand : StandFor (env_of h ns) ns rs ps) where
    abbrev pub terms_at : ℕ → List Phrase
    terms_at i = (built (take i stand.steps)).terms

    pub all_terms : terms_at (length rs) ≡ ps
    all_terms = ap (λ ss. (built ss).terms) (take_all (length rs) stand.steps (omega (arith, resolved_length (env_of h ns) ns (only []) stand.steps rs stand.resolved))) ∙ ap (λ st. st.terms) stand.built_is

    module _ (left : ℕ) (d : Resolved) (some : 0 < left) (within : left ≤ length rs) where
      next : IsNext (env_of h ns) ns stand.steps (left - 1) (get_or rs (left - 1) d)
      next = resolved_next (env_of h ns) ns stand.steps rs (left - 1) d stand.resolved (omega (arith, some, within))

      one_less : (left - 1) + 1 ≡ left
      one_less = omega (arith, some)

      after : terms_at left ≡ (step_on (built (take (left - 1) stand.steps)) next.step).terms
      after = ap terms_at (sym one_less) ∙ ap (λ st. st.terms) next.built_is

      pub term_made : (sort : Sort) (kids : Option (Word × ℕ)) → sort_made (get_or rs (left - 1) d) ≡ Some sort → kids ≡ kids_made (get_or rs (left - 1) d) → Makes h ns (terms_at (left - 1)) (terms_at left) sort kids
      term_made sort kids made of = subst (λ ts. Makes h ns (terms_at (left - 1)) ts sort kids) (sym after) (subst (λ k. Makes h ns (terms_at (left - 1)) (step_on (built (take (left - 1) stand.steps)) next.step).terms sort k) (sym of)
          (step_makes h ns are (built (take (left - 1) stand.steps)) next.step (get_or rs (left - 1) d) sort (stack_clean h ns stand.steps rs (left - 1) stand.resolved) next.is made))

      pub none_made : sort_made (get_or rs (left - 1) d) ≡ None → terms_at left ≡ terms_at (left - 1)
      none_made made = after ∙ step_quiet h ns (built (take (left - 1) stand.steps)) next.step (get_or rs (left - 1) d) next.is made
