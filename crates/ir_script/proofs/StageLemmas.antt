-- What the stages of a line's terms meet.
use Rattle.std.proofs.Common.{◌≡◌, ◌∙◌, ◌⊎◌, Bool, true, false, ◌||◌, not, nat_le, List, [], ◌∷◌, ◌++◌, length, map, flat_map, Option, Some, None, Result, Ok, Err, OnOk, refl, sym, ap, subst, inl, inr, ⊎_elim, true≢false, arith}
use Rattle.std.proofs.lemmas.Bool.{and_from, false_from_ne_true}
use Rattle.std.proofs.lemmas.Bool.Decides.{nat_tests}
use Rattle.std.proofs.lemmas.List.{append-nil}
use Rattle.std.proofs.lemmas.Result.{on_ok_weaker}
use Rattle.std.specs.Result.{IsErr}
use Rattle.ir_core.specs.declared.errors.TermError.{TermError}
use Rattle.ir_core.specs.declared.errors.TermError.TheVariants as error
use Rattle.ir_core.specs.declared.handles.Part.{Part}
use Rattle.ir_laws.specs.Cause as cause
use Rattle.ir_laws.specs.Cause.{is_cause_among}
use Rattle.ir_laws.specs.Causes.{earliest, are_listed, limit_causes, depth_causes, unlisted_causes}
use Rattle.ir_laws.specs.Elaboration.{all_fit}
use Rattle.ir_laws.specs.Environment.{Environment, tree_in}
use Rattle.ir_laws.specs.Heap.{Heap, Each, IsLive, tree_of}
use Rattle.ir_laws.specs.Held.{HoldsJust}
use Rattle.ir_laws.specs.Limits.{capped, is_within}
use Rattle.ir_laws.specs.Names.{unless}
use Rattle.ir_laws.specs.Parts.{parts, variable_list, with_parts_of}
use Rattle.ir_laws.specs.Phrase.{Phrase, cons_if, each_of}
use Rattle.ir_laws.specs.Sorts.{is_sort_among}
use Rattle.ir_laws.specs.Tree.{Term}
use Rattle.ir_laws.proofs.HeldLemmas.{just_counted}
use Rattle.ir_laws.proofs.PartSets.{with_parts_held, with_parts_new, with_parts_either, with_parts_set}
use Rattle.ir_table.specs.declared.Interner.{Interner}
use Rattle.ir_table.specs.Interner.{heap, state}
use Rattle.ir_table.specs.State.{State, Makes}
use Rattle.ir_table.proofs.CallerLemmas.{live_sort, makes_held}
use Rattle.ir_script.specs.declared.causes.Cause.{Cause}
use Rattle.ir_script.specs.declared.causes.Cause.TheVariants as code
use Rattle.ir_script.specs.Answered.{left_by}
use Rattle.ir_script.specs.Grove.{Root, grove, made}
use Rattle.ir_script.specs.Making.{AreRoots, IsRoot, Pairs}
use Rattle.ir_script.specs.Causes.{Says, IsAmong, cause_seen, cause_of}
use Rattle.ir_script.specs.Operands.{AnswersNames, AnswersPlaces, operand_misfits, operand_unknowns}
use Rattle.ir_script.specs.Resolved.{StandFor}
use Rattle.ir_script.specs.Scope.{Named, AreTerms, IsTerm, env_of, operand_sorts}
use Rattle.ir_script.specs.Staged.{AreOperands, FitOperands, MakesTerms, StandTerms, operand_causes, operand_sorts as sort_stage, operand_trees}
use Rattle.ir_nodes.specs.Fits.{handle_sort, part_sort}
use Rattle.ir_syntax.specs.Steps.{Stack}
use Rattle.ir_script.specs.declared.resolved.Resolved.{Resolved}
use Rattle.ir_script.proofs.CauseLemmas.{among_right, says_left}
use Rattle.ir_script.proofs.MadeLemmas.{parts_within}
use Rattle.ir_script.proofs.GoodLemmas.{both_empty}
use Rattle.ir_script.proofs.MakingLemmas.{pairs_length, roots_live}
use Rattle.ir_script.proofs.MeaningLemmas.{IsMeant, OperandsGrow, operands_grow, sort_of_kid}
use Rattle.ir_script.proofs.ScopeLemmas.{env_later, terms_later}

-- ---- the earliest stage

none_said : (o : Option cause.Cause) → IsAmong [] o → ⊥
none_said None h = h
none_said (Some c) h = true≢false (sym h)

-- what the first stages say, all of them say
pub says_more : (stages more : List (List cause.Cause)) (c : Cause) → Says c (earliest stages) → Says c (earliest (stages ++ more))
says_more [] more c h = absurd (none_said (cause_seen c) h)
says_more ([] ∷ stages) more c h = says_more stages more c h
says_more ((x ∷ cs) ∷ stages) more c h = h

-- so do further causes of the last of two stages
pub says_wider : (first second more : List cause.Cause) (c : Cause) → Says c (earliest (first ∷ second ∷ [])) → Says c (earliest (first ∷ (second ++ more) ∷ []))
says_wider (x ∷ cs) second more c h = h
says_wider [] (x ∷ cs) more c h = says_left (x ∷ cs) more c h
says_wider [] [] more c h = absurd (none_said (cause_seen c) h)

pub says_first : (cs : List cause.Cause) (rest : List (List cause.Cause)) (c : Cause) → Says c cs → Says c (earliest (cs ∷ rest))
says_first [] rest c h = absurd (none_said (cause_seen c) h)
says_first (x ∷ cs) rest c h = h

-- no stage says anything where the earliest doesn't
pub all_passed : (cs : List cause.Cause) (rest : List (List cause.Cause)) → earliest (cs ∷ rest) ≡ [] → (cs ≡ []) × (earliest rest ≡ [])
all_passed [] rest none = (refl, none)
all_passed (c ∷ cs) rest none = absurd (cc)

-- a test that all terms are of one sort, where it is asked for
unless_alike : (alike are : Bool) → ((alike ≡ true) × (are ≡ true)) ⊎ (alike ≡ false) → unless (not alike || are) cause.WrongSort ≡ []
unless_alike true are (inl both) = ap (λ b. unless b cause.WrongSort) both.1
unless_alike true are (inr none) = absurd (true≢false none)
unless_alike false are either = refl

-- ---- what is made of operands

-- the terms have trees, and the parts of these are made; on Ok the parts are live, stand for the trees and are of terms
pub record MadeAll (env : Environment) (old new : State) (ps : List Phrase) (qs : List Part) (r : Result Unit TermError) : Type 0 where
  pub made : List Term
  pub trees : each_of (tree_in env) ps ≡ Some made
  pub makes : Makes old new (flat_map parts made) r
  pub live : OnOk r (Each (IsLive new.heap) qs)
  pub stand : OnOk r (map (tree_of new.heap) qs ≡ made)
  pub kinds : OnOk r (Each (λ q. is_sort_among operand_sorts (part_sort q) ≡ true) qs)
  pub count : OnOk r (length qs ≡ length ps)

trees_flat : (rs : List Root) → flat_map (λ r. parts r.tree) rs ≡ flat_map parts (map (λ r. r.tree) rs)
trees_flat [] = refl
trees_flat (r ∷ rs) = ap (λ ts. parts r.tree ++ ts) (trees_flat rs)

trees_stand : (h : Heap Part) (rs : List Root) (qs : List Part) → AreRoots h rs qs → map (tree_of h) qs ≡ map (λ r. r.tree) rs
trees_stand h [] [] is = refl
trees_stand h [] (q ∷ qs) is = absurd is
trees_stand h (r ∷ rs) [] is = absurd is
trees_stand h (r ∷ rs) (q ∷ qs) is = (λ i. is.0.tree i ∷ trees_stand h rs qs is.1 i)

module _ (h : Heap Part) (ns : List Named) (terms : AreTerms h ns) where
  trees_meant : (ps : List Phrase) (rs : List Root) → Pairs (IsMeant h ns terms) ps rs → each_of (tree_in (env_of h ns)) ps ≡ Some (map (λ r. r.tree) rs)
  trees_meant [] [] is = refl
  trees_meant [] (r ∷ rs) is = absurd is
  trees_meant (p ∷ ps) [] is = absurd is
  trees_meant (p ∷ ps) (r ∷ rs) is = (λ i. cons_if (is.0.tree i) (trees_meant ps rs is.1 i))

  kinds_meant : (k : Heap Part) (ps : List Phrase) (rs : List Root) (qs : List Part) → operand_misfits (env_of h ns) ps ≡ [] → Pairs (IsMeant h ns terms) ps rs → AreRoots k rs qs → Each (λ q. is_sort_among operand_sorts (part_sort q) ≡ true) qs
  kinds_meant k [] [] [] fits is roots = tt
  kinds_meant k [] (r ∷ rs) qs fits is roots = absurd is
  kinds_meant k ps [] (q ∷ qs) fits is roots = absurd roots
  kinds_meant k (p ∷ ps) [] [] fits is roots = absurd is
  kinds_meant k (p ∷ ps) (r ∷ rs) [] fits is roots = absurd roots
  kinds_meant k (p ∷ ps) (r ∷ rs) (q ∷ qs) fits is roots =
      let m = both_empty _ _ fits in
      (ap (λ g. is_sort_among operand_sorts (handle_sort g)) roots.0.sort ∙ sort_of_kid h ns terms operand_sorts p r m.0 is.0, kinds_meant k ps rs qs m.1 is.1 roots.1)

terms_of : (cx : Interner) (qs : List Part) → Each (IsLive (heap cx)) qs → Each (λ q. is_sort_among operand_sorts (part_sort q) ≡ true) qs → Each (IsTerm (heap cx)) qs
terms_of cx [] live kinds = tt
terms_of cx (q ∷ qs) live kinds = (record { live = live.0; sort = live_sort cx.store.tables cx.store.sound q live.0; kind = kinds.0 }, terms_of cx qs live.1 kinds.1)

-- ---- the making of trees

module _ (old : State) (held : List Term) (just : HoldsJust old.heap held) (ts : List Term) where
  -- trees that aren't made
  limit_met : {T : Type 0} (new : State) (e : TermError) (c : Cause) → Makes {T = T} old new (flat_map parts ts) (Err e) → c ≡ cause_of e → (cause_seen c ≡ None) ⊎ Says c (limit_causes (capped old.limits) held ts)
  limit_met new error.TooDeep c m of =
      let deep = m.too_deep refl in
      let passes = false_from_ne_true (all_fit (is_within (capped old.limits)) ts) (λ within. true≢false (sym (parts_within (capped old.limits) ts deep.0 within deep.1) ∙ deep.2)) in
      rw of (inr (λ i. is_cause_among (unless (passes i) cause.TooDeep ++ unless (nat_le (length (with_parts_of held ts)) (capped old.limits).nodes) cause.TooMany) cause.TooDeep))
  limit_met new error.TooMany c m of =
      let full = m.too_many refl (with_parts_of held ts) (record { held = λ q live. with_parts_held held ts (tree_of old.heap q) (just.only q live); new = with_parts_new held ts }) in
      let many : nat_le (length (with_parts_of held ts)) (capped old.limits).nodes ≡ false = grind (arith, nat_tests) in
      rw of (inr (among_right (depth_causes (capped old.limits) ts) _ cause.TooMany (λ i. is_cause_among (unless (many i) cause.TooMany) cause.TooMany)))
  limit_met new error.Memory c m of = rw of (inl refl)
  limit_met new error.Escapes c m of = absurd m.causes
  limit_met new error.MissingVar c m of = absurd m.causes

  module _ {T : Type 0} (cx : Interner) (x : T) (m : Makes {T = T} old (state cx) (flat_map parts ts) (Ok x)) where
    now_held : HoldsJust (heap cx) (with_parts_of held ts)
    now_held = makes_held old (state cx) (flat_map parts ts) held (with_parts_of held ts) x just m (with_parts_set held ts just.set) (with_parts_either held ts) (with_parts_held held ts) (with_parts_new held ts)

    -- trees that are made
    limit_clear : all_fit (is_within (capped old.limits)) ts ≡ true → limit_causes (capped old.limits) held ts ≡ []
    limit_clear low =
        let count = just_counted (heap cx) (with_parts_of held ts) (state cx).count now_held cx.store.counted in
        let room = cx.store.few in
        let most = ap (λ limits. (capped limits).nodes) m.limits in
        let enough : nat_le (length (with_parts_of held ts)) (capped old.limits).nodes ≡ true = grind (arith, nat_tests) in
        (λ i. unless (low i) cause.TooDeep ++ unless (enough i) cause.TooMany)

all_low : (cx : Interner) (qs : List Part) → Each (IsLive (heap cx)) qs → all_fit (is_within (capped (state cx).limits)) (map (tree_of (heap cx)) qs) ≡ true
all_low cx [] live = refl
all_low cx (q ∷ qs) live = and_from _ _ (cx.store.low q live.0) (all_low cx qs live.1)

-- ---- names and sorts

seen_stand : {env : Environment} {ns : List Named} {seen rs : List Resolved} {ps : List Phrase} → seen ≡ rs → StandFor env ns rs ps → StandFor env ns seen ps
seen_stand {env} {ns} {ps = ps} same = subst (λ rs. StandFor env ns rs ps) (sym same)

module _ {env : Environment} {ns : List Named} {alike : Bool} {rs : List Resolved} {ps : List Phrase} where
  pub unknown_unfit : {r : Result Unit Cause} {c : Cause} → AnswersNames env ns rs ps (Err c) → r ≡ Err c → FitOperands env ns alike rs ps r
  unknown_unfit {c = c} names is = rw is (record { known = tt; sorts = tt; stand = tt; fault = ⊎_elim inl (λ says. inr (says_wider _ _ _ c says)) names.fault })

  module _ (names : AnswersNames env ns rs ps (Ok tt)) {seen : List Resolved} (same : seen ≡ rs) where
    pub misplaced_unfit : {r : Result Unit Cause} {c : Cause} → (StandFor env ns seen ps → AnswersPlaces env ps (Err c)) → r ≡ Err c → FitOperands env ns alike rs ps r
    misplaced_unfit {c = c} places is = rw is (record { known = tt; sorts = tt; stand = tt; fault = ⊎_elim inl (λ says. inr (subst (λ cs. Says c (earliest (cs ∷ sort_stage env alike ps ∷ []))) (sym names.known) (says_first _ [] c (says_left _ _ c says)))) (places (seen_stand same names.stand)).fault })

    module _ {are : Bool} (places : StandFor env ns seen ps → AnswersPlaces env ps (Ok are)) where
      pub unlike_unfit : alike ≡ true → are ≡ false → FitOperands env ns alike rs ps (Err code.Sort)
      unlike_unfit asked unlike =
          let answer = places (seen_stand same names.stand) in
          record { known = tt; sorts = tt; stand = tt; fault = inr (λ i. is_cause_among (earliest (names.known i ∷ (answer.fit i ++ unless (not (asked i) || (sym answer.alike ∙ unlike) i) cause.WrongSort) ∷ [])) cause.WrongSort) }

      pub all_fit_operands : ((alike ≡ true) × (are ≡ true)) ⊎ (alike ≡ false) → FitOperands env ns alike rs ps (Ok tt)
      all_fit_operands either =
          let answer = places (seen_stand same names.stand) in
          record { known = names.known; sorts = (λ i. answer.fit i ++ unless (not alike || sym answer.alike i) cause.WrongSort) ∙ unless_alike alike are either; stand = names.stand; fault = tt }

-- ---- the stages over trees

module _ (old : State) {ns : List Named} {alike : Bool} {rs seen : List Resolved} {st : Stack} (terms : AreTerms old.heap ns) (operands : AreOperands st) (fits : FitOperands (env_of old.heap ns) ns alike rs st.terms (Ok tt)) (same : seen ≡ rs) where
  fit_places : operand_misfits (env_of old.heap ns) st.terms ≡ []
  fit_places = (both_empty _ _ fits.sorts).0

  pub grow : OperandsGrow old.heap ns terms seen st.terms
  grow = operands_grow old.heap ns terms seen st.terms (seen_stand same fits.stand) operands.formed fit_places

  pub made_by : {new : State} {qs : List Part} {r : Result Unit TermError} → Makes old new (made (grove old.heap seen)) r → OnOk r (AreRoots new.heap (grove old.heap seen).roots qs) → MadeAll (env_of old.heap ns) old new st.terms qs r
  made_by {new} {qs} {r} makes roots =
      let rs = (grove old.heap seen).roots in
      record {
        made = map (λ r. r.tree) rs;
        trees = trees_meant old.heap ns terms st.terms rs grow.roots;
        makes = subst (λ ts. Makes old new ts r) (ap (λ gs. flat_map (λ r. parts r.tree) rs ++ map variable_list gs) grow.groups ∙ append-nil (flat_map (λ r. parts r.tree) rs) ∙ trees_flat rs) makes;
        live = on_ok_weaker r (roots_live new.heap rs qs) roots;
        stand = on_ok_weaker r (trees_stand new.heap rs qs) roots;
        kinds = on_ok_weaker r (kinds_meant old.heap ns terms new.heap st.terms rs qs fit_places grow.roots) roots;
        count = on_ok_weaker r (λ is. sym (pairs_length (IsRoot new.heap) rs qs is) ∙ sym (pairs_length (IsMeant old.heap ns terms) st.terms rs grow.roots)) roots;
      }

module _ (old : State) (ns : List Named) (ps : List Phrase) where
  pub stand_not : {new : State} {qs : List Part} {r : Result Unit TermError} → MadeAll (env_of old.heap ns) old new ps qs r → (s : Result Unit Cause) → IsErr s → StandTerms ns ps old new qs s
  stand_not b (Err c) e = record { limits = b.makes.limits; grows = tt; names = tt; made = tt; count = tt }
  stand_not b (Ok x) e = absurd (true≢false (sym e))

  pub stand_made : (cx : Interner) {qs : List Part} → AreTerms old.heap ns → MadeAll (env_of old.heap ns) old (state cx) ps qs (Ok tt) → StandTerms ns ps old (state cx) qs (Ok tt)
  stand_made cx {qs} terms b = record { limits = b.makes.limits; grows = b.makes.grows; names = terms_later old.heap (heap cx) b.makes.grows ns terms; made = terms_of cx qs b.live b.kinds; count = b.count }

module _ (old : State) (held : List Term) (ns : List Named) (alike : Bool) (ps : List Phrase) (just : HoldsJust old.heap held)
    (known : operand_unknowns (env_of old.heap ns) ps ≡ []) (sorts : sort_stage (env_of old.heap ns) alike ps ≡ []) where
  module _ {new : State} {qs : List Part} {r : Result Unit TermError} (b : MadeAll (env_of old.heap ns) old new ps qs r) where
    tree_causes : operand_causes (capped old.limits) alike ps (left_by old.heap ns held) ≡ earliest (limit_causes (capped old.limits) held b.made ∷ unlisted_causes b.made ∷ [])
    tree_causes = (λ i. earliest (known i ∷ sorts i ∷ operand_trees (capped old.limits) held (b.trees i)))

  pub terms_refused : {new : State} {qs : List Part} {e : TermError} {c : Cause} {r : Result Unit Cause} → MadeAll (env_of old.heap ns) old new ps qs (Err e) → r ≡ Err c → c ≡ cause_of e → MakesTerms alike ps ns held old new qs r
  terms_refused {new} {qs} {e} {c} b is of = rw is (record {
    clear = tt;
    trees = tt;
    left = tt;
    names_are = tt;
    fault = ⊎_elim inl (λ says. inr (subst (Says c) (sym (tree_causes b)) (says_first _ _ c says))) (limit_met old held just b.made new e c b.makes of);
  })

  module _ (cx : Interner) {qs : List Part} (b : MadeAll (env_of old.heap ns) old (state cx) ps qs (Ok tt)) where
    made_are : b.made ≡ map (tree_of (heap cx)) qs
    made_are = sym b.stand

    low_trees : (seen : List Part) → seen ≡ qs → (listed : Bool) → listed ≡ all_fit (are_listed []) (map (tree_of (heap cx)) seen) → operand_causes (capped old.limits) alike ps (left_by old.heap ns held) ≡ earliest ([] ∷ unless listed cause.Unlisted ∷ [])
    low_trees seen same listed is =
        let low = (λ i. all_fit (is_within (capped (sym b.makes.limits i))) (made_are i)) ∙ all_low cx qs b.live in
        let all : all_fit (are_listed []) b.made ≡ listed = (λ i. all_fit (are_listed []) (made_are i)) ∙ (λ i. all_fit (are_listed []) (map (tree_of (heap cx)) (sym same i))) ∙ sym is in
        tree_causes b ∙ (λ i. earliest (limit_clear old held just b.made cx tt b.makes low i ∷ unless (all i) cause.Unlisted ∷ []))

    -- a term with a variable that its binder doesn't list
    pub terms_unlisted : {seen : List Part} {listed : Bool} → seen ≡ qs → listed ≡ all_fit (are_listed []) (map (tree_of (heap cx)) seen) → listed ≡ false → MakesTerms alike ps ns held old (state cx) qs (Err code.Unlisted)
    terms_unlisted {seen} {listed} same is some = record { clear = tt; trees = tt; left = tt; names_are = tt; fault = inr (ap (λ cs. is_cause_among cs cause.Unlisted) (low_trees seen same listed is ∙ ap (λ b. earliest ([] ∷ unless b cause.Unlisted ∷ [])) some)) }

    -- terms that meet no cause
    pub terms_made : {seen : List Part} {listed : Bool} → seen ≡ qs → listed ≡ all_fit (are_listed []) (map (tree_of (heap cx)) seen) → listed ≡ true → AreTerms old.heap ns → MakesTerms alike ps ns held old (state cx) qs (Ok tt)
    terms_made {seen} {listed} same is all terms = record {
      clear = low_trees seen same listed is ∙ ap (λ b. earliest ([] ∷ unless b cause.Unlisted ∷ [])) all;
      trees = b.trees ∙ ap Some made_are;
      left = subst (λ ts. HoldsJust (heap cx) (with_parts_of held ts)) made_are (now_held old held just b.made cx tt b.makes);
      names_are = sym (env_later old.heap (heap cx) b.makes.grows ns terms);
      fault = tt;
    }

-- what the stages of names and sorts meet
pub terms_unfit : {alike : Bool} {ps : List Phrase} {ns : List Named} {held : List Term} {old new : State} {qs : List Part} {r : Result Unit Cause} {c : Cause} {rs : List Resolved} → FitOperands (env_of old.heap ns) ns alike rs ps (Err c) → r ≡ Err c → MakesTerms alike ps ns held old new qs r
terms_unfit {alike} {ps} {ns} {held} {old} {c = c} fits is = rw is (record { clear = tt; trees = tt; left = tt; names_are = tt; fault = ⊎_elim inl (λ says. inr (says_more (operand_unknowns (env_of old.heap ns) ps ∷ sort_stage (env_of old.heap ns) alike ps ∷ []) (operand_trees (capped old.limits) held (each_of (tree_in (env_of old.heap ns)) ps)) c says)) fits.fault })
