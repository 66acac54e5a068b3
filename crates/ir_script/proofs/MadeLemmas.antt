-- The parts of terms that can be made.
use Rattle.std.proofs.Common.{◌≡◌, ◌∙◌, ◌≤◌, Bool, true, false, nat_le, List, [], ◌∷◌, ◌++◌, flat_map, Option, Some, None, Ok, Err, ⊎_elim, sym, ap, subst, arith}
use Rattle.std.proofs.lemmas.Bool.{and_parts, and_from}
use Rattle.std.proofs.lemmas.Bool.Decides.{nat_tests}
use Rattle.ir_core.specs.declared.ids.SolverDefId.{SolverDefId}
use Rattle.ir_core.specs.declared.errors.TermError.{TermError}
use Rattle.ir_core.specs.declared.errors.TermError.TheVariants as error
use Rattle.ir_laws.specs.Counts.{height, heights}
use Rattle.ir_laws.specs.Elaboration.{all_fit}
use Rattle.ir_laws.specs.Limits.{Limits, label_fits, variables_fit, all_variables_fit, is_within}
use Rattle.ir_laws.specs.Parts.{is_counted, variable_list, variable_lists, if_counted, parts, all_parts, is_part}
use Rattle.ir_laws.specs.Tree.{Kind, Var, Param, Node, End, And, Term, Terms}
use Rattle.ir_laws.proofs.PartSets.{no_part, part_of_cons, part_of_append}
use Rattle.ir_table.specs.State.{State, Makes}

-- ---- heights

only_part : (t u : Term) → is_part (t ∷ []) u ≡ true → t ≡ u
only_part t u e = ⊎_elim (λ same. same) (λ none. absurd (no_part u none)) (part_of_cons t [] u e)

if_counted_height : (b : Bool) (t u : Term) → is_part (if_counted b t) u ≡ true → height u ≤ height t
if_counted_height true t u e = let same = ap height (only_part t u e) in omega arith
if_counted_height false t u e = absurd (no_part u e)

list_height : (b : Option (List (Kind SolverDefId))) (u : Term) → is_part (variable_lists b) u ≡ true → height u ≡ 1
list_height None u e = absurd (no_part u e)
list_height (Some ks) u e = sym (ap height (only_part (variable_list ks) u e))

-- a part of a term is no higher than it
mutual
  part_height : (t u : Term) → is_part (parts t) u ≡ true → height u ≤ height t
  part_height (Var i n k) u e = let same = ap height (only_part (Var i n k) u e) in omega arith
  part_height (Param p) u e = let same = ap height (only_part (Param p) u e) in omega arith
  part_height (Node l b ts) u e = ⊎_elim
      (λ here. ⊎_elim
      (if_counted_height (is_counted l b) (Node l b ts) u)
      (λ listed. let one = list_height b u listed in omega arith)
      (part_of_append (if_counted (is_counted l b) (Node l b ts)) (variable_lists b) u here))
      (λ below. let low = parts_height ts u below in omega arith)
      (part_of_append (if_counted (is_counted l b) (Node l b ts) ++ variable_lists b) (all_parts ts) u e)

  parts_height : (ts : Terms) (u : Term) → is_part (all_parts ts) u ≡ true → height u ≤ heights ts
  parts_height End u e = absurd (no_part u e)
  parts_height (And t ts) u e = ⊎_elim
      (λ here. let low = part_height t u here in omega arith)
      (λ further. let low = parts_height ts u further in omega arith)
      (part_of_append (parts t) (all_parts ts) u e)

-- the variables of a part are those of the term
module _ (limits : Limits) where
  own_fit : (b : Bool) (t u : Term) → variables_fit limits t ≡ true → is_part (if_counted b t) u ≡ true → variables_fit limits u ≡ true
  own_fit true t u fit e = ap (variables_fit limits) (sym (only_part t u e)) ∙ fit
  own_fit false t u fit e = absurd (no_part u e)

  list_fits : (b : Option (List (Kind SolverDefId))) (u : Term) → is_part (variable_lists b) u ≡ true → variables_fit limits u ≡ true
  list_fits None u e = absurd (no_part u e)
  list_fits (Some ks) u e = ap (variables_fit limits) (sym (only_part (variable_list ks) u e))

  mutual
    part_fits : (t u : Term) → variables_fit limits t ≡ true → is_part (parts t) u ≡ true → variables_fit limits u ≡ true
    part_fits (Var i n k) u fit e = own_fit true (Var i n k) u fit e
    part_fits (Param p) u fit e = own_fit true (Param p) u fit e
    part_fits (Node l b ts) u fit e = ⊎_elim
        (λ here. ⊎_elim
        (own_fit (is_counted l b) (Node l b ts) u fit)
        (list_fits b u)
        (part_of_append (if_counted (is_counted l b) (Node l b ts)) (variable_lists b) u here))
        (parts_fit ts u (and_parts (label_fits limits l) (all_variables_fit limits ts) fit).1)
        (part_of_append (if_counted (is_counted l b) (Node l b ts) ++ variable_lists b) (all_parts ts) u e)

    parts_fit : (ts : Terms) (u : Term) → all_variables_fit limits ts ≡ true → is_part (all_parts ts) u ≡ true → variables_fit limits u ≡ true
    parts_fit End u fit e = absurd (no_part u e)
    parts_fit (And t ts) u fit e =
        let both = and_parts (variables_fit limits t) (all_variables_fit limits ts) fit in
        ⊎_elim (part_fits t u both.0) (parts_fit ts u both.1) (part_of_append (parts t) (all_parts ts) u e)

  -- a part of a term passes no limit that the term doesn't pass
  part_within : (t u : Term) → is_within limits t ≡ true → is_part (parts t) u ≡ true → is_within limits u ≡ true
  part_within t u within e =
      let both = and_parts (nat_le (height t) limits.height) (variables_fit limits t) within in
      let low = both.0 in
      let lower = part_height t u e in
      let high : nat_le (height u) limits.height ≡ true = grind (arith, nat_tests) in
      and_from (nat_le (height u) limits.height) (variables_fit limits u) high (part_fits t u both.1 e)

  -- the same of the parts of several
  pub parts_within : (ts : List Term) (u : Term) → all_fit (is_within limits) ts ≡ true → is_part (flat_map parts ts) u ≡ true → is_within limits u ≡ true
  parts_within [] u within e = absurd (no_part u e)
  parts_within (t ∷ ts) u within e =
      let both = and_parts (is_within limits t) (all_fit (is_within limits) ts) within in
      ⊎_elim (part_within t u both.0) (parts_within ts u both.1) (part_of_append (parts t) (flat_map parts ts) u e)

-- ---- want of memory, once trees are made

pub makes_memory : {T : Type 0} (old new : State) (ts : List Term) (x : T) (e : TermError) → e ≡ error.Memory → Makes old new ts (Ok x) → Makes {T = T} old new ts (Err e)
makes_memory {T} old new ts x e is a = subst (λ (w : TermError). Makes {T = T} old new ts (Err w)) (sym is) (record {
  grows = a.grows;
  only = a.only;
  all = tt;
  too_deep = λ q. absurd (cc q);
  too_many = λ q. absurd (cc q);
  causes = tt;
  limits = a.limits;
})
