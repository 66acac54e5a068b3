-- What is computed of a node tells whether its tree passes a limit.
use Rattle.std.proofs.Common.{◌≡◌, ◌+◌, ◌≤◌, nat_le, Bool, true, false, ◌&&◌, List, [], ◌∷◌, None, Some, refl, sym, ap, ◌∙◌, arith}
use Rattle.std.specs.Cmp.Derive.{both_true}
use Rattle.std.proofs.lemmas.Bool.{and_parts}
use Rattle.std.proofs.lemmas.Bool.Decides.{nat_tests}
use Rattle.std.proofs.Math.Bool.{and-true}
use Rattle.std.proofs.Math.Dec.{leb-zero}
use Rattle.ir_core.specs.declared.handles.Part.{Part}
use Rattle.ir_laws.specs.declared.words.Word.TheVariants.{CanonicalVariable}
use Rattle.ir_laws.specs.Counts.{height, outer, outers}
use Rattle.ir_laws.specs.Heap.{Kids, OfNames, Inlined, are_names, Layer, Each, IsLive, IsKids, IsSound, kid_trees, kid_heights, largest, cached_height, forest, shape_over, tree_of, tree_above, height_above}
use Rattle.ir_laws.specs.Limits.{Limits, capped, first_number, variables_fit, all_variables_fit}
use Rattle.ir_laws.specs.Tree.{Var, Param, Node, End, And, Term, Terms}
use Rattle.ir_laws.specs.Word.{same_word}
use Rattle.ir_laws.proofs.HeapLemmas.{height_of_above, height-tree_of}
use Rattle.ir_laws.proofs.PlantLemmas.{kids_in, node_planted, planted_kids}
use Rattle.ir_nodes.specs.Plain.{IsPlain}
use Rattle.ir_table.specs.declared.above.Above.{Above}
use Rattle.ir_table.specs.declared.info.CachedInfo.{CachedInfo}
use Rattle.ir_table.specs.Above.{tree_index, tree_number, is_low, IsAbove, KeptAs}
use Rattle.ir_table.specs.State.{State, IsLow, fits}

module _ (limits : Limits) where
  -- over kids whose variables fit, a term's fit where its own does
  own_fits : (t : Term) → all_variables_fit limits (kids_in t) ≡ true → variables_fit limits t ≡ (nat_le (tree_index t) limits.index && nat_le (tree_number t) limits.number)
  own_fits (Var i n k) all = refl
  own_fits (Param p) all = simp leb-zero
  own_fits (Node l b ts) all = simp (all, and-true, leb-zero) (by (same_word l.word CanonicalVariable))
    where
      by : (c : Bool) → elim c [ true ↦ nat_le (first_number l.fields) limits.number | false ↦ true ] ≡ nat_le (elim c [ true ↦ first_number l.fields | false ↦ 0 ]) limits.number
      by true = refl
      by false = sym (leb-zero limits.number)

  -- a term whose variables fit speaks of few binders outside of it
  mutual
    pub outer_low : (t : Term) → variables_fit limits t ≡ true → outer t ≤ limits.index + 1
    outer_low (Var i n k) e = grind (arith, nat_tests)
    outer_low (Param p) e = omega arith
    outer_low (Node l None ts) e = outers_low ts (and_parts _ (all_variables_fit limits ts) e).1
    outer_low (Node l (Some ks) ts) e = let low = outers_low ts (and_parts _ (all_variables_fit limits ts) e).1 in omega arith

    outers_low : (ts : Terms) → all_variables_fit limits ts ≡ true → outers ts ≤ limits.index + 1
    outers_low End e = omega arith
    outers_low (And t ts) e =
        let both = and_parts _ (all_variables_fit limits ts) e in
        let first = outer_low t both.0 in
        let rest = outers_low ts both.1 in omega arith

-- over kids that pass no limit, the tree passes none where what is computed passes none
module _ (s : State) (sound : IsSound s.heap) (low : IsLow s) where
  names_low : (ps : List Part) → Each (IsLive s.heap) ps → (all_variables_fit (capped s.limits) (forest (tree_of s.heap) ps) ≡ true) × (largest (cached_height s.heap) ps ≤ 512)
  names_low [] live = (refl, omega arith)
  names_low (p ∷ ps) live =
      let within = and_parts _ (variables_fit (capped s.limits) (tree_of s.heap p)) (low p live.0) in
      let le : height (tree_of s.heap p) ≤ (capped s.limits).height = grind (arith, nat_tests) in
      let same = height-tree_of s.heap sound p live.0 in
      let rest = names_low ps live.1 in
      (both_true within.1 rest.0, omega arith)

  kids_low : (ks : Kids Part) → are_names ks ≡ true → IsKids s.heap (IsLive s.heap) ks → (all_variables_fit (capped s.limits) (kid_trees s.heap (tree_of s.heap) ks) ≡ true) × (kid_heights (cached_height s.heap) ks ≤ 512)
  kids_low (OfNames ps) names live = names_low ps live
  kids_low (Inlined i ks) names live = absurd cc

  above_fits : (l : Layer Part) → are_names l.kids ≡ true → IsKids s.heap (IsLive s.heap) l.kids
      → variables_fit (capped s.limits) (tree_above s.heap l) ≡ (nat_le (tree_index (tree_above s.heap l)) (capped s.limits).index && nat_le (tree_number (tree_above s.heap l)) (capped s.limits).number)
  above_fits l names kids = own_fits (capped s.limits) (tree_above s.heap l) (ap (all_variables_fit (capped s.limits)) (planted_kids (shape_over s.heap l) (kid_trees s.heap (tree_of s.heap) l.kids)) ∙ (kids_low l.kids names kids).0)

pub fits_above : (s : State) (l : Layer Part) (a : Above) → IsSound s.heap → IsLow s → are_names l.kids ≡ true → IsKids s.heap (IsLive s.heap) l.kids → IsAbove s.heap l a → fits s (tree_above s.heap l) ≡ is_low (capped s.limits) a
fits_above s l a sound low names kids is = simp (is.height, is.index, is.number, height_of_above s.heap sound l kids, above_fits s sound low l names kids)

-- a node over kids that pass no limit, whose label is plain, is low enough to be told
pub told_low : (s : State) (l : Layer Part) → IsSound s.heap → IsLow s → are_names l.kids ≡ true → IsKids s.heap (IsLive s.heap) l.kids → IsPlain l.label → (height_above s.heap l ≤ 513) × (outer (tree_above s.heap l) ≤ 65536)
told_low s l sound low names kids plain =
    let node = node_planted l.label plain.leaf (shape_over s.heap l).bind (kid_trees s.heap (tree_of s.heap) l.kids) in
    let own : variables_fit (capped s.limits) (tree_above s.heap l) ≡ true = above_fits s sound low l names kids ∙ rw (node, plain.number, tree_number) (simp leb-zero) in
    let few = outer_low (capped s.limits) (tree_above s.heap l) own in
    let high = (kids_low s sound low l.kids names kids).1 in
    (omega arith, omega arith)

-- where the tree passes no limit, its outer binder is kept as it is
pub outer_kept : (s : State) (l : Layer Part) (a : Above) (c : CachedInfo) → fits s (tree_above s.heap l) ≡ true → IsAbove s.heap l a → KeptAs c a → c.outer_exclusive_binder.0 ≡ outer (tree_above s.heap l)
outer_kept s l a c low is kept = let few = outer_low (capped s.limits) (tree_above s.heap l) (and_parts _ (variables_fit (capped s.limits) (tree_above s.heap l)) low).1 in omega arith
