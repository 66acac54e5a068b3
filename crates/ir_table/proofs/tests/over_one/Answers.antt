use Rattle.std.proofs.Common.{◌≡◌, ◌∙◌, Bool, true, false, true≢false, not, List, [], ◌∷◌, IfSome, Some, length, map, slice_get, arith, refl, sym, ap, subst}
use Rattle.std.proofs.lemmas.Option.{same_Some}
use denote.Enum.Bare.{same_true}
use Rattle.ir_core.specs.Parts.{same_part_sort, sort_in}
use Rattle.ir_core.specs.contracts.handles.PartSort.{the_type}
use Rattle.ir_core.specs.declared.handles.Part.{Part}
use Rattle.ir_laws.specs.Heap.{kid_names}
use Rattle.ir_nodes.specs.Layers.{kid_sorts, layer_seen}
use Rattle.ir_table.proofs.tests.over_one.Goals as goal

not_back : (b : Bool) → false ≡ not b → b ≡ true
not_back true e = refl
not_back false e = absurd (true≢false (sym e))

-- the sort of an only kid
only_sort : (ps : List Part) (k q : Part) → length ps ≡ 1 → slice_get ps 0 ≡ Some k → sort_in k ≡ sort_in q → sort_in q ∷ [] ≡ map sort_in ps
only_sort [] k q len at same = let bad : ⊥ = omega arith in absurd bad
only_sort (p ∷ []) k q len at same = ap (λ g. g ∷ []) (sym same ∙ ap sort_in (sym (same_Some p k at)))
only_sort (p ∷ r ∷ ps) k q len at same = let bad : ⊥ = omega arith in absurd bad

pub with_kids-requires-clause-sorts : goal.with_kids-requires-clause-sorts
with_kids-requires-clause-sorts c =
    let same = sym c.sort.ensures ∙ same_true the_type tt c.sort.result c.sort-2.result (not_back _ c.if-ne.ensures) ∙ c.sort-2.ensures in
    subst (λ o. IfSome o (λ l. sort_in c.args.kid ∷ [] ≡ kid_sorts l)) (sym c.layer-layer.ensures.at)
    (only_sort (kid_names (layer_seen c.layer-layer.result).kids) c.kid.result c.args.kid (sym c.kid_count.ensures ∙ c.if-kid_count-ne1.false) c.kid.ensures same)
