-- The last type of a list, and those before it.
use Rattle.std.proofs.Common.{◌+◌, ◌-◌, ◌<◌, List, [], ◌∷◌, ◌++◌, length, get_or, take, sym, ◌∙◌, arith}
use Rattle.std.proofs.lemmas.List.{take_all, take_more}
use Rattle.ir_core.specs.declared.handles.Part.{Part}
use Rattle.ir_core.specs.declared.handles.Part.TheVariants as part
use Rattle.ir_core.specs.declared.handles.Ty.{Ty}
use Rattle.ir_core.specs.declared.handles.Tys.{Tys}
use Rattle.ir_laws.specs.Heap.{forest, Heap, HasNode, shape_over, tree_of}
use Rattle.ir_laws.proofs.PlantLemmas.{plant-kids}
use Rattle.ir_table.specs.declared.Interner.{Interner}
use Rattle.ir_table.specs.Interner.{HasTypes, heap}
use Rattle.ir_nodes.specs.Nodes.{tys_kids, tys_layer}

-- a node with kids has none without
some_items : (h : Heap Part) (p : Part) (xs ys : List Ty) → HasNode h p (tys_layer xs) → HasNode h p (tys_layer ys) → 0 < length xs → 0 < length ys
some_items h p xs (y ∷ ys) a b some = omega arith
some_items h p [] [] a b some = some
some_items h p (x ∷ xs) [] a b some = absurd (let e = plant-kids (shape_over h (tys_layer (x ∷ xs))) (shape_over h (tys_layer [])) (forest (tree_of h) (tys_kids (x ∷ xs))) (forest (tree_of h) []) (sym a.tree ∙ b.tree) in cc)

module _ (cx : Interner) (tys : Tys) (given : (all : List Ty) × HasTypes cx tys all × (0 < length all)) (xs : List Ty) (has : HasNode (heap cx) (part.Tys tys) (tys_layer xs)) where
  pub some_types : 0 < length xs
  some_types = some_items (heap cx) (part.Tys tys) given.0 xs given.1 has given.2

  pub front_then_last : HasTypes cx tys (take (length xs - 1) xs ++ get_or xs (length xs - 1) (record { index = 0 }) ∷ [])
  front_then_last =
      let some = some_types in
      rw (← take_more xs (length xs - 1) (record { index = 0 }) (omega arith), take_all (length xs - 1 + 1) xs (omega arith)) has
