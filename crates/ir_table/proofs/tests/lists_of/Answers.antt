use Rattle.std.proofs.Common.{[], ◌∷◌}
use Rattle.std.specs.Array.Iter.{array_into_iter_items, array_steps}
use Rattle.ir_core.specs.declared.handles.Part.TheVariants as part
use Rattle.ir_laws.specs.Heap.{IsLive}
use Rattle.ir_table.specs.Interner.{heap}
use Rattle.ir_table.proofs.NewLemmas.{given_live, items_grow, new_grows, tried_live}
use Rattle.ir_table.proofs.tests.lists_of.Goals as goal

pub new_from_iter-requires-clause-live : goal.new_from_iter-requires-clause-live
new_from_iter-requires-clause-live c =
    let live : IsLive (heap c.new_from_slice.new.cx) (part.Ty c.args.ty) = (new_grows c.new_from_slice.result c.new_from_slice.ensures.answers).live (part.Ty c.args.ty) c.requires in
    given_live part.Ty (heap c.new_from_slice.new.cx) array_steps array_into_iter_items (λ s t x e. e) c.into_iter.result (c.args.ty ∷ c.args.ty ∷ []) c.into_iter.ensures.into_iter_gives.0 (live, (live, tt))

pub try_new_from_iter-requires-clause-live : goal.try_new_from_iter-requires-clause-live
try_new_from_iter-requires-clause-live c =
    let before : IsLive (heap c.new_from_slice.new.cx) (part.Ty c.args.ty) = (new_grows c.new_from_slice.result c.new_from_slice.ensures.answers).live (part.Ty c.args.ty) c.requires in
    let live : IsLive (heap c.new_from_iter.new.cx) (part.Ty c.args.ty) = (items_grow array_steps c.into_iter.result c.new_from_iter.result c.new_from_iter.ensures.answers).live (part.Ty c.args.ty) before in
    tried_live part.Ty (heap c.new_from_iter.new.cx) array_steps array_into_iter_items (λ s t x e. e) c.into_iter-2.result (c.args.ty ∷ c.args.ty ∷ []) c.into_iter-2.ensures.into_iter_gives.0 (live, (live, tt))
