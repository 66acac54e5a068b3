use Rattle.std.proofs.Common.{false, None, inl, refl, arith}
use Rattle.std.proofs.lemmas.List.{drop_all, length-map}
use Rattle.ir_core.specs.declared.handles.Part.TheVariants as part
use Rattle.ir_laws.specs.Heap.{IsLive}
use Rattle.ir_table.specs.Heaps.{heap_of}
use Rattle.ir_nodes.specs.Nodes.{tys_kids, tys_layer}
use Rattle.ir_table.proofs.LoopLemmas.{item_head, item_tail, item_rest}
use Rattle.ir_table.proofs.NodeLemmas.{is_above, own_plain, no_variables, with_none, with_then}
use Rattle.ir_table.proofs.store.Store.above_tys.Goals as goal

pub with_kid-above-requires-clause-live : goal.with_kid-above-requires-clause-live
with_kid-above-requires-clause-live c = item_head part.Ty c.args.tys.now c.loop-ty.ty-index (record { index = 0 }) c.loop-ty-test.true (IsLive (heap_of c.args.self.now.tables)) c.loop-ty.invariant.live

pub loop-ty-preserved : goal.loop-ty-preserved
loop-ty-preserved c = record {
  live = item_tail part.Ty c.args.tys.now c.loop-ty.ty-index (record { index = 0 }) c.loop-ty-test.true (IsLive (heap_of c.args.self.now.tables)) c.loop-ty.invariant.live;
  low = c.with_kid-above.ensures.low;
  capped = c.with_kid-above.ensures.capped;
  rest = λ b w. c.loop-ty.invariant.rest b (rw (item_rest part.Ty c.args.tys.now c.loop-ty.ty-index (record { index = 0 }) c.loop-ty-test.true (λ ps. ps))
      (with_then (heap_of c.args.self.now.tables) _ _ c.loop-ty.above c.with_kid-above.result b c.with_kid-above.ensures.kid w));
}

pub returns : goal.returns
returns c =
    let h = heap_of c.args.self.now.tables in
    let n = length-map c.args.tys.now part.Ty in
    let none = drop_all c.loop-ty.ty-index (tys_kids c.args.tys.now) (omega arith) in
    let all = c.loop-ty.invariant.rest c.loop-ty.above (rw none (with_none h c.loop-ty.above)) in
    is_above h c.args.self.now.sound (tys_layer c.args.tys.now).label None (tys_kids c.args.tys.now) c.requires (inl refl) c.begin-above.result c.begin-above.result c.loop-ty.above c.over.result false
    (own_plain (tys_layer c.args.tys.now).label (record { leaf = refl; flags = refl; number = refl; size = refl }) c.empty.result (c.empty.ensures tt) c.begin-above.result c.begin-above.ensures)
    (no_variables h (tys_layer c.args.tys.now) refl c.begin-above.result) all c.loop-ty.invariant.capped refl c.over.ensures
