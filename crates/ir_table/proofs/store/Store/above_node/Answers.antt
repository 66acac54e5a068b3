use Rattle.std.specs.Option.{option_map}
use Rattle.std.proofs.Common.{Option, None, Some, is_some, ◌≡◌, ◌≤◌, ◌∙◌, ap, refl, sym, arith}
use Rattle.ir_core.specs.declared.handles.Part.TheVariants as part
use Rattle.ir_laws.specs.Heap.{IsLive, size_cap}
use Rattle.ir_laws.proofs.HeapLemmas.{kids_of_names}
use Rattle.ir_table.specs.Above.{WithKids}
use Rattle.ir_table.specs.Heaps.{heap_of}
use Rattle.ir_nodes.specs.Nodes.{binder_in, kids_in, kids_of, node_layer}
use Rattle.ir_table.proofs.NodeLemmas.{is_above, with_none, with_then}
use Rattle.ir_nodes.proofs.PlainLemmas.{node_size}
use Rattle.ir_table.proofs.store.Store.above_node.Goals as goal
use Rattle.ir_table.proofs.store.Store.above_node.Goals.{in-None, in-One, in-Two}

some_kept : {A B : Type 0} (f : A → B) (o : Option A) → is_some (option_map f o) ≡ is_some o
some_kept f None = refl
some_kept f (Some x) = refl

pub returns : goal.returns
returns c =
    let h = heap_of c.args.self.now.tables in
    let l = node_layer c.args.node.now in
    let one = node_size c.args.node.now in
    let bound = c.with_variables-bound.result in
    let capped : bound.size ≤ size_cap = c.with_variables-bound.ensures.capped (omega arith) in
    let all : WithKids h (kids_of c.kids.result) bound c.match-kids.above × (c.match-kids.above.size ≤ size_cap) = elim c.match-kids.branch [
      | in-None w ↦ rw (w.in-None.is, w.above-is) (with_none h bound, capped)
      | in-One w ↦ rw (w.in-One.is, w.above-is) (w.with_kid-above.ensures.kid, w.with_kid-above.ensures.capped)
      | in-Two w ↦ rw (w.in-Two.is, w.above-is)
          (with_then h _ _ bound w.with_kid.result w.with_kid-above-in-Two.result w.with_kid.ensures.kid w.with_kid-above-in-Two.ensures.kid, w.with_kid-above-in-Two.ensures.capped)
    ] in
    is_above h c.args.self.now.sound l.label l.binder (kids_in c.args.node.now.content)
    (kids_of_names (IsLive h) l.binder (kids_in c.args.node.now.content) c.requires.live)
    c.requires.bare c.args.own bound c.match-kids.above c.over.result c.is_some.result c.requires.own c.with_variables-bound.ensures.variables
    (rw c.kids.ensures at all.0) all.1
    (c.is_some.ensures ∙ ap is_some c.binder.ensures ∙ sym (some_kept part.BoundVarKinds (binder_in c.args.node.now.content))) c.over.ensures
