use Rattle.std.proofs.Common.{◌≤◌, ◌∙◌, inl, refl, sym, arith}
use Rattle.ir_laws.specs.Counts.{outer}
use Rattle.ir_laws.specs.Heap.{IsLive, Each, height_above, names_in, tree_above}
use Rattle.ir_laws.proofs.HeapLemmas.{height_of_above, kids_of_names, size_of_above}
use Rattle.ir_nodes.specs.Plain.{IsPlain}
use Rattle.ir_table.specs.Interner.{stored}
use Rattle.ir_table.specs.Heaps.{heap_of}
use Rattle.ir_nodes.specs.Nodes.{kids_in, node_layer}
use Rattle.ir_table.proofs.AboveLemmas.{told_low}
use Rattle.ir_table.proofs.NodeLemmas.{own_plain}
use Rattle.ir_table.specs.declared.store.Store.{Store}
use Rattle.ir_nodes.specs.declared.nodes.Node.{Node}
use Rattle.ir_table.proofs.store.Store.told_node.Goals as goal

-- the node is low enough for what is kept of it
low : (s : Store) (n : Node) → Each (IsLive (heap_of s.tables)) (names_in (node_layer n)) → IsPlain (node_layer n).label → (height_above (heap_of s.tables) (node_layer n) ≤ 513) × (outer (tree_above (heap_of s.tables) (node_layer n)) ≤ 65536)
low s n live plain = told_low (stored s) (node_layer n) s.sound s.low refl (kids_of_names (IsLive (heap_of s.tables)) (node_layer n).binder (kids_in n.content) live) plain

pub above_node-above-requires : goal.above_node-above-requires
above_node-above-requires c = record {
  live = c.requires.live;
  own = own_plain _ c.requires.plain c.flags.result c.flags.ensures c.begin.result c.begin.ensures;
  bare = inl c.requires.plain.leaf;
}

pub overflow_cast-result : goal.overflow_cast-result
overflow_cast-result c = let few = low c.args.self.now c.args.node.now c.requires.live c.requires.plain in omega arith

pub overflow_cast-result-2 : goal.overflow_cast-result-2
overflow_cast-result-2 c = let few = low c.args.self.now c.args.node.now c.requires.live c.requires.plain in omega arith

pub returns : goal.returns
returns c =
    let h = heap_of c.args.self.now.tables in
    let l = node_layer c.args.node.now in
    let kids = kids_of_names (IsLive h) l.binder (kids_in c.args.node.now.content) c.requires.live in
    let above = c.above_node-above.ensures in record {
      height = above.height ∙ sym (height_of_above h c.args.self.now.sound l kids);
      size = c.new.ensures ∙ above.size ∙ size_of_above h c.args.self.now.sound l kids;
      flags = above.flags;
      outer = above.outer;
    }
