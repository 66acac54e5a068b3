use Rattle.std.proofs.Common.{◌≡◌, refl}
use Rattle.ir_laws.specs.Label.{row}
use Rattle.ir_table.specs.Heaps.{heap_of}
use Rattle.ir_nodes.specs.Nodes.{empty_layer}
use Rattle.ir_nodes.specs.Plain.{IsPlain}
use Rattle.ir_nodes.specs.declared.layers.EmptyList.{EmptyList}
use Rattle.ir_nodes.specs.declared.layers.EmptyList.TheVariants as empty
use Rattle.ir_table.proofs.NodeLemmas.{leaf_above}
use Rattle.ir_table.proofs.tabled.EmptyListTabled.above.Goals as goal

plain : (k : EmptyList) → IsPlain (empty_layer k).label × ((row (empty_layer k).label.word).flags ≡ 0)
plain empty.GenericArgs = (record { leaf = refl; flags = refl; number = refl; size = refl }, refl)
plain _ = (record { leaf = refl; flags = refl; number = refl; size = refl }, refl)

pub returns : goal.returns
returns c = let p = plain c.args.self.now in leaf_above (heap_of c.args._store.now.tables) _ p.0 p.1 c.leaf.result c.leaf.ensures
