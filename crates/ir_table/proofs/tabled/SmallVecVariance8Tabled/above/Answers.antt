use Rattle.std.proofs.Common.{refl}
use Rattle.ir_table.specs.Heaps.{heap_of}
use Rattle.ir_nodes.specs.Nodes.{variance_field}
use Rattle.ir_table.proofs.NodeLemmas.{leaf_above}
use Rattle.ir_nodes.proofs.PlainLemmas.{fields_sizeless}
use Rattle.ir_table.proofs.tabled.SmallVecVariance8Tabled.above.Goals as goal

pub returns : goal.returns
returns c =
    leaf_above (heap_of c.args._store.now.tables) _ (record { leaf = refl; flags = refl; number = refl; size = fields_sizeless variance_field (λ _. refl) c.args.self.now.items }) refl
    c.leaf.result c.leaf.ensures
