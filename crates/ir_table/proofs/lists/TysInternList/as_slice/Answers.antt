use Rattle.std.proofs.Common.{refl}
use Rattle.ir_core.specs.declared.handles.Part.TheVariants as part
use Rattle.ir_core.specs.declared.handles.PartSort.TheVariants as sort
use Rattle.ir_nodes.specs.Nodes.{tys_layer}
use Rattle.ir_table.proofs.PartLemmas.{entry_node, entry_within}
use Rattle.ir_table.proofs.lists.TysInternList.as_slice.Goals as goal

pub key-requires : goal.key-requires
key-requires c = entry_within c.args.cx.now.store.tables (part.Tys c.args.self) sort.Tys _ refl c.requires _ refl

pub returns : goal.returns
returns c = rw c.as_slice.ensures (entry_node c.args.cx.now.store.tables (part.Tys c.args.self) sort.Tys _ refl c.requires _ refl (tys_layer c.key.result.now.items) c.key.ensures c.args.cx.now.store.sound)
