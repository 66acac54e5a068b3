use Rattle.std.proofs.Common.{◌≡◌, ◌∙◌, Some, ap, sym, true}
use Rattle.std.specs.Option.{option_map}
use Rattle.ir_core.specs.declared.handles.PartSort.{PartSort}
use Rattle.ir_core.specs.Parts.{sort_in}
use Rattle.ir_laws.proofs.HeapLemmas.{has_node}
use Rattle.ir_nodes.specs.declared.layers.Layer.{Layer as LayerRead}
use Rattle.ir_nodes.specs.declared.layers.Layer.TheVariants as layer
use Rattle.ir_nodes.specs.Fits.{is_term, layer_fits, layer_sort}
use Rattle.ir_table.specs.Heaps.{heap_of}
use Rattle.ir_nodes.specs.Layers.{FitsRow, is_node, layer_seen}
use Rattle.ir_nodes.specs.Nodes.{node_layer}
use Rattle.ir_nodes.proofs.FitLemmas.{fits_term}
use Rattle.ir_table.proofs.PartLemmas.{entry_at, entry_some}
use Rattle.ir_table.proofs.store.Store.layer.Goals as goal

pub unwrap-requires : goal.unwrap-requires
unwrap-requires c = entry_some _ c.args.self.now.tables c.args.part c.entry.result c.entry.ensures.entry c.requires

pub returns-clause-at : goal.returns-clause-at
returns-clause-at c = ap (option_map (λ s. s.layer)) (entry_at _ c.args.self.now.tables c.args.part c.entry.result c.entry.ensures.entry c.unwrap.result c.unwrap.ensures c.requires).0

pub returns-clause-layer : goal.returns-clause-layer
returns-clause-layer c =
    let at = entry_at _ c.args.self.now.tables c.args.part c.entry.result c.entry.ensures.entry c.unwrap.result c.unwrap.ensures c.requires in
    has_node (heap_of c.args.self.now.tables) c.args.self.now.sound c.args.part _ at.0

row_of : (g : PartSort) (r : LayerRead) → layer_sort (layer_seen r) ≡ Some g → is_node r ≡ is_term (Some g) → layer_fits (layer_seen r) ≡ true → FitsRow r
row_of g (layer.Node n) sort node fits =
    let term : is_term (layer_sort (node_layer n.now)) ≡ true = ap is_term sort ∙ sym node in
    (term, sym (fits_term (layer_sort (node_layer n.now)) (node_layer n.now) term) ∙ fits)
row_of g (layer.List l) sort node fits = tt

pub returns-clause-row : goal.returns-clause-row
returns-clause-row c =
    let at = entry_at _ c.args.self.now.tables c.args.part c.entry.result c.entry.ensures.entry c.unwrap.result c.unwrap.ensures c.requires in
    row_of (sort_in c.args.part) c.unwrap.result.0 at.1
    (rw c.unwrap.ensures at c.entry.ensures.node)
    (c.args.self.now.fits c.args.part _ at.0)
