use Rattle.std.proofs.Common.{◌∙◌, sym}
use Rattle.ir_nodes.specs.Fits.{layer_sort}
use Rattle.ir_nodes.specs.Nodes.{node_layer}
use Rattle.ir_nodes.proofs.PlainLemmas.{node_bare}
use Rattle.ir_nodes.proofs.FitLemmas.{fits_term}
use Rattle.ir_table.proofs.PartLemmas.{owned_is_term}
use Rattle.ir_table.proofs.tabled.NodeTabled.above.Goals as goal

pub node_own-requires : goal.node_own-requires
node_own-requires c =
    let l = node_layer c.args.self.now in
    sym (fits_term (layer_sort l) l (sym (owned_is_term (layer_sort l)) ∙ c.requires.owned)) ∙ c.requires.fits

pub above_node-requires-clause-bare : goal.above_node-requires-clause-bare
above_node-requires-clause-bare c = node_bare c.args.self.now
