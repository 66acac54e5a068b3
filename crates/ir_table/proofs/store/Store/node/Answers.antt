use Rattle.std.proofs.Common.{◌∙◌, ap, sym}
use Rattle.ir_laws.specs.Counts.{sort_of_label}
use Rattle.ir_nodes.specs.Fits.{layer_sort, part_by}
use Rattle.ir_nodes.specs.Nodes.{node_layer}
use Rattle.ir_table.proofs.StateLemmas.{handle_given}
use Rattle.ir_nodes.proofs.FitLemmas.{fits_term, label_is, term_sort_by}
use Rattle.ir_table.proofs.PartLemmas.{owned_is_term}
use Rattle.ir_table.proofs.store.Store.node.Goals as goal

pub make-requires-clause-fits : goal.make-requires-clause-fits
make-requires-clause-fits c = fits_term (layer_sort (node_layer c.args.node)) (node_layer c.args.node) (label_is (sort_of_label (node_layer c.args.node).label) c.args.node.word c.requires.sort) ∙ c.requires.fits

pub make-requires-clause-owned : goal.make-requires-clause-owned
make-requires-clause-owned c = owned_is_term (layer_sort (node_layer c.args.node)) ∙ label_is (sort_of_label (node_layer c.args.node).label) c.args.node.word c.requires.sort

pub returns-clause-answers : goal.returns-clause-answers
returns-clause-answers c =
    let sort = sym c.unwrap-sort.ensures ∙ c.part_sort.ensures ∙ term_sort_by (sort_of_label (node_layer c.args.node).label) c.args.node.word c.requires.sort in
    handle_given c.in_ok-index.index c.at.result (c.at.ensures ∙ ap (λ o. part_by o c.in_ok-index.index) sort) c.in_ok-index.ensures.answers
