use Rattle.std.proofs.Common.{◌∙◌, is_some, ap, sym}
use Rattle.ir_core.specs.declared.handles.Part.{Part}
use Rattle.ir_laws.specs.Heap.{Layer}
use Rattle.ir_laws.specs.Counts.{sort_of_label}
use Rattle.ir_nodes.specs.Fits.{fits_row, term_sort}
use Rattle.ir_nodes.specs.Nodes.{kids_in, node_layer}
use Rattle.ir_nodes.proofs.FitLemmas.{term_label}
use Rattle.ir_table.proofs.RemakeLemmas.{as_many, itself, list_over, node_over}
use Rattle.ir_table.proofs.store.Store.with_kids.Goals as goal

pub returns-then-is_empty-clause-answers : goal.returns-then-is_empty-clause-answers
returns-then-is_empty-clause-answers c = itself c.args.self.now c.args.part c.args.kids.now (sym c.if-is_empty.true ∙ c.is_empty.ensures) c.requires.sorts

pub with_kids-node-requires : goal.with_kids-node-requires
with_kids-node-requires c = as_many c.args.kids.now (kids_in c.in-Node.node.now.content) (rw c.in-Node.ensures.at at c.requires.sorts)

pub node-requires-clause-fits : goal.node-requires-clause-fits
node-requires-clause-fits c = ap fits_row c.with_kids-node.ensures ∙ node_over c.in-Node.node.now c.args.kids.now (rw c.in-Node.ensures.at at c.requires.sorts) c.in-Node.ensures.row.1

pub node-requires-clause-sort : goal.node-requires-clause-sort
node-requires-clause-sort c = ap (λ (l : Layer Part). is_some (term_sort (sort_of_label l.label))) c.with_kids-node.ensures ∙ term_label (node_layer c.in-Node.node.now) c.in-Node.ensures.row.0

pub types-requires-clause-types : goal.types-requires-clause-types
types-requires-clause-types c = (list_over c.in-List.field-0 c.args.kids.now c.if-is_empty.ensures (rw c.in-List.ensures.at at c.requires.sorts)).0

pub returns-in-List-clause-answers : goal.returns-in-List-clause-answers
returns-in-List-clause-answers c =
    let over = list_over c.in-List.field-0 c.args.kids.now c.if-is_empty.ensures (rw c.in-List.ensures.at at c.requires.sorts) in
    rw (c.in-List.ensures.at, over.1) c.types.ensures.answers
