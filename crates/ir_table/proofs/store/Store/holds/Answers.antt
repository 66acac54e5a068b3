use Rattle.std.proofs.Common.{◌∙◌, ap}
use Rattle.ir_nodes.specs.Fits.{is_of, layer_sort}
use Rattle.ir_nodes.specs.Layers.{layer_seen}
use Rattle.ir_table.proofs.PartLemmas.{entry_live, entry_some}
use Rattle.ir_table.proofs.store.Store.holds.Goals as goal

pub returns-in-Some : goal.returns-in-Some
returns-in-Some c =
    entry_live _ c.args.self.now.tables c.args.part c.entry.result c.entry.ensures.entry (c.in-Some.layer, c.in-Some.field-0-1) c.in-Some.is
    c.is_of.result (c.is_of.ensures ∙ ap (λ g. is_of g (layer_sort (layer_seen c.in-Some.layer))) c.sort.ensures)

pub returns-in-None : goal.returns-in-None
returns-in-None c = (
  λ e. absurd (cc e),
  λ live. absurd (cc (rw c.in-None.is at (entry_some _ c.args.self.now.tables c.args.part c.entry.result c.entry.ensures.entry live))),
)
