use Rattle.std.proofs.Common.{◌∙◌, Some, ap, sym}
use Rattle.std.specs.Option.{option_map}
use Rattle.ir_table.proofs.TableLemmas.{sketch_at}
use Rattle.ir_table.proofs.table.Table.key.Goals as goal

pub returns : goal.returns
returns g c = (
  c.unwrap.result.1.now,
  rw (← c.self.view_is) (sketch_at g.K.Key.layer c.self.inside.map.entries c.args.index (Some (c.unwrap.result.0.now, c.unwrap.result.1.now)) (sym c.get_index.ensures.entry ∙ ap (option_map _) c.unwrap.ensures)),
)
