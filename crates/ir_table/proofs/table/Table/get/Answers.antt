use Rattle.std.proofs.Common.{None, Some, sym}
use Rattle.ir_table.proofs.TableLemmas.{sketch_at}
use Rattle.ir_table.proofs.table.Table.get.Goals as goal

pub returns-in-Some : goal.returns-in-Some
returns-in-Some g c = sym (rw (← c.self.view_is) (sketch_at g.K.Key.layer c.self.inside.map.entries c.args.index (Some (c.in-Some.key.now, c.in-Some.info.now)) (sym c.in-Some.ensures.entry)))

pub returns-in-None : goal.returns-in-None
returns-in-None g c = sym (rw (← c.self.view_is) (sketch_at g.K.Key.layer c.self.inside.map.entries c.args.index None (sym c.in-None.ensures.entry)))
