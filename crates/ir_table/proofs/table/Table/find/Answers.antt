use Rattle.ir_table.proofs.TableLemmas.{answers_found, answers_absent}
use Rattle.ir_table.proofs.table.Table.find.Goals as goal

pub returns-clause-found : goal.returns-clause-found
returns-clause-found g c = rw (← c.self.view_is) (answers_found g.K.Key.layer c.args.key.now (g.K.PartialEq.eq c.args.key.now) (g.met.K.Key.exact c.args.key.now) c.self.inside.map.entries c.get_index_of.result c.get_index_of.ensures.index)

pub returns-clause-absent : goal.returns-clause-absent
returns-clause-absent g c = rw (← c.self.view_is) (answers_absent g.K.Key.layer c.args.key.now (g.K.PartialEq.eq c.args.key.now) (g.met.K.Key.exact c.args.key.now) c.self.inside.map.entries c.get_index_of.result c.get_index_of.ensures.found)
