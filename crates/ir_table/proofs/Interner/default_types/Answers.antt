use Rattle.ir_table.specs.Interner.{heap}
use Rattle.ir_table.proofs.StartLemmas.{each_named}
use Rattle.ir_table.proofs.Interner.default_types.Goals as goal

pub returns : goal.returns
returns c = each_named (heap c.args.self.now) c.args.self.now.defaults c.args.self.now.start
