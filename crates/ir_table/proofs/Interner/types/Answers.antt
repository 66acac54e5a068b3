use Rattle.ir_table.proofs.NewLemmas.{new_grows}
use Rattle.ir_table.proofs.StartLemmas.{named_later}
use Rattle.ir_table.proofs.Interner.types.Goals as goal

pub invariant_of-self : goal.invariant_of-self
invariant_of-self c = record { start = named_later c.args.self.now.defaults (new_grows c.types.result c.types.ensures.answers) c.args.self.now.start }
