use Rattle.ir_table.proofs.NewLemmas.{new_grows}
use Rattle.ir_table.proofs.StartLemmas.{named_later}
use Rattle.ir_table.proofs.intern.Intern.new.Goals as goal

pub invariant_of-cx : goal.invariant_of-cx
invariant_of-cx g c = record { start = named_later c.args.cx.now.defaults (new_grows c.term.result c.term.ensures.answers) c.args.cx.now.start }
