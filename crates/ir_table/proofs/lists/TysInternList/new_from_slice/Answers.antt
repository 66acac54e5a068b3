use Rattle.ir_table.proofs.NewLemmas.{new_grows}
use Rattle.ir_table.proofs.StartLemmas.{named_later}
use Rattle.ir_table.proofs.lists.TysInternList.new_from_slice.Goals as goal

pub invariant_of-cx : goal.invariant_of-cx
invariant_of-cx c = record { start = named_later c.args.cx.now.defaults (new_grows c.tys.result c.tys.ensures.answers) c.args.cx.now.start }
