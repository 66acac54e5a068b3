use Rattle.ir_table.proofs.StartLemmas.{no_types}
use Rattle.ir_table.proofs.lists.TysInternList.empty.Goals as goal

pub returns : goal.returns
returns c = no_types c.args.cx.now
