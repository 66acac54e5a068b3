use Rattle.ir_table.proofs.StartLemmas.{no_variables}
use Rattle.ir_table.proofs.lists.BoundVarKindsInternList.empty.Goals as goal

pub returns : goal.returns
returns c = no_variables c.args.cx.now
