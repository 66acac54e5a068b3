use Rattle.ir_table.proofs.StartLemmas.{no_variances}
use Rattle.ir_table.proofs.lists.VariancesOfInternList.empty.Goals as goal

pub returns : goal.returns
returns c = no_variances c.args.cx.now
