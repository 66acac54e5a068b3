use Rattle.ir_laws.proofs.Opened.{open_is_replaced}
use Rattle.ir_laws.proofs.laws.open_is_replaced.Goals as goal

pub returns : goal.returns
returns c = open_is_replaced
