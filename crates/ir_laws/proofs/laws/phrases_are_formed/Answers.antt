use Rattle.ir_laws.proofs.FormedLemmas.{phrases_formed}
use Rattle.ir_laws.proofs.laws.phrases_are_formed.Goals as goal

pub returns : goal.returns
returns c = phrases_formed
