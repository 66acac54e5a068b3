use Rattle.ir_script.proofs.LeafLemmas.{leaves_none}
use Rattle.ir_script.proofs.leaves.Leaves.new.Goals as goal

pub returns : goal.returns
returns c = λ h. leaves_none h 64
