use Rattle.ir_table.proofs.NewLemmas.{new_grows}
use Rattle.ir_table.proofs.laws.interning_only_adds.Goals as goal

pub returns : goal.returns
returns g c = λ old new l r a. new_grows r a
