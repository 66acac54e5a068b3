use Rattle.ir_table.proofs.NewLemmas.{new_succeeds}
use Rattle.ir_table.proofs.laws.held_nodes_are_given.Goals as goal

pub returns : goal.returns
returns g c = λ old new l r held few a. new_succeeds old.store.low held few r a
