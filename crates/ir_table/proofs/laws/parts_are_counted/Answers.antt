use Rattle.ir_laws.proofs.HeldLemmas.{just_counted}
use Rattle.ir_table.specs.Interner.{heap, state}
use Rattle.ir_table.proofs.laws.parts_are_counted.Goals as goal

pub returns : goal.returns
returns c = λ cx ts just. just_counted (heap cx) ts (state cx).count just cx.store.counted
