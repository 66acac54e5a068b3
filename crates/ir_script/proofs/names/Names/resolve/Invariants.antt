use Rattle.ir_script.specs.Scope.{scope_names}
use Rattle.ir_script.proofs.ResolveLemmas.{AreLooked}
use Rattle.ir_script.proofs.names.Names.resolve.Given as goal

abbrev pub invariant-loop-step : goal.invariant-loop-step
invariant-loop-step l = AreLooked (scope_names l.scope) l.steps l.step-index l.named l.self.sorts.items l.self.resolved.items
