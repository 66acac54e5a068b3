use Rattle.std.proofs.Common.{drop}
use Rattle.ir_script.specs.Grove.{grove}
use Rattle.ir_script.specs.Kept.{AreLeaves}
use Rattle.ir_script.proofs.MakingLemmas.{SoFar}
use Rattle.ir_table.specs.Interner.{heap, state}
use Rattle.ir_script.proofs.builder.Builder.build.Given as goal

abbrev pub invariant-loop-step : goal.invariant-loop-step
invariant-loop-step l = record {
  so_far : SoFar (state l.fn.cx) (state l.cx) l.self (drop l.step-index l.steps) (grove (heap l.fn.cx) l.steps);
  leaves : AreLeaves (heap l.cx) l.self.leaves;
}
