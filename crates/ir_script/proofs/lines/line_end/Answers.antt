use Rattle.std.proofs.Common.{arith}
use Rattle.ir_script.proofs.LineLemmas.{line_longer, IsNextLine-end}
use Rattle.ir_script.proofs.lines.line_end.Goals as goal

pub loop-end-preserved : goal.loop-end-preserved
loop-end-preserved c = record {
  order = omega arith;
  within = omega arith;
  line = line_longer _ _ _ c.loop-end.invariant.order c.loop-end-test.true c.if-script-end-ne10.true c.loop-end.invariant.line;
}

pub returns-else-script-end-ne10 : goal.returns-else-script-end-ne10
returns-else-script-end-ne10 c =
    IsNextLine-end _ _ _ c.loop-end.invariant.order c.loop-end.invariant.within c.loop-end.invariant.line (λ _. c.if-script-end-ne10.false)

pub returns-after-loop-end : goal.returns-after-loop-end
returns-after-loop-end c =
    IsNextLine-end _ _ _ c.loop-end.invariant.order c.loop-end.invariant.within c.loop-end.invariant.line (λ h. absurd (omega arith))
