use Rattle.std.proofs.Common.{arith, ◌∙◌}
use Rattle.ir_syntax.proofs.TokenLemmas.{tokens_at}
use Rattle.ir_syntax.proofs.tokens.spaces.Goals as goal

pub loop-end-preserved : goal.loop-end-preserved
loop-end-preserved c = record { within = omega arith; tokens = c.loop-end.invariant.tokens ∙ tokens_at _ _ 32 c.loop-end-test.true c.if-text-end-eq32.true }
