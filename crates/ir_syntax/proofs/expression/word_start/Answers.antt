use Rattle.std.proofs.Common.{arith, sym, ◌∙◌}
use Rattle.ir_syntax.proofs.ExpressionLemmas.{word_longer}
use Rattle.ir_syntax.proofs.expression.word_start.Goals as goal

pub loop-start-preserved : goal.loop-start-preserved
loop-start-preserved c = record {
  within = omega arith;
  word = word_longer _ _ _ c.loop-start-test.true c.loop-start.invariant.within (omega arith) (sym c.ends_word.ensures ∙ c.if-not-ends_word.true) c.loop-start.invariant.word;
}
