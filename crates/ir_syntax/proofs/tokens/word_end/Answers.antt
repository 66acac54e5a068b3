use Rattle.std.proofs.Common.{arith, sym, ◌∙◌}
use Rattle.ir_syntax.proofs.TokenLemmas.{word_grown}
use Rattle.ir_syntax.proofs.tokens.word_end.Goals as goal

pub loop-end-preserved : goal.loop-end-preserved
loop-end-preserved c = record {
  order = omega arith;
  within = omega arith;
  word = word_grown _ _ _ c.loop-end.invariant.order c.loop-end-test.true (sym c.ends_word.ensures ∙ c.if-not-ends_word.true) c.loop-end.invariant.word;
}
