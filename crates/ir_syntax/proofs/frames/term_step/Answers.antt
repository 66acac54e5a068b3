use Rattle.std.proofs.Common.{sym, ◌∙◌}
use Rattle.ir_syntax.proofs.FrameLemmas.{bare-leaf, bare-step}
use Rattle.ir_syntax.proofs.frames.term_step.Goals as goal

pub returns-in-Some-clause-read : goal.returns-in-Some-clause-read
returns-in-Some-clause-read c = λ st. bare-step c.args.text.now c.in-Some.word st (sym c.in-Some.is ∙ c.bare_word.ensures)

pub returns-in-Some-clause-leaf : goal.returns-in-Some-clause-leaf
returns-in-Some-clause-leaf c = bare-leaf c.args.text.now c.in-Some.word (sym c.in-Some.is ∙ c.bare_word.ensures)
