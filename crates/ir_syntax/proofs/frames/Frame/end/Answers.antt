use Rattle.std.proofs.Common.{◌<◌, ◌≤◌, List, arith, length, subst}
use Rattle.ir_laws.specs.declared.labels.Part.{Part}
use Rattle.ir_syntax.proofs.FrameLemmas.{label-ended, label-open}
use Rattle.ir_syntax.proofs.frames.Frame.end.Goals as goal

pub returns-then-at-parts-clause-read : goal.returns-then-at-parts-clause-read
returns-then-at-parts-clause-read c = λ st. label-open _ c.in-Label.word c.in-Label.at st c.in-Label.is (subst (λ (ps : List Part). c.in-Label.at < length ps) c.parts.ensures c.if-at-parts.true)

pub returns-else-at-parts-clause-read : goal.returns-else-at-parts-clause-read
returns-else-at-parts-clause-read c = λ st. label-ended _ c.in-Label.word c.in-Label.at st c.in-Label.is (subst (λ (ps : List Part). length ps ≤ c.in-Label.at) c.parts.ensures (omega (arith, c.if-at-parts.false)))
