use Rattle.std.proofs.Common.{sym, ◌∙◌}
use Rattle.ir_script.proofs.PendingLemmas.{alike_with}
use Rattle.ir_script.proofs.sorts.Operands.with.Goals as goal

pub returns-then-self : goal.returns-then-self
returns-then-self c = λ front. alike_with front c.args.place c.args.sort c.args.self.first c.args.self.alike c.is_like.result (sym c.is_some.ensures ∙ c.if-is_some.false) c.if-self.true c.is_like.ensures
