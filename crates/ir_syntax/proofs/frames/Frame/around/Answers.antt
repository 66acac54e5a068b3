use Rattle.std.proofs.Common.{Some, arith, refl, sym, ap, ◌∙◌}
use Rattle.ir_laws.specs.Expression.{Group, ThenExpr}
use Rattle.ir_syntax.specs.Frames.{finish, gives}
use Rattle.ir_syntax.proofs.FrameLemmas.{group-kept, list-then, named, terms-then}
use Rattle.ir_syntax.proofs.frames.Frame.around.Goals as goal

pub label_group-requires : goal.label_group-requires
label_group-requires c = group-kept c.in-Named.text.now _ (sym c.in-Some-label_before.is ∙ c.label_before.ensures)

pub returns-else-wanted-eq0-clause-read : goal.returns-else-wanted-eq0-clause-read
returns-else-wanted-eq0-clause-read c = λ inner es st. terms-then _ (Group inner) es st c.in-Terms.wanted c.in-Terms.is c.if-wanted-eq0.false

pub returns-in-Some-clause-read : goal.returns-in-Some-clause-read
returns-in-Some-clause-read c = λ inner es st. list-then _ (Group inner) es st c.in-List.word c.in-List.count c.in-Some.more c.in-List.is (omega arith)

pub returns-in-Some-label_before-clause-read : goal.returns-in-Some-label_before-clause-read
returns-in-Some-label_before-clause-read c = λ inner es st.
    ap (λ f. finish f (ThenExpr (Group inner) es) st) c.in-Named.is ∙ named c.in-Named.text.now (Group inner) es st (Some c.in-Some-label_before.word) (sym c.in-Some-label_before.is ∙ c.label_before.ensures) ∙ c.label_group.ensures.read inner es st

pub returns-else-wanted-eq0-clause-kept : goal.returns-else-wanted-eq0-clause-kept
returns-else-wanted-eq0-clause-kept c = (refl, refl, refl, omega arith, ap gives (sym c.in-Terms.is))
