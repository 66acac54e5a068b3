use Rattle.std.proofs.Common.{◌-◌, arith, refl, sym, ap, ◌∙◌}
use Rattle.ir_laws.specs.Expression.{Single}
use Rattle.ir_laws.specs.Phrase.{and_then}
use Rattle.ir_syntax.specs.Frames.{finish, gives, needs}
use Rattle.ir_syntax.specs.declared.frames.Frame.TheVariants as code
use Rattle.ir_syntax.proofs.FrameLemmas.{list-then, terms-then}
use Rattle.ir_syntax.proofs.frames.Frame.after_word.Goals as goal

pub returns-else-wanted-eq0-clause-read : goal.returns-else-wanted-eq0-clause-read
returns-else-wanted-eq0-clause-read c = λ es st.
    terms-then _ (Single c.args.text.now) es st c.in-Terms.wanted c.in-Terms.is c.if-wanted-eq0.false ∙ ap (λ o. and_then o (finish (code.Terms (c.in-Terms.wanted - 1)) es)) (sym (c.term_step.ensures.read st)) ∙ sym (c.after_step.ensures.on es st)

pub returns-in-Some-clause-read : goal.returns-in-Some-clause-read
returns-in-Some-clause-read c = λ es st.
    list-then _ (Single c.args.text.now) es st c.in-List.word c.in-List.count c.in-Some.more c.in-List.is (omega arith) ∙ ap (λ o. and_then o (finish (code.List c.in-List.word c.in-Some.more) es)) (sym (c.term_step-in-List.ensures.read st)) ∙ sym (c.after_step-in-List.ensures.on es st)

pub returns-else-wanted-eq0-clause-kept : goal.returns-else-wanted-eq0-clause-kept
returns-else-wanted-eq0-clause-kept c = c.after_step.ensures.kept (needs c.args.self) (gives c.args.self) 1 refl (omega arith) (ap gives (sym c.in-Terms.is)) c.term_step.ensures.leaf
