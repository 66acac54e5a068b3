use Rattle.std.proofs.Common.{Some, None, arith, refl, sym, ap, ◌∙◌}
use Rattle.ir_laws.specs.Expression.{Single}
use Rattle.ir_syntax.specs.Frames.{go_on, is_kept}
use Rattle.ir_syntax.specs.declared.frames.Frame.TheVariants as code
use Rattle.ir_syntax.proofs.FrameLemmas.{named, second-fixed, second-kept, second-needs}
use Rattle.ir_syntax.proofs.frames.second_word.Goals as goal

pub returns-in_err-word-clause-read : goal.returns-in_err-word-clause-read
returns-in_err-word-clause-read c = λ es st. named c.args.first.now (Single c.args.text.now) es st None (sym c.in_err-word.was ∙ c.label_before.ensures) ∙ ap (λ o. go_on o es st) (sym c.from_residual.ensures)

pub label_word-requires : goal.label_word-requires
label_word-requires c = ap (λ n. is_kept (code.Label c.in_ok-word.word n)) (sym c.if-start-eq0.true) ∙ second-kept c.args.first.now c.args.text.now _ (sym c.in_ok-word.was ∙ c.label_before.ensures) _ _ c.label_start-start.ensures c.parts.ensures

pub returns-then-start-eq0-clause-read : goal.returns-then-start-eq0-clause-read
returns-then-start-eq0-clause-read c = λ es st. named c.args.first.now (Single c.args.text.now) es st (Some c.in_ok-word.word) (sym c.in_ok-word.was ∙ c.label_before.ensures) ∙ c.label_word.ensures.read es st

pub returns-clause-read : goal.returns-clause-read
returns-clause-read c = second-fixed c.args.first.now c.args.text.now _ (sym c.in_ok-word.was ∙ c.label_before.ensures) _ _ c.label_start-start.ensures c.parts.ensures c.if-start-eq0.false

pub returns-clause-kept : goal.returns-clause-kept
returns-clause-kept c =
    let is = sym c.in_ok-word.was ∙ c.label_before.ensures in
    let at = c.label_start-start.ensures in
    (second-kept c.args.first.now c.args.text.now _ is _ _ at c.parts.ensures, omega (arith, second-needs c.args.first.now c.args.text.now _ is _ _ at c.parts.ensures), refl, refl, tt)
