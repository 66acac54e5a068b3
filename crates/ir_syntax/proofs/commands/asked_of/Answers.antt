use Rattle.std.proofs.Common.{◌∷◌, sym, ap, ◌∙◌}
use Rattle.ir_laws.specs.Expression.{tokens_of}
use Rattle.ir_syntax.specs.Tokens.{token_seen}
use Rattle.ir_syntax.proofs.AskedLemmas.{line-bracket, line-command, line-unknown}
use Rattle.ir_syntax.proofs.commands.asked_of.Goals as goal

pub returns-in_default-token-clause-form : goal.returns-in_default-token-clause-form
returns-in_default-token-clause-form c = line-bracket c.args.line.now (sym c.is_readable.ensures ∙ c.if-not-is_readable.false) c.in-Some.token _ c.in-Some.ensures.first c.in_default-token.not-Word

pub returns-in_err-command_of-clause-form : goal.returns-in_err-command_of-clause-form
returns-in_err-command_of-clause-form c =
    let unknown = line-unknown c.args.line.now (sym c.is_readable.ensures ∙ c.if-not-is_readable.false) c.in-Word.word.now _ (c.in-Some.ensures.first ∙ ap (λ t. token_seen t ∷ tokens_of c.in-Some.rest.now) c.in-Word.is) (sym c.in_err-command_of.was ∙ c.command_of.ensures)
    in rw c.from_residual.ensures unknown

pub returns-clause-form : goal.returns-clause-form
returns-clause-form c =
    line-command c.args.line.now (sym c.is_readable.ensures ∙ c.if-not-is_readable.false) c.in-Word.word.now _ _ (c.in-Some.ensures.first ∙ ap (λ t. token_seen t ∷ tokens_of c.in-Some.rest.now) c.in-Word.is) (sym c.in_ok-command_of.was ∙ c.command_of.ensures) ∙ c.asked_by.ensures.form
