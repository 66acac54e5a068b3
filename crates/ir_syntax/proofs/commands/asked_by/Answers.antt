use Rattle.std.proofs.Common.{◌≡◌, ◌∷◌, Some, option_map, arith, refl, sym, ap, ◌∙◌}
use Rattle.std.proofs.lemmas.Grind.{common_steps}
use Rattle.ir_laws.specs.Expression.{Exprs, Single, expr_list, tokens_of}
use Rattle.ir_laws.specs.Form as form
use Rattle.ir_laws.specs.Numeral.{name_of}
use Rattle.ir_laws.specs.Tree.{Text}
use Rattle.ir_syntax.specs.Commands.{asked_form}
use Rattle.ir_syntax.specs.Tokens.{token_seen}
use Rattle.ir_syntax.specs.declared.commands.Command.TheVariants as command
use Rattle.ir_syntax.specs.declared.commands.Asked.TheVariants.{Let, Print, Same, Flags}
use Rattle.ir_syntax.proofs.AskedLemmas.{asked-row, one-asked, two-asked, word-asked}
use Rattle.ir_syntax.proofs.commands.asked_by.Goals as goal

pub returns-in-Print-clause-form : goal.returns-in-Print-clause-form
returns-in-Print-clause-form c = asked-row (asked_form Print) _ command.Print _ c.in-Print.is c.terms-count.ensures (one-asked (asked_form Print) form.Print (λ p. refl)) (tokens_of c.args.text.now)

pub returns-in-Same-clause-form : goal.returns-in-Same-clause-form
returns-in-Same-clause-form c = asked-row (asked_form Same) _ command.Same _ c.in-Same.is c.terms-count.ensures (two-asked (asked_form Same) form.Same (λ p q. refl)) (tokens_of c.args.text.now)

pub returns-in-Flags-clause-form : goal.returns-in-Flags-clause-form
returns-in-Flags-clause-form c = asked-row (asked_form Flags) _ command.Flags _ c.in-Flags.is c.terms-count.ensures (one-asked (asked_form Flags) form.Flags (λ p. refl)) (tokens_of c.args.text.now)

-- a name before the term
let-named : (text name : Text) → Some name ≡ name_of text → (es : Exprs) → form.let_form (Single text ∷ expr_list es) ≡ form.one_term (form.Let name) (expr_list es)
let-named text name is es = grind (arith, common_steps)

pub returns-in_ok-name_of-in-Some-Word-default-clause-form : goal.returns-in_ok-name_of-in-Some-Word-default-clause-form
returns-in_ok-name_of-in-Some-Word-default-clause-form c =
    let name = c.in_ok-name_of-in-Some-Word-default.field-0 in
    let text = c.in-Some-Word-default.word.now in
    word-asked (Let name) _ command.Let _ c.in-Let.is c.terms-count.ensures refl (form.Let name.now) (λ p. refl) text (let-named text name.now (ap (option_map (λ name. name.now)) (sym c.in_ok-name_of-in-Some-Word-default.was) ∙ c.name_of.ensures)) _ _
    (c.in-Some-Word-default.ensures.first ∙ ap (λ t. token_seen t ∷ tokens_of c.in-Some-Word-default.rest.now) c.in-Some-Word-default.field-0-0-is)
