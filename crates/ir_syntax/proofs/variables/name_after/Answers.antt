use Rattle.std.proofs.Common.{Some, sym, ap, ◌∙◌}
use Rattle.ir_laws.specs.Numeral as numeral
use Rattle.ir_laws.specs.Phrase.{and_then}
use Rattle.ir_syntax.proofs.WordLemmas.{after_none, after_some}
use Rattle.ir_syntax.proofs.variables.name_after.Goals as goal

pub returns-in-Some : goal.returns-in-Some
returns-in-Some c =
    let found = after_some c.args.first.now c.args.text.now c.in-Some.ensures.cases.0 ∙ ap Some (sym c.in-Some.ensures.cases.1) in
    c.name_of.ensures ∙ ap (λ a. and_then a numeral.name_of) (sym found)

pub returns-in-None : goal.returns-in-None
returns-in-None c = sym (ap (λ a. and_then a numeral.name_of) (after_none c.args.first.now c.args.text.now c.in-None.ensures.cases))
