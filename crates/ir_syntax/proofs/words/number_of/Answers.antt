use Rattle.std.proofs.Common.{sym, ap, ◌∙◌}
use Rattle.ir_laws.specs.Numeral.{is_numeral, number_of}
use Rattle.ir_syntax.proofs.WordLemmas.{number_parsed, numeral_utf8}
use Rattle.ir_syntax.proofs.words.number_of.Goals as goal

pub returns-in-Ok : goal.returns-in-Ok
returns-in-Ok c =
    let same = c.in-Ok.ensures.cases.0 in
    let numeral = ap is_numeral same ∙ sym c.is_numeral.ensures ∙ c.if-not-is_numeral.false in
    c.ok.ensures.value ∙ number_parsed c.in-Ok.digits.now c.parse.result numeral c.parse.ensures.value.0 ∙ ap number_of same

pub returns-in-Err : goal.returns-in-Err
returns-in-Err c = absurd (c.in-Err.ensures.cases.0 (numeral_utf8 c.args.text.now (sym c.is_numeral.ensures ∙ c.if-not-is_numeral.false)))
