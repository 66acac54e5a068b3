use Rattle.std.proofs.Common.{◌≡◌, ◌∙◌, ◌++◌, ◌∷◌, [], ap, sym}
use Rattle.ir_laws.specs.Numeral.{numeral}
use Rattle.ir_laws.proofs.Numerals.{numeral_is_decimal}
use Rattle.ir_cli.proofs.running.fault_line.Goals as goal

pub returns-clause-ok : goal.returns-clause-ok
returns-clause-ok c =
    let digits : c.as_bytes.result.now ≡ numeral c.args.error.line = c.as_bytes.ensures.value ∙ c.in_ok-to_string.ensures.ok ∙ sym (numeral_is_decimal c.args.error.line) in
    let start = c.in_ok-append.ensures.ok ∙ (λ i. c.in_ok-text.ensures.ok i ++ digits i) in
    c.in_ok-append-4.ensures.ok
    ∙ ap (λ text. text ++ 10 ∷ []) (c.in_ok-append-3.ensures.ok ∙ (λ i. (c.in_ok-append-2.ensures.ok ∙ ap (λ text. text ++ 32 ∷ []) start) i ++ c.name.ensures i))
