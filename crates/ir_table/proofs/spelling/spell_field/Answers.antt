use Rattle.std.proofs.Common.{◌≡◌, ◌∙◌, arith, sym}
use Rattle.std.proofs.lemmas.Grind.{common_steps}
use Rattle.std.proofs.lemmas.List.{append_assoc}
use Rattle.ir_laws.specs.Numeral.{numeral}
use Rattle.ir_laws.proofs.Numerals.{numeral_is_decimal}
use Rattle.ir_table.proofs.SpellingLemmas.{begins_append, begins_trans}
use Rattle.ir_table.proofs.spelling.spell_field.Goals as goal

pub returns-in_ok-to_string-in-Number-clause-ok : goal.returns-in_ok-to_string-in-Number-clause-ok
returns-in_ok-to_string-in-Number-clause-ok g c =
    let digits : c.as_bytes.result.now ≡ numeral c.in-Number.number = c.as_bytes.ensures.value ∙ c.in_ok-to_string-in-Number.ensures.ok ∙ sym (numeral_is_decimal c.in-Number.number) in
    rw c.in-Number.is (simp (digits, c.in_ok-append.ensures.ok, append_assoc) at c.append-in-Number.ensures.ok)

pub returns-in-OfKind-clause-err : goal.returns-in-OfKind-clause-err
returns-in-OfKind-clause-err g c = grind (arith, common_steps, begins_trans c.args.out.now c.append.new.self c.spell_variable.new.out (rw c.in_ok-append.ensures.ok (begins_append _ _)), c.spell_variable.ensures.err)
