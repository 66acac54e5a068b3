use Rattle.std.proofs.Common.{◌∙◌, ap, sym, [], ◌∷◌}
use Rattle.ir_laws.specs.Flag.{flag_words}
use Rattle.ir_laws.specs.Numeral.{numeral}
use Rattle.ir_laws.proofs.Numerals.{numeral_is_decimal}
use Rattle.ir_table.proofs.CallerLemmas.{ok_last}
use Rattle.ir_script.proofs.FlagsLemmas.{flags_line}
use Rattle.ir_script.proofs.flags.write_flags.Goals as goal

pub returns-clause-ok : goal.returns-clause-ok
returns-clause-ok c =
    let digits = c.as_bytes.ensures.value ∙ c.in_ok-to_string.ensures.ok ∙ sym (numeral_is_decimal c.outer_exclusive_binder.result.0) ∙ ap numeral c.outer_exclusive_binder.ensures in
    ok_last c.args.out.now c.write_words.new.out c.append-3.new.self (10 ∷ []) _ c.append-3.result
    (flags_line c.args.out.now c.append.new.self c.append-2.new.self c.write_words.new.out c.as_bytes.result.now _ flag_words _ _
    c.in_ok-append.ensures.ok c.in_ok-append-2.ensures.ok digits c.in_ok-write_words.ensures.ok c.flags.ensures) c.append-3.ensures.ok
