use Rattle.std.proofs.Common.{◌≡◌, drop}
use Rattle.ir_laws.specs.Numeral.{each, is_digit}
use Rattle.ir_syntax.proofs.words.are_digits.Given as goal

abbrev pub invariant-loop-byte : goal.invariant-loop-byte
invariant-loop-byte l = each is_digit l.text ≡ each is_digit (drop l.byte-index l.text)
