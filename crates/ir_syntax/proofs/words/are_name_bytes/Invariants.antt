use Rattle.std.proofs.Common.{◌≡◌, drop}
use Rattle.ir_laws.specs.Numeral.{each, is_name_byte}
use Rattle.ir_syntax.proofs.words.are_name_bytes.Given as goal

abbrev pub invariant-loop-byte : goal.invariant-loop-byte
invariant-loop-byte l = each is_name_byte l.text ≡ each is_name_byte (drop l.byte-index l.text)
