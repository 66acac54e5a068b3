use Rattle.std.proofs.Common.{◌≡◌, ◌&&◌, drop}
use Rattle.ir_laws.specs.Expression.{are_line_bytes}
use Rattle.ir_syntax.proofs.expression.is_readable.Given as goal

abbrev pub invariant-loop-byte : goal.invariant-loop-byte
invariant-loop-byte l = are_line_bytes l.line ≡ (l.readable && are_line_bytes (drop l.byte-index l.line))
