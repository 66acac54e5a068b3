-- Sets of flags as numbers.
use Rattle.std.specs.Prelude.{ℕ}
use Rattle.ir_core.specs.declared.flags.TypeFlags.{TypeFlags}

abbrev pub bits_of : TypeFlags → ℕ
bits_of f = f.0
