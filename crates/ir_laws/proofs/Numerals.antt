-- A number is written as std writes it.
use Rattle.std.proofs.Common.{◌≡◌, ℕ, decimal, refl}
use Rattle.std.specs.Fmt.{digits}
use Rattle.ir_laws.specs.Numeral.{numeral}

pub numeral_is_decimal : (n : ℕ) → numeral n ≡ decimal n
unfolding digits
numeral_is_decimal n = refl
