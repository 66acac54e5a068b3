-- The words that are numbers, names and bytes.
use Rattle.std.specs.Prelude.{ℕ, suc, ◌+◌, ◌-◌, ◌*◌, Bool, true, false, ◌&&◌, ◌||◌, [], ◌∷◌, length, fold, Option, Some, None, nat_eq, nat_le}
use Rattle.std.specs.Fmt.{digits_onto}
use Rattle.ir_laws.specs.Tree.{Text}

-- both ends may be met
abbrev pub is_between : ℕ → ℕ → ℕ → Bool
is_between low high b = nat_le low b && nat_le b high

-- `0` to `9`
abbrev pub is_digit : ℕ → Bool
is_digit = is_between 48 57

-- `A` to `Z`
abbrev pub is_capital : ℕ → Bool
is_capital = is_between 65 90

-- `a` to `z`
abbrev pub is_small : ℕ → Bool
is_small = is_between 97 122

-- each byte passes the test
abbrev pub each : (ℕ → Bool) → Text → Bool
each test [] = true
each test (b ∷ bs) = test b && each test bs

-- a capital or `_`
abbrev pub is_name_start : ℕ → Bool
is_name_start b = is_capital b || nat_eq b 95

-- a capital, `_`, a small letter or a digit
abbrev pub is_name_byte : ℕ → Bool
is_name_byte b = is_name_start b || is_small b || is_digit b

-- a capital or `_`, then capitals, small letters, digits and `_`; at most 64 bytes
abbrev pub is_name : Text → Bool
is_name [] = false
is_name (b ∷ bs) = is_name_start b && each is_name_byte bs && nat_le (suc (length bs)) 64

-- the text, where it is a NAME
abbrev pub name_of : Text → Option Text
name_of text = elim (is_name text) [ true ↦ Some text | false ↦ None ]

-- the number that the digits write, the highest first
abbrev pub value_of_digits : Text → ℕ
value_of_digits text = fold (λ n b. n * 10 + (b - 48)) 0 text

-- digits without a leading zero
abbrev pub is_numeral : Text → Bool
is_numeral [] = false
is_numeral (b ∷ []) = is_digit b
is_numeral (b ∷ bs) = is_between 49 57 b && each is_digit bs

-- a decimal number that is at most `top`
abbrev pub number_up_to : ℕ → Text → Option ℕ
number_up_to top text = elim (is_numeral text) [
  | true ↦ elim (nat_le (value_of_digits text) top) [ true ↦ Some (value_of_digits text) | false ↦ None ]
  | false ↦ None
]

-- a number of at most 32 bits
abbrev pub number_of : Text → Option ℕ
number_of = number_up_to 4294967295

-- a number of at most 64 bits
abbrev pub address_of : Text → Option ℕ
address_of = number_up_to 18446744073709551615

-- the value of a digit `0` to `9`, `a` to `f`
abbrev pub hex_digit : ℕ → Option ℕ
hex_digit b = elim (is_digit b) [ true ↦ Some (b - 48) | false ↦ elim (is_between 97 102 b) [ true ↦ Some (b - 87) | false ↦ None ] ]

-- a byte of two digits before the bytes of the rest
abbrev pub hex_byte : Option ℕ → Option ℕ → Option Text → Option Text
hex_byte (Some high) (Some low) (Some bytes) = Some ((high * 16 + low) ∷ bytes)
hex_byte high low bytes = None

-- two digits for each byte
abbrev pub hex_pairs : Text → Option Text
hex_pairs [] = Some []
hex_pairs (high ∷ []) = None
hex_pairs (high ∷ low ∷ rest) = hex_byte (hex_digit high) (hex_digit low) (hex_pairs rest)

-- `-` for no bytes, or two digits for each byte
abbrev pub bytes_of_hex : Text → Option Text
bytes_of_hex [] = None
bytes_of_hex (b ∷ []) = elim (nat_eq b 45) [ true ↦ Some [] | false ↦ None ]
bytes_of_hex text = hex_pairs text

-- A number in decimal: by std's definition, which computes here. A number of a script has at most 64 bits, so 64 digits are enough
abbrev pub numeral : ℕ → Text
numeral n = digits_onto 64 10 false n []
