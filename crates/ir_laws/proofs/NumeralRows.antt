-- Numbers, names and bytes as they are written, each row named by what it shows. All hold by computation.
use Rattle.std.proofs.Common.{◌≡◌, [], ◌∷◌, Some, None, codes, refl}
use Rattle.ir_laws.specs.Numeral.{number_of, address_of, bytes_of_hex, name_of}

pub a_number_is_decimal : number_of (codes "4096") ≡ Some 4096
a_number_is_decimal = refl

pub zero_is_a_number : number_of (codes "0") ≡ Some 0
zero_is_a_number = refl

pub a_leading_zero_is_none : number_of (codes "07") ≡ None
a_leading_zero_is_none = refl

pub the_greatest_number : number_of (codes "4294967295") ≡ Some 4294967295
the_greatest_number = refl

pub a_greater_number_is_none : number_of (codes "4294967296") ≡ None
a_greater_number_is_none = refl

pub an_address_may_be_greater : address_of (codes "4294967296") ≡ Some 4294967296
an_address_may_be_greater = refl

pub two_digits_are_a_byte : bytes_of_hex (codes "00ff1a") ≡ Some (0 ∷ 255 ∷ 26 ∷ [])
two_digits_are_a_byte = refl

pub one_digit_is_none : bytes_of_hex (codes "00f") ≡ None
one_digit_is_none = refl

pub a_dash_is_no_bytes : bytes_of_hex (codes "-") ≡ Some []
a_dash_is_no_bytes = refl

pub a_name_starts_high : name_of (codes "_a1") ≡ Some (codes "_a1")
a_name_starts_high = refl

pub a_small_letter_starts_no_name : name_of (codes "a1") ≡ None
a_small_letter_starts_no_name = refl
