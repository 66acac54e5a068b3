-- What words are: numbers, and kinds of variables.
use Rattle.std.proofs.Common.{◌≡◌, ◌∙◌, rules, ℕ, ◌+◌, ◌-◌, ◌*◌, ◌<◌, Bool, true, false, cond, ◌&&◌, nat_eq, nat_le, [], ◌∷◌, length, take, drop, fold, Option, Some, None, Result, Ok, Err, OkIff, refl, sym, ap, true≢false, arith}
use Rattle.std.specs.Cmp.Lexicographic.{pointwise}
use Rattle.std.specs.Result.{result_ok}
use Rattle.std.specs.Str.{IsAscii, IsUtf8}
use Rattle.std.specs.Str.Parse.{ParsesUnsigned}
use Rattle.std.proofs.lemmas.Bool.{and_parts, and_from}
use Rattle.std.proofs.lemmas.Bool.Decides.{nat_tests}
use Rattle.std.proofs.lemmas.Str.{IsUtf8-from_ascii}
use Rattle.std.proofs.lemmas.Str.Ascii.{IsAscii-nil, IsAscii-cons}
use Rattle.std.proofs.lemmas.Str.Parse.{IsDigitsTest, FoldsDigits, IsNumeralModel, numerals_by_fold, parse_digits}
use Rattle.ir_laws.specs.Tree.{Text}
use Rattle.ir_laws.specs.Numeral.{is_digit, is_between, each, value_of_digits, is_numeral, number_of}
use Rattle.ir_laws.specs.Phrase.{after}

-- ---- numbers

-- the number so far, and then these digits
abbrev read_on : ℕ → Text → ℕ
read_on n text = fold (λ n b. n * 10 + (b - 48)) n text

digits_told : IsDigitsTest (λ text. each is_digit text ≡ true)
digits_told = search rules

digits_folded : FoldsDigits read_on
digits_folded = search rules

digits_are : IsNumeralModel (λ text. each is_digit text ≡ true) value_of_digits
digits_are = numerals_by_fold _ digits_told read_on digits_folded

first_digit : (b : ℕ) → is_between 49 57 b ≡ true → is_digit b ≡ true
first_digit b h = let low = and_parts (nat_le 49 b) (nat_le b 57) h in and_from (nat_le 48 b) (nat_le b 57) (grind (arith, nat_tests)) low.1

-- a numeral has digits, and at least one
numeral_digits : (text : Text) → is_numeral text ≡ true → (each is_digit text ≡ true) × (0 < length text)
numeral_digits [] h = absurd (true≢false (sym h))
numeral_digits (b ∷ []) h = (and_from (is_digit b) true h refl, omega arith)
numeral_digits (b ∷ c ∷ cs) h =
    let both = and_parts (is_between 49 57 b) (each is_digit (c ∷ cs)) h in
    (and_from (is_digit b) (each is_digit (c ∷ cs)) (first_digit b both.0) both.1, omega arith)

digits_ascii : (text : Text) → each is_digit text ≡ true → IsAscii text
digits_ascii [] h = IsAscii-nil
digits_ascii (b ∷ bs) h =
    let both = and_parts (is_digit b) (each is_digit bs) h in
    let high = (and_parts (nat_le 48 b) (nat_le b 57) both.0).1 in
    IsAscii-cons b bs (grind (arith, nat_tests)) (digits_ascii bs both.1)

pub numeral_utf8 : (text : Text) → is_numeral text ≡ true → IsUtf8 text
numeral_utf8 text h = IsUtf8-from_ascii text (digits_ascii text (numeral_digits text h).0)

-- what `parse` gives of a numeral
pub number_parsed : {E : Type 0} (text : Text) (r : Result ℕ E) → is_numeral text ≡ true → ParsesUnsigned 32 10 text r → result_ok r ≡ number_of text
number_parsed text r h parsed =
    by r (nat_le (value_of_digits text) 4294967295) refl (parse_digits digits_are 32 text r parsed (numeral_digits text h).0)
    ∙ sym (ap (λ b. elim b as (λ b. Option ℕ) [ true ↦ elim (nat_le (value_of_digits text) 4294967295) [ true ↦ Some (value_of_digits text) | false ↦ None ] | false ↦ None ]) h)
  where
    by : {E : Type 0} (r : Result ℕ E) (small : Bool) → nat_le (value_of_digits text) 4294967295 ≡ small → OkIff r ((0 < length text) × (value_of_digits text < 4294967296)) (value_of_digits text)
        → result_ok r ≡ elim small [ true ↦ Some (value_of_digits text) | false ↦ None ]
    by (Ok n) true e given = ap Some given.1
    by (Ok n) false e given = absurd (grind (arith, nat_tests))
    by (Err e) true f given = absurd (given ((numeral_digits text h).1, grind (arith, nat_tests)))
    by (Err e) false f given = refl

-- ---- the bytes behind the first ones

after-is : (first text : Text) → after first text ≡ cond (pointwise nat_eq (take (length first) text) first) (Some (drop (length first) text)) None
after-is [] text = refl
after-is (b ∷ bs) [] = refl
after-is (b ∷ bs) (c ∷ cs) = by (nat_eq b c) (nat_eq c b) refl refl (after-is bs cs)
  where
    by : (x y : Bool) → nat_eq b c ≡ x → nat_eq c b ≡ y → after bs cs ≡ cond (pointwise nat_eq (take (length bs) cs) bs) (Some (drop (length bs) cs)) None
        → elim x [ true ↦ after bs cs | false ↦ None ] ≡ cond (y && pointwise nat_eq (take (length bs) cs) bs) (Some (drop (length bs) cs)) None
    by true true e f h = h
    by false false e f h = refl
    by true false e f h = absurd (grind (arith, nat_tests))
    by false true e f h = absurd (grind (arith, nat_tests))

pub after_none : (first text : Text) → pointwise nat_eq (take (length first) text) first ≡ false → after first text ≡ None
after_none first text h = after-is first text ∙ ap (λ b. cond b (Some (drop (length first) text)) None) h

pub after_some : (first text : Text) → pointwise nat_eq (take (length first) text) first ≡ true → after first text ≡ Some (drop (length first) text)
after_some first text h = after-is first text ∙ ap (λ b. cond b (Some (drop (length first) text)) None) h
