-- The first token of a text.
use Rattle.std.proofs.Common.{◌≡◌, ℕ, zero, suc, ◌+◌, ◌-◌, ◌≤◌, ◌<◌, true, false, ◌&&◌, not, length, get_or, take, drop, [], ◌∷◌, ◌++◌, refl, ap, ◌∙◌, arith, get_or-drop, length-drop, length-take}
use Rattle.std.specs.List.{slice_range}
use Rattle.std.proofs.lemmas.List.{drop_more}
use Rattle.std.proofs.lemmas.List.Folds.{drop_split}
use Rattle.ir_laws.specs.Tree.{Text}
use Rattle.ir_laws.specs.Expression.{Word, tokens_of, ends_word, goes_on}
use Rattle.ir_syntax.specs.Nesting.{are_word_bytes}
use Rattle.ir_syntax.proofs.ExpressionLemmas.{tokens_of-append, tokens_of-word, word_byte}

-- the tokens from a place on, by the byte there
pub tokens_at : (text : Text) (at b : ℕ) → at < length text → get_or text at 0 ≡ b → tokens_of (drop at text) ≡ tokens_of (b ∷ drop (at + 1) text)
tokens_at text at b within is = ap tokens_of (drop_more text at 0 within ∙ ap (λ c. c ∷ drop (at + 1) text) is)

stops : (text : Text) (end : ℕ) → (end < length text → ends_word (get_or text end 0) ≡ true) → goes_on (drop end text) ≡ false
stops [] zero ends = refl
stops [] (suc n) ends = refl
stops (b ∷ bs) zero ends = ap not (ends (omega arith))
stops (b ∷ bs) (suc n) ends = stops bs n (λ lt. ends (omega arith))

word_tokens : (word rest : Text) → are_word_bytes word ≡ true → 0 < length word → goes_on rest ≡ false → tokens_of (word ++ rest) ≡ Word word ∷ tokens_of rest
word_tokens [] rest are some stop = absurd (omega arith)
word_tokens (b ∷ bs) rest are some stop = tokens_of-append (b ∷ bs) rest stop ∙ ap (λ ts. ts ++ tokens_of rest) (tokens_of-word b bs are)

-- a word's bytes up to where it ends are one token
pub word_at : (text : Text) (at end : ℕ) → at < end → end ≤ length text → are_word_bytes (slice_range text at end) ≡ true → (end < length text → ends_word (get_or text end 0) ≡ true) → tokens_of (drop at text) ≡ Word (slice_range text at end) ∷ tokens_of (drop end text)
word_at text at end some within are ends =
    let order : at ≤ end = omega arith in
    let long : 0 < length (slice_range text at end) = simp (length-take, length-drop) (omega arith) in
    ap tokens_of (drop_split text at end order) ∙ word_tokens (slice_range text at end) (drop end text) are long (stops text end ends)

-- a byte more of a word
more_bytes : (xs : Text) (n : ℕ) → n < length xs → ends_word (get_or xs n 0) ≡ false → are_word_bytes (take n xs) ≡ true → are_word_bytes (take (suc n) xs) ≡ true
more_bytes [] n lt e are = absurd (omega arith)
more_bytes (b ∷ bs) zero lt e are = ap (λ ends. not ends && true) e
more_bytes (b ∷ bs) (suc n) lt e are =
    let parts = word_byte b (take n bs) are in
    ap (λ ends. not ends && are_word_bytes (take (suc n) bs)) parts.0 ∙ more_bytes bs n (omega arith) e parts.1

pub word_grown : (text : Text) (start end : ℕ) → start ≤ end → end < length text → ends_word (get_or text end 0) ≡ false → are_word_bytes (slice_range text start end) ≡ true → are_word_bytes (slice_range text start (end + 1)) ≡ true
word_grown text start end order within byte are =
    let lt : end - start < length (drop start text) = simp length-drop (omega arith) in
    let here : start + (end - start) ≡ end = omega arith in
    let is : get_or (drop start text) (end - start) 0 ≡ get_or text end 0 = get_or-drop start text (end - start) 0 ∙ ap (λ i. get_or text i 0) here in
    let more : end + 1 - start ≡ suc (end - start) = omega arith in
    ap (λ n. are_word_bytes (take n (drop start text))) more ∙ more_bytes (drop start text) (end - start) lt (ap ends_word is ∙ byte) are
