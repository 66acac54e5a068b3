-- The labels of a bucket, and the look-up in it.
use Rattle.std.proofs.Common.{◌≡◌, ◌∙◌, ℕ, zero, suc, ◌+◌, ◌<◌, Bool, true, false, cond, List, [], ◌∷◌, filter, find, get_or, map, nat_eq, bytes_eq, Option, None, Some, option_map, refl, sym, ap, arith}
use Rattle.std.proofs.lemmas.Bool.{false≢true}
use Rattle.std.proofs.lemmas.Bool.Decides.{nat_tests}
use Rattle.std.proofs.lemmas.Slice.Eq.{bytes_eq-Decides}
use Rattle.ir_laws.specs.Label.{row}
use Rattle.std.specs.Borrow.{Bor}
use Rattle.ir_laws.specs.Word.{label_words}
use Rattle.ir_laws.specs.Tree.{Text}
use Rattle.ir_laws.specs.declared.words.Word.{Word}
use Rattle.ir_syntax.specs.Labels.{bucket_of, buckets, is_in_bucket}

bucket_at : (n more i : ℕ) (d : List Word) → i < more → get_or (buckets n more) i d ≡ filter (is_in_bucket (n + i)) label_words
bucket_at n zero i d h = absurd (omega arith)
bucket_at n (suc more) zero d h = let same : n ≡ n + 0 = omega arith in ap (λ k. filter (is_in_bucket k) label_words) same
bucket_at n (suc more) (suc i) d h = let same : suc n + i ≡ n + suc i = omega arith in bucket_at (suc n) more i d (omega arith) ∙ ap (λ k. filter (is_in_bucket k) label_words) same

pub bucket_is : (bs : List (Bor (List Word))) (d : Bor (List Word)) (text : Text) (n : ℕ) → map (λ b. b.now) bs ≡ buckets 0 32 → n ≡ bucket_of text → n < 32 → (get_or bs n d).now ≡ filter (is_in_bucket (bucket_of text)) label_words
bucket_is bs d text n rows here few =
    sym (seen bs n) ∙ ap (λ bs. get_or bs n d.now) rows ∙ bucket_at 0 32 n d.now few ∙ ap (λ k. filter (is_in_bucket k) label_words) zero_more ∙ ap (λ k. filter (is_in_bucket k) label_words) here
  where
    zero_more : 0 + n ≡ n
    zero_more = omega arith

    seen : (bs : List (Bor (List Word))) (n : ℕ) → get_or (map (λ b. b.now) bs) n d.now ≡ (get_or bs n d).now
    seen [] n = refl
    seen (b ∷ bs) zero = refl
    seen (b ∷ bs) (suc n) = seen bs n

-- what passes a test stands among those that pass a weaker one
pub find_filter : {A : Type 0} (p q : A → Bool) → ((x : A) → p x ≡ true → q x ≡ true) → (xs : List A) → find p (filter q xs) ≡ find p xs
find_filter p q weaker [] = refl
find_filter p q weaker (x ∷ xs) = by (p x) (q x) refl (weaker x) (find_filter p q weaker xs)
  where
    here : p x ≡ true → find p (x ∷ filter q xs) ≡ Some x
    here t = ap (λ b. cond b (Some x) (find p (filter q xs))) t

    past : p x ≡ false → find p (x ∷ filter q xs) ≡ find p (filter q xs)
    past f = ap (λ b. cond b (Some x) (find p (filter q xs))) f

    by : (a b : Bool) → p x ≡ a → (a ≡ true → b ≡ true) → find p (filter q xs) ≡ find p xs → find p (cond b (x ∷ filter q xs) (filter q xs)) ≡ cond a (Some x) (find p xs)
    by true true t w e = here t
    by true false t w e = absurd (false≢true (w refl))
    by false true f w e = past f ∙ e
    by false false f w e = e

-- a label of the text stands in the text's bucket
pub found_near : (q : Word → Bool) (text : Text) → let p = λ (w : Word). elim (bytes_eq (row w).text text) as (λ b. Bool) [ true ↦ q w | false ↦ false ] in find p (filter (is_in_bucket (bucket_of text)) label_words) ≡ find p label_words
found_near q text = find_filter (λ w. elim (bytes_eq (row w).text text) as (λ b. Bool) [ true ↦ q w | false ↦ false ]) (is_in_bucket (bucket_of text)) (λ w. near w (bytes_eq (row w).text text) refl) label_words
  where
    same_bucket : nat_eq (bucket_of text) (bucket_of text) ≡ true
    same_bucket = grind (arith, nat_tests)

    near : (w : Word) (b : Bool) → bytes_eq (row w).text text ≡ b → elim b as (λ b. Bool) [ true ↦ q w | false ↦ false ] ≡ true → is_in_bucket (bucket_of text) w ≡ true
    near w true same e = let alike : (row w).text ≡ text = (bytes_eq-Decides (row w).text text).0 same in ap (λ t. nat_eq (bucket_of t) (bucket_of text)) alike ∙ same_bucket
    near w false same e = absurd (false≢true e)

pub as_found : (o : Option Word) → o ≡ option_map (λ w. w) o
as_found None = refl
as_found (Some w) = refl
