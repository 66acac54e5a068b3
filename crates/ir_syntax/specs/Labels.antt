-- In which bucket the labels of a text stand.
use Rattle.std.specs.Prelude.{ℕ, zero, suc, ◌+◌, ◌%◌, Bool, List, [], ◌∷◌, filter, length, nat_eq}
use Rattle.ir_laws.specs.Label.{row}
use Rattle.ir_laws.specs.Tree.{Text}
use Rattle.ir_laws.specs.Word.{label_words}
use Rattle.ir_laws.specs.declared.words.Word.{Word}

-- by the text's first byte and its length
abbrev pub bucket_of : Text → ℕ
bucket_of [] = 0
bucket_of (b ∷ bs) = (b + length (b ∷ bs) % 32) % 32

-- the label's text stands there
abbrev pub is_in_bucket : ℕ → Word → Bool
is_in_bucket n w = nat_eq (bucket_of (row w).text) n

-- the labels of so many buckets, from this one on
abbrev pub buckets : ℕ → ℕ → List (List Word)
buckets n zero = []
buckets n (suc more) = filter (is_in_bucket n) label_words ∷ buckets (suc n) more
