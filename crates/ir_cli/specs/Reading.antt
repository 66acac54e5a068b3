-- What reading a source to its end gives, where the source tells what is left.
use Rattle.std.specs.Prelude.{◌≡◌, ℕ, ◌<◌, ◌≤◌, List, [], length, Option, Some, IfSome}
use Rattle.std.specs.Io.KnownBytes.{prepend_known}

-- the bytes are all that was left, and nothing is left
abbrev pub ReadsAll : Option (List ℕ) → Option (List ℕ) → List ℕ → Type 0
ReadsAll old new bytes = IfSome old (λ all. (bytes ≡ all) × (new ≡ Some []))

-- more than n bytes were left
abbrev pub IsLonger : Option (List ℕ) → ℕ → Type 0
IsLonger old n = IfSome old (λ all. n < length all)

-- at most n bytes were left
abbrev pub IsWithin : Option (List ℕ) → ℕ → Type 0
IsWithin old n = IfSome old (λ all. length all ≤ n)

-- the source gave at most n bytes: what was left is these, and then what is left
abbrev pub GivesAtMost : ℕ → Option (List ℕ) → Option (List ℕ) → Type 0
GivesAtMost n old new = (bytes : List ℕ) × (length bytes ≤ n) × (old ≡ prepend_known bytes new)
