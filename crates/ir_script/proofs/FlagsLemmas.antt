-- The words of a set of flags.
use Rattle.std.proofs.Common.{arith, ◌≡◌, ◌∙◌, sym, ap, refl, ℕ, ◌+◌, ◌<◌, ◌≤◌, ◌/◌, ◌%◌, nat_eq, true, false, Bool, List, [], ◌∷◌, ◌++◌, map, length, get_or, drop, codes}
use Rattle.std.proofs.lemmas.Bool.Decides.{nat_tests}
use Rattle.std.proofs.lemmas.List.{append_assoc, append-nil, drop_all, drop_more, get_or-map, length-map}
use Rattle.ir_laws.specs.Tree.{Text}
use Rattle.ir_laws.specs.Answer.{flag_texts}
use Rattle.ir_laws.specs.Spelling.{spaced}
use Rattle.ir_table.specs.Spelled.{after_each}
use Rattle.ir_table.proofs.CallerLemmas.{put_both, spaced-after_each}

-- the words from here on, by whether the first flag is in the set
abbrev texts_by : ℕ → Text → List Text → Bool → List Text
texts_by left word words b = elim b [ true ↦ word ∷ flag_texts (left / 2) words | false ↦ flag_texts (left / 2) words ]

module _ {X : Type 0} (name : X → Text) (flags : List X) (i left : ℕ) (within : i < length flags) where
  by_bit : (b : Bool) → nat_eq (left % 2) 1 ≡ b → flag_texts left (drop i (map name flags)) ≡ texts_by left (get_or (map name flags) i []) (drop (i + 1) (map name flags)) b
  by_bit b e =
      let same = length-map flags name in
      ap (flag_texts left) (drop_more (map name flags) i [] (omega arith)) ∙ ap (texts_by left (get_or (map name flags) i []) (drop (i + 1) (map name flags))) e

  -- the flag is in the set, and its word was put behind a space
  pub flag_step : (d : X) (out mid new said whole : Text) → left % 2 ≡ 1 → mid ≡ out ++ codes " " → said ≡ name (get_or flags i d) → new ≡ mid ++ said
      → out ++ after_each (flag_texts left (drop i (map name flags))) ≡ whole → new ++ after_each (flag_texts (left / 2) (drop (i + 1) (map name flags))) ≡ whole
  flag_step d out mid new said whole odd space same put e =
      let rest : Text = after_each (flag_texts (left / 2) (drop (i + 1) (map name flags))) in
      let bit : nat_eq (left % 2) 1 ≡ true = grind (arith, nat_tests) in
      let word : said ≡ get_or (map name flags) i [] = same ∙ sym (get_or-map name flags i d [] within) in
      ap (λ x. x ++ rest) (put_both out mid said new space put ∙ ap (λ x. out ++ (codes " " ++ x)) word)
      ∙ append_assoc out (codes " " ++ get_or (map name flags) i []) rest
      ∙ sym (ap (λ ts. out ++ after_each ts) (by_bit true bit)) ∙ e

  -- the flag is not in the set
  pub no_flag_step : (out new whole : Text) → (left % 2 ≡ 1 → ⊥) → new ≡ out
      → out ++ after_each (flag_texts left (drop i (map name flags))) ≡ whole → new ++ after_each (flag_texts (left / 2) (drop (i + 1) (map name flags))) ≡ whole
  no_flag_step out new whole even same e =
      let bit : nat_eq (left % 2) 1 ≡ false = grind (arith, nat_tests) in
      ap (λ x. x ++ after_each (flag_texts (left / 2) (drop (i + 1) (map name flags)))) same
      ∙ sym (ap (λ ts. out ++ after_each ts) (by_bit false bit)) ∙ e

-- no word is left
pub all_flags : {X : Type 0} (name : X → Text) (flags : List X) (i left : ℕ) (out whole : Text) → length flags ≤ i
    → out ++ after_each (flag_texts left (drop i (map name flags))) ≡ whole → out ≡ whole
all_flags name flags i left out whole over e =
    let same = length-map flags name in
    sym (append-nil out) ∙ sym (ap (λ ts. out ++ after_each (flag_texts left ts)) (drop_all i (map name flags) (omega arith))) ∙ e

-- the names in a table of names and bits
pub names_of : {X : Type 0} (name : X → Text) (bits : X → ℕ) (flags : List X) → map name flags ≡ map (λ (row : Text × ℕ). row.0) (map (λ f. (name f, bits f)) flags)
names_of name bits [] = refl
names_of name bits (f ∷ fs) = ap (λ ws. name f ∷ ws) (names_of name bits fs)

-- the line of `flags`, put piece by piece
pub flags_line : (out begun numbered worded digits number : Text) (words : List Text) (bits set : ℕ) → begun ≡ out ++ codes "outer " → numbered ≡ begun ++ digits → digits ≡ number
    → worded ≡ numbered ++ after_each (flag_texts bits words) → bits ≡ set → worded ++ 10 ∷ [] ≡ out ++ (spaced (codes "outer" ∷ number ∷ flag_texts set words) ++ 10 ∷ [])
flags_line out begun numbered worded digits number words bits set a b same c equal =
    let ts : List Text = flag_texts set words in
    let numbered_at : numbered ≡ out ++ (codes "outer " ++ number) = b ∙ (λ i. a i ++ same i) ∙ append_assoc out (codes "outer ") number in
    ap (λ x. x ++ 10 ∷ []) (c ∙ (λ i. numbered_at i ++ after_each (flag_texts (equal i) words)) ∙ append_assoc out (codes "outer " ++ number) (after_each ts))
    ∙ append_assoc out ((codes "outer " ++ number) ++ after_each ts) (10 ∷ [])
    ∙ sym (ap (λ x. out ++ (x ++ 10 ∷ [])) (spaced-after_each (codes "outer") (number ∷ ts)))
