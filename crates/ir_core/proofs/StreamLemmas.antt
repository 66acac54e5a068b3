-- Lemmas on what reads and writes say.
use Rattle.std.proofs.Common.{◌≡◌, ℕ, ◌+◌, ◌-◌, ◌≤◌, min, List, ◌++◌, length, take, drop, Option, None, Some, refl, sym, ap, ◌∙◌, arith, append_assoc, length-append, length-drop, length-take-le}
use Rattle.std.proofs.lemmas.List.{take_at, take-append-drop, drop-drop, drop_all}
use Rattle.std.proofs.Math.Seq.{take-add}
use Rattle.std.specs.Io.KnownBytes.{append_known}
use Rattle.ir_core.specs.Streams.{Reads, HoldsFront}

-- a read copies the n bytes from `at` on to the front of the piece, and none only where the piece has no room or no byte is left
pub Reads-copied : (items front piece : List ℕ) (at n : ℕ) → n ≤ min (length piece) (length items - at) → (n ≡ 0 → min (length piece) (length items - at) ≡ 0) → front ≡ take n (drop at items)
    → Reads (Some (drop at items)) (Some (drop (at + n) items)) (front ++ drop n piece) n
Reads-copied items front piece at n in_both none is_front =
    let some : n ≤ length (drop at items) = omega (arith, length-drop at items) in
    let count : length front ≡ n = ap length is_front ∙ length-take-le n (drop at items) some in
    let shown = take_at front (drop n piece) n count in
    let rest : drop n (drop at items) ≡ drop (at + n) items = drop-drop n at items in
    let whole = take-append-drop n (drop at items) in
    record {
      fits = omega (arith, length-append front (drop n piece));
      given = ap Some (sym (ap (λ (l : List ℕ). l ++ drop (at + n) items) (shown ∙ is_front) ∙ ap (λ (l : List ℕ). take n (drop at items) ++ l) (sym rest) ∙ whole));
      ends = λ is_none room. drop_all (at + n) items (omega (arith, none is_none, length-append front (drop n piece), length-drop n piece));
    }

-- two writes, of the first m bytes and of n of the rest
pub append_known-more : (a b c : Option (List ℕ)) (bytes rest : List ℕ) (m n : ℕ) → rest ≡ drop m bytes → b ≡ append_known a (take m bytes) → c ≡ append_known b (take n rest)
    → c ≡ append_known a (take (m + n) bytes)
append_known-more a b c bytes rest m n is_rest first second =
    second ∙ ap (λ (o : Option (List ℕ)). append_known o (take n rest)) first ∙ joined a (take m bytes) (take n rest)
    ∙ ap (append_known a) (ap (λ (l : List ℕ). take m bytes ++ take n l) is_rest ∙ sym (take-add m n bytes)) where
      joined : (a : Option (List ℕ)) (xs ys : List ℕ) → append_known (append_known a xs) ys ≡ append_known a (xs ++ ys)
      joined None xs ys = refl
      joined (Some x) xs ys = ap Some (append_assoc x xs ys)

-- a write of the rest that fails
pub HoldsFront-more : (a b c : Option (List ℕ)) (bytes rest : List ℕ) (m : ℕ) → rest ≡ drop m bytes → b ≡ append_known a (take m bytes) → HoldsFront b c rest → HoldsFront a c bytes
HoldsFront-more a b c bytes rest m is_rest first failed = (m + failed.0, append_known-more a b c bytes rest m failed.0 is_rest first failed.1)
