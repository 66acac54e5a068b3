-- What a value beside a list's items says.
use Rattle.std.proofs.Common.{◌≡◌, ◌∙◌, ap, subst, ℕ, zero, suc, ◌+◌, ◌<◌, List, [], ◌∷◌, length, drop, get_or, map, slice_get, Some}
use Rattle.std.proofs.lemmas.List.{drop_more}
use Rattle.std.proofs.lemmas.Option.{none-some, same_Some, slice_get_within, slice_get-get_or, get_or_from_slice_get, slice_get-map}
use Rattle.std.specs.Option.{option_map}
use Rattle.ir_laws.specs.Heap.{Each}

-- what holds of each holds of the one at the index
pub each_got : {P : Type 0} (F : P → Type 0) (ps : List P) (i : ℕ) (p : P) → slice_get ps i ≡ Some p → Each F ps → F p
each_got F [] i p e all = absurd (none-some p e)
each_got F (q ∷ ps) zero p e all = subst F (same_Some q p e) all.0
each_got F (q ∷ ps) (suc i) p e all = each_got F ps i p e all.1

-- the item at the index, and those behind it
pub drop_at : {X : Type 0} (xs : List X) (i : ℕ) (x : X) → slice_get xs i ≡ Some x → drop i xs ≡ x ∷ drop (i + 1) xs
drop_at xs i x e = drop_more xs i x (slice_get_within xs i x e) ∙ ap (λ y. y ∷ drop (i + 1) xs) (get_or_from_slice_get xs i x x e)

-- one step over items that name the parts
module _ {P X : Type 0} (name : X → P) (xs : List X) (i : ℕ) (d : X) (within : i < length xs) where
  left : drop i (map name xs) ≡ name (get_or xs i d) ∷ drop (i + 1) (map name xs)
  left = drop_at (map name xs) i (name (get_or xs i d)) (slice_get-map name xs i ∙ ap (option_map name) (slice_get-get_or xs i d within))

  pub item_head : (F : P → Type 0) → Each F (drop i (map name xs)) → F (name (get_or xs i d))
  item_head F h = (subst (Each F) left h).0

  pub item_tail : (F : P → Type 0) → Each F (drop i (map name xs)) → Each F (drop (i + 1) (map name xs))
  item_tail F h = (subst (Each F) left h).1

  -- a function of what is left, one step on
  pub item_rest : {Y : Type 0} (G : List P → Y) → G (drop i (map name xs)) ≡ G (name (get_or xs i d) ∷ drop (i + 1) (map name xs))
  item_rest G = ap G left
