-- What a heap holds, as a set of trees, and how many these are.
use Rattle.std.specs.Prelude.{◌≡◌, ℕ, ◌≤◌, true, List, length}
use Rattle.ir_laws.specs.Tree.{Term}
use Rattle.ir_laws.specs.Parts.{is_part, is_set}
use Rattle.ir_laws.specs.Heap.{Heap, IsLive, tree_of}

module _ {P : Type 0} where
  -- the tree is that of a live name
  abbrev pub Stands : Heap P → Term → Type 0
  Stands h t = (p : P) × IsLive h p × (tree_of h p ≡ t)

  -- the trees of the live names are those of the set, and no others
  pub record HoldsJust (h : Heap P) (ts : List Term) : Type 0 where
    pub set : is_set ts ≡ true
    pub stand : (t : Term) → is_part ts t ≡ true → Stands h t
    pub only : (p : P) → IsLive h p → is_part ts (tree_of h p) ≡ true

  -- n is the number of different trees: a set of trees that stand has no more, and a list of all that stand no fewer
  pub record Counts (h : Heap P) (n : ℕ) : Type 0 where
    pub most : (ts : List Term) → is_set ts ≡ true → ((t : Term) → is_part ts t ≡ true → Stands h t) → length ts ≤ n
    pub least : (ts : List Term) → ((p : P) → IsLive h p → is_part ts (tree_of h p) ≡ true) → n ≤ length ts
