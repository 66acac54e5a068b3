-- What is computed of a node before it is made.
use Rattle.std.specs.Prelude.{◌≡◌, ℕ, ◌+◌, ◌-◌, ◌^◌, ◌≤◌, max, min, Bool, true, false, ◌&&◌, nat_le, bit_or, List, Option, None}
use Rattle.std.specs.Option.{option_map_or}
use Rattle.ir_core.specs.Flags.{bits_of}
use Rattle.ir_core.specs.declared.errors.TermError.{TermError}
use Rattle.ir_core.specs.declared.errors.TermError.TheVariants as error
use Rattle.ir_core.specs.declared.handles.Part.{Part}
use Rattle.ir_core.specs.declared.variables.BoundVarIndexKind.{BoundVarIndexKind}
use Rattle.ir_core.specs.declared.variables.BoundVarIndexKind.TheVariants as index
use Rattle.ir_laws.specs.Flag.{HAS_CANONICAL_BOUND}
use Rattle.ir_laws.specs.declared.words.Word.TheVariants.{CanonicalVariable}
use Rattle.ir_laws.specs.Counts.{flags, outer, bind_size, binder_flag}
use Rattle.ir_laws.specs.Heap.{Heap, Layer, Sketch, plant, own_size, largest, total, size_cap, cached_height, cached_size, cached_flags, cached_outer, height_above, size_above, shape_over, tree_above, union}
use Rattle.ir_laws.specs.Limits.{Limits, capped, first_number}
use Rattle.ir_core.specs.declared.ids.SolverDefId.{SolverDefId}
use Rattle.ir_laws.specs.Tree.{Label, Var, Param, Node, End, Term}
use Rattle.ir_laws.specs.Word.{same_word}
use Rattle.ir_table.specs.declared.above.Above.{Above}
use Rattle.ir_table.specs.declared.info.CachedInfo.{CachedInfo}
use Rattle.ir_table.specs.Info.{size_in}
use Rattle.ir_table.specs.State.{State, capacity}

-- the index and the number that a term has by itself: a variable's
abbrev pub tree_index : Term → ℕ
tree_index (Var i n k) = i
tree_index (Param p) = 0
tree_index (Node l b ts) = 0

abbrev pub tree_number : Term → ℕ
tree_number (Var i n k) = n
tree_number (Param p) = 0
tree_number (Node l b ts) = elim (same_word l.word CanonicalVariable) [ true ↦ first_number l.fields | false ↦ 0 ]

-- what is kept beside a node is what is cached of it
pub record KeptAt (o : Option (Sketch Part)) (c : CachedInfo) : Type 0 where
  pub height : c.height ≡ option_map_or (λ s. s.height) o 0
  pub size : size_in c.size ≡ option_map_or (λ s. s.size) o 0
  pub flags : bits_of c.flags ≡ option_map_or (λ s. s.flags) o 0
  pub outer : c.outer_exclusive_binder.0 ≡ option_map_or (λ s. s.outer) o 0

abbrev pub KeptOf : Heap Part → Part → CachedInfo → Type 0
KeptOf h p c = KeptAt (h p) c

-- the label's tree without binder and kids
abbrev pub alone : Label SolverDefId → Term
alone l = plant (record { label = l; bind = None }) End

-- what is computed is that of the label alone, before it is counted itself
pub record IsOwn (l : Label SolverDefId) (a : Above) : Type 0 where
  pub height : a.height ≡ 0
  pub size : a.size ≡ own_size (record { label = l; bind = None })
  pub flags : bits_of a.flags ≡ flags (alone l)
  pub outer : a.outer ≡ outer (alone l)
  pub index : a.index ≡ tree_index (alone l)
  pub number : a.number ≡ tree_number (alone l)

-- what a variable with this index is by itself
abbrev pub variable_flags : BoundVarIndexKind → ℕ → ℕ
variable_flags (index.Bound i) flag = flag
variable_flags index.Canonical flag = bit_or flag HAS_CANONICAL_BOUND

abbrev pub variable_outer : BoundVarIndexKind → ℕ
variable_outer (index.Bound i) = i.0 + 1
variable_outer index.Canonical = 0

abbrev pub variable_index : BoundVarIndexKind → ℕ
variable_index (index.Bound i) = i.0
variable_index index.Canonical = 0

-- a leaf that holds nothing
pub record IsLeaf (a : Above) : Type 0 where
  pub height : a.height ≡ 1
  pub size : a.size ≡ 1
  pub flags : bits_of a.flags ≡ 0
  pub outer : a.outer ≡ 0
  pub index : a.index ≡ 0
  pub number : a.number ≡ 0

-- these kids more
pub record WithKids (h : Heap Part) (ps : List Part) (a b : Above) : Type 0 where
  pub height : b.height ≡ max a.height (largest (cached_height h) ps)
  pub size : min b.size size_cap ≡ min (a.size + total (cached_size h) ps) size_cap
  pub flags : bits_of b.flags ≡ bit_or (bits_of a.flags) (union (cached_flags h) ps)
  pub outer : b.outer ≡ max a.outer (largest (cached_outer h) ps)
  pub index : b.index ≡ a.index
  pub number : b.number ≡ a.number

-- the variables that the layer binds more
pub record WithVariables (h : Heap Part) (l : Layer Part) (a b : Above) : Type 0 where
  pub height : b.height ≡ a.height
  pub size : min b.size size_cap ≡ min (a.size + bind_size (shape_over h l).bind) size_cap
  pub flags : bits_of b.flags ≡ bit_or (bits_of a.flags) (binder_flag (shape_over h l).bind)
  pub outer : b.outer ≡ a.outer
  pub index : b.index ≡ a.index
  pub number : b.number ≡ a.number

-- what is computed is that of the layer
pub record IsAbove (h : Heap Part) (l : Layer Part) (a : Above) : Type 0 where
  pub height : a.height ≡ height_above h l
  pub size : a.size ≡ size_above h l
  pub flags : bits_of a.flags ≡ flags (tree_above h l)
  pub outer : a.outer ≡ outer (tree_above h l)
  pub index : a.index ≡ tree_index (tree_above h l)
  pub number : a.number ≡ tree_number (tree_above h l)

-- it passes no limit
abbrev pub is_low : Limits → Above → Bool
is_low limits a = nat_le a.height limits.height && (nat_le a.index limits.index && nat_le a.number limits.number)

-- it is what is kept; an outer binder is kept in 32 bits
pub record KeptAs (c : CachedInfo) (a : Above) : Type 0 where
  pub height : c.height ≡ a.height
  pub size : size_in c.size ≡ a.size
  pub flags : c.flags ≡ a.flags
  pub outer : c.outer_exclusive_binder.0 ≡ min a.outer (2 ^ 32 - 1)

-- why it may not be put in, where it isn't held
abbrev pub Forbids : State → Above → TermError → Type 0
Forbids s a error.TooDeep = is_low (capped s.limits) a ≡ false
Forbids s a error.TooMany = (is_low (capped s.limits) a ≡ true) × (capacity s ≤ s.count)
Forbids s a e = ⊥
