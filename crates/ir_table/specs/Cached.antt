-- What is kept beside a term.
use Rattle.std.specs.Prelude.{◌≡◌, ℕ, min, Bool, not, nat_eq, bit_and}
use Rattle.ir_core.specs.Flags.{bits_of}
use Rattle.ir_laws.specs.Counts.{flags, height, outer, size}
use Rattle.ir_laws.specs.Heap.{size_cap}
use Rattle.ir_laws.specs.Tree.{Term}
use Rattle.ir_table.specs.declared.info.CachedInfo.{CachedInfo}
use Rattle.ir_table.specs.Info.{size_in}

-- what is kept is what is counted over the tree
pub record Tells (t : Term) (c : CachedInfo) : Type 0 where
  pub height : c.height ≡ height t
  pub size : size_in c.size ≡ min size_cap (size t)
  pub flags : bits_of c.flags ≡ flags t
  pub outer : c.outer_exclusive_binder.0 ≡ outer t

-- one of these flags is among those
abbrev pub has_some_of : (these those : ℕ) → Bool
has_some_of these those = not (nat_eq (bit_and those these) 0)

-- the first sixteen flags but HAS_ERROR, by one of which a term isn't global
abbrev pub not_global : ℕ
not_global = 32767
