-- What a sort's table is among the tables.
use Rattle.std.specs.Prelude.{◌≡◌, ◌+◌, ◌≤◌, Bool, true, false, List, [], ◌∷◌, ◌++◌, length, Option, None, Some}
use Rattle.ir_core.specs.declared.handles.Part.{Part}
use Rattle.ir_laws.specs.Heap.{Sketch}
use Rattle.ir_core.specs.declared.handles.PartSort.{PartSort}
use Rattle.ir_table.specs.declared.store.Tables.{Tables}
use Rattle.ir_table.specs.Heaps.{count_of, table_of}

-- `entries` is the table that has the parts of the sorts that it owns, and `put` gives it other nodes
pub record IsTable (owns : PartSort → Bool) (entries : Tables → List (Sketch Part)) (put : Tables → List (Sketch Part) → Tables) : Type 0 where
  pub back : (t : Tables) → put t (entries t) ≡ t
  pub own : (t : Tables) (es : List (Sketch Part)) (g : PartSort) → owns g ≡ true → table_of (put t es) g ≡ es
  pub other : (t : Tables) (es : List (Sketch Part)) (g : PartSort) → owns g ≡ false → table_of (put t es) g ≡ table_of t g
  pub count : (t : Tables) (es : List (Sketch Part)) (s : Sketch Part) → count_of (put t (es ++ s ∷ [])) ≡ count_of (put t es) + 1
  pub few : (t : Tables) → length (entries t) ≤ count_of t

-- the table has the parts of the sort
abbrev pub is_owned : (PartSort → Bool) → Option PartSort → Bool
is_owned owns None = false
is_owned owns (Some g) = owns g
