-- The tables as a heap.
use Rattle.std.specs.Prelude.{ℕ, ◌+◌, List, length, Option, Some, None, slice_get, if◌then◌else◌}
use Rattle.ir_core.specs.declared.handles.Part.{Part}
use Rattle.ir_laws.specs.Heap.{Heap, Sketch}
use Rattle.ir_core.specs.declared.handles.PartSort.{PartSort}
use Rattle.ir_core.specs.declared.handles.PartSort.TheVariants as sort
use Rattle.ir_table.specs.declared.store.Tables.{Tables}
use Rattle.ir_nodes.specs.Fits.{is_of, layer_sort}
use Rattle.ir_core.specs.Parts.{index_in, sort_in}

-- the table that has the parts of the sort
abbrev pub table_of : Tables → PartSort → List (Sketch Part)
table_of t sort.Tys = t.type_lists
table_of t sort.GenericArgs = t.empty_lists
table_of t sort.PatList = t.empty_lists
table_of t sort.BoundExistentialPredicates = t.empty_lists
table_of t sort.Clauses = t.empty_lists
table_of t sort.RegionAssumptions = t.empty_lists
table_of t sort.BoundVarKinds = t.variable_lists
table_of t sort.VariancesOf = t.variance_lists
table_of t g = t.nodes

-- the node, where it is of the sort
abbrev pub only : PartSort → Option (Sketch Part) → Option (Sketch Part)
only g None = None
only g (Some s) = if is_of g (layer_sort s.layer) then Some s else None

-- the heap that the tables are
unfoldable pub heap_of : Tables → Heap Part
heap_of t p = only (sort_in p) (slice_get (table_of t (sort_in p)) (index_in p))

-- how many nodes the tables have
abbrev pub count_of : Tables → ℕ
count_of t = length t.nodes + length t.type_lists + length t.variable_lists + length t.variance_lists + length t.empty_lists
