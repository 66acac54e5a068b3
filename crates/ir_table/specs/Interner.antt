-- The tables of an interner as a state.
use Rattle.std.specs.Prelude.{◌≡◌, ℕ, ◌+◌, ◌-◌, ◌^◌, min, List}
use Rattle.ir_core.specs.declared.handles.Part.{Part}
use Rattle.ir_core.specs.declared.handles.Part.TheVariants as part
use Rattle.ir_core.specs.declared.handles.Ty.{Ty}
use Rattle.ir_core.specs.declared.handles.Tys.{Tys}
use Rattle.ir_core.specs.declared.limit.Limits.{Limits as GivenLimits}
use Rattle.ir_laws.specs.Heap.{HasNode, Heap}
use Rattle.ir_table.specs.Heaps.{count_of, heap_of}
use Rattle.ir_nodes.specs.Nodes.{tys_layer}
use Rattle.ir_table.specs.Limits.{limits_seen}
use Rattle.ir_table.specs.declared.Interner.{Interner}
use Rattle.ir_table.specs.declared.store.Store.{Store}
use Rattle.ir_table.specs.declared.store.Tables.{Tables}
use Rattle.ir_table.specs.State.{State}

abbrev pub state_of : Tables → GivenLimits → State
state_of t limits = record { heap = heap_of t; count = count_of t; limits = limits_seen limits }

abbrev pub stored : Store → State
stored s = state_of s.tables s.limits

abbrev pub heap : Interner → Heap Part
heap cx = heap_of cx.store.tables

abbrev pub state : Interner → State
state cx = stored cx.store

-- how many making calls were asked
abbrev pub asked : Interner → ℕ
asked cx = cx.store.asked

-- one making call more was asked, or the count stands at its last value
abbrev pub rises : ℕ → ℕ
rises n = min (n + 1) (2 ^ 64 - 1)

abbrev pub Asks : (old new : Interner) → Type 0
Asks old new = asked new ≡ rises (asked old)

-- the handle's list has these types
abbrev pub HasTypes : Interner → Tys → List Ty → Type 0
HasTypes cx tys all = HasNode (heap cx) (part.Tys tys) (tys_layer all)
