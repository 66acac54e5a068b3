-- What is kept beside a node.
use Rattle.std.specs.Prelude.{ℕ, ◌+◌, ◌*◌, ◌^◌}
use Rattle.ir_core.specs.Flags.{bits_of}
use Rattle.ir_core.specs.declared.handles.Part.{Part}
use Rattle.ir_laws.specs.Heap.{Layer, Sketch}
use Rattle.ir_table.specs.declared.info.CachedInfo.{CachedInfo}
use Rattle.ir_table.specs.declared.info.CachedSize.{CachedSize}

-- the size that the two halves are
abbrev pub size_in : CachedSize → ℕ
size_in s = s.high * 2 ^ 32 + s.low

-- the node of a layer with its cached info
abbrev pub sketch : Layer Part → CachedInfo → Sketch Part
sketch l c = record { layer = l; height = c.height; size = size_in c.size; flags = bits_of c.flags; outer = c.outer_exclusive_binder.0 }
