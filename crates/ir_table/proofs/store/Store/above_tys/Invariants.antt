use Rattle.std.proofs.Common.{◌<◌, ◌≤◌, ◌^◌, drop}
use Rattle.ir_laws.specs.Heap.{Each, IsLive, size_cap}
use Rattle.ir_table.specs.declared.above.Above.{Above}
use Rattle.ir_table.specs.Above.{WithKids}
use Rattle.ir_table.specs.Heaps.{heap_of}
use Rattle.ir_nodes.specs.Nodes.{tys_kids}
use Rattle.ir_table.proofs.store.Store.above_tys.Given as goal

abbrev pub invariant-loop-ty : goal.invariant-loop-ty
invariant-loop-ty l = record {
  live : Each (IsLive (heap_of l.self.tables)) (drop l.ty-index (tys_kids l.tys));
  low : l.above.height < 2 ^ 32;
  capped : l.above.size ≤ size_cap;
  rest : (b : Above) → WithKids (heap_of l.self.tables) (drop l.ty-index (tys_kids l.tys)) l.above b → WithKids (heap_of l.self.tables) (tys_kids l.tys) l.initial.above b;
}
