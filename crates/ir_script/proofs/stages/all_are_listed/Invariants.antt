use Rattle.std.proofs.Common.{◌≡◌, [], drop, map}
use Rattle.ir_laws.specs.Causes.{are_listed}
use Rattle.ir_laws.specs.Elaboration.{all_fit}
use Rattle.ir_laws.specs.Heap.{Each, IsLive, tree_of}
use Rattle.ir_table.specs.Interner.{heap}
use Rattle.ir_table.specs.Listed.{AreListed}
use Rattle.ir_script.proofs.stages.all_are_listed.Given as goal

abbrev pub invariant-loop-part : goal.invariant-loop-part
invariant-loop-part l = record {
  listed : AreListed (heap l.cx) l.listed;
  live : Each (IsLive (heap l.cx)) (drop l.part-index l.parts);
  same : all_fit (are_listed []) (map (tree_of (heap l.cx)) l.parts) ≡ all_fit (are_listed []) (map (tree_of (heap l.cx)) (drop l.part-index l.parts));
}
