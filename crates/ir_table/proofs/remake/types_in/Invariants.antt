use Rattle.std.proofs.Common.{◌≡◌, ◌++◌, true, drop, length}
use Rattle.smallvec.specs.SmallVec.{HasRoomFor}
use Rattle.ir_nodes.specs.Fits.{are_types}
use Rattle.ir_nodes.specs.Nodes.{tys_kids}
use Rattle.ir_table.proofs.remake.types_in.Given as goal

abbrev pub invariant-loop-part : goal.invariant-loop-part
invariant-loop-part l = record {
  came : tys_kids l.types.items ++ drop l.part-index l.parts ≡ l.parts;
  types : are_types (drop l.part-index l.parts) ≡ true;
  room : HasRoomFor l.types (length (drop l.part-index l.parts));
}
