use Rattle.std.proofs.Common.{◌≡◌, ◌+◌, ◌≤◌, length, drop}
use Rattle.ir_laws.specs.Formed.{kid_forms}
use Rattle.ir_syntax.proofs.fields.kid_count.Given as goal

abbrev pub invariant-loop-part : goal.invariant-loop-part
invariant-loop-part l = record {
  so_far : l.count + length (kid_forms (drop l.part-index l.parts)) ≡ length (kid_forms l.parts);
  few : l.count ≤ l.part-index;
}
