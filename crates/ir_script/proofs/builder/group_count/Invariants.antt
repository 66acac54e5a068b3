use Rattle.std.proofs.Common.{◌≡◌, drop}
use Rattle.ir_syntax.specs.Steps.{group_count}
use Rattle.ir_script.proofs.builder.group_count.Given as goal

abbrev pub invariant-loop-part : goal.invariant-loop-part
invariant-loop-part l = group_count (drop l.part-index l.parts) ≡ group_count l.parts
