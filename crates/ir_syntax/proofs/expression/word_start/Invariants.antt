use Rattle.std.proofs.Common.{◌≡◌, ◌≤◌, true}
use Rattle.std.specs.List.{slice_range}
use Rattle.ir_syntax.specs.Nesting.{are_word_bytes}
use Rattle.ir_syntax.proofs.expression.word_start.Given as goal

abbrev pub invariant-loop-start : goal.invariant-loop-start
invariant-loop-start l = record { within : l.start ≤ l.end; word : are_word_bytes (slice_range l.line l.start l.end) ≡ true }

abbrev pub decreases-loop-start : goal.decreases-loop-start
decreases-loop-start l = l.start
