use Rattle.std.proofs.Common.{◌≡◌, ◌≤◌, true, length, ◌-◌}
use Rattle.std.specs.List.{slice_range}
use Rattle.ir_syntax.specs.Nesting.{are_word_bytes}
use Rattle.ir_syntax.proofs.tokens.word_end.Given as goal

abbrev pub invariant-loop-end : goal.invariant-loop-end
invariant-loop-end l = record { order : l.start ≤ l.end; within : l.end ≤ length l.text; word : are_word_bytes (slice_range l.text l.start l.end) ≡ true }

abbrev pub decreases-loop-end : goal.decreases-loop-end
decreases-loop-end l = length l.text - l.end
