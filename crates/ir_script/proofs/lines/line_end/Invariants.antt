use Rattle.std.proofs.Common.{◌≡◌, ◌-◌, ◌≤◌, length, false}
use Rattle.std.specs.List.{slice_range}
use Rattle.ir_script.proofs.LineLemmas.{ends_line}
use Rattle.ir_script.proofs.lines.line_end.Given as goal

abbrev pub invariant-loop-end : goal.invariant-loop-end
invariant-loop-end l = record { order : l.start ≤ l.end; within : l.end ≤ length l.script; line : ends_line (slice_range l.script l.start l.end) ≡ false }

abbrev pub decreases-loop-end : goal.decreases-loop-end
decreases-loop-end l = length l.initial.script - l.end
