use Rattle.std.proofs.Common.{◌≡◌, ◌-◌, ◌≤◌, length, take}
use Rattle.std.specs.Io.KnownBytes.{append_known}
use Rattle.ir_cli.proofs.writing.write_all.Given as goal

abbrev pub invariant-loop-done : goal.invariant-loop-done
invariant-loop-done g l = record {
  in_bytes : l.done ≤ length l.bytes;
  counts : g.K.Sink.faults l.fn.sink ≤ g.K.Sink.faults l.sink;
  whole : g.K.Sink.empty_writes l.sink ≡ g.K.Sink.empty_writes l.fn.sink;
  taken : g.K.Sink.held l.sink ≡ append_known (g.K.Sink.held l.fn.sink) (take l.done l.bytes);
}

abbrev pub decreases-loop-done : goal.decreases-loop-done
decreases-loop-done g l = length l.bytes - l.done
