use Rattle.std.proofs.Common.{◌≡◌, ◌-◌, ◌<◌, ◌≤◌, length, vec_len}
use Rattle.std.specs.Io.KnownBytes.{prepend_known}
use Rattle.ir_cli.proofs.reading.read_pieces.Given as goal

abbrev pub invariant-loop-bytes : goal.invariant-loop-bytes
invariant-loop-bytes g l = record {
  has_room : 0 < length l.piece;
  within : vec_len l.bytes ≤ 16777217;
  turns : g.S.Source.empty_reads l.source ≡ g.S.Source.empty_reads l.fn.source;
  counts : g.S.Source.faults l.fn.source ≤ g.S.Source.faults l.source;
  given : g.S.Source.left l.fn.source ≡ prepend_known l.bytes.items (g.S.Source.left l.source);
}

-- how many bytes may still come
abbrev pub decreases-loop-bytes : goal.decreases-loop-bytes
decreases-loop-bytes g l = 16777217 - vec_len l.bytes
