use Rattle.std.proofs.Common.{◌+◌, ◌≤◌, length, take, arith}
use Rattle.std.proofs.lemmas.List.{length-take}
use Rattle.ir_cli.proofs.ReadLemmas.{gives_more}
use Rattle.ir_cli.proofs.reading.read_pieces.Goals as goal

pub returns-in_err-append_piece-clause-given : goal.returns-in_err-append_piece-clause-given
returns-in_err-append_piece-clause-given g c =
    let room = c.min-room.result in
    let fits : length c.loop-bytes.bytes.items + length (take room c.loop-bytes.piece) ≤ 16777217 =
    omega (arith, c.loop-bytes.bytes.ok.0, c.min-room.ensures, c.len-in-loop-bytes.ensures, length-take room c.loop-bytes.piece) in
    gives_more _ 16777217 c.loop-bytes.bytes.items _ _ _ fits c.loop-bytes.invariant.given c.append_piece.ensures.given

pub returns-clause-given : goal.returns-clause-given
returns-clause-given g c = (c.loop-bytes.bytes.items, omega (arith, c.loop-bytes.bytes.ok.0), c.loop-bytes.invariant.given)
