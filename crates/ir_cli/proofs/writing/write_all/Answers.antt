use Rattle.std.proofs.Common.{◌∙◌, arith, length-drop}
use Rattle.std.proofs.lemmas.Result.{err_from_is_err_and}
use Rattle.std.proofs.lemmas.List.{take_rest}
use Rattle.ir_core.proofs.StreamLemmas.{append_known-more, HoldsFront-more}
use Rattle.ir_cli.proofs.writing.write_all.Goals as goal

pub returns-in_err-done-clause-front : goal.returns-in_err-done-clause-front
returns-in_err-done-clause-front g c =
    let p = err_from_is_err_and c.from_residual.result c.from_residual.ensures.1 in
    rw p.1 (HoldsFront-more _ _ _ c.args.bytes.now _ c.loop-done.done (take_rest c.args.bytes.now c.loop-done.done) c.loop-done.invariant.taken c.in_err-done.ensures.front)

pub loop-done-preserved : goal.loop-done-preserved
loop-done-preserved g c = record {
  in_bytes = omega (arith, c.in_ok-done.ensures.ok.fits, length-drop c.loop-done.done c.args.bytes.now);
  counts = omega (arith, c.write.ensures.counts.kept);
  whole = c.write.ensures.whole (omega (arith, length-drop c.loop-done.done c.args.bytes.now)) ∙ c.loop-done.invariant.whole;
  taken = append_known-more _ _ _ c.args.bytes.now _ c.loop-done.done c.in_ok-done.field-0 (take_rest c.args.bytes.now c.loop-done.done) c.loop-done.invariant.taken c.in_ok-done.ensures.ok.taken;
}
