use Rattle.std.proofs.Common.{◌≡◌, ◌+◌, ◌-◌, length, suc, arith, ap}
use Rattle.std.proofs.lemmas.Grind.{common_steps}
use Rattle.ir_script.proofs.PendingLemmas.{open_less}
use Rattle.ir_script.proofs.sorts.next_place.Goals as goal

pub returns-else-run-eq0-clause-places : goal.returns-else-run-eq0-clause-places
returns-else-run-eq0-clause-places c =
    let xs = c.args.pending.now.items in
    let run = c.index-run.result.now in
    let last : (c.len-last.result - 1) + 1 ≡ length xs = grind (arith, common_steps) in
    let same : c.index_mut.result.now ≡ run = grind (arith, common_steps) in
    let more : suc (run.more - 1) ≡ run.more = omega (arith, c.if-run-eq0.false) in
    open_less xs (c.len-last.result - 1) run _ last c.index-run.ensures (ap (λ r. r.wanted) same) more
