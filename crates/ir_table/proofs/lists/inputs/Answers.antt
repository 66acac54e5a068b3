use Rattle.std.proofs.Common.{◌-◌, length, get_or, arith}
use Rattle.ir_table.proofs.LastLemmas.{some_types, front_then_last}
use Rattle.ir_table.proofs.lists.inputs.Goals as goal

pub slice_bounds-result-count : goal.slice_bounds-result-count
slice_bounds-result-count c = omega (arith, some_types c.args.cx.now c.args.tys c.requires.some c.as_slice-all.result.now c.as_slice-all.ensures)

pub returns : goal.returns
returns c =
    let all = c.as_slice-all.result.now in
    (get_or all (length all - 1) (record { index = 0 }), front_then_last c.args.cx.now c.args.tys c.requires.some all c.as_slice-all.ensures)
