use Rattle.std.proofs.Common.{◌-◌, length, take, arith}
use Rattle.ir_table.proofs.LastLemmas.{some_types, front_then_last}
use Rattle.ir_table.proofs.lists.output.Goals as goal

pub overflow_sub-result : goal.overflow_sub-result
overflow_sub-result c = omega (arith, some_types c.args.cx.now c.args.tys c.requires.some c.as_slice-all.result.now c.as_slice-all.ensures)

pub bounds-all-all : goal.bounds-all-all
bounds-all-all c = omega (arith, some_types c.args.cx.now c.args.tys c.requires.some c.as_slice-all.result.now c.as_slice-all.ensures)

pub returns : goal.returns
returns c =
    let all = c.as_slice-all.result.now in
    (take (length all - 1) all, front_then_last c.args.cx.now c.args.tys c.requires.some all c.as_slice-all.ensures)
