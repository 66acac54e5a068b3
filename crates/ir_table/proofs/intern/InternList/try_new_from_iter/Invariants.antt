use Rattle.std.proofs.Common.{◌≡◌, map, Ok}
use Rattle.ir_table.proofs.intern.InternList.try_new_from_iter.Given as goal

abbrev pub invariant-loop-item : goal.invariant-loop-item
invariant-loop-item g l =
    (goal.iterator-loop-item g).can_next l.item-iterator ×
    (goal.iterator-loop-item g).is_finite l.item-iterator ×
    (l.yielded ≡ map Ok l.all.items) ×
    (l.cx ≡ l.fn.cx)
