use Rattle.std.proofs.Common.{◌≡◌, drop}
use Rattle.ir_script.specs.LookedUp.{sort_of_sorts}
use Rattle.ir_script.proofs.names.first_sort.Given as goal

abbrev pub invariant-loop-sort : goal.invariant-loop-sort
invariant-loop-sort l = sort_of_sorts (drop l.sort-index l.sorts) ≡ sort_of_sorts l.sorts
