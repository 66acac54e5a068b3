use Rattle.std.proofs.Common.{◌≡◌, length, take}
use Rattle.ir_table.specs.Interner.{stored}
use Rattle.ir_table.specs.Start.{leaves, name_leaves}
use Rattle.ir_table.proofs.StartLemmas.{Made}
use Rattle.ir_table.proofs.store.Store.start_leaves.Given as goal

abbrev pub invariant-loop-place : goal.invariant-loop-place
invariant-loop-place l = record {
  all : length l.indices ≡ 36;
  made : Made (stored l.fn.self) l.self (name_leaves (take l.place l.indices) leaves);
}
