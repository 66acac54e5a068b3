use Rattle.std.proofs.Common.{ap}
use Rattle.ir_laws.specs.Heap.{tree_of}
use Rattle.ir_laws.proofs.HeapLemmas.{tree_of-injective}
use Rattle.ir_table.specs.Interner.{heap}
use Rattle.ir_table.proofs.laws.equal_handles.Goals as goal

pub returns-clause-handles : goal.returns-clause-handles
returns-clause-handles g c = λ cx x y p q. (
  ap (λ t. tree_of (heap cx) (g.T.Handle.part t)),
  λ e. g.met.T.Handle.part_injective x y (tree_of-injective (heap cx) cx.store.sound (g.T.Handle.part x) (g.T.Handle.part y) p q e),
)

pub returns-clause-parts : goal.returns-clause-parts
returns-clause-parts g c = λ cx x y p q. (ap (tree_of (heap cx)), tree_of-injective (heap cx) cx.store.sound x y p q)
