-- Terms that stand already.
use Rattle.std.proofs.Common.{true, ◌≡◌, List, inl, Ok, refl}
use Rattle.ir_laws.specs.Held.{Stands}
use Rattle.ir_laws.specs.Parts.{is_part}
use Rattle.ir_laws.specs.Tree.{Term}
use Rattle.ir_laws.proofs.HeapLemmas.{Grows-refl}
use Rattle.ir_table.specs.State.{State, Makes}

-- a call that finds all these trees held makes none
pub makes_standing : {T : Type 0} (s : State) (ts : List Term) (x : T) → ((t : Term) → is_part ts t ≡ true → Stands s.heap t) → Makes s s ts (Ok x)
makes_standing s ts x stand = record {
  grows = Grows-refl s.heap;
  only = λ p here. inl here;
  all = stand;
  too_deep = λ e. absurd (cc e);
  too_many = λ e. absurd (cc e);
  causes = tt;
  limits = refl;
}
