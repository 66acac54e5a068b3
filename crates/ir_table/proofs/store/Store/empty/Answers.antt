use Rattle.std.proofs.Common.{◌≡◌, ◌∙◌, ap, refl, sym, is_some, true≢false, arith, [], None}
use Rattle.ir_core.specs.declared.handles.Part.{Part}
use Rattle.ir_core.specs.declared.handles.Part.TheVariants as part
use Rattle.ir_laws.specs.Heap.{IsSound}
use Rattle.ir_laws.proofs.HeldLemmas.{none_counted}
use Rattle.ir_table.specs.declared.store.Tables.{Tables}
use Rattle.ir_table.specs.Heaps.{heap_of}
use Rattle.ir_table.proofs.store.Store.empty.Goals as goal

abbrev no_tables : Tables
no_tables = record { nodes = []; type_lists = []; variable_lists = []; variance_lists = []; empty_lists = [] }

nothing_held : (p : Part) → heap_of no_tables p ≡ None
unfolding heap_of
nothing_held = elim [ part.Ty h ↦ refl | _ ↦ refl ]

nothing_sound : IsSound (heap_of no_tables)
nothing_sound = record {
  node = λ p s e. absurd (cc (nothing_held p));
  height = λ p s e. absurd (cc (nothing_held p));
  size = λ p s e. absurd (cc (nothing_held p));
  flags = λ p s e. absurd (cc (nothing_held p));
  outer = λ p s e. absurd (cc (nothing_held p));
  distinct = λ p q s t e f a. absurd (cc (nothing_held p));
}

pub invariant_of-result : goal.invariant_of-result
invariant_of-result c = rw (c.new.ensures, c.new-2.ensures, c.new-3.ensures, c.new-4.ensures, c.new-5.ensures) (record {
  sound = nothing_sound;
  fits = λ p s e. absurd (cc (nothing_held p));
  counted = none_counted (heap_of no_tables) nothing_held;
  few = omega arith;
  low = λ p live. absurd (true≢false (sym live ∙ ap is_some (nothing_held p)));
})

pub returns-clause-heap : goal.returns-clause-heap
returns-clause-heap c = λ p. rw (c.new.ensures, c.new-2.ensures, c.new-3.ensures, c.new-4.ensures, c.new-5.ensures) (nothing_held p)
