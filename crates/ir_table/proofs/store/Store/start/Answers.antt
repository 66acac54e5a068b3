use Rattle.std.proofs.Common.{◌++◌, take, drop, refl, sym, subst, arith}
use Rattle.ir_laws.specs.Heap.{Each}
use Rattle.ir_table.specs.Heaps.{heap_of}
use Rattle.ir_table.specs.Start.{Names, leaves, name_leaves, named_compounds}
use Rattle.ir_table.proofs.StartLemmas.{after, refused_by, made, Each-append, Each-split, leaf_at, names_each_later}
use Rattle.ir_table.proofs.store.Store.start.Goals as goal

pub returns-in_err-indices-clause-makes : goal.returns-in_err-indices-clause-makes
returns-in_err-indices-clause-makes c = refused_by c.from_residual.result c.in_err-indices.ensures.makes c.from_residual.ensures.1 refl

pub start_compounds-requires-clause-members : goal.start_compounds-requires-clause-members
start_compounds-requires-clause-members c = leaf_at (heap_of c.start_leaves.new.self.tables) c.in_ok-indices.indices leaves 25 _ c.in_ok-indices.ensures.names (omega arith) refl

pub start_compounds-requires-clause-statik : goal.start_compounds-requires-clause-statik
start_compounds-requires-clause-statik c = leaf_at (heap_of c.start_leaves.new.self.tables) c.in_ok-indices.indices leaves 23 _ c.in_ok-indices.ensures.names (omega arith) refl

pub start_compounds-requires-clause-str : goal.start_compounds-requires-clause-str
start_compounds-requires-clause-str c = leaf_at (heap_of c.start_leaves.new.self.tables) c.in_ok-indices.indices leaves 18 _ c.in_ok-indices.ensures.names (omega arith) refl

pub returns-in_err-compounds-clause-makes : goal.returns-in_err-compounds-clause-makes
returns-in_err-compounds-clause-makes c = refused_by c.from_residual-in_err-compounds.result (after c.in_ok-indices.ensures.makes c.in_err-compounds.ensures.makes) c.from_residual-in_err-compounds.ensures.1 refl

pub returns-clause-makes : goal.returns-clause-makes
returns-clause-makes c = made _ (after c.in_ok-indices.ensures.makes c.in_ok-compounds.ensures.makes) refl refl

pub returns-clause-names : goal.returns-clause-names
returns-clause-names c =
    let h = heap_of c.start_compounds.new.self.tables in
    let first = name_leaves c.in_ok-indices.indices leaves in
    let compounds = named_compounds c.in_ok-compounds.compounds.unit c.in_ok-compounds.compounds.static_str_ref c.in_ok-compounds.compounds.mut_unit_ptr in
    let leaves_named = Each-split (Names h) 21 first (names_each_later c.in_ok-compounds.ensures.makes.grows first c.in_ok-indices.ensures.names) in
    subst (Each (Names h)) (sym c.default_any.ensures)
    (Each-append (Names h) (take 21 first ++ compounds) (drop 21 first) (Each-append (Names h) (take 21 first) compounds leaves_named.0 c.in_ok-compounds.ensures.names) leaves_named.1)
