-- The reading of each command, and its term.
use Rattle.std.specs.Prelude.{ℕ, true, false, List, [], ◌∷◌, ◌++◌, map, length, find, Some, None, nat_eq}
use Rattle.ir_core.specs.declared.ids.SolverDefId.{SolverDefId}
use Rattle.ir_laws.specs.declared.words.Word.TheVariants.{UnsafeBinderType}
use Rattle.ir_laws.specs.Word.{same_word}
use Rattle.ir_laws.specs.Tree.{Kind, Var, Node, End, And, Term, Terms, term_list}
use Rattle.ir_laws.specs.Counts.{used, bind_at_top}
use Rattle.ir_laws.specs.Reading.{Level, Outside, Named, Plus, Anonymous, without_name, Closure, at_level, Put, Repl, read, reads, back}
use Rattle.ir_laws.specs.Form.{Replacement}

-- a term under no frame
abbrev pub under_no_frame : Term → Closure
under_no_frame t = record { term = t; frames = [] }

-- the first kid, if there is one
abbrev pub first_or : Term → Terms → Term
first_or t End = t
first_or t (And u us) = u

-- a term without the binder at its top: of an unsafe binder the kid itself, of every other node the node without `bind`
abbrev pub body : Term → Term
body (Node l b ts) = elim (same_word l.word UnsafeBinderType) [ true ↦ first_or (Node l None ts) ts | false ↦ Node l None ts ]
body t = t

-- A replacement answers for its number. By then the variable has its listed kind and there is a replacement; without one the variable would stay
abbrev pub replaced_by : List (Replacement Term) → ℕ → Kind SolverDefId → Closure
replaced_by rs n k = elim (find (λ r. nat_eq r.number n) rs) [ Some r ↦ under_no_frame r.term | None ↦ under_no_frame (Var 0 n k) ]

-- the body under the replacements; what is bound further out counts from one binder less
abbrev pub open_reading : Term → List (Replacement Term) → Named
open_reading b rs = read (body b) (Repl (replaced_by rs) ∷ []) None 0 0

-- the declared term under its arguments
abbrev pub subst_reading : Term → List Term → Named
subst_reading declared arguments = read declared [] (Some (map under_no_frame arguments)) 0 0

-- the term read n binders further out
abbrev pub shift_reading : ℕ → Term → Named
shift_reading n t = read t [] None n 0

-- the outermost open binder is a frame, so the rest stands one further out
abbrev pub renumber_reading : ℕ → Term → Named
renumber_reading n t = read t (Put (record { place = Outside 0; by = Plus n }) ∷ []) None 1 0

-- the numbers of the own binder that are used, in order of first occurrence
abbrev pub used_numbers : Term → List ℕ
used_numbers b = map (λ v. v.number) (used b)

-- their kinds without names
abbrev pub used_kinds : Term → List (Kind SolverDefId)
used_kinds b = map (λ v. without_name v.kind) (used b)

-- the same node, which binds the used variables alone, numbered by first occurrence
abbrev pub anon_reading : Term → Named
anon_reading (Node l b ts) = Node l (Some (used_kinds (Node l b ts))) (reads ts (Put (record { place = Level 0; by = Anonymous (used_numbers (Node l b ts)) }) ∷ []) None 0 1)
anon_reading t = read t [] None 0 0

-- the variables that the term's top binds
abbrev pub bound_kinds : Term → List (Kind SolverDefId)
bound_kinds t = elim (bind_at_top t) [ Some ks ↦ ks | None ↦ [] ]

-- the arguments of a trait clause
abbrev pub arguments_of : Term → List Term
arguments_of (Node l b (And (Node m c ts) us)) = term_list ts
arguments_of t = []

-- a term under the binder of the new node
abbrev pub at_top : Term → Closure
at_top t = record { term = t; frames = at_level 0 ∷ [] }

-- the clause under the trait clause's variables and then its own, with that clause's arguments
abbrev pub super_reading : Term → Term → Named
super_reading (Node l b ts) t = Node l (Some (bound_kinds t ++ bound_kinds (Node l b ts))) (reads ts (Put (record { place = Level 0; by = Plus (length (bound_kinds t)) }) ∷ []) (Some (map at_top (arguments_of t))) 0 1)
super_reading c t = read c [] None 0 0

-- the command's term
abbrev pub term_of : Named → Term
term_of reading = back reading 0
