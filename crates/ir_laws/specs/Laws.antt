-- The laws of readings, as statements.
use Rattle.std.specs.Prelude.{◌≡◌, ◌≢◌, ℕ, ◌<◌, List, [], ◌∷◌, ◌++◌, map, length, Option, Some, None, All, AllPairs}
use Rattle.ir_core.specs.declared.ids.SolverDefId.{SolverDefId}
use Rattle.ir_laws.specs.Tree.{Kind, Label, Node, Term, Terms}
use Rattle.ir_laws.specs.Counts.{outer}
use Rattle.ir_laws.specs.Reading.{Named, Placed, Closure, at_level, Frame, Put, Repl, read, read_under, plain, back}
use Rattle.ir_laws.specs.Form.{Replacement}
use Rattle.ir_laws.specs.CommandReading.{under_no_frame, body, replaced_by, open_reading, subst_reading, shift_reading, renumber_reading, anon_reading, super_reading, term_of}
use Rattle.ir_laws.specs.DeBruijn.{shifted, replaced, given}
use Rattle.ir_laws.specs.Scoping.{IsScoped, AreFramed, AreAnswers}

-- back of the plain reading is the term
abbrev pub ReadsBack : Type 0
ReadsBack = (t : Term) → back (plain t) 0 ≡ t

-- read n binders further out, a term is shifted
abbrev pub OutIsShifted : Type 0
OutIsShifted = (t : Term) (n : ℕ) → term_of (shift_reading n t) ≡ shifted n 0 t

-- closures under no frame, by number and kind
abbrev pub answered_by : (ℕ → Kind SolverDefId → Term) → ℕ → Kind SolverDefId → Closure
answered_by m n k = under_no_frame (m n k)

-- read under answers, and as many binders further out as there are answers, the variables of the outermost open binder are replaced
abbrev pub ReplIsReplaced : Type 0
ReplIsReplaced = (t : Term) (m : ℕ → Kind SolverDefId → Term) → back (read t (Repl (answered_by m) ∷ []) None 1 0) 0 ≡ replaced 0 m t

-- the term that stands for a variable
abbrev pub replacement_by : List (Replacement Term) → ℕ → Kind SolverDefId → Term
replacement_by rs n k = (replaced_by rs n k).term

-- `open` of a closed binder replaces the variables of its body
abbrev pub OpenIsReplaced : Type 0
OpenIsReplaced = (l : Label SolverDefId) (ks : List (Kind SolverDefId)) (ts : Terms) (rs : List (Replacement Term)) → outer (Node l (Some ks) ts) ≡ 0 → term_of (open_reading (Node l (Some ks) ts) rs) ≡ replaced 0 (replacement_by rs) (body (Node l (Some ks) ts))

-- under frames that are all places, both readings are one
abbrev pub PlacesReadAlike : Type 0
PlacesReadAlike = (t : Term) (ps : List Placed) (out d : ℕ) → read t (map Put ps) None out d ≡ read_under t ps out d

-- read under arguments, the parameters are given
abbrev pub ArgumentsAreGiven : Type 0
ArgumentsAreGiven = (t : Term) (as' : List Term) → term_of (subst_reading t as') ≡ given 0 as' t

-- frames that are these levels
abbrev pub level_frames : List ℕ → List Frame
level_frames ls = map (λ l. Put (at_level l)) ls

-- terms with equal readings under the same frames of distinct levels below d are equal
abbrev pub ReadsApart : Type 0
ReadsApart = (ls : List ℕ) (d out : ℕ) (a b : Term) → All (λ l. l < d) ls → AllPairs (λ x y. x ≢ y) ls → read a (level_frames ls) None out d ≡ read b (level_frames ls) None out d → a ≡ b

-- each named tree that is well scoped at 0 is the plain reading of its back
abbrev pub IsReading : Type 0
IsReading = (t : Named) → IsScoped t 0 → plain (back t 0) ≡ t

-- each reading under frames and arguments inside of d binders is well scoped there
abbrev pub ReadsScoped : Type 0
ReadsScoped = (t : Term) (fs : List Frame) (ps : Option (List Closure)) (out d : ℕ) → AreFramed fs d → AreAnswers ps d → IsScoped (read t fs ps out d) d

-- a term that was put under more binders reads under their frames as it did without them
abbrev pub ShiftReads : Type 0
ShiftReads = (t : Term) (gs ps : List Placed) (out d : ℕ) → read_under (shifted (length gs) 0 t) (gs ++ ps) out d ≡ read_under t ps out d

-- the reading of each command is well scoped at 0
abbrev pub OpenIsScoped : Type 0
OpenIsScoped = (b : Term) (rs : List (Replacement Term)) → IsScoped (open_reading b rs) 0

abbrev pub SubstIsScoped : Type 0
SubstIsScoped = (t : Term) (as' : List Term) → IsScoped (subst_reading t as') 0

abbrev pub ShiftIsScoped : Type 0
ShiftIsScoped = (n : ℕ) (t : Term) → IsScoped (shift_reading n t) 0

abbrev pub RenumberIsScoped : Type 0
RenumberIsScoped = (n : ℕ) (t : Term) → IsScoped (renumber_reading n t) 0

abbrev pub AnonIsScoped : Type 0
AnonIsScoped = (b : Term) → IsScoped (anon_reading b) 0

abbrev pub SuperIsScoped : Type 0
SuperIsScoped = (c t : Term) → IsScoped (super_reading c t) 0

-- a well-scoped reading is the plain reading of its term, and of no other
abbrev pub IsTheOnlyTerm : Type 0
IsTheOnlyTerm = (reading : Named) → IsScoped reading 0 → (plain (term_of reading) ≡ reading) × ((t : Term) → plain t ≡ reading → t ≡ term_of reading)
