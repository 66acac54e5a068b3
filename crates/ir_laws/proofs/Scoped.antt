-- A reading is well scoped.
use Rattle.std.proofs.Common.{ℕ, zero, suc, ◌+◌, List, [], ◌∷◌, Option, Some, None, map, length, arith}
use Rattle.std.specs.Prelude.{slice_get, nat_eq, find}
use Rattle.ir_core.specs.declared.ids.SolverDefId.{SolverDefId}
use Rattle.ir_laws.specs.Tree.{Kind, Parameter, Var, Param, Node, End, And, Term, Terms}
use Rattle.ir_laws.specs.Reading.{Plus, Anonymous, Place, Level, Outside, Placed, outside, at_level, look, read_under, reads_under, Closure, Frame, Put, Repl, frame_var, read_argument, read_param, read, reads}
use Rattle.ir_laws.specs.Form.{Replacement}
use Rattle.ir_laws.specs.CommandReading.{under_no_frame, body, replaced_by, used_numbers, bound_kinds, arguments_of, at_top}
use Rattle.ir_laws.specs.Laws.{OpenIsScoped, SubstIsScoped, ShiftIsScoped, RenumberIsScoped, AnonIsScoped, SuperIsScoped}
use Rattle.ir_laws.specs.Scoping.{IsPlaceIn, IsScoped, AreScoped, ArePlaced, IsFramed, AreFramed, AreClosed, AreAnswers}

-- one more binder
place_deeper : (p : Place) (d : ℕ) → IsPlaceIn p d → IsPlaceIn p (suc d)
place_deeper (Level l) d h = omega arith
place_deeper (Outside k) d h = tt

placed_deeper : (ps : List Placed) (d : ℕ) → ArePlaced ps d → ArePlaced ps (suc d)
placed_deeper [] d h = tt
placed_deeper (p ∷ ps) d h = (place_deeper p.place d h.0, placed_deeper ps d h.1)

frame_deeper : (f : Frame) (d : ℕ) → IsFramed f d → IsFramed f (suc d)
frame_deeper (Put p) d h = place_deeper p.place d h
frame_deeper (Repl answer) d h = λ n k. placed_deeper (answer n k).frames d (h n k)

frames_deeper : (fs : List Frame) (d : ℕ) → AreFramed fs d → AreFramed fs (suc d)
frames_deeper [] d h = tt
frames_deeper (f ∷ fs) d h = (frame_deeper f d h.0, frames_deeper fs d h.1)

closed_deeper : (cs : List Closure) (d : ℕ) → AreClosed cs d → AreClosed cs (suc d)
closed_deeper [] d h = tt
closed_deeper (c ∷ cs) d h = (placed_deeper c.frames d h.0, closed_deeper cs d h.1)

answers_deeper : (ps : Option (List Closure)) (d : ℕ) → AreAnswers ps d → AreAnswers ps (suc d)
answers_deeper None d h = tt
answers_deeper (Some cs) d h = closed_deeper cs d h

place_found : (out : ℕ) (ps : List Placed) (i d : ℕ) → ArePlaced ps d → IsPlaceIn (look (λ r. outside (r + out)) ps i).place d
place_found out [] i d h = tt
place_found out (p ∷ ps) zero d h = h.0
place_found out (p ∷ ps) (suc i) d h = place_found out ps i d h.1

mutual
  scoped_under : (t : Term) (ps : List Placed) (out d : ℕ) → ArePlaced ps d → IsScoped (read_under t ps out d) d
  scoped_under (Var i n k) ps out d h = place_found out ps i d h
  scoped_under (Param p) ps out d h = tt
  scoped_under (Node l None ts) ps out d h = all_scoped_under ts ps out d h
  scoped_under (Node l (Some b) ts) ps out d h = all_scoped_under ts (at_level d ∷ ps) out (suc d) (omega arith, placed_deeper ps d h)

  all_scoped_under : (ts : Terms) (ps : List Placed) (out d : ℕ) → ArePlaced ps d → AreScoped (reads_under ts ps out d) d
  all_scoped_under End ps out d h = tt
  all_scoped_under (And t ts) ps out d h = (scoped_under t ps out d h, all_scoped_under ts ps out d h)

var_scoped : (out : ℕ) (fs : List Frame) (i n : ℕ) (k : Kind SolverDefId) (d : ℕ) → AreFramed fs d → IsScoped (frame_var (look (λ r. Put (outside (r + out))) fs i) n k d) d
var_scoped out [] i n k d h = tt
var_scoped out (Put p ∷ fs) zero n k d h = h.0
var_scoped out (Repl answer ∷ fs) zero n k d h = scoped_under (answer n k).term (answer n k).frames 0 d (h.0 n k)
var_scoped out (f ∷ fs) (suc i) n k d h = var_scoped out fs i n k d h.1

argument_scoped : (cs : List Closure) (p : Parameter) (i d : ℕ) → AreClosed cs d → IsScoped (read_argument (slice_get cs i) p d) d
argument_scoped [] p i d h = tt
argument_scoped (c ∷ cs) p zero d h = scoped_under c.term c.frames 0 d h.0
argument_scoped (c ∷ cs) p (suc i) d h = argument_scoped cs p i d h.1

param_scoped : (ps : Option (List Closure)) (p : Parameter) (d : ℕ) → AreAnswers ps d → IsScoped (read_param ps p d) d
param_scoped None p d h = tt
param_scoped (Some cs) p d h = argument_scoped cs p p.index d h

mutual
  pub read_scoped : (t : Term) (fs : List Frame) (ps : Option (List Closure)) (out d : ℕ) → AreFramed fs d → AreAnswers ps d → IsScoped (read t fs ps out d) d
  read_scoped (Var i n k) fs ps out d h g = var_scoped out fs i n k d h
  read_scoped (Param p) fs ps out d h g = param_scoped ps p d g
  read_scoped (Node l None ts) fs ps out d h g = reads_scoped ts fs ps out d h g
  read_scoped (Node l (Some b) ts) fs ps out d h g = reads_scoped ts (Put (at_level d) ∷ fs) ps out (suc d) (omega arith, frames_deeper fs d h) (answers_deeper ps d g)

  pub reads_scoped : (ts : Terms) (fs : List Frame) (ps : Option (List Closure)) (out d : ℕ) → AreFramed fs d → AreAnswers ps d → AreScoped (reads ts fs ps out d) d
  reads_scoped End fs ps out d h g = tt
  reads_scoped (And t ts) fs ps out d h g = (read_scoped t fs ps out d h g, reads_scoped ts fs ps out d h g)

-- ---- the readings of the commands

closed_by_none : (as' : List Term) → AreClosed (map under_no_frame as') 0
closed_by_none [] = tt
closed_by_none (a ∷ as') = (tt, closed_by_none as')

-- a replacement is a closure under no frame
replacement_placed : (r : Option (Replacement Term)) (n : ℕ) (k : Kind SolverDefId) → (let c : Closure = elim r [ Some r ↦ under_no_frame r.term | None ↦ under_no_frame (Var 0 n k) ] in ArePlaced c.frames 0)
replacement_placed (Some r) n k = tt
replacement_placed None n k = tt

pub open_scoped : OpenIsScoped
open_scoped b rs = read_scoped (body b) (Repl (replaced_by rs) ∷ []) None 0 0 ((λ n k. replacement_placed (find (λ r. nat_eq r.number n) rs) n k), tt) tt

pub subst_scoped : SubstIsScoped
subst_scoped t as' = read_scoped t [] (Some (map under_no_frame as')) 0 0 tt (closed_by_none as')

pub shift_scoped : ShiftIsScoped
shift_scoped n t = read_scoped t [] None n 0 tt tt

pub renumber_scoped : RenumberIsScoped
renumber_scoped n t = read_scoped t (Put (record { place = Outside 0; by = Plus n }) ∷ []) None 1 0 (tt, tt) tt

pub anon_scoped : AnonIsScoped
anon_scoped (Var i n k) = read_scoped (Var i n k) [] None 0 0 tt tt
anon_scoped (Param p) = read_scoped (Param p) [] None 0 0 tt tt
anon_scoped (Node l b ts) = reads_scoped ts (Put (record { place = Level 0; by = Anonymous (used_numbers (Node l b ts)) }) ∷ []) None 0 1 (omega arith, tt) tt

-- an argument of the trait clause is a closure under that clause's binder
closed_at_top : (as' : List Term) → AreClosed (map at_top as') 1
closed_at_top [] = tt
closed_at_top (a ∷ as') = ((omega arith, tt), closed_at_top as')

pub super_scoped : SuperIsScoped
super_scoped (Var i n k) t = read_scoped (Var i n k) [] None 0 0 tt tt
super_scoped (Param p) t = read_scoped (Param p) [] None 0 0 tt tt
super_scoped (Node l b ts) t = reads_scoped ts (Put (record { place = Level 0; by = Plus (length (bound_kinds t)) }) ∷ []) (Some (map at_top (arguments_of t))) 0 1 (omega arith, tt) (closed_at_top (arguments_of t))
