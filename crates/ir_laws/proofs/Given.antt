-- Read under arguments, the parameters are given.
use Rattle.std.proofs.Common.{◌≡◌, ℕ, suc, ◌+◌, ◌-◌, List, [], Option, Some, None, map, refl, ap, ap₂, ◌∙◌, arith, ⊎_elim}
use Rattle.std.proofs.lemmas.Bool.{cases_lt}
use Rattle.std.proofs.lemmas.Option.{slice_get-map}
use Rattle.std.specs.Prelude.{slice_get, option_map}
use Rattle.ir_core.specs.declared.ids.SolverDefId.{SolverDefId}
use Rattle.ir_laws.specs.Tree.{Kind, Parameter, Var, Param, Node, End, And, Term, Terms}
use Rattle.ir_laws.specs.Reading.{outside, at_level, look, Frame, Put, frame_var, read_argument, read, reads, back, backs}
use Rattle.ir_laws.specs.DeBruijn.{argument_or, given, all_given}
use Rattle.ir_laws.specs.Laws.{ArgumentsAreGiven}
use Rattle.ir_laws.specs.CommandReading.{under_no_frame}
use Rattle.ir_laws.proofs.Frames.{wrap, within, past, var_back}
use Rattle.ir_laws.proofs.ShiftRead.{shift_read}

abbrev inner : ℕ → Frame
inner l = Put (at_level l)

abbrev off : ℕ → Frame
off r = Put (outside (r + 0))

-- under no frame but those of the binders passed, a variable is itself
var_itself : (m i n : ℕ) (k : Kind SolverDefId) → back (frame_var (look off (wrap inner m m []) i) n k m) m ≡ Var i n k
var_itself m i n k =
    ⊎_elim
    (λ l. ap (λ f. back (frame_var f n k m) m) (within off inner [] m m i (omega arith) l) ∙ var_back _ (at_level (m - 1 - i)) i m n k refl refl (omega arith))
    (λ l. ap (λ f. back (frame_var f n k m) m) (past off inner [] m m i (i - m) (omega arith) (omega arith)) ∙ var_back _ (outside (i - m + 0)) i m n k refl refl (omega arith))
    (cases_lt i m)

one_given : (a : Option Term) (p : Parameter) (m : ℕ) → back (read_argument (option_map under_no_frame a) p m) m ≡ argument_or a p m
one_given None p m = refl
one_given (Some a) p m = shift_read a m 0 0 m (omega arith) (omega arith)

param_given : (as' : List Term) (p : Parameter) (m : ℕ) → back (read_argument (slice_get (map under_no_frame as') p.index) p m) m ≡ argument_or (slice_get as' p.index) p m
param_given as' p m = ap (λ a. back (read_argument a p m) m) (slice_get-map under_no_frame as' p.index) ∙ one_given (slice_get as' p.index) p m

mutual
  given_read : (t : Term) (as' : List Term) (m : ℕ) → back (read t (wrap inner m m []) (Some (map under_no_frame as')) 0 m) m ≡ given m as' t
  given_read (Var i n k) as' m = var_itself m i n k
  given_read (Param p) as' m = param_given as' p m
  given_read (Node l None ts) as' m = ap (Node l None) (given_reads ts as' m)
  given_read (Node l (Some b) ts) as' m = ap (Node l (Some b)) (given_reads ts as' (suc m))

  given_reads : (ts : Terms) (as' : List Term) (m : ℕ) → backs (reads ts (wrap inner m m []) (Some (map under_no_frame as')) 0 m) m ≡ all_given m as' ts
  given_reads End as' m = refl
  given_reads (And t ts) as' m = ap₂ And (given_read t as' m) (given_reads ts as' m)

pub arguments_are_given : ArgumentsAreGiven
arguments_are_given t as' = given_read t as' 0
