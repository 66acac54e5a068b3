-- Read under answers, the variables of one binder are replaced.
use Rattle.std.proofs.Common.{◌≡◌, ℕ, suc, ◌+◌, ◌-◌, List, [], ◌∷◌, true, false, Some, None, refl, sym, ap, ap₂, ◌∙◌, arith, ⊎_elim, eq-eqb, ne_eqb}
use Rattle.std.proofs.lemmas.Bool.{cases_order}
use Rattle.ir_core.specs.declared.ids.SolverDefId.{SolverDefId}
use Rattle.ir_laws.specs.Tree.{Kind, Var, Param, Node, End, And, Term, Terms}
use Rattle.ir_laws.specs.Reading.{outside, at_level, look, read_under, Closure, Frame, Put, Repl, frame_var, read, reads, back, backs}
use Rattle.ir_laws.specs.DeBruijn.{shifted, replaced, all_replaced}
use Rattle.ir_laws.specs.Laws.{answered_by, ReplIsReplaced}
use Rattle.ir_laws.proofs.Frames.{wrap, within, past, var_back}
use Rattle.ir_laws.proofs.ShiftRead.{shift_read}

module _ (answer : ℕ → Kind SolverDefId → Closure) (bare : (n : ℕ) (k : Kind SolverDefId) → (answer n k).frames ≡ []) where
  abbrev m : ℕ → Kind SolverDefId → Term
  m n k = (answer n k).term

  abbrev inner : ℕ → Frame
  inner l = Put (at_level l)

  abbrev off : ℕ → Frame
  off r = Put (outside (r + 1))

  abbrev frames : ℕ → List Frame
  frames e = wrap inner e e (Repl answer ∷ [])

  -- what the frame at an index makes of a variable
  from_frame : (e i n : ℕ) (k : Kind SolverDefId) (f : Frame) → look off (frames e) i ≡ f → back (frame_var (look off (frames e) i) n k e) e ≡ back (frame_var f n k e) e
  from_frame e i n k f h = ap (λ f. back (frame_var f n k e) e) h

  other : (e i n : ℕ) (k : Kind SolverDefId) → (i ≡ e → ⊥) → Var i n k ≡ replaced e m (Var i n k)
  other e i n k h = ap (λ b. elim b [ true ↦ shifted e 0 (m n k) | false ↦ Var i n k ]) (sym (ne_eqb i e h))

  var_replaced : (e i n : ℕ) (k : Kind SolverDefId) → back (frame_var (look off (frames e) i) n k e) e ≡ replaced e m (Var i n k)
  var_replaced e i n k =
      ⊎_elim
      (λ q. from_frame e i n k (Repl answer) (past off inner _ e e i 0 (omega arith) (omega arith)) ∙ ap (λ gs. back (read_under (m n k) gs 0 e) e) (bare n k) ∙ shift_read (m n k) e 0 0 e (omega arith) (omega arith) ∙ ap (λ b. elim b [ true ↦ shifted e 0 (m n k) | false ↦ Var i n k ]) (sym (eq-eqb i e q)))
      (⊎_elim
      (λ l. from_frame e i n k (inner (e - 1 - i)) (within off inner _ e e i (omega arith) l) ∙ var_back _ (at_level (e - 1 - i)) i e n k refl refl (omega arith) ∙ other e i n k (λ q. omega arith))
      (λ l. from_frame e i n k (off (i - e - 1)) (past off inner _ e e i (suc (i - e - 1)) (omega arith) (omega arith)) ∙ var_back _ (outside (i - e - 1 + 1)) i e n k refl refl (omega arith) ∙ other e i n k (λ q. omega arith)))
      (cases_order i e)

  mutual
    pub repl_read : (t : Term) (e : ℕ) → back (read t (frames e) None 1 e) e ≡ replaced e m t
    repl_read (Var i n k) e = var_replaced e i n k
    repl_read (Param p) e = refl
    repl_read (Node l None ts) e = ap (Node l None) (repl_reads ts e)
    repl_read (Node l (Some b) ts) e = ap (Node l (Some b)) (repl_reads ts (suc e))

    pub repl_reads : (ts : Terms) (e : ℕ) → backs (reads ts (frames e) None 1 e) e ≡ all_replaced e m ts
    repl_reads End e = refl
    repl_reads (And t ts) e = ap₂ And (repl_read t e) (repl_reads ts e)

pub repl_is_replaced : ReplIsReplaced
repl_is_replaced t m = repl_read (answered_by m) (λ n k. refl) t 0
