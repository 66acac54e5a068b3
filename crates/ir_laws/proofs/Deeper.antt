-- A shifted term under more frames reads as the term without them.
use Rattle.std.proofs.Common.{◌≡◌, ℕ, zero, suc, ◌+◌, ◌-◌, ◌≤◌, List, [], ◌∷◌, ◌++◌, length, true, false, Some, None, refl, sym, ap, ap₂, ◌∙◌, arith, ⊎_elim, lt-ltb, le-ltb}
use Rattle.std.proofs.lemmas.Bool.{cases_lt}
use Rattle.ir_core.specs.declared.ids.SolverDefId.{SolverDefId}
use Rattle.ir_laws.specs.Tree.{Kind, Var, Param, Node, End, And, Term, Terms}
use Rattle.ir_laws.specs.Reading.{Placed, outside, at_level, put_var, look, read_under, reads_under}
use Rattle.ir_laws.specs.DeBruijn.{shifted, all_shifted}
use Rattle.ir_laws.specs.Laws.{ShiftReads}
use Rattle.ir_laws.proofs.Frames.{wrap, within, past}

module _ (gs ps : List Placed) (out : ℕ) where
  abbrev off : ℕ → Placed
  off r = outside (r + out)

  beyond : (xs : List Placed) (r i : ℕ) → i ≡ length xs + r → look off (xs ++ ps) i ≡ look off ps r
  beyond [] r i e = ap (look off ps) (omega arith)
  beyond (x ∷ xs) r zero e = absurd (omega arith)
  beyond (x ∷ xs) r (suc i) e = beyond xs r i (omega arith)

  var_deeper : (i n : ℕ) (k : Kind SolverDefId) (m c : ℕ) → c ≤ m → read_under (shifted (length gs) c (Var i n k)) (wrap at_level m c (gs ++ ps)) out m ≡ read_under (Var i n k) (wrap at_level m c ps) out m
  var_deeper i n k m c h =
      ⊎_elim
      (λ l. ap (λ b. read_under (Var (elim b [ true ↦ i | false ↦ i + length gs ]) n k) (wrap at_level m c (gs ++ ps)) out m) (lt-ltb i c l)
      ∙ ap (λ p. put_var p n k) (within off at_level (gs ++ ps) m c i h l ∙ sym (within off at_level ps m c i h l)))
      (λ l. ap (λ b. read_under (Var (elim b [ true ↦ i | false ↦ i + length gs ]) n k) (wrap at_level m c (gs ++ ps)) out m) (le-ltb i c l)
      ∙ ap (λ p. put_var p n k) (past off at_level (gs ++ ps) m c (i + length gs) (i - c + length gs) h (omega arith) ∙ beyond gs (i - c) (i - c + length gs) (omega arith) ∙ sym (past off at_level ps m c i (i - c) h (omega arith))))
      (cases_lt i c)

  mutual
    pub read_deeper : (t : Term) (m c : ℕ) → c ≤ m → read_under (shifted (length gs) c t) (wrap at_level m c (gs ++ ps)) out m ≡ read_under t (wrap at_level m c ps) out m
    read_deeper (Var i n k) m c h = var_deeper i n k m c h
    read_deeper (Param p) m c h = refl
    read_deeper (Node l None ts) m c h = ap (Node l None) (reads_deeper ts m c h)
    read_deeper (Node l (Some b) ts) m c h = ap (Node l (Some b)) (reads_deeper ts (suc m) (suc c) (omega arith))

    pub reads_deeper : (ts : Terms) (m c : ℕ) → c ≤ m → reads_under (all_shifted (length gs) c ts) (wrap at_level m c (gs ++ ps)) out m ≡ reads_under ts (wrap at_level m c ps) out m
    reads_deeper End m c h = refl
    reads_deeper (And t ts) m c h = ap₂ And (read_deeper t m c h) (reads_deeper ts m c h)

pub shift_reads : ShiftReads
shift_reads t gs ps out d = read_deeper gs ps out t d 0 (omega arith)
