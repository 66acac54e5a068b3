-- A reading gives the term back, shifted by the binders that it is further out.
use Rattle.std.proofs.Common.{◌≡◌, ℕ, zero, suc, ◌+◌, ◌-◌, ◌≤◌, List, [], ◌∷◌, Some, None, true, false, map, refl, sym, ap, ap₂, ◌∙◌, arith, ⊎_elim, lt-ltb, le-ltb}
use Rattle.std.proofs.lemmas.Bool.{cases_lt}
use Rattle.ir_core.specs.declared.ids.SolverDefId.{SolverDefId}
use Rattle.ir_laws.specs.Tree.{Kind, Var, Param, Node, End, And, Term, Terms}
use Rattle.ir_laws.specs.Reading.{Placed, outside, at_level, put_var, look, read_under, reads_under, Put, frame_var, read, reads, back, backs}
use Rattle.ir_laws.specs.DeBruijn.{shifted, all_shifted}
use Rattle.ir_laws.specs.Laws.{OutIsShifted, ReadsBack}
use Rattle.ir_laws.proofs.Frames.{wrap, within, past, var_back}

-- the frames of the innermost j of m binders
abbrev levels : ℕ → ℕ → List Placed
levels m j = wrap at_level m j []

var_shifted : (m j out s i n : ℕ) (k : Kind SolverDefId) → j ≤ m → s + j ≡ m + out → back (put_var (look (λ r. outside (r + out)) (levels m j) i) n k) m ≡ shifted s j (Var i n k)
var_shifted m j out s i n k h e =
    ⊎_elim
    (λ l. var_back _ (at_level (m - 1 - i)) i m n k (within _ at_level [] m j i h l) refl (omega arith) ∙ ap (λ b. Var (elim b [ true ↦ i | false ↦ i + s ]) n k) (sym (lt-ltb i j l)))
    (λ l. var_back _ (outside (i - j + out)) (i + s) m n k (past _ at_level [] m j i (i - j) h (omega arith)) refl (omega arith) ∙ ap (λ b. Var (elim b [ true ↦ i | false ↦ i + s ]) n k) (sym (le-ltb i j l)))
    (cases_lt i j)

mutual
  pub shift_read : (t : Term) (m j out s : ℕ) → j ≤ m → s + j ≡ m + out → back (read_under t (levels m j) out m) m ≡ shifted s j t
  shift_read (Var i n k) m j out s h e = var_shifted m j out s i n k h e
  shift_read (Param p) m j out s h e = refl
  shift_read (Node l None ts) m j out s h e = ap (Node l None) (shift_reads ts m j out s h e)
  shift_read (Node l (Some b) ts) m j out s h e = ap (Node l (Some b)) (shift_reads ts (suc m) (suc j) out s (omega arith) (omega arith))

  pub shift_reads : (ts : Terms) (m j out s : ℕ) → j ≤ m → s + j ≡ m + out → backs (reads_under ts (levels m j) out m) m ≡ all_shifted s j ts
  shift_reads End m j out s h e = refl
  shift_reads (And t ts) m j out s h e = ap₂ And (shift_read t m j out s h e) (shift_reads ts m j out s h e)

-- with no answer among the frames, both readings are one
same_look : (out i n : ℕ) (k : Kind SolverDefId) (ps : List Placed) (d : ℕ) → frame_var (look (λ r. Put (outside (r + out))) (map Put ps) i) n k d ≡ put_var (look (λ r. outside (r + out)) ps i) n k
same_look out i n k [] d = refl
same_look out zero n k (p ∷ ps) d = refl
same_look out (suc i) n k (p ∷ ps) d = same_look out i n k ps d

mutual
  pub same_read : (t : Term) (ps : List Placed) (out d : ℕ) → read t (map Put ps) None out d ≡ read_under t ps out d
  same_read (Var i n k) ps out d = same_look out i n k ps d
  same_read (Param p) ps out d = refl
  same_read (Node l None ts) ps out d = ap (Node l None) (same_reads ts ps out d)
  same_read (Node l (Some b) ts) ps out d = ap (Node l (Some b)) (same_reads ts (at_level d ∷ ps) out (suc d))

  pub same_reads : (ts : Terms) (ps : List Placed) (out d : ℕ) → reads ts (map Put ps) None out d ≡ reads_under ts ps out d
  same_reads End ps out d = refl
  same_reads (And t ts) ps out d = ap₂ And (same_read t ps out d) (same_reads ts ps out d)

-- shifted by none
var_kept : (c i n : ℕ) (k : Kind SolverDefId) → shifted 0 c (Var i n k) ≡ Var i n k
var_kept c i n k = ⊎_elim
    (λ l. ap (λ b. Var (elim b [ true ↦ i | false ↦ i + 0 ]) n k) (lt-ltb i c l))
    (λ l. ap (λ b. Var (elim b [ true ↦ i | false ↦ i + 0 ]) n k) (le-ltb i c l) ∙ ap (λ x. Var x n k) (omega arith))
    (cases_lt i c)

mutual
  pub shifted_none : (t : Term) (c : ℕ) → shifted 0 c t ≡ t
  shifted_none (Var i n k) c = var_kept c i n k
  shifted_none (Param p) c = refl
  shifted_none (Node l None ts) c = ap (Node l None) (all_shifted_none ts c)
  shifted_none (Node l (Some b) ts) c = ap (Node l (Some b)) (all_shifted_none ts (suc c))

  pub all_shifted_none : (ts : Terms) (c : ℕ) → all_shifted 0 c ts ≡ ts
  all_shifted_none End c = refl
  all_shifted_none (And t ts) c = ap₂ And (shifted_none t c) (all_shifted_none ts c)

pub out_is_shifted : OutIsShifted
out_is_shifted t n = ap (λ r. back r 0) (same_read t [] n 0) ∙ shift_read t 0 0 n n (omega arith) (omega arith)

pub reads_back : ReadsBack
reads_back t = out_is_shifted t 0 ∙ shifted_none t 0
