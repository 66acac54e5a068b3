-- Frames of the binders inside, and what stands at an index.
use Rattle.std.proofs.Common.{◌≡◌, ℕ, zero, suc, ◌+◌, ◌-◌, ◌<◌, ◌≤◌, List, ◌∷◌, ap, ap₂, ◌∙◌, arith}
use Rattle.ir_core.specs.declared.ids.SolverDefId.{SolverDefId}
use Rattle.ir_laws.specs.Tree.{Kind, Var}
use Rattle.ir_laws.specs.Reading.{Plus, Placed, number_by, kind_by, put_var, look, index_of, back}

-- the frames of the innermost e of m binders, in front of the rest
abbrev pub wrap : {A : Type 0} → (ℕ → A) → ℕ → ℕ → List A → List A
wrap at m zero rest = rest
wrap at zero (suc e) rest = rest
wrap at (suc m) (suc e) rest = at m ∷ wrap at m e rest

module _ {A : Type 0} (off at : ℕ → A) (rest : List A) where
  pub within : (m e i : ℕ) → e ≤ m → i < e → look off (wrap at m e rest) i ≡ at (m - 1 - i)
  within m zero i h l = absurd (omega arith)
  within zero (suc e) i h l = absurd (omega arith)
  within (suc m) (suc e) zero h l = ap at (omega arith)
  within (suc m) (suc e) (suc i) h l = within m e i (omega arith) (omega arith) ∙ ap at (omega arith)

  pub past : (m e i r : ℕ) → e ≤ m → i ≡ e + r → look off (wrap at m e rest) i ≡ look off rest r
  past m zero i r h e = ap (look off rest) (omega arith)
  past zero (suc e) i r h l = absurd (omega arith)
  past (suc m) (suc e) zero r h l = absurd (omega arith)
  past (suc m) (suc e) (suc i) r h l = past m e i r (omega arith) (omega arith)

-- a variable whose place is known
pub var_back : (p q : Placed) (i m n : ℕ) (k : Kind SolverDefId) → p ≡ q → q.by ≡ Plus 0 → index_of q.place m ≡ i → back (put_var p n k) m ≡ Var i n k
var_back p q i m n k e f h =
    ap (λ p. back (put_var p n k) m) e
    ∙ ap (λ r. Var (index_of q.place m) (number_by r n) (kind_by r k)) f
    ∙ ap₂ (λ i n. Var i n k) h (omega arith)
