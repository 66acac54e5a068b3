-- Tests that tell equality.
use Rattle.std.proofs.Common.{◌≡◌, Bool, true, false, List, [], ◌∷◌, Decides, refl, sym, ap₂, subst}
use Rattle.std.proofs.Common.{true≢false}
use Rattle.std.proofs.lemmas.Bool.{and_parts, and_from}
use denote.Enum.Bare.{Bare, sameb, same_true, true_same}
use denote.Enum.Declared.{Declared}
use Rattle.ir_laws.specs.Same.{same_list}

-- a test that holds of equal values alone, and of each value with itself
pub decides_by : {A : Type 0} (same : A → A → Bool) → ((a b : A) → same a b ≡ true → a ≡ b) → ((a : A) → same a a ≡ true) → (a b : A) → Decides (same a b) (a ≡ b)
decides_by same exact itself a b = (exact a b, λ e. subst (λ x. same a x ≡ true) e (itself a))

-- the test on the values of an enum without fields
pub bare_decides : (D : Declared) → Bare D.parts → (a b : D.D) → Decides (sameb D a b) (a ≡ b)
bare_decides D bare a b = (same_true D bare a b, true_same D a b)

-- the second test is looked at where the first one holds
pub and_then_decides : {P Q : Type 0} (x y : Bool) → Decides x P → Decides y Q → Decides (elim x [ true ↦ y | false ↦ false ]) (P × Q)
and_then_decides true y d k = (λ e. (d.0 refl, k.0 e), λ h. k.1 h.1)
and_then_decides false y d k = (λ e. absurd (true≢false (sym e)), λ h. d.1 h.0)

module _ {A : Type 0} (same : A → A → Bool) (decides : (a b : A) → Decides (same a b) (a ≡ b)) where
  list_exact : (xs ys : List A) → same_list same xs ys ≡ true → xs ≡ ys
  list_exact [] [] e = refl
  list_exact (x ∷ xs) (y ∷ ys) e = let both = and_parts (same x y) (same_list same xs ys) e in ap₂ (λ x xs. x ∷ xs) ((decides x y).0 both.0) (list_exact xs ys both.1)
  list_exact _ _ e = absurd (true≢false (sym e))

  list_itself : (xs : List A) → same_list same xs xs ≡ true
  list_itself [] = refl
  list_itself (x ∷ xs) = and_from (same x x) (same_list same xs xs) ((decides x x).1 refl) (list_itself xs)

  pub list_decides : (xs ys : List A) → Decides (same_list same xs ys) (xs ≡ ys)
  list_decides = decides_by (same_list same) list_exact list_itself
