-- The test on terms tells equality.
use Rattle.std.proofs.Common.{◌≡◌, ℕ, Bool, true, false, ◌&&◌, List, Option, Decides, nat_eq, refl, sym, ap, ap₂, ◌∙◌, true≢false}
use Rattle.std.proofs.lemmas.Bool.Decides.{Decides-eqb, Decides-and}
use Rattle.ir_core.specs.declared.ids.SolverDefId.{SolverDefId}
use Rattle.ir_laws.specs.Tree.{Kind, Label, Var, Param, Node, End, And, Term, Terms}
use Rattle.ir_laws.specs.Same.{same_kind, same_label, same_bind, same_term, same_terms}
use Rattle.ir_laws.proofs.Telling.{decides_by}
use Rattle.ir_laws.proofs.SameParts.{kind_decides, label_decides, bind_decides, parameter_decides}

var_decides : (i n j m : ℕ) (k l : Kind SolverDefId) → Decides (same_term (Var i n k) (Var j m l)) (((i ≡ j) × (n ≡ m)) × (k ≡ l))
var_decides i n j m k l = Decides-and _ (same_kind k l) (Decides-and (nat_eq i j) (nat_eq n m) (Decides-eqb i j) (Decides-eqb n m)) (kind_decides k l)

node_decides : (l m : Label SolverDefId) (b c : Option (List (Kind SolverDefId))) → Decides (same_label l m && same_bind b c) ((l ≡ m) × (b ≡ c))
node_decides l m b c = Decides-and (same_label l m) (same_bind b c) (label_decides l m) (bind_decides b c)

-- of two tests one after the other, both hold
first_holds : (x y : Bool) → elim x [ true ↦ y | false ↦ false ] ≡ true → x ≡ true
first_holds true y e = refl
first_holds false y e = e

second_holds : (x y : Bool) → elim x [ true ↦ y | false ↦ false ] ≡ true → y ≡ true
second_holds true y e = e
second_holds false y e = absurd (true≢false (sym e))

both_hold : (x y : Bool) → x ≡ true → y ≡ true → elim x [ true ↦ y | false ↦ false ] ≡ true
both_hold true y p q = q
both_hold false y p q = p

mutual
  pub term_exact : (t u : Term) → same_term t u ≡ true → t ≡ u
  term_exact (Var i n k) (Var j m l) e = let h = (var_decides i n j m k l).0 e in ap₂ (λ i n. Var i n k) h.0.0 h.0.1 ∙ ap (λ k. Var j m k) h.1
  term_exact (Param p) (Param q) e = ap Param ((parameter_decides p q).0 e)
  term_exact (Node l b ts) (Node m c us) e =
      let h = (node_decides l m b c).0 (first_holds (same_label l m && same_bind b c) (same_terms ts us) e) in
      ap₂ (λ l b. Node l b ts) h.0 h.1 ∙ ap (Node m c) (terms_exact ts us (second_holds (same_label l m && same_bind b c) (same_terms ts us) e))
  term_exact _ _ e = absurd (true≢false (sym e))

  pub terms_exact : (ts us : Terms) → same_terms ts us ≡ true → ts ≡ us
  terms_exact End End e = refl
  terms_exact (And t ts) (And u us) e = ap₂ And (term_exact t u (first_holds (same_term t u) (same_terms ts us) e)) (terms_exact ts us (second_holds (same_term t u) (same_terms ts us) e))
  terms_exact _ _ e = absurd (true≢false (sym e))

mutual
  term_itself : (t : Term) → same_term t t ≡ true
  term_itself (Var i n k) = (var_decides i n i n k k).1 ((refl, refl), refl)
  term_itself (Param p) = (parameter_decides p p).1 refl
  term_itself (Node l b ts) = both_hold (same_label l l && same_bind b b) (same_terms ts ts) ((node_decides l l b b).1 (refl, refl)) (terms_itself ts)

  terms_itself : (ts : Terms) → same_terms ts ts ≡ true
  terms_itself End = refl
  terms_itself (And t ts) = both_hold (same_term t t) (same_terms ts ts) (term_itself t) (terms_itself ts)

pub term_decides : (t u : Term) → Decides (same_term t u) (t ≡ u)
term_decides = decides_by same_term term_exact term_itself
