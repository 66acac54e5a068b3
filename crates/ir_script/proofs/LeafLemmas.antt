-- Labels that are a word alone, and what is known of their parts.
use Rattle.std.proofs.Common.{◌≡◌, ◌∙◌, ℕ, zero, suc, ◌-◌, ◌⊎◌, ⊎_elim, inl, inr, List, [], ◌∷◌, ◌++◌, length, Option, Some, None, refl, replicate, sym, subst, arith, slice_index_or, slice_set, unwrap_or}
use Rattle.std.proofs.lemmas.List.{drop_all, take_all}
use Rattle.std.proofs.lemmas.Option.{none-some, same_Some}
use Rattle.ir_core.specs.declared.handles.Part.{Part}
use Rattle.ir_core.specs.declared.handles.PartSort.TheVariants as handle
use Rattle.ir_core.specs.declared.ids.SolverDefId.{SolverDefId}
use Rattle.ir_laws.specs.Counts.{sort_of_label}
use Rattle.ir_laws.specs.Heap.{Grows, Heap, forest, plant}
use Rattle.ir_laws.specs.Label.{row}
use Rattle.ir_laws.specs.Tree.{Kind}
use Rattle.ir_laws.specs.declared.labels.Sort.{Sort}
use Rattle.ir_laws.specs.declared.words.Word.{Word}
use Rattle.ir_nodes.specs.Fits.{term_sort}
use Rattle.ir_nodes.specs.Nodes.{Fields}
use Rattle.ir_script.specs.Grove.{Grove, Root, grown, label_root, with_roots}
use Rattle.ir_script.specs.Kept.{AreLeaves, IsLeafOf, leaf_root}
use Rattle.ir_script.specs.Making.{IsRoot}
use Rattle.ir_script.specs.declared.leaves.Leaves.{Leaves}
use Rattle.ir_script.specs.declared.resolved.Resolved.TheVariants as step
use Rattle.ir_syntax.specs.Steps.{below, field_count, first_of, group_count, kid_count, top}

below_none : {A : Type 0} (xs : List A) → below 0 xs ≡ xs
below_none xs = take_all (length xs - 0) xs (omega arith)

top_none : {A : Type 0} (xs : List A) → top 0 xs ≡ []
top_none xs = drop_all (length xs - 0) xs (omega arith)

-- the tree of a label that takes these
abbrev over : Word → Fields → Option (List (Kind SolverDefId)) → List Root → Root
over w fs b rs = record { tree = plant (record { label = record { word = w; fields = fs }; bind = b }) (forest (λ r. r.tree) rs); sort = unwrap_or (term_sort (sort_of_label (record { word = w; fields = fs }))) handle.Ty }

-- a word alone takes nothing
pub leaf_is : (w : Word) (g : Grove) → (row w).parts ≡ [] → label_root w g ≡ leaf_root w
leaf_is w g none = (λ i. over w (top (field_count (none i)) g.fields) (first_of (top (group_count (none i)) g.groups)) (top (kid_count (none i)) g.roots))
    ∙ (λ i. over w (top_none g.fields i) (first_of (top_none g.groups i)) (top_none g.roots i))

pub leaf_grown : (h : Heap Part) (g : Grove) (w : Word) (sort : Sort) → (row w).parts ≡ [] → with_roots (g.roots ++ label_root w g ∷ []) g ≡ grown h g (step.Label w sort)
leaf_grown h g w sort none = sym ((λ i. record { roots = below (kid_count (none i)) g.roots ++ label_root w g ∷ []; fields = below (field_count (none i)) g.fields; kinds = g.kinds; groups = below (group_count (none i)) g.groups })
    ∙ (λ i. record { roots = below_none g.roots i ++ label_root w g ∷ []; fields = below_none g.fields i; kinds = g.kinds; groups = below_none g.groups i }))

-- ---- what is known

-- a part names its tree while a heap grows
pub root_later : (h k : Heap Part) → Grows h k → (r : Root) (q : Part) → IsRoot h r q → IsRoot k r q
root_later h k grows r q is = record { live = grows.live q is.live; tree = grows.tree q is.live ∙ is.tree; sort = is.sort }

-- what is known of leaves stays so
pub leaves_later : (h k : Heap Part) (leaves : Leaves) → Grows h k → AreLeaves h leaves → AreLeaves k leaves
leaves_later h k leaves grows known = record {
  each = λ i w q at.
      let is = known.each i w q at in
      record { bare = is.bare; root = root_later h k grows (leaf_root w) q is.root };
}

-- at first nothing is known
same_there : {X : Type 0} (n i : ℕ) (x : X) → slice_index_or (replicate n x) i x ≡ x
same_there zero i x = refl
same_there (suc n) zero x = refl
same_there (suc n) (suc i) x = same_there n i x

pub leaves_none : (h : Heap Part) (n : ℕ) → AreLeaves h (record { parts = replicate n None })
leaves_none h n = record { each = λ i w q at. absurd (none-some (w, q) (sym (same_there n i None) ∙ at)) }

-- what stands at a place when one is set is the new, or what stood there
set_cases : {X : Type 0} (xs : List X) (k i : ℕ) (y d : X) → (slice_index_or (slice_set xs k y) i d ≡ y) ⊎ (slice_index_or (slice_set xs k y) i d ≡ slice_index_or xs i d)
set_cases [] k i y d = inr refl
set_cases (x ∷ xs) zero zero y d = inl refl
set_cases (x ∷ xs) zero (suc i) y d = inr refl
set_cases (x ∷ xs) (suc k) zero y d = inr refl
set_cases (x ∷ xs) (suc k) (suc i) y d = set_cases xs k i y d

-- one more is known
pub leaf_kept : (h : Heap Part) (leaves : Leaves) (k : ℕ) (w : Word) (q : Part) → AreLeaves h leaves → IsLeafOf h w q → AreLeaves h (record { parts = slice_set leaves.parts k (Some (w, q)) })
leaf_kept h leaves k w q known here = record {
  each = λ i v r at. ⊎_elim
      (λ same. subst (λ (x : Word × Part). IsLeafOf h x.0 x.1) (same_Some (w, q) (v, r) (sym same ∙ at)) here)
      (λ other. known.each i v r (sym other ∙ at))
      (set_cases leaves.parts k i (Some (w, q)) None);
}
