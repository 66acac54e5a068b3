-- What `new` answers, and what a live part is, for those who call.
use Rattle.std.proofs.Common.{◌≡◌, ◌≤◌, ◌∙◌, refl, List, [], ◌∷◌, ◌++◌, map, Option, Some, Result, Ok, Err, IsOk, inl, inr, subst, sym, ap, true≢false}
use Rattle.std.specs.Iterator.{HoldsAlong, Yields}
use Rattle.ir_laws.specs.Heap.{Layer, Each, Heap, IsLive, IsSound, Grows, Holds, shape_over, kid_trees, tree_of}
use Rattle.ir_laws.specs.Counts.{sort_of, sort_of_label}
use Rattle.ir_core.specs.declared.errors.TermError.{TermError}
use Rattle.ir_core.specs.declared.errors.TermError.TheVariants as error
use Rattle.ir_core.specs.declared.handles.Part.{Part}
use Rattle.ir_core.specs.Parts.{sort_in}
use Rattle.ir_table.specs.declared.store.Tables.{Tables}
use Rattle.ir_nodes.specs.Fits.{part_sort}
use Rattle.ir_table.specs.Heaps.{heap_of}
use Rattle.ir_table.specs.Interner.{heap}
use Rattle.ir_table.specs.Iterated.{AnswersItems}
use Rattle.ir_table.specs.declared.Interner.{Interner}
use Rattle.ir_table.specs.State.{State, IsLow, NewAnswers, fits, width}
use Rattle.ir_laws.proofs.HeapLemmas.{Grows-refl, node_of, tree_of-node}
use Rattle.ir_laws.proofs.PlantLemmas.{sort-plant}
use Rattle.ir_nodes.proofs.FitLemmas.{sort_back}
use Rattle.ir_table.proofs.PartLemmas.{sorted}

module _ {T : Type 0} {name : T → Part} {old new : State} {l : Layer Part} where
  -- whatever it answers, the heap grew
  pub new_grows : (r : Result T TermError) → NewAnswers name old new l r → Grows old.heap new.heap
  new_grows (Ok t) a = a.ok.grows
  new_grows (Err e) a = rw a.err (Grows-refl old.heap)

  -- a node that is held is given its name, and no memory is needed
  pub new_succeeds : IsLow old → Holds old.heap l → width l ≤ 8 → (r : Result T TermError) → NewAnswers name old new l r → IsOk r
  new_succeeds low held few (Ok t) a = refl
  new_succeeds low held few (Err error.TooMany) a = absurd ((a.too_many refl).0 held)
  new_succeeds low held few (Err error.TooDeep) a = absurd (true≢false (sym (ap (fits old) (sym held.2) ∙ low held.0 held.1) ∙ a.too_deep refl))
  new_succeeds low held few (Err error.Memory) a = absurd (a.memory refl few held)
  new_succeeds low held few (Err error.Escapes) a = absurd a.causes
  new_succeeds low held few (Err error.MissingVar) a = absurd a.causes

-- ---- lists of what an iterator gives

module _ {S X : Type 0} (steps : S → Option X → S → Type 0) (left : S → List X) (first : (s t : S) (x : X) → steps s (Some x) t → left s ≡ x ∷ left t) where
  -- where an item is the first of what was left, what has come is a front of that
  front_came : (xs : List X) (s t : S) → Yields steps s xs t → left s ≡ xs ++ left t
  front_came [] s t same = ap left same
  front_came (x ∷ xs) s t came = first s came.0 x came.1 ∙ ap (λ (ys : List X). x ∷ ys) (front_came xs came.0 t came.2)

module _ {X : Type 0} (name : X → Part) (h : Heap Part) where
  front_live : (xs ys : List X) → Each (IsLive h) (map name (xs ++ ys)) → Each (IsLive h) (map name xs)
  front_live [] ys live = tt
  front_live (x ∷ xs) ys live = (live.0, front_live xs ys live.1)

  front_tried : (xs all : List X) (rest : List (Result X TermError)) → map Ok xs ++ rest ≡ map Ok all → Each (IsLive h) (map name all) → Each (IsLive h) (map name xs)
  front_tried [] all rest e live = tt
  front_tried (x ∷ xs) [] rest e live = absurd cc
  front_tried (x ∷ xs) (a ∷ all) rest e live =
      let same : x ≡ a = cc in
      let more : map Ok xs ++ rest ≡ map Ok all = cc in
      (subst (λ z. IsLive h (name z)) (sym same) live.0, front_tried xs all rest more live.1)

  -- where the parts of what is left are live, so are those of what has come
  pub given_live : {S : Type 0} (steps : S → Option X → S → Type 0) (left : S → List X) → ((s t : S) (x : X) → steps s (Some x) t → left s ≡ x ∷ left t)
      → (s : S) (all : List X) → left s ≡ all → Each (IsLive h) (map name all) → HoldsAlong steps s (λ xs. Each (IsLive h) (map name xs))
  given_live steps left first s all is_left live = λ xs t came. front_live xs (left t) (subst (λ ys. Each (IsLive h) (map name ys)) (sym is_left ∙ front_came steps left first xs s t came) live)

  -- the same, where an item may be a refusal
  pub tried_live : {S : Type 0} (steps : S → Option (Result X TermError) → S → Type 0) (left : S → List (Result X TermError)) → ((s t : S) (x : Result X TermError) → steps s (Some x) t → left s ≡ x ∷ left t)
      → (s : S) (all : List X) → left s ≡ map Ok all → Each (IsLive h) (map name all) → HoldsAlong steps s (λ rs. (xs : List X) → rs ≡ map Ok xs → Each (IsLive h) (map name xs))
  tried_live steps left first s all is_left live = λ rs t came xs given.
      front_tried xs all (left t) (ap (λ ys. ys ++ left t) (sym given) ∙ sym (front_came steps left first rs s t came) ∙ is_left) live

-- whatever a call answers that reads its items from an iterator, the heap grew
pub items_grow : {T X S : Type 0} {name : T → Part} {layer : List X → Layer Part} {old new : Interner} (steps : S → Option X → S → Type 0) (s : S) (r : Result T TermError) → AnswersItems name layer old new steps s r → Grows (heap old) (heap new)
items_grow {old = old} steps s r a = elim a [
  | inl stops ↦ subst (λ (k : State). Grows (heap old) k.heap) (sym stops.same) (Grows-refl (heap old))
  | inr list ↦ new_grows r list.2
]

-- ---- the sort of a part is that of its tree

pub live_sort : (t : Tables) → IsSound (heap_of t) → (p : Part) → IsLive (heap_of t) p → sort_of (tree_of (heap_of t) p) ≡ part_sort p
live_sort t sound p live =
    let x = node_of (heap_of t) p live in
    ap sort_of (tree_of-node (heap_of t) sound p x.0 x.1) ∙ sort-plant (shape_over (heap_of t) x.0.layer) (kid_trees (heap_of t) (tree_of (heap_of t)) x.0.layer.kids)
    ∙ sort_back (sort_of_label x.0.layer.label) x.0.layer.label.word (sort_in p) (sorted t p x.0 x.1)
