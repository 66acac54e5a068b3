-- What the making of terms keeps, step by step.
use Rattle.std.proofs.Common.{◌≡◌, ◌∙◌, ℕ, zero, suc, ◌-◌, ◌≤◌, Bool, true, false, ◌&&◌, not, List, [], ◌∷◌, ◌++◌, length, take, drop, map, Option, Some, None, is_some, option_map, unwrap_or, Result, Ok, Err, refl, sym, ap, subst, ⊎_elim, arith}
use Rattle.std.specs.List.{list_all}
use Rattle.std.proofs.lemmas.Bool.{false≢true}
use Rattle.std.proofs.lemmas.List.{drop-map, length-drop, length-map, take_all, take-map}
use Rattle.ir_core.specs.Parts.{same_part_sort, sort_in}
use Rattle.ir_core.specs.declared.errors.TermError.{TermError}
use Rattle.ir_core.specs.declared.errors.TermError.TheVariants as error
use Rattle.ir_core.specs.declared.handles.BoundVarKinds.{BoundVarKinds}
use Rattle.ir_core.specs.declared.handles.Part.{Part}
use Rattle.ir_core.specs.declared.handles.Part.TheVariants as part
use Rattle.ir_core.specs.declared.handles.PartSort.{PartSort}
use Rattle.ir_core.specs.declared.handles.PartSort.TheVariants as handle
use Rattle.ir_core.specs.declared.ids.SolverDefId.{SolverDefId}
use Rattle.ir_core.specs.declared.variables.BoundVarKind.{BoundVarKind}
use Rattle.ir_laws.specs.Counts.{sort_of, sort_of_label}
use Rattle.ir_laws.specs.Formed.{bind_fits, fields_fit, kid_forms}
use Rattle.ir_laws.specs.Heap.{Each, Grows, Heap, IsLive, IsSound, Layer, forest, kinds_among, kinds_at, names_in, plant, tree_above, tree_of, with_binder}
use Rattle.ir_laws.specs.Held.{Counts, Stands}
use Rattle.ir_laws.specs.Label.{row}
use Rattle.ir_laws.specs.Names.{field_forms}
use Rattle.ir_laws.specs.Parts.{has_for_group, is_part, parts, variable_list}
use Rattle.ir_laws.specs.Tree as tree
use Rattle.ir_laws.specs.Tree.{End, Kind, Label, Node, Term}
use Rattle.ir_laws.specs.declared.labels.KidForm.{KidForm}
use Rattle.ir_laws.specs.declared.labels.Part.{Part as RowPart}
use Rattle.ir_laws.specs.declared.labels.Sort.{Sort}
use Rattle.ir_laws.specs.declared.words.Word.{Word}
use Rattle.ir_laws.specs.declared.words.Word.TheVariants.{TypeList, VariableList}
use Rattle.ir_laws.proofs.HeapLemmas.{Grows-refl, binder_tree}
use Rattle.ir_laws.proofs.HeldLemmas.{parts_stand}
use Rattle.ir_laws.proofs.PartSets.{no_part, part_of_cons}
use Rattle.ir_laws.proofs.PlantLemmas.{label_in, sort-plant}
use Rattle.ir_nodes.specs.Fits.{are_types, handle_sort, is_wanted, kids_fit, part_sort, term_sort}
use Rattle.ir_nodes.specs.Nodes.{Fields, field_seen, layer, layer_of, variable_field, variable_seen, variables_layer}
use Rattle.ir_script.specs.Grove.{AllFit as StepsFit, Fits, Grove, LabelFits, Root, are_wanted, bare, grove, grove_on, grown, label_root, list_root, made, own_group, own_kids, own_label, with_roots}
use Rattle.ir_script.specs.Kept.{IsLeafOf}
use Rattle.ir_script.specs.Making.{AreRoots, FitsNode, IsGroup, IsGrown, IsNext, IsRoot, Pairs, Takes, TakesStep, added, binder_on, fields_on, kids_on}
use Rattle.ir_syntax.specs.Steps.{below, field_count, first_of, group_count, kid_count, top}
use Rattle.ir_script.specs.declared.builder.Builder.{Builder}
use Rattle.ir_script.specs.declared.resolved.Resolved.{Resolved}
use Rattle.ir_script.specs.declared.resolved.Resolved.TheVariants as step
use Rattle.ir_script.proofs.GroveLemmas.{made_more, made_step}
use Rattle.ir_script.proofs.LeafLemmas.{leaf_grown, leaf_is, root_later}
use Rattle.ir_script.proofs.MadeLemmas.{makes_memory}
use Rattle.ir_script.proofs.StandLemmas.{makes_standing}
use Rattle.ir_table.proofs.CallerLemmas.{AllFit, live_binder, live_sort, makes_err, makes_new, makes_none, makes_ok, makes_same, makes_then, same_fits}
use Rattle.ir_table.specs.Heaps.{heap_of}
use Rattle.ir_table.specs.State.{Makes, NewAnswers, State}
use Rattle.ir_table.specs.declared.store.Tables.{Tables}

-- ---- two lists side by side

module _ {A B : Type 0} (R : A → B → Type 0) where
  pub pairs_push : (xs : List A) (ys : List B) (x : A) (y : B) → Pairs R xs ys → R x y → Pairs R (xs ++ x ∷ []) (ys ++ y ∷ [])
  pairs_push [] [] x y ps p = (p, tt)
  pairs_push [] (z ∷ ys) x y ps p = absurd ps
  pairs_push (z ∷ xs) [] x y ps p = absurd ps
  pairs_push (z ∷ xs) (w ∷ ys) x y ps p = (ps.0, pairs_push xs ys x y ps.1 p)

  pub pairs_length : (xs : List A) (ys : List B) → Pairs R xs ys → length xs ≡ length ys
  pairs_length [] [] ps = refl
  pairs_length [] (y ∷ ys) ps = absurd ps
  pairs_length (x ∷ xs) [] ps = absurd ps
  pairs_length (x ∷ xs) (y ∷ ys) ps = ap suc (pairs_length xs ys ps.1)

  pairs_take : (n : ℕ) (xs : List A) (ys : List B) → Pairs R xs ys → Pairs R (take n xs) (take n ys)
  pairs_take zero xs ys ps = tt
  pairs_take (suc n) [] [] ps = tt
  pairs_take (suc n) [] (y ∷ ys) ps = absurd ps
  pairs_take (suc n) (x ∷ xs) [] ps = absurd ps
  pairs_take (suc n) (x ∷ xs) (y ∷ ys) ps = (ps.0, pairs_take n xs ys ps.1)

  pairs_drop : (n : ℕ) (xs : List A) (ys : List B) → Pairs R xs ys → Pairs R (drop n xs) (drop n ys)
  pairs_drop zero xs ys ps = ps
  pairs_drop (suc n) [] [] ps = tt
  pairs_drop (suc n) [] (y ∷ ys) ps = absurd ps
  pairs_drop (suc n) (x ∷ xs) [] ps = absurd ps
  pairs_drop (suc n) (x ∷ xs) (y ∷ ys) ps = pairs_drop n xs ys ps.1

  pub pairs_top : (n : ℕ) (xs : List A) (ys : List B) → Pairs R xs ys → Pairs R (top n xs) (top n ys)
  pairs_top n xs ys ps = subst (λ k. Pairs R (top n xs) (drop (k - n) ys)) (pairs_length xs ys ps) (pairs_drop (length xs - n) xs ys ps)

  pub pairs_below : (n : ℕ) (xs : List A) (ys : List B) → Pairs R xs ys → Pairs R (below n xs) (below n ys)
  pairs_below n xs ys ps = subst (λ k. Pairs R (below n xs) (take (k - n) ys)) (pairs_length xs ys ps) (pairs_take (length xs - n) xs ys ps)

pairs_weaker : {A B : Type 0} (R S : A → B → Type 0) → ((x : A) (y : B) → R x y → S x y) → (xs : List A) (ys : List B) → Pairs R xs ys → Pairs S xs ys
pairs_weaker R S f [] [] ps = tt
pairs_weaker R S f [] (y ∷ ys) ps = absurd ps
pairs_weaker R S f (x ∷ xs) [] ps = absurd ps
pairs_weaker R S f (x ∷ xs) (y ∷ ys) ps = (f x y ps.0, pairs_weaker R S f xs ys ps.1)

-- the topmost of a list, seen
pub top_seen : {A B : Type 0} (f : A → B) (n : ℕ) (xs : List A) (ys : List B) → map f xs ≡ ys → map f (top n xs) ≡ top n ys
top_seen f n xs ys is = sym (drop-map f (length xs - n) xs) ∙ (λ i. drop (seen_length i - n) (is i))
  where
    seen_length : length xs ≡ length ys
    seen_length = sym (length-map xs f) ∙ ap length is

pub below_seen : {A B : Type 0} (f : A → B) (n : ℕ) (xs : List A) (ys : List B) → map f xs ≡ ys → map f (below n xs) ≡ below n ys
below_seen f n xs ys is = sym (take-map f (length xs - n) xs) ∙ (λ i. take (seen_length i - n) (is i))
  where
    seen_length : length xs ≡ length ys
    seen_length = sym (length-map xs f) ∙ ap length is

-- a slice up to the end has the topmost
pub slice_top : {A : Type 0} (xs ys : List A) (n at : ℕ) → ys ≡ xs → at ≡ length xs - n → take (length ys - at) (drop at ys) ≡ top n xs
slice_top xs ys n at same is = take_all (length ys - at) (drop at ys) short ∙ (λ i. drop (is i) (same i))
  where
    short : length (drop at ys) ≤ length ys - at
    short = let left = length-drop at ys in omega arith

-- ---- roots and groups

pub roots_live : (h : Heap Part) (rs : List Root) (qs : List Part) → AreRoots h rs qs → Each (IsLive h) qs
roots_live h [] [] ps = tt
roots_live h [] (q ∷ qs) ps = absurd ps
roots_live h (r ∷ rs) [] ps = absurd ps
roots_live h (r ∷ rs) (q ∷ qs) ps = (ps.0.live, roots_live h rs qs ps.1)

pub roots_trees : (h : Heap Part) (rs : List Root) (qs : List Part) → AreRoots h rs qs → forest (tree_of h) qs ≡ forest (λ r. r.tree) rs
roots_trees h [] [] ps = refl
roots_trees h [] (q ∷ qs) ps = absurd ps
roots_trees h (r ∷ rs) [] ps = absurd ps
roots_trees h (r ∷ rs) (q ∷ qs) ps = (λ i. tree.And (ps.0.tree i) (roots_trees h rs qs ps.1 i))

roots_wanted : (h : Heap Part) (forms : List KidForm) (rs : List Root) (qs : List Part) → AreRoots h rs qs → are_wanted forms (map (λ r. r.sort) rs) ≡ kids_fit forms qs
roots_wanted h [] [] [] ps = refl
roots_wanted h (form ∷ forms) [] [] ps = refl
roots_wanted h forms [] (q ∷ qs) ps = absurd ps
roots_wanted h forms (r ∷ rs) [] ps = absurd ps
roots_wanted h [] (r ∷ rs) (q ∷ qs) ps = refl
roots_wanted h (form ∷ forms) (r ∷ rs) (q ∷ qs) ps = (λ i. is_wanted form (sym ps.0.sort i) && roots_wanted h forms rs qs ps.1 i)

roots_types : (h : Heap Part) (rs : List Root) (qs : List Part) → AreRoots h rs qs → list_all (λ r. same_part_sort r.sort handle.Ty) rs ≡ are_types qs
roots_types h [] [] ps = refl
roots_types h [] (q ∷ qs) ps = absurd ps
roots_types h (r ∷ rs) [] ps = absurd ps
roots_types h (r ∷ rs) (q ∷ qs) ps = (λ i. same_part_sort (sym ps.0.sort i) handle.Ty && roots_types h rs qs ps.1 i)

-- the list that a label binds, and its kinds
first_group : (h : Heap Part) (gs : List (List (Kind SolverDefId))) (vs : List BoundVarKinds) → Pairs (IsGroup h) gs vs → option_map (kinds_at h) (option_map part.BoundVarKinds (first_of vs)) ≡ first_of gs
first_group h [] [] ps = refl
first_group h [] (v ∷ vs) ps = absurd ps
first_group h (g ∷ gs) [] ps = absurd ps
first_group h (g ∷ gs) (v ∷ vs) ps = ap Some ps.0.kinds

first_live : (h : Heap Part) (gs : List (List (Kind SolverDefId))) (vs : List BoundVarKinds) → Pairs (IsGroup h) gs vs → (qs : List Part) → Each (IsLive h) qs → Each (IsLive h) (with_binder (option_map part.BoundVarKinds (first_of vs)) qs)
first_live h gs [] ps qs live = live
first_live h [] (v ∷ vs) ps qs live = absurd ps
first_live h (g ∷ gs) (v ∷ vs) ps qs live = (ps.0.live, live)

-- a label binds just where its row has a group
binds_there : (parts : List RowPart) (v : Option BoundVarKinds) (b : Option (List (Kind SolverDefId))) (h : Heap Part) → option_map (kinds_at h) (option_map part.BoundVarKinds v) ≡ b → bind_fits parts b ≡ true → is_some v ≡ has_for_group parts
binds_there parts None None h e fits = by (has_for_group parts) fits
  where
    by : (b : Bool) → not b ≡ true → false ≡ b
    by false n = refl
    by true n = absurd (false≢true n)
binds_there parts None (Some ks) h e fits = absurd cc
binds_there parts (Some v) None h e fits = absurd cc
binds_there parts (Some v) (Some ks) h e fits = sym fits

-- ---- what the stacks name, later

module _ (h k : Heap Part) (grows : Grows h k) where
  group_later : (ks : List (Kind SolverDefId)) (v : BoundVarKinds) → IsGroup h ks v → IsGroup k ks v
  group_later ks v is = record { live = grows.live (part.BoundVarKinds v) is.live; kinds = grows.kinds (part.BoundVarKinds v) is.live ∙ is.kinds }

  pub grown_later : (g : Grove) (b : Builder) → IsGrown h g b → IsGrown k g b
  grown_later g b is = record {
    roots = pairs_weaker (IsRoot h) (IsRoot k) (root_later h k grows) g.roots b.parts.items is.roots;
    fields = is.fields;
    kinds = is.kinds;
    groups = pairs_weaker (IsGroup h) (IsGroup k) group_later g.groups b.binders.items is.groups;
  }

-- ---- the sort of a handle

handle_is : (g : PartSort) (s : Sort) → handle_sort g ≡ s → is_some (term_sort s) ≡ true → g ≡ unwrap_or (term_sort s) handle.Ty
handle_is g s is some = by g (ap (λ s. is_some (term_sort s)) is ∙ some) ∙ ap (λ s. unwrap_or (term_sort s) handle.Ty) is
  where
    by : (g : PartSort) → is_some (term_sort (handle_sort g)) ≡ true → g ≡ unwrap_or (term_sort (handle_sort g)) handle.Ty
    by handle.Ty e = refl
    by handle.Const e = refl
    by handle.Region e = refl
    by _ e = absurd (false≢true e)

-- ---- a label

module _ (h : Heap Part) (g : Grove) (b : Builder) (w : Word) (is : IsGrown h g b) where
  own_roots : AreRoots h (own_kids w g) (kids_on w b)
  own_roots = pairs_top (IsRoot h) (kid_count (row w).parts) g.roots b.parts.items is.roots

  own_groups : Pairs (IsGroup h) (top (group_count (row w).parts) g.groups) (top (group_count (row w).parts) b.binders.items)
  own_groups = pairs_top (IsGroup h) (group_count (row w).parts) g.groups b.binders.items is.groups

  own_fields : map field_seen (fields_on w b) ≡ (own_label w g).fields
  own_fields = top_seen field_seen (field_count (row w).parts) b.fields.items g.fields is.fields

  own_binder : option_map (kinds_at h) (option_map part.BoundVarKinds (binder_on w b)) ≡ own_group w g
  own_binder = first_group h (top (group_count (row w).parts) g.groups) (top (group_count (row w).parts) b.binders.items) own_groups

  abbrev own_layer : Layer Part
  own_layer = layer_of w (fields_on w b) (binder_on w b) (kids_on w b)

  pub node_fits : LabelFits w g → FitsNode w (fields_on w b) (binder_on w b) (kids_on w b)
  node_fits fits = record {
    fields = sym (same_fits (field_forms (row w).parts) (fields_on w b)) ∙ ap (fields_fit (field_forms (row w).parts)) own_fields ∙ fits.fields;
    binder = binds_there (row w).parts (binder_on w b) (own_group w g) h own_binder fits.bind;
    kids = sym (roots_wanted h (kid_forms (row w).parts) (own_kids w g) (kids_on w b) own_roots) ∙ fits.kids;
    sort = ap (λ (fs : Fields). is_some (term_sort (sort_of_label (record { word = w; fields = fs })))) own_fields ∙ fits.sort;
  }

  pub label_live : Each (IsLive h) (names_in own_layer)
  label_live = first_live h (top (group_count (row w).parts) g.groups) (top (group_count (row w).parts) b.binders.items) own_groups (kids_on w b) (roots_live h (own_kids w g) (kids_on w b) own_roots)

  pub label_tree : (label_root w g).tree ≡ tree_above h own_layer
  label_tree = (λ i. plant (record { label = record { word = w; fields = sym own_fields i }; bind = sym own_binder i }) (sym (roots_trees h (own_kids w g) (kids_on w b) own_roots) i))

  -- the part that was made is the label's root
  pub label_made : (t : Tables) (k : Heap Part) → k ≡ heap_of t → IsSound (heap_of t) → (q : Part) → LabelFits w g → IsLive k q → tree_of k q ≡ tree_above h own_layer → IsRoot k (label_root w g) q
  label_made t k heap sound q fits live tree_is =
      let tree_of_q = tree_is ∙ sym label_tree in
      let sorted : handle_sort (sort_in q) ≡ sort_of_label (own_label w g) = sym (subst (λ j. IsLive j q → sort_of (tree_of j q) ≡ part_sort q) (sym heap) (live_sort t sound q) live) ∙ ap sort_of tree_of_q ∙ sort-plant (record { label = own_label w g; bind = own_group w g }) (forest (λ r. r.tree) (own_kids w g)) in
      record { live = live; tree = tree_of_q; sort = handle_is (sort_in q) (sort_of_label (own_label w g)) sorted fits.sort }

  pub label_taken : (t : Tables) (k : Heap Part) → k ≡ heap_of t → IsSound (heap_of t) → Grows h k → (sort : Sort) (q : Part) → LabelFits w g → IsLive k q → tree_of k q ≡ tree_above h own_layer → (c : Builder)
      → c.parts.items ≡ below (kid_count (row w).parts) b.parts.items ++ q ∷ [] → c.fields.items ≡ below (field_count (row w).parts) b.fields.items → c.variables.items ≡ b.variables.items → c.binders.items ≡ below (group_count (row w).parts) b.binders.items
      → IsGrown k (grown h g (step.Label w sort)) c
  label_taken t k heap sound grows sort q fits live tree_is c parts_are fields_are variables_are binders_are =
      let later = grown_later h k grows g b is in
      record {
        roots = subst (AreRoots k (below (kid_count (row w).parts) g.roots ++ label_root w g ∷ [])) (sym parts_are)
            (pairs_push (IsRoot k) _ _ (label_root w g) q (pairs_below (IsRoot k) (kid_count (row w).parts) g.roots b.parts.items later.roots) (label_made t k heap sound q fits live tree_is));
        fields = ap (map field_seen) fields_are ∙ below_seen field_seen (field_count (row w).parts) b.fields.items g.fields is.fields;
        kinds = ap (map variable_seen) variables_are ∙ is.kinds;
        groups = subst (Pairs (IsGroup k) (below (group_count (row w).parts) g.groups)) (sym binders_are) (pairs_below (IsGroup k) (group_count (row w).parts) g.groups b.binders.items later.groups);
      }

  pub label_makes : (s t : State) → s.heap ≡ h → Counts s.heap s.count → (l : Layer Part) → l ≡ own_layer → (r : Result Part TermError) → NewAnswers (λ p. p) s t l r → Makes s t ((label_root w g).tree ∷ []) r
  label_makes s t heap counts l layer_is r a = makes_new s t l r (label_root w g).tree counts (label_tree ∙ (λ i. tree_above (sym heap i) (sym layer_is i))) a

-- ---- a group

variables_tree : (h : Heap Part) (vs : List BoundVarKind) → variable_list (map variable_seen vs) ≡ tree_above h (variables_layer vs)
variables_tree h vs = ap (λ (fs : Fields). Node (record { word = VariableList; fields = fs }) None End) (fields_of_kinds vs)
  where
    fields_of_kinds : (vs : List BoundVarKind) → map tree.OfKind (map variable_seen vs) ≡ map variable_field vs
    fields_of_kinds [] = refl
    fields_of_kinds (v ∷ vs) = ap (λ fs. variable_field v ∷ fs) (fields_of_kinds vs)

-- the kinds in a list of variables are those of its tree
kinds_told : (t : Tables) → IsSound (heap_of t) → AllFit (heap_of t) → (v : BoundVarKinds) (ks : List (Kind SolverDefId)) → IsLive (heap_of t) (part.BoundVarKinds v) → tree_of (heap_of t) (part.BoundVarKinds v) ≡ variable_list ks → kinds_at (heap_of t) (part.BoundVarKinds v) ≡ ks
kinds_told t sound fit v ks live is =
    let own = binder_tree (heap_of t) sound (part.BoundVarKinds v) (live_binder t fit v live) in
    let same : variable_list (kinds_at (heap_of t) (part.BoundVarKinds v)) ≡ variable_list ks = sym own.1 ∙ is in
    sym (kinds_of_kinds (kinds_at (heap_of t) (part.BoundVarKinds v))) ∙ ap (λ (u : Term). kinds_among (label_in u).fields) same ∙ kinds_of_kinds ks
  where
    kinds_of_kinds : (ks : List (Kind SolverDefId)) → kinds_among (map tree.OfKind ks) ≡ ks
    kinds_of_kinds [] = refl
    kinds_of_kinds (k ∷ ks) = ap (λ rest. k ∷ rest) (kinds_of_kinds ks)

module _ (h : Heap Part) (g : Grove) (b : Builder) (n : ℕ) (is : IsGrown h g b) (vs : List BoundVarKind) (vs_are : vs ≡ top n b.variables.items) where
  bound_tree : (k : Heap Part) → variable_list (top n g.kinds) ≡ tree_above k (variables_layer vs)
  bound_tree k = ap variable_list (sym (ap (map variable_seen) vs_are ∙ top_seen variable_seen n b.variables.items g.kinds is.kinds)) ∙ variables_tree k vs

  pub bind_makes : (s t : State) → Counts s.heap s.count → (r : Result BoundVarKinds TermError) → NewAnswers part.BoundVarKinds s t (variables_layer vs) r → Makes s t (variable_list (top n g.kinds) ∷ []) r
  bind_makes s t counts r a = makes_new s t (variables_layer vs) r (variable_list (top n g.kinds)) counts (bound_tree s.heap) a

  pub bind_taken : (t : Tables) (s u : State) → s.heap ≡ h → u.heap ≡ heap_of t → IsSound (heap_of t) → AllFit (heap_of t) → (v : BoundVarKinds) → NewAnswers part.BoundVarKinds s u (variables_layer vs) (Ok v) → (c : Builder)
      → c.parts.items ≡ b.parts.items → c.fields.items ≡ b.fields.items → c.variables.items ≡ below n b.variables.items → c.binders.items ≡ b.binders.items ++ v ∷ []
      → IsGrown u.heap (grown h g (step.Bind n)) c
  bind_taken t s u old heap sound fit v a c parts_are fields_are variables_are binders_are =
      let later = grown_later h u.heap (subst (λ k. Grows k u.heap) old a.ok.grows) g b is in
      let tree_is = a.ok.tree ∙ sym (bound_tree s.heap) in
      let told = ap (λ k. kinds_at k (part.BoundVarKinds v)) heap ∙ kinds_told t sound fit v (top n g.kinds) (subst (λ k. IsLive k (part.BoundVarKinds v)) heap a.ok.live) (ap (λ k. tree_of k (part.BoundVarKinds v)) (sym heap) ∙ tree_is) in
      record {
        roots = subst (AreRoots u.heap g.roots) (sym parts_are) later.roots;
        fields = ap (map field_seen) fields_are ∙ is.fields;
        kinds = ap (map variable_seen) variables_are ∙ below_seen variable_seen n b.variables.items g.kinds is.kinds;
        groups = subst (Pairs (IsGroup u.heap) (g.groups ++ top n g.kinds ∷ [])) (sym binders_are) (pairs_push (IsGroup u.heap) g.groups b.binders.items (top n g.kinds) v later.groups (record { live = a.ok.live; kinds = told }));
      }

-- ---- a list of types

module _ (h : Heap Part) (g : Grove) (b : Builder) (n : ℕ) (is : IsGrown h g b) (qs : List Part) (qs_are : qs ≡ top n b.parts.items) where
  member_roots : AreRoots h (top n g.roots) qs
  member_roots = subst (AreRoots h (top n g.roots)) (sym qs_are) (pairs_top (IsRoot h) n g.roots b.parts.items is.roots)

  pub members_live : Each (IsLive h) qs
  members_live = roots_live h (top n g.roots) qs member_roots

  pub members_types : list_all (λ r. same_part_sort r.sort handle.Ty) (top n g.roots) ≡ true → are_types qs ≡ true
  members_types fits = sym (roots_types h (top n g.roots) qs member_roots) ∙ fits

  list_tree : (list_root (top n g.roots)).tree ≡ tree_above h (layer TypeList [] qs)
  list_tree = ap (plant (record { label = record { word = TypeList; fields = [] }; bind = None })) (sym (roots_trees h (top n g.roots) qs member_roots))

  pub list_makes : (s t : State) → s.heap ≡ h → Counts s.heap s.count → (r : Result Part TermError) → NewAnswers (λ p. p) s t (layer TypeList [] qs) r → Makes s t ((list_root (top n g.roots)).tree ∷ []) r
  list_makes s t heap counts r a = makes_new s t (layer TypeList [] qs) r (list_root (top n g.roots)).tree counts (list_tree ∙ ap (λ k. tree_above k (layer TypeList [] qs)) (sym heap)) a

  pub list_taken : (w : Word) (s u : State) → s.heap ≡ h → (q : Part) → sort_in q ≡ handle.Tys → NewAnswers (λ p. p) s u (layer TypeList [] qs) (Ok q) → (c : Builder)
      → c.parts.items ≡ below n b.parts.items ++ q ∷ [] → c.fields.items ≡ b.fields.items → c.variables.items ≡ b.variables.items → c.binders.items ≡ b.binders.items
      → IsGrown u.heap (grown h g (step.List w n)) c
  list_taken w s u old q sort a c parts_are fields_are variables_are binders_are =
      let later = grown_later h u.heap (subst (λ k. Grows k u.heap) old a.ok.grows) g b is in
      record {
        roots = subst (AreRoots u.heap (below n g.roots ++ list_root (top n g.roots) ∷ [])) (sym parts_are)
            (pairs_push (IsRoot u.heap) _ _ (list_root (top n g.roots)) q (pairs_below (IsRoot u.heap) n g.roots b.parts.items later.roots) (record { live = a.ok.live; tree = a.ok.tree ∙ ap (λ k. tree_above k (layer TypeList [] qs)) old ∙ sym list_tree; sort = sort }));
        fields = ap (map field_seen) fields_are ∙ is.fields;
        kinds = ap (map variable_seen) variables_are ∙ is.kinds;
        groups = subst (Pairs (IsGroup u.heap) g.groups) (sym binders_are) later.groups;
      }

-- ---- steps

-- a step that makes a tree: it is refused, or there is no memory for its part, or it is taken
module _ (h : Heap Part) (g : Grove) (old new : State) (s : Resolved) where
  pub takes_err : {T : Type 0} (c : Builder) (r : Result Unit TermError) (e : TermError) (ts : List Term) → added h g s ≡ ts → r ≡ Err e → Makes {T = T} old new ts (Err e) → Takes h g old new c s r
  takes_err c r e ts is refused makes = subst (Takes h g old new c s) (sym refused) (record { makes = makes_err old new ts (added h g s) e makes (λ t m. ap (λ us. is_part us t) is ∙ m); grown = tt })

  pub takes_late : {T : Type 0} (c : Builder) (r : Result Unit TermError) (e : TermError) (x : T) (ts : List Term) → added h g s ≡ ts → r ≡ Err e → e ≡ error.Memory → Makes old new ts (Ok x) → Takes h g old new c s r
  takes_late {T} c r e x ts is refused memory makes = takes_err {T = T} c r e ts is refused (makes_memory old new ts x e memory makes)

  pub takes_ok : {T : Type 0} (c : Builder) (x : T) (ts : List Term) → added h g s ≡ ts → Makes old new ts (Ok x) → IsGrown new.heap (grown h g s) c → Takes h g old new c s (Ok tt)
  takes_ok c x ts is makes grown = record { makes = subst (λ us. Makes old new us (Ok tt)) (sym is) (makes_ok old new ts x tt makes); grown = grown }

-- a step for which a part stands already
takes_standing : (h : Heap Part) (g : Grove) (s : State) (b c : Builder) (t : Resolved) (r : Root) (q : Part) → ((u : Term) → is_part (added h g t) u ≡ true → Stands s.heap u) → with_roots (g.roots ++ r ∷ []) g ≡ grown h g t → IsRoot s.heap r q → IsGrown s.heap g b
    → c.parts.items ≡ b.parts.items ++ q ∷ [] → c.fields.items ≡ b.fields.items → c.variables.items ≡ b.variables.items → c.binders.items ≡ b.binders.items
    → Takes h g s s c t (Ok tt)
takes_standing h g s b c t r q stand grows root is parts_are fields_are variables_are binders_are = record {
  makes = makes_standing s (added h g t) tt stand;
  grown = subst (λ g. IsGrown s.heap g c) grows (record {
    roots = subst (AreRoots s.heap (g.roots ++ r ∷ [])) (sym parts_are) (pairs_push (IsRoot s.heap) g.roots b.parts.items r q is.roots root);
    fields = ap (map field_seen) fields_are ∙ is.fields;
    kinds = ap (map variable_seen) variables_are ∙ is.kinds;
    groups = subst (Pairs (IsGroup s.heap) g.groups) (sym binders_are) is.groups;
  });
}

-- a name's part
pub takes_term : (h : Heap Part) (g : Grove) (s : State) (b c : Builder) (t : Resolved) (q : Part) → t ≡ step.Term q → IsSound s.heap → Grows h s.heap → Fits h g t → IsGrown s.heap g b → c.parts.items ≡ b.parts.items ++ q ∷ [] → c.fields.items ≡ b.fields.items → c.variables.items ≡ b.variables.items → c.binders.items ≡ b.binders.items
    → Takes h g s s c t (Ok tt)
takes_term h g s b c t q here sound grows fits is parts_are fields_are variables_are binders_are =
    let live = subst (Fits h g) here fits in
    let root : IsRoot s.heap (record { tree = tree_of h q; sort = sort_in q }) q = record { live = grows.live q live; tree = grows.tree q live; sort = refl } in
    subst (λ t. Takes h g s s c t (Ok tt)) (sym here) (takes_standing h g s b c (step.Term q) _ q (parts_stand s.heap sound (tree_of h q) q root.live root.tree) refl root is parts_are fields_are variables_are binders_are)

-- the part of a label that is a word alone
pub takes_leaf : (h : Heap Part) (g : Grove) (s : State) (b c : Builder) (t : Resolved) (w : Word) (sort : Sort) (q : Part) → t ≡ step.Label w sort → IsLeafOf s.heap w q → IsGrown s.heap g b → c.parts.items ≡ b.parts.items ++ q ∷ [] → c.fields.items ≡ b.fields.items → c.variables.items ≡ b.variables.items → c.binders.items ≡ b.binders.items
    → Takes h g s s c t (Ok tt)
takes_leaf h g s b c t w sort q here leaf is parts_are fields_are variables_are binders_are =
    let root = subst (λ r. IsRoot s.heap r q) (sym (leaf_is w g leaf.bare)) leaf.root in
    subst (λ t. Takes h g s s c t (Ok tt)) (sym here) (takes_standing h g s b c (step.Label w sort) (label_root w g) q
    (λ u m. ⊎_elim (λ same. (q, root.live, root.tree ∙ same)) (λ none. absurd (no_part u none)) (part_of_cons (label_root w g).tree [] u m))
    (leaf_grown h g w sort leaf.bare) root is parts_are fields_are variables_are binders_are)

-- what is said of a step is said of what it is
pub takes_as : (old new : State) (b c : Builder) (s t : Resolved) (r : Result Unit TermError) → t ≡ s → TakesStep old new b c s r → TakesStep old new b c t r
takes_as old new b c s t r is takes = subst (λ s. TakesStep old new b c s r) (sym is) takes

-- a heap grows with a step
pub step_grows : (old new : State) (b c : Builder) (t s : Resolved) (r : Result Unit TermError) → t ≡ s → IsNext old.heap b t → TakesStep old new b c s r → Grows old.heap new.heap
step_grows old new b c t s r is next takes = (takes_as old new b c s t r is takes old.heap next.grove (Grows-refl old.heap) next.grown next.fits).makes.grows

-- ---- all steps

fits_later : (h k : Heap Part) (g : Grove) (s : Resolved) → Grows h k → Fits h g s → Fits k g s
fits_later h k g (step.Term q) grows fits = grows.live q fits
fits_later h k g (step.Field f) grows fits = fits
fits_later h k g (step.Variable v) grows fits = fits
fits_later h k g (step.Bind n) grows fits = fits
fits_later h k g (step.Label w sort) grows fits = fits
fits_later h k g (step.List w n) grows fits = fits

-- the steps so far are taken, and the rest grow what all grow
pub record SoFar (old now : State) (b : Builder) (rest : List Resolved) (final : Grove) : Type 0 where
  pub grove : Grove
  pub ends : grove_on old.heap grove rest ≡ final
  pub fits : StepsFit old.heap grove rest
  pub makes : Makes {T = Unit {0}} old now (made grove) (Ok tt)
  pub grown : IsGrown now.heap grove b

pub none_taken : (s : State) (b : Builder) (steps : List Resolved) → b.parts.items ≡ [] → b.fields.items ≡ [] → b.variables.items ≡ [] → b.binders.items ≡ [] → StepsFit s.heap bare steps → SoFar s s b steps (grove s.heap steps)
none_taken s b steps parts_are fields_are variables_are binders_are fits = record {
  grove = bare;
  ends = refl;
  fits = fits;
  makes = makes_none s;
  grown = record {
    roots = subst (AreRoots s.heap []) (sym parts_are) tt;
    fields = ap (map field_seen) fields_are;
    kinds = ap (map variable_seen) variables_are;
    groups = subst (Pairs (IsGroup s.heap) []) (sym binders_are) tt;
  };
}

pub all_taken : {old now : State} {b : Builder} {rest : List Resolved} {final : Grove} → SoFar old now b rest final → rest ≡ [] → Makes {T = Unit {0}} old now (made final) (Ok tt) × AreRoots now.heap final.roots b.parts.items
all_taken {old} {now} {b} f none =
    let same = ap (grove_on old.heap f.grove) (sym none) ∙ f.ends in
    (subst (λ (g : Grove). Makes {T = Unit {0}} old now (made g) (Ok tt)) same f.makes, subst (λ (g : Grove). AreRoots now.heap g.roots b.parts.items) same f.grown.roots)

module _ {old now : State} {b : Builder} {rest more : List Resolved} {final : Grove} {s : Resolved} (next : rest ≡ s ∷ more) (f : SoFar old now b rest final) where
  next_fits : Fits old.heap f.grove s × StepsFit old.heap (grown old.heap f.grove s) more
  next_fits = subst (StepsFit old.heap f.grove) next f.fits

  pub next_is : IsNext now.heap b s
  next_is = record { grove = f.grove; grown = f.grown; fits = fits_later old.heap now.heap f.grove s f.makes.grows next_fits.0 }

  next_makes : {new : State} {c : Builder} (r : Result Unit TermError) → TakesStep now new b c s r → Makes old new (made (grown old.heap f.grove s)) r
  next_makes {new} {c} r takes =
      let same = made_step old.heap f.grove s next_fits.0 in
      makes_same old new (made f.grove ++ added old.heap f.grove s) (made (grown old.heap f.grove s)) r
      (makes_then old now new (made f.grove) (added old.heap f.grove s) tt r f.makes (takes old.heap f.grove f.makes.grows f.grown next_fits.0).makes)
      (λ t m. sym (same t) ∙ m) (λ t m. same t ∙ m)

  pub next_taken : {new : State} {c : Builder} → TakesStep now new b c s (Ok tt) → SoFar old new c more final
  next_taken {new} {c} takes = record {
    grove = grown old.heap f.grove s;
    ends = ap (grove_on old.heap f.grove) (sym next) ∙ f.ends;
    fits = next_fits.1;
    makes = next_makes {new = new} {c = c} (Ok tt) takes;
    grown = (takes old.heap f.grove f.makes.grows f.grown next_fits.0).grown;
  }

  pub next_refused : {new : State} {c : Builder} (e : TermError) → TakesStep now new b c s (Err e) → Makes {T = Unit {0}} old new (made final) (Err e)
  next_refused {new} {c} e takes = makes_err old new (made (grown old.heap f.grove s)) (made final) e (next_makes {new = new} {c = c} (Err e) takes)
      (λ t m. ap (λ (g : Grove). is_part (made g) t) (sym (ap (grove_on old.heap f.grove) (sym next) ∙ f.ends)) ∙ made_more old.heap (grown old.heap f.grove s) more next_fits.1 t m)
