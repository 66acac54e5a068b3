-- What the tables' heap says of each part.
use Rattle.std.proofs.Common.{◌≡◌, ◌<◌, ◌↔◌, ℕ, ◌+◌, Bool, true, false, ◌||◌, not, is_some, true≢false, if◌then◌else◌, arith, List, [], ◌∷◌, ◌++◌, length, slice_get, map, IsTrue, IsSome, Option, None, Some, ◌⊎◌, inl, inr, ⊎_elim, refl, sym, ap, ap₂, ◌∙◌}
use Rattle.std.proofs.lemmas.Bool.{and_from, and_parts, cases_Bool, or_right}
use Rattle.std.proofs.lemmas.Option.{cond_some, none-some, same_Some, slice_get_past, slice_get_within}
use denote.Enum.Bare.{same_true, true_same}
use Rattle.ir_core.specs.declared.handles.Part.{Part}
use Rattle.ir_core.specs.declared.handles.Part.TheVariants as part
use Rattle.ir_core.specs.declared.limit.Limits.{Limits as GivenLimits}
use Rattle.ir_laws.specs.Heap.{Heap, Kids, OfNames, Inlined, Layer, Sketch, Each, IsLive, IsKids, IsNode, IsSound, HasNode, are_names, names_in, has_none, is_binder, is_shape_counted, kid_names, leaf_of, shape_over, with_binder}
use Rattle.ir_laws.proofs.HeapLemmas.{has_node, kids_of_names, kinds_at_node, node_of, is_binder_at}
use Rattle.ir_core.specs.declared.handles.PartSort.{PartSort}
use Rattle.ir_core.specs.declared.handles.PartSort.TheVariants as sort
use Rattle.ir_core.specs.contracts.handles.PartSort.{the_type}
use Rattle.ir_table.specs.declared.store.Tables.{Tables}
use Rattle.ir_laws.specs.declared.words.Word.TheVariants.{TypeList}
use Rattle.ir_laws.specs.declared.words.Word.{Word}
use Rattle.ir_laws.specs.declared.labels.Sort.{Sort}
use Rattle.ir_laws.specs.declared.labels.Sort.TheVariants.{OfExistential, OfList}
use Rattle.ir_laws.specs.Counts.{sort_of_label}
use Rattle.ir_laws.specs.Same.{same_sort}
use Rattle.ir_laws.specs.Label.{row}
use Rattle.ir_laws.specs.Parts.{has_for_group, is_bound}
use Rattle.ir_nodes.specs.Fits.{binder_fits, fits_row, fits_sort, is_of, is_term, layer_fits, layer_sort, list_sort, part_by, sort_by, term_sort}
use Rattle.ir_table.specs.Heaps.{count_of, heap_of, only, table_of}
use Rattle.ir_core.specs.Parts.{part_at, index_in, same_part_sort, sort_in}
use Rattle.ir_table.specs.declared.info.CachedInfo.{CachedInfo}
use Rattle.std.specs.Option.{option_map}
use Rattle.ir_core.specs.declared.handles.BoundVarKinds.{BoundVarKinds}
use Rattle.ir_core.specs.declared.variables.BoundVarKind.{BoundVarKind}
use Rattle.ir_laws.specs.Heap.{kinds_at}
use Rattle.ir_table.proofs.NodeLemmas.{kinds_of_fields}
use Rattle.ir_nodes.specs.Nodes.{variable_seen, variables_layer}
use Rattle.ir_table.specs.Info.{sketch}
use Rattle.ir_table.specs.Owned.{owns_nodes}
use Rattle.ir_table.specs.Tabled.{IsTable, is_owned}
use Rattle.ir_table.specs.Interner.{state_of}
use Rattle.ir_table.proofs.TableLemmas.{slice_get_push, slice_get_push_cases}
use Rattle.ir_nodes.proofs.FitLemmas.{fits_term, term_is}
use Rattle.ir_table.proofs.SortLemmas.{AllFit, IsSort}

-- ---- sorts and places

part_back : (q : Part) → q ≡ part_at (sort_in q) (index_in q)
part_back (part.Tys h) = refl
part_back _ = refl

heap_at : (t : Tables) (g : PartSort) (i : ℕ) → heap_of t (part_at g i) ≡ only g (slice_get (table_of t g) i)
unfolding heap_of
heap_at t sort.Tys i = refl
heap_at t _ i = refl

heap_when : (t : Tables) (g : PartSort) (i : ℕ) {es : List (Sketch Part)} → table_of t g ≡ es → heap_of t (part_at g i) ≡ only g (slice_get es i)
heap_when t g i table = heap_at t g i ∙ ap (λ xs. only g (slice_get xs i)) table

heap_in : (t : Tables) (q : Part) → heap_of t q ≡ only (sort_in q) (slice_get (table_of t (sort_in q)) (index_in q))
unfolding heap_of
heap_in t q = refl

-- ---- nodes of one sort

is_same : (g : PartSort) (o : Option PartSort) → is_of g o ≡ true → o ≡ Some g
is_same g None e = absurd (true≢false (sym e))
is_same g (Some h) e = ap Some (sym (same_true the_type tt g h e))

only_here : (g : PartSort) (s : Sketch Part) → layer_sort s.layer ≡ Some g → only g (Some s) ≡ Some s
only_here g s e = ap (λ b. if b then Some s else None) (ap (is_of g) e ∙ true_same the_type g g refl)

only_some : (g : PartSort) (o : Option (Sketch Part)) (s : Sketch Part) → only g o ≡ Some s → (o ≡ Some s) × (layer_sort s.layer ≡ Some g)
only_some g None s e = absurd (none-some s e)
only_some g (Some t) s e =
    let w = cond_some (is_of g (layer_sort t.layer)) t s e in
    (ap Some w.1, rw (← w.1) (is_same g (layer_sort t.layer) w.0))

-- either it is of the sort, or it isn't there
only_other : (g h : PartSort) (s : Sketch Part) → layer_sort s.layer ≡ Some g → (h ≡ g) ⊎ (only h (Some s) ≡ None)
only_other g h s e = elim (cases_Bool (same_part_sort h g)) [
  | inl is ↦ inl (same_true the_type tt h g is)
  | inr is ↦ inr (ap (λ o. if is_of h o then Some s else None) e ∙ ap (λ b. if b then Some s else None) is)
]

-- a node stands at its part's place, and is of its sort
entry_of : (t : Tables) (p : Part) (s : Sketch Part) → heap_of t p ≡ Some s → (slice_get (table_of t (sort_in p)) (index_in p) ≡ Some s) × (layer_sort s.layer ≡ Some (sort_in p))
entry_of t p s e = only_some (sort_in p) (slice_get (table_of t (sort_in p)) (index_in p)) s (sym (heap_in t p) ∙ e)

-- ---- a table among the tables

abbrev seen : Part → List (Sketch Part) → Option (Sketch Part)
seen q xs = only (sort_in q) (slice_get xs (index_in q))

module _ {owns : PartSort → Bool} {entries : Tables → List (Sketch Part)} {put : Tables → List (Sketch Part) → Tables} (table : IsTable owns entries put)
    (t : Tables) (limits : GivenLimits) (l : Layer Part) where
  abbrev push : Sketch Part → Tables
  push k = put t (entries t ++ k ∷ [])

  -- the part's table, as the tables are now
  own_now : (g : PartSort) → owns g ≡ true → table_of t g ≡ entries t
  own_now g mine = ap (λ u. table_of u g) (sym (table.back t)) ∙ table.own t (entries t) g mine

  module _ (g : PartSort) (sort : layer_sort l ≡ Some g) (mine : owns g ≡ true) where
    here : (k : Sketch Part) → k.layer ≡ l → only g (Some k) ≡ Some k
    here k layers = only_here g k (ap layer_sort layers ∙ sort)

    others : (k : Sketch Part) → k.layer ≡ l → (q : Part) → (q ≡ part_at g (length (entries t))) ⊎ (heap_of (push k) q ≡ heap_of t q)
    others k layers q = elim (cases_Bool (owns (sort_in q))) [
      | inl mine ↦
          let new = heap_in (push k) q ∙ ap (seen q) (table.own t (entries t ++ k ∷ []) (sort_in q) mine) in
          let old = heap_in t q ∙ ap (seen q) (own_now (sort_in q) mine) in
          elim (slice_get_push_cases (entries t) k (index_in q)) [
            | inl last ↦ elim (only_other g (sort_in q) k (ap layer_sort layers ∙ sort)) [
              | inl same ↦ inl (part_back q ∙ ap₂ part_at same last.0)
              | inr gone ↦ inr (new ∙ ap (only (sort_in q)) last.1 ∙ gone ∙ sym (old ∙ ap (only (sort_in q)) last.2))
            ]
            | inr same ↦ inr (new ∙ ap (only (sort_in q)) same ∙ sym old)
          ]
      | inr other ↦ inr (heap_in (push k) q ∙ ap (seen q) (table.other t (entries t ++ k ∷ []) (sort_in q) other) ∙ sym (heap_in t q))
    ]

    sort_has : IsSort (part_at g) l (entries t) (state_of t limits) (λ k. state_of (push k) limits)
    sort_has = record {
      adds = λ k layers. record {
        before = heap_when t g (length (entries t)) (own_now g mine) ∙ ap (only g) (slice_get_past (entries t) (length (entries t)) (omega arith));
        after = heap_when (push k) g (length (entries t)) (table.own t (entries t ++ k ∷ []) g mine) ∙ ap (only g) (slice_get_push (entries t) k) ∙ here k layers;
        others = others k layers;
      };
      fresh = λ lacks q k e layers.
          let w = entry_of t q k e in
          let same = same_Some (sort_in q) g (sym w.1 ∙ ap layer_sort layers ∙ sort) in
          lacks (index_in q) (k, ap (λ xs. slice_get xs (index_in q)) (sym (own_now (sort_in q) (ap owns same ∙ mine))) ∙ w.0, layers);
      at = λ i k e layers. heap_when t g i (own_now g mine) ∙ ap (only g) e ∙ here k layers;
      count = λ k. table.count t (entries t) k ∙ ap (λ u. count_of u + 1) (table.back t);
      limits = λ k. refl;
    }

  pub is_sort : is_owned owns (layer_sort l) ≡ true → IsSort (part_by (layer_sort l)) l (entries t) (state_of t limits) (λ k. state_of (push k) limits)
  is_sort owned = by (layer_sort l) refl owned
    where
      by : (o : Option PartSort) → layer_sort l ≡ o → is_owned owns o ≡ true → IsSort (part_by o) l (entries t) (state_of t limits) (λ k. state_of (push k) limits)
      by None e mine = absurd (true≢false (sym mine))
      by (Some g) e mine = sort_has g e mine

-- ---- binders

pub sorted : (t : Tables) (p : Part) (s : Sketch Part) → heap_of t p ≡ Some s → layer_sort s.layer ≡ Some (sort_in p)
sorted t p s e = (entry_of t p s e).1

-- a live list of variables binds
pub live_binder : (t : Tables) → AllFit (heap_of t) → (v : BoundVarKinds) → IsLive (heap_of t) (part.BoundVarKinds v) → is_binder (heap_of t) (Some (part.BoundVarKinds v)) ≡ true
live_binder t fit v live =
    let x = node_of (heap_of t) (part.BoundVarKinds v) live in
    is_binder_at (heap_of t) (part.BoundVarKinds v) x.0 x.1 (ap (λ o. fits_sort o x.0.layer) (sym (sorted t (part.BoundVarKinds v) x.0 x.1)) ∙ fit (part.BoundVarKinds v) x.0 x.1)

binder_of_row : (t : Tables) → AllFit (heap_of t) → (b : Bool) (o : Option Part) (ps : List Part) → binder_fits b o ≡ true → Each (IsLive (heap_of t)) (with_binder o ps) → is_binder (heap_of t) o ≡ true
binder_of_row t fit b None ps e live = refl
binder_of_row t fit true (Some (part.BoundVarKinds v)) ps e live = live_binder t fit v live.0
binder_of_row t fit b (Some p) ps e live = absurd (true≢false (sym e))

none_names : (ks : Kids Part) → has_none ks ≡ true → are_names ks ≡ true
none_names (OfNames ps) e = refl
none_names (Inlined i ks) e = absurd (true≢false (sym e))

-- the parts of a row's fit
row_binder : (l : Layer Part) → fits_row l ≡ true → binder_fits (has_for_group (row l.label.word).parts) l.binder ≡ true
row_binder l e = (and_parts _ _ (and_parts _ _ e).1).0

row_names : (l : Layer Part) → fits_row l ≡ true → are_names l.kids ≡ true
row_names l e = (and_parts _ _ (and_parts _ _ (and_parts _ _ e).1).1).0

no_binder : (o : Option Part) → not (is_some o) ≡ true → o ≡ None
no_binder None e = refl
no_binder (Some p) e = absurd (true≢false (sym e))

-- a node fits its row, and a list has no binder, and names as its kids
row_or_list : (o : Option PartSort) (l : Layer Part) → fits_sort o l ≡ true → (fits_row l ≡ true) ⊎ ((l.binder ≡ None) × (are_names l.kids ≡ true))
row_or_list None l e = absurd (true≢false (sym e))
row_or_list (Some sort.Ty) l e = inl e
row_or_list (Some sort.Const) l e = inl e
row_or_list (Some sort.Region) l e = inl e
row_or_list (Some sort.Tys) l e = let w = and_parts _ _ (and_parts _ _ e).1 in inr (no_binder l.binder w.0, (and_parts _ _ w.1).0)
row_or_list (Some sort.BoundVarKinds) l e = let w = and_parts _ _ e in inr (no_binder l.binder (and_parts _ _ w.0).1, none_names l.kids w.1)
row_or_list (Some _) l e = let w = and_parts _ _ (and_parts _ _ e).1 in inr (no_binder l.binder w.0, none_names l.kids w.1)

-- what fits has names as its kids
pub fits_names : (l : Layer Part) → layer_fits l ≡ true → are_names l.kids ≡ true
fits_names l fits = ⊎_elim (row_names l) (λ w. w.1) (row_or_list (layer_sort l) l fits)

-- no list may bind
list_group : (w : Word) → is_some (list_sort w) ≡ true → has_for_group (row w).parts ≡ false
list_group TypeList e = refl
list_group _ e = cc

some_sort : (o : Option PartSort) (l : Layer Part) → fits_sort o l ≡ true → is_some o ≡ true
some_sort None l e = absurd (true≢false (sym e))
some_sort (Some g) l e = refl

-- what fits binds as its row says
fits_binder : (s : Sort) (l : Layer Part) → fits_sort (sort_by s l.label.word) l ≡ true → binder_fits (has_for_group (row l.label.word).parts) l.binder ≡ true
fits_binder OfList l e = ⊎_elim (row_binder l) (λ w. ap₂ binder_fits (list_group l.label.word (some_sort (list_sort l.label.word) l e)) w.0) (row_or_list (list_sort l.label.word) l e)
fits_binder s l e = row_binder l (sym (fits_term (term_sort s) l (term_is s (some_sort (term_sort s) l e))) ∙ e)

-- and is counted
counted : (h : Heap Part) (l : Layer Part) → layer_fits l ≡ true → is_shape_counted (shape_over h l) ≡ true
counted h l fits = or_right (is_some (leaf_of l.label)) _ (and_from _ _ (other (sort_of_label l.label) l.label.word fits) (bound (has_for_group (row l.label.word).parts) l.binder (fits_binder (sort_of_label l.label) l fits)))
  where
    other : (s : Sort) (w : Word) → fits_sort (sort_by s w) l ≡ true → not (same_sort s OfExistential) ≡ true
    other OfExistential w e = absurd (true≢false (sym e))
    other _ w e = refl

    bound : (g : Bool) (o : Option Part) → binder_fits g o ≡ true → (is_bound (option_map (kinds_at h) o) || not g) ≡ true
    bound g (Some p) e = refl
    bound false None e = refl
    bound true None e = absurd (true≢false (sym e))

-- what fits over live names is a node of a heap
pub node_ok : (t : Tables) → AllFit (heap_of t) → (l : Layer Part) → layer_fits l ≡ true → Each (IsLive (heap_of t)) (names_in l) → IsNode (heap_of t) (IsLive (heap_of t)) l
node_ok t fit l fits live = record {
  binder = binder_of_row t fit (has_for_group (row l.label.word).parts) l.binder (kid_names l.kids) (fits_binder (sort_of_label l.label) l fits) live;
  count = counted (heap_of t) l fits;
  kids = kids l.kids (fits_names l fits) (kids_of_names (IsLive (heap_of t)) l.binder (kid_names l.kids) live);
}
  where
    kids : (ks : Kids Part) → are_names ks ≡ true → Each (IsLive (heap_of t)) (kid_names ks) → IsKids (heap_of t) (IsLive (heap_of t)) ks
    kids (OfNames ps) e all = all
    kids (Inlined i ks) e all = absurd (true≢false (sym e))

-- ---- live parts

pub owned_is_term : (o : Option PartSort) → is_owned owns_nodes o ≡ is_term o
owned_is_term None = refl
owned_is_term (Some g) = refl

-- what stands at the place of a live part is its node
only_node : (h : Heap Part) (p : Part) (g : PartSort) (s : Sketch Part) → h p ≡ only g (Some s) → IsLive h p → (h p ≡ Some s) × (layer_sort s.layer ≡ Some g)
only_node h p g s at live =
    let n = node_of h p live in
    let there = only_some g (Some s) n.0 (sym at ∙ n.1) in
    (n.1 ∙ sym there.0, rw (same_Some s n.0 there.0) there.1)

-- where a part stands in its table
module _ (t : Tables) (p : Part) (g : PartSort) (i : ℕ) (is : p ≡ part_at g i) (live : IsLive (heap_of t) p) (es : List (Sketch Part)) (table : table_of t g ≡ es) where
  place : heap_of t p ≡ only g (slice_get es i)
  place = ap (heap_of t) is ∙ heap_when t g i table

  pub entry_within : i < length es
  entry_within =
      let x = node_of (heap_of t) p live in
      slice_get_within es i x.0 (only_some g (slice_get es i) x.0 (sym place ∙ x.1)).0

  module _ (l : Layer Part) (w : (c : CachedInfo) × (slice_get es i ≡ Some (sketch l c))) where
    -- what stands there is its node, of the part's sort
    pub entry_kept : (heap_of t p ≡ Some (sketch l w.0)) × (layer_sort l ≡ Some g)
    entry_kept = only_node (heap_of t) p g (sketch l w.0) (place ∙ ap (only g) w.1) live

    pub entry_node : IsSound (heap_of t) → HasNode (heap_of t) p l
    entry_node sound = has_node (heap_of t) sound p (sketch l w.0) entry_kept.0

    -- the node of a term fits its row
    pub entry_row : AllFit (heap_of t) → is_term (Some g) ≡ true → fits_row l ≡ true
    entry_row fit term = sym (fits_term (layer_sort l) l (ap is_term entry_kept.1 ∙ term)) ∙ fit p (sketch l w.0) entry_kept.0

-- what stands at the place of a part, as a sketch, is its node where it is of the part's sort
module _ {X : Type 0} (seen : X → Sketch Part) (t : Tables) (p : Part) (o : Option X) (is : option_map seen o ≡ slice_get (table_of t (sort_in p)) (index_in p)) where
  entry_is : (u : Option X) → o ≡ u → heap_of t p ≡ only (sort_in p) (option_map seen u)
  entry_is u e = heap_in t p ∙ ap (only (sort_in p)) (sym is ∙ ap (option_map seen) e)

  pub entry_some : IsLive (heap_of t) p → IsSome o
  entry_some live = by o refl
    where
      by : (u : Option X) → o ≡ u → IsSome u
      by (Some x) e = refl
      by None e = absurd (true≢false (sym live ∙ ap is_some (entry_is None e)))

  pub entry_at : (x : X) → o ≡ Some x → IsLive (heap_of t) p → (heap_of t p ≡ Some (seen x)) × (layer_sort (seen x).layer ≡ Some (sort_in p))
  entry_at x e live = only_node (heap_of t) p (sort_in p) (seen x) (entry_is (Some x) e) live

  pub entry_live : (x : X) → o ≡ Some x → (b : Bool) → b ≡ is_of (sort_in p) (layer_sort (seen x).layer) → IsTrue b ↔ IsLive (heap_of t) p
  entry_live x e b same =
      let all : is_some (heap_of t p) ≡ b = ap is_some (entry_is (Some x) e) ∙ some_if (is_of (sort_in p) (layer_sort (seen x).layer)) ∙ sym same in
      (λ yes. all ∙ yes, λ live. sym all ∙ live)
    where
      some_if : (c : Bool) → is_some (if c then Some (seen x) else None) ≡ c
      some_if true = refl
      some_if false = refl

-- a list of variables has these
pub kinds_in_list : (t : Tables) (v : BoundVarKinds) (vs : List BoundVarKind) → ((c : CachedInfo) × (slice_get t.variable_lists v.index ≡ Some (sketch (variables_layer vs) c))) → kinds_at (heap_of t) (part.BoundVarKinds v) ≡ map variable_seen vs
kinds_in_list t v vs w =
    let at = heap_in t (part.BoundVarKinds v) ∙ ap (only sort.BoundVarKinds) w.1 ∙ only_here sort.BoundVarKinds (sketch (variables_layer vs) w.0) refl in
    kinds_at_node (heap_of t) (part.BoundVarKinds v) (sketch (variables_layer vs) w.0) at ∙ kinds_of_fields vs
