-- What resolved steps grow, step by step, and the parts of the trees that stand.
use Rattle.std.proofs.Common.{◌≡◌, ◌∙◌, ℕ, ◌-◌, Bool, true, false, ◌||◌, not, List, [], ◌∷◌, ◌++◌, length, drop, map, flat_map, Option, Some, None, is_some, refl, sym, ap, subst, arith}
use Rattle.std.proofs.lemmas.Bool.{and_from, false≢true}
use Rattle.std.proofs.lemmas.List.{append-nil, append_assoc, drop_all, map_push, map-append, take-append-drop}
use Rattle.std.proofs.lemmas.Grind.{flat_map-append}
use Rattle.ir_core.specs.declared.handles.Part.{Part}
use Rattle.ir_core.specs.Parts.{sort_in}
use Rattle.ir_core.specs.declared.ids.SolverDefId.{SolverDefId}
use Rattle.ir_laws.specs.Counts.{sort_of_label}
use Rattle.ir_laws.specs.Formed.{bind_fits}
use Rattle.ir_laws.specs.Heap.{Heap, forest, tree_of}
use Rattle.ir_laws.specs.Label.{row}
use Rattle.ir_laws.specs.Parts.{all_parts, has_for_group, is_counted, is_part, parts, variable_list, variable_lists}
use Rattle.ir_laws.specs.Same.{same_sort}
use Rattle.ir_laws.specs.Tree.{Kind, Label, Term}
use Rattle.ir_laws.specs.declared.labels.Sort.{Sort}
use Rattle.ir_laws.specs.declared.labels.Sort.TheVariants.{OfType, OfRegion, OfConstant, OfPattern, OfPredicate, OfBytes, OfExistential, OfList}
use Rattle.ir_laws.specs.declared.words.Word.TheVariants.{TypeList}
use Rattle.ir_laws.proofs.PartSets.{part_left}
use Rattle.ir_laws.proofs.PlantLemmas.{parts-plant}
use Rattle.ir_nodes.specs.Fits.{term_sort}
use Rattle.ir_script.specs.Grove.{AllFit, Fits, Grove, Root, grove_on, grown, label_root, list_root, made, own_group, own_kids, own_label}
use Rattle.ir_script.specs.Making.{added}
use Rattle.ir_syntax.specs.Steps.{below, first_of, group_count, kid_count, top}
use Rattle.ir_script.specs.declared.resolved.Resolved.{Resolved}
use Rattle.ir_script.specs.declared.resolved.Resolved.TheVariants as step

-- ---- the same terms in other order

or_assoc : (x y z : Bool) → ((x || y) || z) ≡ (x || (y || z))
or_assoc true y z = refl
or_assoc false y z = refl

pub part-append : (xs ys : List Term) (t : Term) → is_part (xs ++ ys) t ≡ (is_part xs t || is_part ys t)
part-append [] ys t = refl
part-append (x ∷ xs) ys t = part_cons x (xs ++ ys) t ∙ ap (λ b. is_part (x ∷ []) t || b) (part-append xs ys t) ∙ sym (or_assoc (is_part (x ∷ []) t) (is_part xs t) (is_part ys t)) ∙ ap (λ b. b || is_part ys t) (sym (part_cons x xs t))
  where
    part_cons : (x : Term) (zs : List Term) (t : Term) → is_part (x ∷ zs) t ≡ (is_part (x ∷ []) t || is_part zs t)
    part_cons x zs t = by _
      where
        by : (b : Bool) → elim b as (λ c. Bool) [ true ↦ true | false ↦ is_part zs t ] ≡ (elim b as (λ c. Bool) [ true ↦ true | false ↦ false ] || is_part zs t)
        by true = refl
        by false = refl

-- five lists, of which the last comes first but one
last_second : (a b c d e : Bool) → (((a || b) || (c || d)) || e) ≡ ((a || (e || (d || b))) || c)
last_second true b c d e = refl
last_second false true true d true = refl
last_second false true true true false = refl
last_second false true true false false = refl
last_second false true false d true = refl
last_second false true false true false = refl
last_second false true false false false = refl
last_second false false true true e = by e
  where
    by : (e : Bool) → true ≡ ((e || true) || true)
    by true = refl
    by false = refl
last_second false false true false true = refl
last_second false false true false false = refl
last_second false false false true true = refl
last_second false false false true false = refl
last_second false false false false true = refl
last_second false false false false false = refl

-- the last of three lists comes second
last_of_three : (a b c : Bool) → ((a || b) || c) ≡ ((a || c) || b)
last_of_three true b c = refl
last_of_three false true true = refl
last_of_three false true false = refl
last_of_three false false true = refl
last_of_three false false false = refl

-- ---- what is counted

-- a sort that handles have is not that of existential predicates
no_existential : (s : Sort) → is_some (term_sort s) ≡ true → not (same_sort s OfExistential) ≡ true
no_existential OfType e = refl
no_existential OfRegion e = refl
no_existential OfConstant e = refl
no_existential OfPattern e = absurd (false≢true e)
no_existential OfPredicate e = absurd (false≢true e)
no_existential OfBytes e = absurd (false≢true e)
no_existential OfExistential e = absurd (false≢true e)
no_existential OfList e = absurd (false≢true e)

counted : (l : Label SolverDefId) (b : Option (List (Kind SolverDefId))) → is_some (term_sort (sort_of_label l)) ≡ true → bind_fits (row l.word).parts b ≡ true → is_counted l b ≡ true
counted l None sort bind = and_from _ _ (no_existential (sort_of_label l) sort) bind
counted l (Some ks) sort bind = and_from _ _ (no_existential (sort_of_label l) sort) refl

-- ---- what a label takes

-- a label takes one group at most
group_lists : (b : Bool) (gs : List (List (Kind SolverDefId))) → let n = elim b as (λ c. ℕ) [ true ↦ 1 | false ↦ 0 ] in variable_lists (first_of (top n gs)) ≡ map variable_list (top n gs)
group_lists false gs = ap (λ xs. variable_lists (first_of xs)) none ∙ ap (map variable_list) (sym none)
  where
    none : top 0 gs ≡ []
    none = drop_all (length gs - 0) gs (omega arith)
group_lists true [] = refl
group_lists true (g ∷ gs) = subst (λ n. variable_lists (first_of (drop n (g ∷ gs))) ≡ map variable_list (drop n (g ∷ gs))) less (by g gs)
  where
    less : length gs ≡ length (g ∷ gs) - 1
    less = omega arith

    by : (g : List (Kind SolverDefId)) (gs : List (List (Kind SolverDefId))) → variable_lists (first_of (drop (length gs) (g ∷ gs))) ≡ map variable_list (drop (length gs) (g ∷ gs))
    by g [] = refl
    by g (f ∷ gs) = by f gs

-- the parts of trees
pub kid_parts : (rs : List Root) → all_parts (forest (λ r. r.tree) rs) ≡ flat_map (λ r. parts r.tree) rs
kid_parts [] = refl
kid_parts (r ∷ rs) = ap (λ ts. parts r.tree ++ ts) (kid_parts rs)

-- what stands on a stack is what is below the topmost, and these
split_roots : (n : ℕ) (rs : List Root) → flat_map (λ r. parts r.tree) rs ≡ flat_map (λ r. parts r.tree) (below n rs) ++ flat_map (λ r. parts r.tree) (top n rs)
split_roots n rs = ap (flat_map (λ r. parts r.tree)) (sym (take-append-drop (length rs - n) rs)) ∙ flat_map-append (λ r. parts r.tree) (below n rs) (top n rs)

split_groups : (n : ℕ) (gs : List (List (Kind SolverDefId))) → map variable_list gs ≡ map variable_list (below n gs) ++ map variable_list (top n gs)
split_groups n gs = ap (map variable_list) (sym (take-append-drop (length gs - n) gs)) ∙ map-append variable_list (below n gs) (top n gs)

one_root : (rs : List Root) (r : Root) → flat_map (λ r. parts r.tree) (rs ++ r ∷ []) ≡ flat_map (λ r. parts r.tree) rs ++ parts r.tree
one_root rs r = flat_map-append (λ r. parts r.tree) rs (r ∷ []) ∙ ap (λ ts. flat_map (λ r. parts r.tree) rs ++ ts) (append-nil (parts r.tree))

-- a tree over the topmost, which is counted: its parts are itself, the lists and the topmost's
over_same : (below above lists kept : List Term) (t : Term) (own : List Term) → own ≡ t ∷ kept ++ above → (u : Term) → is_part (((below ++ above) ++ (lists ++ kept)) ++ t ∷ []) u ≡ is_part ((below ++ own) ++ lists) u
over_same below above lists kept t own is u =
    part-append ((below ++ above) ++ (lists ++ kept)) (t ∷ []) u
    ∙ ap (λ b. b || is_part (t ∷ []) u) (part-append (below ++ above) (lists ++ kept) u ∙ (λ i. part-append below above u i || part-append lists kept u i))
    ∙ last_second (is_part below u) (is_part above u) (is_part lists u) (is_part kept u) (is_part (t ∷ []) u)
    ∙ sym (
    part-append (below ++ own) lists u
    ∙ ap (λ b. b || is_part lists u) (part-append below own u ∙ ap (λ b. is_part below u || b) (ap (λ ts. is_part ts u) is ∙ part-append (t ∷ []) (kept ++ above) u ∙ ap (λ b. is_part (t ∷ []) u || b) (part-append kept above u)))
    )

module _ (h : Heap Part) where
  -- what stands after a step is what stood before, and what it adds
  pub made_step : (g : Grove) (s : Resolved) → Fits h g s → (t : Term) → is_part (made g ++ added h g s) t ≡ is_part (made (grown h g s)) t
  made_step g (step.Term q) fits t =
      let rs = flat_map (λ r. parts r.tree) g.roots in
      let gs = map variable_list g.groups in
      let ps = parts (tree_of h q) in
      part-append (rs ++ gs) ps t ∙ ap (λ b. b || is_part ps t) (part-append rs gs t) ∙ last_of_three (is_part rs t) (is_part gs t) (is_part ps t)
      ∙ sym (ap (λ ts. is_part (ts ++ gs) t) (one_root g.roots (record { tree = tree_of h q; sort = sort_in q })) ∙ part-append (rs ++ ps) gs t ∙ ap (λ b. b || is_part gs t) (part-append rs ps t))
  made_step g (step.Field f) fits t = ap (λ ts. is_part ts t) (append-nil (made g))
  made_step g (step.Variable v) fits t = ap (λ ts. is_part ts t) (append-nil (made g))
  made_step g (step.Bind n) fits t =
      ap (λ ts. is_part ts t) (append_assoc (flat_map (λ r. parts r.tree) g.roots) (map variable_list g.groups) (variable_list (top n g.kinds) ∷ []) ∙ ap (λ ts. flat_map (λ r. parts r.tree) g.roots ++ ts) (sym (map_push variable_list g.groups (top n g.kinds))))
  made_step g (step.Label w sort) fits t =
      let k = kid_count (row w).parts in
      let n = group_count (row w).parts in
      let own = parts-plant (record { label = own_label w g; bind = own_group w g }) (forest (λ r. r.tree) (own_kids w g)) (counted (own_label w g) (own_group w g) fits.sort fits.bind) in
      (λ i. is_part ((split_roots k g.roots i ++ split_groups n g.groups i) ++ (label_root w g).tree ∷ []) t)
      ∙ over_same (flat_map (λ r. parts r.tree) (below k g.roots)) (flat_map (λ r. parts r.tree) (top k g.roots)) (map variable_list (below n g.groups)) (map variable_list (top n g.groups)) (label_root w g).tree (parts (label_root w g).tree)
      (own ∙ (λ i. (label_root w g).tree ∷ group_lists (has_for_group (row w).parts) g.groups i ++ kid_parts (own_kids w g) i)) t
      ∙ ap (λ ts. is_part (ts ++ map variable_list (below n g.groups)) t) (sym (one_root (below k g.roots) (label_root w g)))
  made_step g (step.List w n) fits t =
      let none = append-nil (map variable_list g.groups) in
      let own = parts-plant (record { label = record { word = TypeList; fields = [] }; bind = None }) (forest (λ r. r.tree) (top n g.roots)) refl in
      (λ i. is_part ((split_roots n g.roots i ++ sym none i) ++ (list_root (top n g.roots)).tree ∷ []) t)
      ∙ over_same (flat_map (λ r. parts r.tree) (below n g.roots)) (flat_map (λ r. parts r.tree) (top n g.roots)) (map variable_list g.groups) [] (list_root (top n g.roots)).tree (parts (list_root (top n g.roots)).tree)
      (own ∙ ap (λ ts. (list_root (top n g.roots)).tree ∷ ts) (kid_parts (top n g.roots))) t
      ∙ ap (λ ts. is_part (ts ++ map variable_list g.groups) t) (sym (one_root (below n g.roots) (list_root (top n g.roots))))

  -- what stands, stands to the end
  pub made_more : (g : Grove) (steps : List Resolved) → AllFit h g steps → (t : Term) → is_part (made g) t ≡ true → is_part (made (grove_on h g steps)) t ≡ true
  made_more g [] fits t e = e
  made_more g (s ∷ steps) fits t e = made_more (grown h g s) steps fits.1 t (sym (made_step g s fits.0 t) ∙ part_left (made g) (added h g s) t e)
