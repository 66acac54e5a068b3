use Rattle.std.proofs.Common.{◌≡◌, ℕ, zero, suc, ◌+◌, ◌<◌, List, [], ◌∷◌, ◌++◌, length, length-set, map, get_or, set, take, Result, Ok, Err, true, ⊎_elim, refl, sym, ap, subst, ◌∙◌, arith}
use Rattle.std.proofs.lemmas.List.Elements.{All-get_or}
use Rattle.std.proofs.lemmas.List.Sums.{AllPass-from_list_all}
use Rattle.std.proofs.lemmas.List.{map-append, length-take-le, take_all, take_more_set}
use Rattle.std.specs.Result.{IsErrAnd}
use Rattle.ir_core.specs.declared.errors.TermError.{TermError}
use Rattle.ir_laws.specs.Parts.{is_part}
use Rattle.ir_laws.specs.Tree.{Term}
use Rattle.ir_laws.proofs.PartSets.{no_part, part_is, part_further, part_of_cons}
use Rattle.ir_table.specs.declared.start.Leaf.{Leaf}
use Rattle.ir_table.specs.declared.start.Leaf.TheVariants as row
use Rattle.ir_table.specs.declared.store.Store.{Store}
use Rattle.ir_table.specs.Interner.{stored}
use Rattle.ir_table.specs.Start.{Named, leaf_fits, leaf_layer, leaf_part, leaf_tree, leaf_trees, leaves, name_leaves}
use Rattle.ir_table.specs.State.{State, NewAnswers, Makes}
use Rattle.ir_table.proofs.MakesLemmas.{makes_ok}
use Rattle.ir_table.proofs.StartLemmas.{Made, one_more, then_made, layer_over, refused_as, trees_of}
use Rattle.ir_table.proofs.store.Store.start_leaves.Goals as goal

-- they have a label alone
alone : (l : Leaf) → leaf_layer l ≡ layer_over (leaf_layer l).label []
alone (row.Word w) = refl
alone _ = refl

-- one more place is that of the next part
name_next : (is : List ℕ) (ls : List Leaf) (i x : ℕ) (d : Leaf) → length is ≡ i → i < length ls → name_leaves is ls ++ (leaf_part (get_or ls i d) x, leaf_tree (get_or ls i d)) ∷ [] ≡ name_leaves (is ++ x ∷ []) ls
name_next [] (l ∷ ls) zero x d e within = refl
name_next (j ∷ is) (l ∷ ls) (suc i) x d e within = ap (λ ns. (leaf_part l j, leaf_tree l) ∷ ns) (name_next is ls i x d (omega arith) (omega arith))
name_next _ _ _ x d e within = absurd (omega arith)

named_all : (is : List ℕ) (ls : List Leaf) → length is ≡ length ls → trees_of (name_leaves is ls) ≡ map leaf_tree ls
named_all [] [] e = refl
named_all (i ∷ is) (l ∷ ls) e = ap (λ us. leaf_tree l ∷ us) (named_all is ls (omega arith))
named_all _ _ e = absurd (omega arith)

named_among : (is : List ℕ) (ls : List Leaf) (t : Term) → is_part (trees_of (name_leaves is ls)) t ≡ true → is_part (map leaf_tree ls) t ≡ true
named_among (i ∷ is) (l ∷ ls) t e =
    ⊎_elim (part_is (leaf_tree l) (map leaf_tree ls) t) (λ further. part_further (leaf_tree l) (map leaf_tree ls) t (named_among is ls t further)) (part_of_cons (leaf_tree l) (trees_of (name_leaves is ls)) t e)
named_among _ _ t e = absurd (no_part t e)

module _ (is : List ℕ) (i : ℕ) (all : length is ≡ 36) (within : i < 36) (d : Leaf) where
  abbrev leaf : Leaf
  leaf = get_or leaves i d

  next : (x : ℕ) → name_leaves (take i is) leaves ++ (leaf_part leaf x, leaf_tree leaf) ∷ [] ≡ name_leaves (take i is ++ x ∷ []) leaves
  next x = name_next (take i is) leaves i x d (length-take-le i is (omega arith)) within

  leaf_made : {old : State} {mid : Store} (new : Store) (x : ℕ) → Made old mid (name_leaves (take i is) leaves) → NewAnswers (leaf_part leaf) (stored mid) (stored new) (leaf_layer leaf) (Ok x) → Made old new (name_leaves (take (i + 1) (set is i x)) leaves)
  leaf_made {old = old} {mid = mid} new x so_far a = subst (Made old new) (next x ∙ ap (λ js. name_leaves js leaves) (sym (take_more_set is i x (omega arith))))
      (one_more so_far [] tt new (subst (λ l. NewAnswers (leaf_part leaf) (stored mid) (stored new) l (Ok x)) (alone leaf) a))

  leaf_refused : {old : State} {mid : Store} {e : TermError} {V : Type 0} (new : Store) (r : Result V TermError) → Made old mid (name_leaves (take i is) leaves) → NewAnswers (leaf_part leaf) (stored mid) (stored new) (leaf_layer leaf) (Err e) → IsErrAnd r (λ x. x ≡ e)
      → Makes old (stored new) leaf_trees r
  leaf_refused {mid = mid} {e = e} new r so_far a is_e = refused_as r (then_made so_far [] tt (subst (λ l. NewAnswers (leaf_part leaf) (stored mid) (stored new) l (Err e)) (alone leaf) a)) is_e
      (λ t m. named_among (take i is ++ 0 ∷ []) leaves t
      (ap (λ ts. is_part ts t) (ap trees_of (sym (next 0)) ∙ map-append (λ (n : Named). n.1) (name_leaves (take i is) leaves) _) ∙ m))

pub start_leaf-requires : goal.start_leaf-requires
start_leaf-requires c = All-get_or (λ l. leaf_fits l ≡ true) leaves c.loop-place.place _ c.loop-place-test.true (AllPass-from_list_all leaf_fits leaves refl)

pub returns-in_err-indices-clause-makes : goal.returns-in_err-indices-clause-makes
returns-in_err-indices-clause-makes c =
    leaf_refused c.loop-place.indices c.loop-place.place c.loop-place.invariant.all c.loop-place-test.true _ c.start_leaf.new.self c.from_residual.result c.loop-place.invariant.made c.in_err-indices.ensures.answers c.from_residual.ensures.1

pub loop-place-preserved : goal.loop-place-preserved
loop-place-preserved c = record {
  all = omega (arith, length-set {A = ℕ});
  made = leaf_made c.loop-place.indices c.loop-place.place c.loop-place.invariant.all c.loop-place-test.true _ c.start_leaf.new.self c.in_ok-indices.field-0 c.loop-place.invariant.made c.in_ok-indices.ensures.answers;
}

pub returns-clause-makes : goal.returns-clause-makes
returns-clause-makes c =
    let full : take c.loop-place.place c.loop-place.indices ≡ c.loop-place.indices = take_all c.loop-place.place c.loop-place.indices (omega arith) in
    subst (λ ts. Makes (stored c.args.self.now) (stored c.loop-place.self) ts (Ok c.loop-place.indices)) (ap (λ is. trees_of (name_leaves is leaves)) full ∙ named_all c.loop-place.indices leaves c.loop-place.invariant.all)
    (makes_ok _ _ _ tt c.loop-place.indices c.loop-place.invariant.made.makes)
