-- What stands behind a text while a part is spelled, and what remains to be spelled.
use Rattle.std.proofs.Common.{⊎_elim, ◌≡◌, ◌∙◌, sym, ap, refl, subst, ℕ, suc, ◌+◌, ◌*◌, ◌<◌, ◌≤◌, arith, rules, Bool, true, false, cond, nat_eq, List, [], ◌∷◌, ◌++◌, length, length-append, drop, map, slice_get, codes, Option, None, Some, Result, Ok, Err, is_err, OnErr, OnOk}
use Rattle.std.proofs.Math.Seq.{drop-append_seam, take-append_seam, take-length}
use Rattle.std.proofs.lemmas.Bool.{false≢true}
use Rattle.std.proofs.lemmas.Bool.Decides.{nat_tests}
use Rattle.std.proofs.lemmas.List.{append_assoc, append-nil, drop_all, length-take, take-append-drop, take-append-le}
use Rattle.std.proofs.lemmas.Option.{none-some, same_Some, slice_get_cases}
use Rattle.std.proofs.lemmas.Slice.{between_is}
use Rattle.indexmap.specs.IndexMap.{IndexMap, Updates, get}
use Rattle.std.specs.Option.{option_map}
use Rattle.ir_core.specs.declared.errors.TermError.{TermError}
use Rattle.ir_core.specs.contracts.handles.PartPartialEq.TheImpl as part_eq
use Rattle.ir_core.specs.declared.ids.SolverDefId.{SolverDefId}
use Rattle.ir_core.specs.declared.handles.BoundVarKinds.{BoundVarKinds}
use Rattle.ir_core.specs.declared.handles.Part.{Part}
use Rattle.ir_core.specs.declared.handles.Part.TheVariants as part
use Rattle.ir_core.specs.declared.variables.BoundVarKind.{BoundVarKind}
use Rattle.ir_laws.specs.declared.labels.Part.{Part as LabelPart}
use Rattle.ir_laws.specs.declared.labels.Sort.TheVariants.{OfList}
use Rattle.ir_laws.specs.Tree.{Kind, Label, Text, Term}
use Rattle.ir_laws.specs.Label.{row}
use Rattle.ir_laws.specs.Spelling.{bind_text, bind_texts, in_brackets, label_text, spaced, spell, spell_each}
use Rattle.ir_laws.specs.Counts.{sort_of_label}
use Rattle.ir_laws.specs.Same.{same_sort}
use Rattle.ir_laws.specs.Heap.{Grows, Heap, OfNames, Layer, HasNode, Each, IsLive, IsSound, cached_height, forest, kid_heights, kid_names, kinds_among, kinds_at, largest, names_in, shape_over, tree_of, with_binder}
use Rattle.ir_laws.proofs.HeapLemmas.{Each-largest, held_node, kinds_at_node}
use Rattle.ir_laws.proofs.PlantLemmas.{spell-plant}
use Rattle.ir_nodes.specs.declared.nodes.Node.{Node}
use Rattle.ir_nodes.specs.declared.layers.Layer.{Layer as LayerRead}
use Rattle.ir_nodes.specs.declared.layers.Layer.TheVariants as layer
use Rattle.ir_nodes.specs.declared.layers.List.{List as ListRead}
use Rattle.ir_nodes.specs.declared.layers.List.TheVariants as list
use Rattle.ir_nodes.specs.declared.layers.EmptyList.TheVariants as empty
use Rattle.ir_nodes.specs.Fits.{is_term, layer_sort}
use Rattle.ir_nodes.specs.Layers.{layer_seen, list_kids, list_seen}
use Rattle.ir_nodes.specs.Nodes.{binder_in, kids_in, node_layer, variable_seen, variables_layer}
use Rattle.ir_table.specs.declared.spelling.Span.{Span}
use Rattle.ir_table.specs.declared.spelling.Spellings.{Spellings}
use Rattle.ir_table.specs.Spelled.{AreSpelled, Begins, IsNoList, IsSpelled, after, after_each, kid_texts, list_text, node_text, places_text}
use Rattle.ir_nodes.proofs.FitLemmas.{not_list, term_label}
use Rattle.ir_table.proofs.LoopLemmas.{each_got}
use Rattle.ir_table.proofs.NodeLemmas.{kinds_of_fields}

-- ---- what was there comes first still

pub begins_append : (old text : Text) → Begins old (old ++ text)
begins_append = take-append_seam

pub begins_more : (old mid text : Text) → Begins old mid → Begins old (mid ++ text)
begins_more old mid text a =
    let short = ap length a in
    take-append-le (length old) mid text (omega (arith, length-take (length old) mid)) ∙ a

pub begins_trans : (old mid new : Text) → Begins old mid → Begins mid new → Begins old new
begins_trans old mid new a b = rw (← take-append-drop (length mid) new, b) (begins_more old mid (drop (length mid) new) a)

-- a text that is as it was begins so
pub begins_same : {T : Type 0} (old new : Text) (r : Result T TermError) (e : TermError) → OnErr r ((new ≡ old) × (r ≡ Err e)) → OnErr r (Begins old new × (r ≡ Err e))
begins_same old new (Ok x) e same = tt
begins_same old new (Err d) e same = (subst (Begins old) (sym same.0) (take-length old), same.1)

-- what holds anyway holds on Ok
pub on_ok : {T : Type 0} {P : Type 0} (r : Result T TermError) → P → OnOk r P
on_ok (Ok x) p = p
on_ok (Err e) p = tt

-- what follows on Ok
pub then_ok : {T : Type 0} {P : Type 0} (Q : Type 0) (r : Result T TermError) → OnOk r P → (P → OnOk r Q) → OnOk r Q
then_ok Q (Ok x) p f = f p
then_ok Q (Err e) p f = tt

-- what holds on Ok holds where there is no error
pub if_ok : {T : Type 0} {P : Type 0} (r : Result T TermError) → is_err r ≡ false → OnOk r P → P
if_ok (Ok x) none p = p
if_ok (Err e) none p = absurd (false≢true (sym none))

-- the last text is put behind the middle one
pub ok_last : {T : Type 0} (out mid new last whole : Text) (r : Result T TermError) → mid ++ last ≡ out ++ whole → OnOk r (new ≡ mid ++ last) → OnOk r (new ≡ out ++ whole)
ok_last out mid new last whole r e h = subst (λ x. OnOk r (new ≡ x)) e h

-- ---- what is known of spellings

-- one more key has a value
one_more_kept : {K X S : Type 0} (eq : K → K → Bool) → ((x y : K) → eq x y ≡ true → x ≡ y) → (P : K → X → Type 0) (old new : IndexMap K X S) (x : K) (v : X)
    → ((y : K) (w : X) → get eq old y ≡ Some w → P y w) → P x v → Updates eq old new x (Some v) → (y : K) (w : X) → get eq new y ≡ Some w → P y w
one_more_kept eq exact P old new x v known here updates y w at = by (eq x y) refl
  where
    by : (b : Bool) → eq x y ≡ b → P y w
    by true e =
        let got = ap (λ b. cond b (Some v) (get eq old y)) (sym e) ∙ sym (updates.0 y) ∙ at in
        subst (λ y. P y w) (exact x y e) (subst (P x) (same_Some v w got) here)
    by false e = known y w (sym (updates.2 y e) ∙ at)

pub one_more_spelled : (name : SolverDefId → Text) (h : Heap Part) (text : Text) (old new : Spellings) (p : Part) (span : Span) → AreSpelled name h text old → IsSpelled name h text p span → Updates part_eq.ghosts.eq old.spans new.spans p (Some span) → AreSpelled name h text new
one_more_spelled name h text old new p span known here updates = record { each = one_more_kept part_eq.ghosts.eq (search rules) (IsSpelled name h text) old.spans new.spans p span known.each here updates }

module _ (name : SolverDefId → Text) (h : Heap Part) where
  -- it stays so behind what is put there
  pub known_more : (text more : Text) (known : Spellings) → AreSpelled name h text known → AreSpelled name h (text ++ more) known
  known_more text more known are = record {
    each = λ p span at.
        let is = are.each p span at in
        record {
          live = is.live;
          order = is.order;
          within = omega (arith, is.within, length-append text more);
          spelled = between_is (text ++ more) span.start span.end ∙ ap (drop span.start) (take-append-le span.end text more is.within) ∙ sym (between_is text span.start span.end) ∙ is.spelled;
        };
  }

  -- so it does behind the new text
  pub known_on : (text more new : Text) (known : Spellings) → new ≡ text ++ more → AreSpelled name h text known → AreSpelled name h new known
  known_on text more new known is are = subst (λ text. AreSpelled name h text known) (sym is) (known_more text more known are)

  pub known_ok : {T : Type 0} (text more new : Text) (known : Spellings) (r : Result T TermError) → OnOk r (new ≡ text ++ more) → AreSpelled name h text known → OnOk r (AreSpelled name h new known)
  known_ok text more new known (Ok x) is are = known_on text more new known is are
  known_ok text more new known (Err e) is are = tt

  -- a part that was put last is spelled there
  pub spelled_last : (text new : Text) (p : Part) → IsLive h p → new ≡ text ++ spell name (tree_of h p) → IsSpelled name h new p (record { start = length text; end = length new })
  spelled_last text new p live is = subst (λ new. IsSpelled name h new p (record { start = length text; end = length new })) (sym is) (record {
    live = live;
    order = omega (arith, length-append text (spell name (tree_of h p)));
    within = omega arith;
    spelled = between_is (text ++ spell name (tree_of h p)) (length text) (length (text ++ spell name (tree_of h p))) ∙ ap (drop (length text)) (take-length (text ++ spell name (tree_of h p))) ∙ drop-append_seam text (spell name (tree_of h p));
  })

-- what is known of spellings stays so while a heap grows
pub spelled_later : (name : SolverDefId → Text) (h k : Heap Part) (text : Text) (known : Spellings) → Grows h k → AreSpelled name h text known → AreSpelled name k text known
spelled_later name h k text known grows are = record {
  each = λ p span at.
      let is = are.each p span at in
      record { live = grows.live p is.live; order = is.order; within = is.within; spelled = is.spelled ∙ ap (spell name) (sym (grows.tree p is.live)) };
}

-- ---- spaces and brackets

pub spaced-after_each : (w : Text) (ts : List Text) → spaced (w ∷ ts) ≡ w ++ after_each ts
spaced-after_each w [] = sym (append-nil w)
spaced-after_each w (t ∷ ts) = ap (λ x. (w ++ codes " ") ++ x) (spaced-after_each t ts) ∙ append_assoc w (codes " ") (t ++ after_each ts)

pub spaced-after : (ts : List Text) → spaced ts ≡ after [] ts
spaced-after [] = refl
spaced-after (t ∷ ts) = spaced-after_each t ts

pub after_space : (ts : List Text) → after (codes " ") ts ≡ after_each ts
after_space [] = refl
after_space (t ∷ ts) = refl

-- a space and a text, put one after the other
pub put_both : (out mid text new : Text) → mid ≡ out ++ codes " " → new ≡ mid ++ text → new ≡ out ++ (codes " " ++ text)
put_both out mid text new a b = simp (b, a, append_assoc)

-- ---- nodes

-- kids are spelled one by one
spell_each-forest : {P : Type 0} (name : SolverDefId → Text) (f : P → Term) (ps : List P) → spell_each name (forest f ps) ≡ map (λ p. spell name (f p)) ps
spell_each-forest name f [] = refl
spell_each-forest name f (p ∷ ps) = ap (λ ts. spell name (f p) ∷ ts) (spell_each-forest name f ps)

-- the kids of what a part is read as are names
pub layer_names : (l : LayerRead) → (layer_seen l).kids ≡ OfNames (kid_names (layer_seen l).kids)
layer_names (layer.List (list.Types ts)) = refl
layer_names _ = refl

-- the labels of lists
list_label : (l : ListRead) → same_sort (sort_of_label (list_seen l).label) OfList ≡ true
list_label (list.Empty empty.GenericArgs) = refl
list_label _ = refl

-- a term's label is no list's
pub no_list : (l : Layer Part) → is_term (layer_sort l) ≡ true → IsNoList l.label
unfolding IsNoList
no_list l term = not_list (sort_of_label l.label) (term_label l term)

module _ (name : SolverDefId → Text) (h : Heap Part) where
  -- what is read is spelled as the tree of its part
  spelled : (p : Part) (l : Layer Part) (ps : List Part) → l.kids ≡ OfNames ps → HasNode h p l → label_text name l.label (shape_over h l).bind (kid_texts name h ps) ≡ spell name (tree_of h p)
  spelled p l ps names has = rw (has.tree, spell-plant name (shape_over h l), names, spell_each-forest)

  pub node_spelled : (p : Part) (n : Node) → HasNode h p (node_layer n) → node_text name h n ≡ spell name (tree_of h p)
  unfolding node_text
  node_spelled p n has = spelled p (node_layer n) (kids_in n.content) refl has

  -- a list has its members in brackets
  bracketed : (l : Label SolverDefId) (bind : Option (List (Kind SolverDefId))) (texts : List Text) → same_sort (sort_of_label l) OfList ≡ true → in_brackets texts ≡ label_text name l bind texts
  bracketed l bind texts e = rw (e, label_text)

  pub list_spelled : (p : Part) (l : ListRead) → HasNode h p (list_seen l) → list_text name h l ≡ spell name (tree_of h p)
  unfolding list_text
  list_spelled p l has = bracketed (list_seen l).label _ _ (list_label l) ∙ spelled p (list_seen l) (list_kids l) (layer_names (layer.List l)) has

  module _ (n : Node) (no_list : IsNoList (node_layer n).label) (word : Text) (text : word ≡ (row n.word).text) where
    pub bare_node : (parts : List LabelPart) → parts ≡ (row n.word).parts → nat_eq (length parts) 0 ≡ true → word ≡ node_text name h n
    unfolding node_text IsNoList
    bare_node [] places none = rw (no_list, label_text, ← text, ← places)
    bare_node (p ∷ ps) places none = let same : suc (length ps) ≡ 0 = grind (arith, nat_tests) in absurd (omega arith)

    pub whole_node : (parts : List LabelPart) → parts ≡ (row n.word).parts → nat_eq (length parts) 0 ≡ false
        → (out begun placed : Text) → begun ≡ out ++ (codes "(" ++ word) → placed ≡ begun ++ places_text name h parts n → placed ++ codes ")" ≡ out ++ node_text name h n
    unfolding node_text places_text IsNoList
    whole_node [] places some out begun placed a b = absurd cc
    whole_node (p ∷ ps) places some out begun placed a b = rw (no_list, label_text, ← text, ← places) (simp (b, a, spaced-after_each, append_assoc))

-- the kids of a part are lower than it, as the measures count
pub kids_lower : (h : Heap Part) (p : Part) (l : LayerRead) → HasNode h p (layer_seen l) → 3 * largest (cached_height h) (kid_names (layer_seen l).kids) + 2 < 3 * cached_height h p
kids_lower h p l has =
    let height = has.height in
    let kids = ap (kid_heights (cached_height h)) (layer_names l) in
    omega arith

-- a kid is live, and lower than the highest, as the measures count
pub kid_got : (h : Heap Part) (ps : List Part) (i : ℕ) (p : Part) → slice_get ps i ≡ Some p → Each (IsLive h) ps → IsLive h p × (3 * cached_height h p < 3 * largest (cached_height h) ps + 1)
kid_got h ps i p at live =
    let low = each_got (λ q. cached_height h q ≤ largest (cached_height h) ps) ps i p at (Each-largest (cached_height h) (largest (cached_height h) ps) ps (omega arith)) in
    (each_got (IsLive h) ps i p at live, omega arith)

-- ---- the places of a node

pub no_item : {X : Type 0} (o : Option X) → ((x : X) → o ≡ Some x → ⊥) → o ≡ None
no_item None none = refl
no_item (Some x) none = absurd (none x refl)

-- past the last item none remains
pub drop_past : {X : Type 0} (xs : List X) (i : ℕ) → slice_get xs i ≡ None → drop i xs ≡ []
drop_past xs i e = ⊎_elim (λ there. absurd (none-some there.0 (sym e ∙ there.2))) (λ past. drop_all i xs past.0) (slice_get_cases xs i).1

-- ---- the variables of a binder

-- a list of variables has these
pub kinds_at-variables : (h : Heap Part) → IsSound h → (p : Part) (vs : List BoundVarKind) → IsLive h p → HasNode h p (variables_layer vs) → kinds_at h p ≡ map variable_seen vs
kinds_at-variables h sound p vs live has =
    let x = held_node h sound (variables_layer vs) (record { binder = refl; count = refl; kids = tt }) p live has.tree in
    kinds_at_node h p x.0 x.1 ∙ ap (λ (l : Layer Part). kinds_among l.label.fields) x.2 ∙ kinds_of_fields vs

-- what binds is live
pub binder_live : (h : Heap Part) (l : Layer Part) (p : Part) → l.binder ≡ Some p → Each (IsLive h) (names_in l) → IsLive h p
binder_live h l p is live = (subst (λ b. Each (IsLive h) (with_binder b (kid_names l.kids))) is live).0

module _ (name : SolverDefId → Text) (h : Heap Part) (n : Node) (o : Option BoundVarKinds) (binder : o ≡ binder_in n.content) where
  pub bind_none : ((v : BoundVarKinds) → o ≡ Some v → ⊥) → bind_texts name (shape_over h (node_layer n)).bind ≡ None
  bind_none none = rw (← binder, no_item o none)

  pub bind_some : (v : BoundVarKinds) → o ≡ Some v → Each (IsLive h) (names_in (node_layer n)) → IsSound h → (vs : List BoundVarKind) → HasNode h (part.BoundVarKinds v) (variables_layer vs)
      → bind_texts name (shape_over h (node_layer n)).bind ≡ Some (bind_text name (map variable_seen vs))
  bind_some v is live sound vs has =
      let p : Part = part.BoundVarKinds v in
      let bound = sym binder ∙ is in
      rw (bound, kinds_at-variables h sound p vs (binder_live h (node_layer n) p (ap (option_map part.BoundVarKinds) bound) live) has)
