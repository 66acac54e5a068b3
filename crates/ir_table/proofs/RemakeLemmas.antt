-- A part over other kids of the same sorts.
use Rattle.std.proofs.Common.{◌≡◌, ◌∙◌, true, false, true≢false, nat_eq, ◌&&◌, List, [], ◌∷◌, length, map, Ok, Option, None, Some, Result, IfSome, is_some, arith, refl, sym, ap, ap₂, subst}
use Rattle.std.proofs.lemmas.List.{length-map}
use Rattle.std.proofs.lemmas.Bool.Decides.{nat_tests}
use Rattle.ir_core.specs.Parts.{same_part_sort, sort_in}
use Rattle.ir_core.specs.declared.handles.PartSort.TheVariants as sort
use Rattle.ir_core.specs.declared.handles.Part.{Part}
use Rattle.ir_laws.specs.Formed.{fields_fit, kid_forms}
use Rattle.ir_laws.specs.Heap.{Grows, IsLive, Kids, Layer, OfNames, Inlined, Sketch, are_names, kid_names}
use Rattle.ir_laws.specs.Label.{row}
use Rattle.ir_laws.specs.Names.{field_forms}
use Rattle.ir_laws.specs.Parts.{has_for_group}
use Rattle.ir_laws.specs.declared.labels.KidForm.{KidForm}
use Rattle.ir_laws.specs.declared.words.Word.TheVariants.{TypeList}
use Rattle.ir_laws.proofs.HeapLemmas.{has_node, node_live, node_of}
use Rattle.ir_nodes.specs.declared.layers.List.{List as ListRead}
use Rattle.ir_nodes.specs.declared.layers.List.TheVariants as list
use Rattle.ir_nodes.specs.declared.nodes.Node.{Node}
use Rattle.ir_table.specs.declared.store.Store.{Store}
use Rattle.ir_nodes.specs.Fits.{are_types, binder_fits, fits_row, is_wanted, kids_fit}
use Rattle.ir_table.specs.Heaps.{heap_of}
use Rattle.ir_table.specs.Interner.{stored}
use Rattle.ir_nodes.specs.Layers.{kid_sorts, layer_at, list_seen, over_kids}
use Rattle.ir_nodes.specs.Nodes.{kids_in, layer, node_layer, tys_kids}
use Rattle.ir_core.specs.declared.errors.TermError.{TermError}
use Rattle.ir_table.specs.State.{NewAnswers, State, fits}
use Rattle.ir_nodes.proofs.FitLemmas.{types_fit}
use Rattle.ir_table.proofs.PartLemmas.{fits_names}
use Rattle.ir_table.proofs.StateLemmas.{answers_held}
use Rattle.ir_table.proofs.NewLemmas.{new_grows}

-- ---- whether kids fit is said by their sorts

kids_alike : (forms : List KidForm) (ps qs : List Part) → map sort_in ps ≡ map sort_in qs → kids_fit forms ps ≡ kids_fit forms qs
kids_alike forms [] [] e = refl
kids_alike [] (p ∷ ps) (q ∷ qs) e = refl
kids_alike (form ∷ forms) (p ∷ ps) (q ∷ qs) e =
    let first : sort_in p ≡ sort_in q = cc in
    let rest : map sort_in ps ≡ map sort_in qs = cc in
    ap₂ (λ g b. is_wanted form g && b) first (kids_alike forms ps qs rest)
kids_alike _ _ _ e = absurd cc

types_alike : (ps qs : List Part) → map sort_in ps ≡ map sort_in qs → are_types ps ≡ are_types qs
types_alike [] [] e = refl
types_alike (p ∷ ps) (q ∷ qs) e =
    let first : sort_in p ≡ sort_in q = cc in
    let rest : map sort_in ps ≡ map sort_in qs = cc in
    ap₂ (λ g b. same_part_sort g sort.Ty && b) first (types_alike ps qs rest)
types_alike _ _ e = absurd cc

pub node_over : (n : Node) (ps : List Part) → map sort_in ps ≡ map sort_in (kids_in n.content) → fits_row (node_layer n) ≡ true → fits_row (over_kids (node_layer n) ps) ≡ true
node_over n ps e fit =
    ap (λ b. fields_fit (field_forms (row n.word).parts) (node_layer n).label.fields && (binder_fits (has_for_group (row n.word).parts) (node_layer n).binder && b)) (kids_alike (kid_forms (row n.word).parts) ps (kids_in n.content) e)
    ∙ fit

-- as many kids as there are sorts
pub as_many : (ps qs : List Part) → map sort_in ps ≡ map sort_in qs → length ps ≡ length qs
as_many ps qs e = sym (length-map ps sort_in) ∙ ap length e ∙ length-map qs sort_in

-- a list with kids is one of types
pub list_over : (l : ListRead) (ps : List Part) → false ≡ nat_eq (length ps) 0 → map sort_in ps ≡ kid_sorts (list_seen l) → (are_types ps ≡ true) × (over_kids (list_seen l) ps ≡ layer TypeList [] ps)
list_over l [] some e = absurd (true≢false (sym some))
list_over (list.Types ts) (p ∷ ps) some e = (types_alike (p ∷ ps) (tys_kids ts.now) e ∙ types_fit ts.now, refl)
list_over _ (p ∷ ps) some e = absurd cc

-- ---- no kids

no_kids : (l : Layer Part) → are_names l.kids ≡ true → map sort_in [] ≡ kid_sorts l → l ≡ over_kids l []
no_kids l names e = ap (λ ks. record l { kids = ks }) (by l.kids names e)
  where
    by : (ks : Kids Part) → are_names ks ≡ true → map sort_in [] ≡ map sort_in (kid_names ks) → ks ≡ OfNames []
    by (OfNames []) n same = refl
    by (OfNames (p ∷ ps)) n same = absurd cc
    by (Inlined i ks) n same = absurd (true≢false (sym n))

-- over none, where it has none, a part is itself
pub itself : (s : Store) (p : Part) (ps : List Part) → true ≡ nat_eq (length ps) 0 → IfSome (layer_at (heap_of s.tables) p) (λ l. map sort_in ps ≡ kid_sorts l)
    → IfSome (layer_at (heap_of s.tables) p) (λ l. NewAnswers (λ p. p) (stored s) (stored s) (over_kids l ps) (Ok p))
itself s p (q ∷ ps) none sorts = absurd (grind (arith, nat_tests))
itself s p [] none sorts = by (heap_of s.tables p) refl
  where
    by : (o : Option (Sketch Part)) → heap_of s.tables p ≡ o → IfSome (layer_at (heap_of s.tables) p) (λ l. NewAnswers (λ p. p) (stored s) (stored s) (over_kids l []) (Ok p))
    by None e = rw e tt
    by (Some x) e = rw e (subst (λ l. NewAnswers (λ p. p) (stored s) (stored s) l (Ok p)) (no_kids x.layer (fits_names x.layer (s.fits p x e)) (rw e at sorts))
        (answers_held (stored s) s.sound x.layer (node_live (heap_of s.tables) s.sound p x e) (λ p. p) p x e refl
        (ap (fits (stored s)) (sym (has_node (heap_of s.tables) s.sound p x e).tree) ∙ s.low p (ap is_some e))))

-- whatever the call answers, the heap grew
pub remade_grows : (old new : State) (p : Part) (ps : List Part) (r : Result Part TermError) → IsLive old.heap p → IfSome (layer_at old.heap p) (λ l. NewAnswers (λ p. p) old new (over_kids l ps) r) → Grows old.heap new.heap
remade_grows old new p ps r live answers =
    let x = node_of old.heap p live in
    new_grows r (rw x.1 at answers)
