-- What fits a row: the keywords of a choice, and the fields, the binder and the kids of a layer.
use Rattle.std.proofs.Common.{◌≡◌, ℕ, zero, suc, Bool, true, false, ◌||◌, ◌&&◌, List, [], ◌∷◌, map, slice_get, slice_index_or, Option, Some, None, is_some, ◌⊎◌, inl, inr, refl, sym, ap, ap₂, ◌∙◌, true≢false}
use Rattle.std.specs.Option.{option_map}
use Rattle.std.proofs.lemmas.Bool.{and_parts}
use Rattle.std.proofs.lemmas.Option.{none-some, same_Some}
use Rattle.ir_laws.specs.declared.labels.Choice.{Choice}
use Rattle.ir_core.specs.declared.handles.BoundVarKinds.{BoundVarKinds}
use Rattle.ir_core.specs.declared.handles.Part.{Part}
use Rattle.ir_core.specs.declared.handles.Part.TheVariants as part
use Rattle.ir_laws.specs.declared.labels.FieldForm.{FieldForm}
use Rattle.ir_laws.specs.declared.labels.FieldForm.TheVariants.{OneWordOf, ANumber, AVariableKind}
use Rattle.ir_laws.specs.declared.labels.Keyword.{Keyword}
use Rattle.ir_laws.specs.declared.words.Word.{Word}
use Rattle.ir_laws.specs.Keyword.{choice_words, same_keyword}
use Rattle.ir_laws.specs.Formed.{field_fits, fields_fit, is_keyword_among, kid_forms}
use Rattle.ir_laws.specs.Label.{row}
use Rattle.ir_laws.specs.Names.{field_forms}
use Rattle.ir_laws.specs.Parts.{has_for_group}
use Rattle.ir_laws.proofs.SameParts.{keyword_decides}
use Rattle.ir_nodes.specs.Fits.{are_of_forms, binder_fits, fits_row, is_of_form, kids_fit}
use Rattle.ir_nodes.specs.Nodes.{binder_in, field_seen, fields_in, kids_in, layer_of, node_layer}
use Rattle.ir_nodes.specs.declared.nodes.Field.{Field}
use Rattle.ir_nodes.specs.declared.nodes.Field.TheVariants as field
use Rattle.ir_nodes.specs.declared.nodes.Node.{Node}

-- ---- keywords

pub among_first : (a : Keyword) (ks : List Keyword) (k : Keyword) → is_keyword_among (a ∷ ks) k ≡ true → (k ≡ a) ⊎ (is_keyword_among ks k ≡ true)
among_first a ks k e = by (same_keyword a k) refl e
  where
    by : (b : Bool) → same_keyword a k ≡ b → (b || is_keyword_among ks k) ≡ true → (k ≡ a) ⊎ (is_keyword_among ks k ≡ true)
    by true s e = inl (sym ((keyword_decides a k).0 s))
    by false s e = inr e

pub among_two : (a b k : Keyword) → is_keyword_among (a ∷ b ∷ []) k ≡ true → (k ≡ a → ⊥) → (k ≡ b → ⊥) → ⊥
among_two a b k e no_a no_b = elim (among_first a (b ∷ []) k e) [ inl x ↦ no_a x | inr y ↦ elim (among_first b [] k y) [ inl x ↦ no_b x | inr z ↦ true≢false (sym z) ] ]

pub among_four : (a b c d k : Keyword) → is_keyword_among (a ∷ b ∷ c ∷ d ∷ []) k ≡ true → (k ≡ a → ⊥) → (k ≡ b → ⊥) → (k ≡ c → ⊥) → (k ≡ d → ⊥) → ⊥
among_four a b c d k e no_a no_b no_c no_d = elim (among_first a (b ∷ c ∷ d ∷ []) k e) [ inl x ↦ no_a x | inr y ↦ elim (among_first b (c ∷ d ∷ []) k y) [ inl x ↦ no_b x | inr z ↦ among_two c d k z no_c no_d ] ]

-- the keyword at a place is one of those that the row has there
pub keyword_fits : (forms : List FieldForm) (fs : List Field) (i : ℕ) (c : Choice) (k : Keyword) (d : Field) → are_of_forms forms fs ≡ true → slice_get forms i ≡ Some (OneWordOf c) → slice_index_or fs i d ≡ field.Chosen k → is_keyword_among (choice_words c) k ≡ true
keyword_fits [] fs i c k d e at got = absurd (none-some (OneWordOf c) at)
keyword_fits (form ∷ forms) [] i c k d e at got = absurd (true≢false (sym e))
keyword_fits (form ∷ forms) (f ∷ fs) zero c k d e at got = sym (λ j. is_of_form (same_Some form (OneWordOf c) at j) (got j)) ∙ (and_parts _ _ e).0
keyword_fits (form ∷ forms) (f ∷ fs) (suc i) c k d e at got = keyword_fits forms fs i c k d (and_parts _ _ e).1 at got

-- ---- layers

-- the fields of the code and those of the layer fit alike
same_fit : (f : Field) (form : FieldForm) → field_fits form (field_seen f) ≡ is_of_form form f
same_fit (field.Chosen k) (OneWordOf choice) = refl
same_fit (field.Number n) ANumber = refl
same_fit (field.OfKind v) AVariableKind = refl
same_fit f form = refl

pub same_fits : (forms : List FieldForm) (fs : List Field) → fields_fit forms (map field_seen fs) ≡ are_of_forms forms fs
same_fits [] [] = refl
same_fits [] (f ∷ fs) = refl
same_fits (form ∷ forms) [] = refl
same_fits (form ∷ forms) (f ∷ fs) = ap₂ (λ x y. x && y) (same_fit f form) (same_fits forms fs)

-- what binds fits where it is wanted
own_binder : (b : Option BoundVarKinds) → binder_fits (is_some b) (option_map part.BoundVarKinds b) ≡ true
own_binder None = refl
own_binder (Some v) = refl

-- fields, a binder and kids that fit the row make a layer that fits it
pub fitted : (w : Word) (fs : List Field) (b : Option BoundVarKinds) (ps : List Part) → are_of_forms (field_forms (row w).parts) fs ≡ true → is_some b ≡ has_for_group (row w).parts → kids_fit (kid_forms (row w).parts) ps ≡ true
    → fits_row (layer_of w fs b ps) ≡ true
fitted w fs b ps fit group kids = ap₂ (λ x y. x && y) (same_fits (field_forms (row w).parts) fs ∙ fit) (ap₂ (λ x y. x && y) (ap (λ g. binder_fits g (option_map part.BoundVarKinds b)) (sym group) ∙ own_binder b) kids)

-- what binds is wanted where it fits
own_group : (g : Bool) (b : Option BoundVarKinds) → binder_fits g (option_map part.BoundVarKinds b) ≡ true → is_some b ≡ g
own_group true (Some v) e = refl
own_group false None e = refl
own_group g b e = absurd (true≢false (sym e))

-- the fields, the binder and the kids of a node that fits its row
pub row_fields : (n : Node) → fits_row (node_layer n) ≡ true → are_of_forms (field_forms (row n.word).parts) (fields_in n.content) ≡ true
row_fields n e = sym (same_fits (field_forms (row n.word).parts) (fields_in n.content)) ∙ (and_parts (fields_fit (field_forms (row n.word).parts) (map field_seen (fields_in n.content))) _ e).0

rest : (n : Node) → fits_row (node_layer n) ≡ true → (is_some (binder_in n.content) ≡ has_for_group (row n.word).parts) × (kids_fit (kid_forms (row n.word).parts) (kids_in n.content) ≡ true)
rest n e =
    let both = and_parts (binder_fits (has_for_group (row n.word).parts) (option_map part.BoundVarKinds (binder_in n.content))) (kids_fit (kid_forms (row n.word).parts) (kids_in n.content)) (and_parts (fields_fit (field_forms (row n.word).parts) (map field_seen (fields_in n.content))) _ e).1 in
    (own_group (has_for_group (row n.word).parts) (binder_in n.content) both.0, both.1)

pub row_binder : (n : Node) → fits_row (node_layer n) ≡ true → is_some (binder_in n.content) ≡ has_for_group (row n.word).parts
row_binder n e = (rest n e).0

pub row_kids : (n : Node) → fits_row (node_layer n) ≡ true → kids_fit (kid_forms (row n.word).parts) (kids_in n.content) ≡ true
row_kids n e = (rest n e).1
