-- Whose fields, binder and kids fit the row of a word of a term has the shape of some content.
use Rattle.std.proofs.Common.{◌≡◌, suc, Bool, true, false, ◌||◌, ◌&&◌, not, List, [], ◌∷◌, length, map, Option, is_some, refl, sym, ap, ap₂, ◌∙◌, true≢false}
use Rattle.std.proofs.lemmas.Bool.{and_parts}
use Rattle.ir_core.specs.declared.handles.BoundVarKinds.{BoundVarKinds}
use Rattle.ir_core.specs.declared.handles.Part.{Part}
use Rattle.ir_laws.specs.declared.labels.FieldForm.{FieldForm}
use Rattle.ir_laws.specs.declared.labels.FieldForm.TheVariants.{OneWordOf, ItemOf, AliasOfTrait, IdOf, ANumber, AVariableKind, ARegionKind, AMemory}
use Rattle.ir_laws.specs.declared.labels.KidForm.{KidForm}
use Rattle.ir_laws.specs.declared.words.Word.{Word}
use Rattle.ir_laws.specs.declared.words.Word.TheVariants.{BoolType}
use Rattle.ir_laws.specs.Counts.{sort_of_label}
use Rattle.ir_laws.specs.Formed.{kid_forms}
use Rattle.ir_laws.specs.Label.{row}
use Rattle.ir_laws.specs.Names.{field_forms}
use Rattle.ir_laws.specs.Parts.{has_for_group}
use Rattle.ir_nodes.specs.Fits.{are_of_forms, is_of_form, is_wanted, kids_fit, term_sort}
use Rattle.ir_nodes.specs.Nodes.{layer_of}
use Rattle.ir_core.specs.Parts.{sort_in}
use Rattle.ir_nodes.specs.Shapes.{Look, Chosen, Number, OfKind, Other, look, is_shape}
use Rattle.ir_nodes.specs.declared.nodes.Field.{Field}
use Rattle.ir_nodes.specs.declared.nodes.Field.TheVariants as field

-- of which variant a field of the form is
abbrev form_look : FieldForm → Look
form_look (OneWordOf choice) = Chosen
form_look (ItemOf place) = Other
form_look AliasOfTrait = Other
form_look (IdOf place) = Other
form_look ANumber = Number
form_look AVariableKind = OfKind
form_look ARegionKind = OfKind
form_look AMemory = Other

same_look : (form : FieldForm) (f : Field) → is_of_form form f ≡ true → form_look form ≡ look f
same_look (OneWordOf choice) (field.Chosen k) e = refl
same_look ANumber (field.Number n) e = refl
same_look AVariableKind (field.OfKind v) e = refl
same_look ARegionKind (field.OfKind v) e = refl
same_look form f e = absurd (true≢false (sym e))

same_looks : (forms : List FieldForm) (fs : List Field) → are_of_forms forms fs ≡ true → map form_look forms ≡ map look fs
same_looks [] [] e = refl
same_looks (form ∷ forms) (f ∷ fs) e = let both = and_parts (is_of_form form f) (are_of_forms forms fs) e in ap₂ (λ x xs. x ∷ xs) (same_look form f both.0) (same_looks forms fs both.1)
same_looks forms fs e = absurd (true≢false (sym e))

same_count : (forms : List KidForm) (ps : List Part) → kids_fit forms ps ≡ true → length forms ≡ length ps
same_count [] [] e = refl
same_count (form ∷ forms) (p ∷ ps) e = ap suc (same_count forms ps (and_parts (is_wanted form (sort_in p)) (kids_fit forms ps) e).1)
same_count forms ps e = absurd (true≢false (sym e))

-- each field is of some variant
abbrev are_known : List Look → Bool
are_known [] = true
are_known (Chosen ∷ ls) = are_known ls
are_known (Number ∷ ls) = are_known ls
are_known (OfKind ∷ ls) = are_known ls
are_known (Other ∷ ls) = false

known : (fs : List Field) → are_known (map look fs) ≡ true
known [] = refl
known (field.Chosen k ∷ fs) = known fs
known (field.Number n ∷ fs) = known fs
known (field.OfKind v ∷ fs) = known fs

-- the row of each word of a term has such a shape, if its fields are known
word_shape : (w : Word) (fs : List Field) (b : Option BoundVarKinds) (ps : List Part)
    → (is_shape (map form_look (field_forms (row w).parts)) (has_for_group (row w).parts) (length (kid_forms (row w).parts)) || not (are_known (map form_look (field_forms (row w).parts)) && is_some (term_sort (sort_of_label (layer_of w fs b ps).label)))) ≡ true
word_shape BoolType fs b ps = refl
word_shape w fs b ps = refl

by_shape : (shape known term : Bool) → (shape || not (known && term)) ≡ true → known ≡ true → term ≡ true → shape ≡ true
by_shape true known term e k t = refl
by_shape false known term e k t = absurd (true≢false (sym e ∙ ap₂ (λ x y. not (x && y)) k t))

-- what fits the row of a term's word has the shape of some content
pub formed : (w : Word) (fs : List Field) (b : Option BoundVarKinds) (ps : List Part) → are_of_forms (field_forms (row w).parts) fs ≡ true → is_some b ≡ has_for_group (row w).parts → kids_fit (kid_forms (row w).parts) ps ≡ true
    → is_some (term_sort (sort_of_label (layer_of w fs b ps).label)) ≡ true → is_shape (map look fs) (is_some b) (length ps) ≡ true
formed w fs b ps fit group kids term =
    ap (λ ls. is_shape ls (is_some b) (length ps)) (sym looks)
    ∙ ap₂ (λ g n. is_shape (map form_look (field_forms (row w).parts)) g n) group (sym (same_count (kid_forms (row w).parts) ps kids))
    ∙ by_shape _ _ _ (word_shape w fs b ps) (ap are_known looks ∙ known fs) term
  where
    looks : map form_look (field_forms (row w).parts) ≡ map look fs
    looks = same_looks (field_forms (row w).parts) fs fit
