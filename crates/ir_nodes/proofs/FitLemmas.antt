-- Which layers fit, and of which sorts they are.
use Rattle.std.proofs.Common.{◌≡◌, ℕ, Bool, true, false, true≢false, Option, None, List, [], ◌∷◌, map, Some, is_some, if◌then◌else◌, refl, sym, ap, ◌∙◌}
use Rattle.std.proofs.lemmas.Option.{same_Some}
use Rattle.ir_core.specs.declared.handles.Part.{Part}
use Rattle.ir_core.specs.declared.handles.Part.TheVariants as part
use Rattle.ir_core.specs.declared.handles.Ty.{Ty}
use Rattle.ir_core.specs.declared.variables.BoundVarKind.{BoundVarKind}
use Rattle.ir_laws.specs.Heap.{Layer, are_kinds}
use Rattle.ir_laws.specs.declared.words.Word.{Word}
use Rattle.ir_laws.specs.declared.labels.Sort.{Sort}
use Rattle.ir_laws.specs.declared.labels.Sort.TheVariants.{OfType, OfList}
use Rattle.ir_laws.specs.Same.{same_sort}
use Rattle.ir_laws.specs.Word.{same_word}
use Rattle.ir_laws.specs.Heap.{Each}
use Rattle.std.proofs.lemmas.Option.{none-some}
use Rattle.ir_core.specs.Parts.{part_at}
use Rattle.ir_laws.specs.Counts.{sort_of_label}
use Rattle.ir_nodes.specs.Fits.{are_keywords, are_types, fits_row, fits_sort, handle_sort, is_term, layer_fits, layer_sort, list_sorts, sort_among, sort_by, term_sort}
use Rattle.ir_core.specs.declared.kinds.Variance.{Variance}
use Rattle.ir_core.specs.declared.handles.PartSort.{PartSort}
use Rattle.ir_core.specs.declared.handles.PartSort.TheVariants as sort
use Rattle.ir_nodes.specs.Nodes.{tys_layer, variable_field, variables_layer, variance_field, variances_layer}
use Rattle.ir_core.specs.Parts.{index_in, sort_in}

-- lists fit
types_are : (ts : List Ty) → are_types (map part.Ty ts) ≡ true
types_are [] = refl
types_are (t ∷ ts) = types_are ts

pub types_fit : (ts : List Ty) → layer_fits (tys_layer ts) ≡ true
types_fit ts = types_are ts

variables_are : (vs : List BoundVarKind) → are_kinds (map variable_field vs) ≡ true
variables_are [] = refl
variables_are (v ∷ vs) = variables_are vs

pub variables_fit : (vs : List BoundVarKind) → layer_fits (variables_layer vs) ≡ true
variables_fit vs = let all = variables_are vs in rw all

variances_are : (vs : List Variance) → are_keywords (map variance_field vs) ≡ true
variances_are [] = refl
variances_are (v ∷ vs) = variances_are vs

pub variances_fit : (vs : List Variance) → layer_fits (variances_layer vs) ≡ true
variances_fit vs = let all = variances_are vs in rw all

-- a term's layer fits where it fits its row
pub fits_term : (o : Option PartSort) (l : Layer Part) → is_term o ≡ true → fits_sort o l ≡ fits_row l
fits_term (Some sort.Ty) l e = refl
fits_term (Some sort.Region) l e = refl
fits_term (Some sort.Const) l e = refl
fits_term _ l e = absurd (true≢false (sym e))

-- ---- sorts

list_step : (s : Word × PartSort) (rest : Option PartSort) (w : Word) (g : PartSort) → OfList ≡ handle_sort s.1 → (rest ≡ Some g → OfList ≡ handle_sort g) → (b : Bool) → (if b then Some s.1 else rest) ≡ Some g → OfList ≡ handle_sort g
list_step s rest w g here more true e = here ∙ ap handle_sort (same_Some s.1 g e)
list_step s rest w g here more false e = more e

list_back : (ss : List (Word × PartSort)) → Each (λ s. OfList ≡ handle_sort s.1) ss → (w : Word) (g : PartSort) → sort_among ss w ≡ Some g → OfList ≡ handle_sort g
list_back [] all w g e = absurd (none-some g e)
list_back (s ∷ ss) all w g e = list_step s (sort_among ss w) w g all.0 (list_back ss all.1 w g) (same_word s.0 w) e

term_back : (s : Sort) (g : PartSort) → term_sort s ≡ Some g → s ≡ handle_sort g
term_back OfType g e = ap handle_sort (same_Some _ g e)
term_back _ g e = cc e

pub sort_back : (s : Sort) (w : Word) (g : PartSort) → sort_by s w ≡ Some g → s ≡ handle_sort g
sort_back OfList w g e = list_back list_sorts (refl, (refl, (refl, (refl, (refl, (refl, (refl, (refl, tt)))))))) w g e
sort_back s w g e = term_back s g e

-- the sort of a term's label is that of the handles that name it
pub term_is : (s : Sort) → is_some (term_sort s) ≡ true → is_term (term_sort s) ≡ true
term_is OfList e = e
term_is _ e = e

pub term_sort_by : (s : Sort) (w : Word) → is_some (term_sort s) ≡ true → term_sort s ≡ sort_by s w
term_sort_by OfList w e = absurd (true≢false (sym e))
term_sort_by _ w e = refl

pub label_is : (s : Sort) (w : Word) → is_some (term_sort s) ≡ true → is_term (sort_by s w) ≡ true
label_is s w e = ap is_term (sym (term_sort_by s w e)) ∙ term_is s e

pub term_of_handle : (g : PartSort) → is_term (Some g) ≡ true → term_sort (handle_sort g) ≡ Some g
term_of_handle sort.Ty e = refl
term_of_handle sort.Region e = refl
term_of_handle sort.Const e = refl
term_of_handle _ e = absurd (true≢false (sym e))

-- a term's label has the sort of a term, so it is no list's
pub term_label : (l : Layer Part) → is_term (layer_sort l) ≡ true → is_some (term_sort (sort_of_label l.label)) ≡ true
term_label l term = by (layer_sort l) refl term
  where
    by : (o : Option PartSort) → layer_sort l ≡ o → is_term o ≡ true → is_some (term_sort (sort_of_label l.label)) ≡ true
    by None is e = absurd (true≢false (sym e))
    by (Some g) is e = ap (λ s. is_some (term_sort s)) (sort_back (sort_of_label l.label) l.label.word g is) ∙ ap is_some (term_of_handle g e)

pub not_list : (s : Sort) → is_some (term_sort s) ≡ true → same_sort s OfList ≡ false
not_list OfList e = absurd (true≢false (sym e))
not_list _ e = refl

pub sort_at : (g : PartSort) (i : ℕ) → sort_in (part_at g i) ≡ g
sort_at sort.Tys i = refl
sort_at _ i = refl

pub index_at : (g : PartSort) (i : ℕ) → index_in (part_at g i) ≡ i
index_at sort.Tys i = refl
index_at _ i = refl
