-- Of which sort a layer is, and which layers fit their rows.
use Rattle.std.specs.Prelude.{ℕ, Bool, true, false, ◌&&◌, ◌||◌, not, if◌then◌else◌, List, [], ◌∷◌, Option, Some, None, is_some}
use Rattle.ir_core.specs.declared.handles.Part.{Part}
use Rattle.ir_core.specs.declared.handles.Part.TheVariants as part
use Rattle.ir_laws.specs.declared.words.Word.{Word}
use Rattle.ir_laws.specs.declared.words.Word.TheVariants.{TypeList, ArgumentList, PatternList, ExistentialList, ClauseList, VariableList, VarianceList, AssumptionList}
use Rattle.ir_laws.specs.declared.labels.Sort.{Sort}
use Rattle.ir_laws.specs.declared.labels.Sort.TheVariants.{OfType, OfRegion, OfConstant, OfPattern, OfPredicate, OfBytes, OfExistential, OfList}
use Rattle.ir_laws.specs.declared.labels.KidForm.{KidForm}
use Rattle.ir_laws.specs.declared.labels.KidForm.TheVariants.{OneOf, TypeOrConstant, ListOf, ArgumentsOf}
use Rattle.ir_laws.specs.declared.labels.FieldForm.{FieldForm}
use Rattle.ir_laws.specs.declared.labels.FieldForm.TheVariants.{OneWordOf, ANumber, AVariableKind, ARegionKind}
use Rattle.ir_core.specs.declared.ids.SolverDefId.{SolverDefId}
use Rattle.ir_laws.specs.Tree.{Chosen, Field}
use Rattle.ir_laws.specs.Keyword.{choice_words}
use Rattle.ir_nodes.specs.declared.nodes.Field.{Field as NodeField}
use Rattle.ir_nodes.specs.declared.nodes.Field.TheVariants as field
use Rattle.ir_laws.specs.Counts.{sort_of_label}
use Rattle.ir_laws.specs.Word.{same_word}
use Rattle.ir_laws.specs.Label.{row}
use Rattle.ir_laws.specs.Names.{field_forms}
use Rattle.ir_laws.specs.Formed.{kid_forms, fields_fit, has_no_fields, is_keyword_among}
use Rattle.ir_laws.specs.Parts.{has_for_group}
use Rattle.ir_laws.specs.Heap.{Layer, are_names, has_none, is_variable_list, kid_names}
use Rattle.ir_core.specs.declared.handles.PartSort.{PartSort}
use Rattle.ir_core.specs.declared.handles.PartSort.TheVariants as sort
use Rattle.ir_core.specs.Parts.{part_at, same_part_sort, sort_in}

-- the words of lists, each with the sort of the handles that name such lists
abbrev pub list_sorts : List (Word × PartSort)
list_sorts = (TypeList, sort.Tys) ∷ (ArgumentList, sort.GenericArgs) ∷ (PatternList, sort.PatList) ∷ (ExistentialList, sort.BoundExistentialPredicates)
    ∷ (ClauseList, sort.Clauses) ∷ (VariableList, sort.BoundVarKinds) ∷ (VarianceList, sort.VariancesOf) ∷ (AssumptionList, sort.RegionAssumptions) ∷ []

abbrev pub sort_among : List (Word × PartSort) → Word → Option PartSort
sort_among [] w = None
sort_among (s ∷ ss) w = if same_word s.0 w then Some s.1 else sort_among ss w

-- the sort of a list, by its word
abbrev pub list_sort : Word → Option PartSort
list_sort w = sort_among list_sorts w

-- the sort of the handles of terms of this sort, if it has any
abbrev pub term_sort : Sort → Option PartSort
term_sort OfType = Some sort.Ty
term_sort OfRegion = Some sort.Region
term_sort OfConstant = Some sort.Const
term_sort OfPattern = None
term_sort OfPredicate = None
term_sort OfBytes = None
term_sort OfExistential = None
term_sort OfList = None

-- the sort of the parts that a label of this sort and word has, if it has parts
abbrev pub sort_by : Sort → Word → Option PartSort
sort_by OfList w = list_sort w
sort_by s w = term_sort s

-- the sort of the terms that handles of the sort name
abbrev pub handle_sort : PartSort → Sort
handle_sort sort.Ty = OfType
handle_sort sort.Const = OfConstant
handle_sort sort.Region = OfRegion
handle_sort sort.Tys = OfList
handle_sort sort.GenericArgs = OfList
handle_sort sort.PatList = OfList
handle_sort sort.BoundExistentialPredicates = OfList
handle_sort sort.Clauses = OfList
handle_sort sort.RegionAssumptions = OfList
handle_sort sort.BoundVarKinds = OfList
handle_sort sort.VariancesOf = OfList

abbrev pub part_sort : Part → Sort
part_sort p = handle_sort (sort_in p)

abbrev pub layer_sort : Layer Part → Option PartSort
layer_sort l = sort_by (sort_of_label l.label) l.label.word

-- the part of this layer that stands at the place
abbrev pub part_by : Option PartSort → ℕ → Part
part_by None i = part_at sort.Ty i
part_by (Some g) i = part_at g i

-- the sort is that of terms, whose parts are nodes
abbrev pub is_term : Option PartSort → Bool
is_term (Some sort.Tys) = false
is_term (Some sort.GenericArgs) = false
is_term (Some sort.PatList) = false
is_term (Some sort.BoundExistentialPredicates) = false
is_term (Some sort.Clauses) = false
is_term (Some sort.RegionAssumptions) = false
is_term (Some sort.BoundVarKinds) = false
is_term (Some sort.VariancesOf) = false
is_term (Some g) = true
is_term None = false

abbrev pub is_of : PartSort → Option PartSort → Bool
is_of g None = false
is_of g (Some h) = same_part_sort g h

-- the part is a list of the word
abbrev pub is_list_of : Word → Part → Bool
is_list_of w p = is_of (sort_in p) (list_sort w)

-- a part of the sort is what the kid form wants
abbrev pub is_wanted : KidForm → PartSort → Bool
is_wanted (OneOf s) g = is_of g (term_sort s)
is_wanted TypeOrConstant g = same_part_sort g sort.Ty || same_part_sort g sort.Const
is_wanted (ListOf w s empty) g = is_of g (list_sort w)
is_wanted (ArgumentsOf count) g = same_part_sort g sort.GenericArgs

abbrev pub kids_fit : List KidForm → List Part → Bool
kids_fit [] [] = true
kids_fit (form ∷ forms) (p ∷ ps) = is_wanted form (sort_in p) && kids_fit forms ps
kids_fit forms ps = false

-- the code's field is of the form
abbrev pub is_of_form : FieldForm → NodeField → Bool
is_of_form (OneWordOf choice) (field.Chosen k) = is_keyword_among (choice_words choice) k
is_of_form ANumber (field.Number n) = true
is_of_form AVariableKind (field.OfKind v) = true
is_of_form ARegionKind (field.OfKind v) = true
is_of_form form f = false

abbrev pub are_of_forms : List FieldForm → List NodeField → Bool
are_of_forms [] [] = true
are_of_forms (form ∷ forms) (f ∷ fs) = is_of_form form f && are_of_forms forms fs
are_of_forms forms fs = false

-- what binds is a list of variables, just where the row has a group for it
abbrev pub binder_fits : Bool → Option Part → Bool
binder_fits true (Some (part.BoundVarKinds v)) = true
binder_fits false None = true
binder_fits b o = false

-- the layer fits the row of its word
abbrev pub fits_row : Layer Part → Bool
fits_row l = fields_fit (field_forms (row l.label.word).parts) l.label.fields && (binder_fits (has_for_group (row l.label.word).parts) l.binder && (are_names l.kids && kids_fit (kid_forms (row l.label.word).parts) (kid_names l.kids)))

abbrev pub are_types : List Part → Bool
are_types [] = true
are_types (p ∷ ps) = same_part_sort (sort_in p) sort.Ty && are_types ps

-- each field is a keyword
abbrev pub are_keywords : List (Field SolverDefId) → Bool
are_keywords [] = true
are_keywords (Chosen k ∷ fs) = are_keywords fs
are_keywords (f ∷ fs) = false

-- no members: those of the other lists are not built
abbrev pub is_empty_list : Layer Part → Bool
is_empty_list l = has_no_fields l.label.fields && (not (is_some l.binder) && has_none l.kids)

-- the layer of a part of the sort is as it should be: a list has members of its sort, and a node fits its row
abbrev pub fits_sort : Option PartSort → Layer Part → Bool
fits_sort None l = false
fits_sort (Some sort.Tys) l = has_no_fields l.label.fields && (not (is_some l.binder) && (are_names l.kids && are_types (kid_names l.kids)))
fits_sort (Some sort.GenericArgs) l = is_empty_list l
fits_sort (Some sort.PatList) l = is_empty_list l
fits_sort (Some sort.BoundExistentialPredicates) l = is_empty_list l
fits_sort (Some sort.Clauses) l = is_empty_list l
fits_sort (Some sort.RegionAssumptions) l = is_empty_list l
fits_sort (Some sort.BoundVarKinds) l = is_variable_list l
fits_sort (Some sort.VariancesOf) l = are_keywords l.label.fields && (not (is_some l.binder) && has_none l.kids)
fits_sort (Some g) l = fits_row l

-- A layer that may be a part's: a node that fits its row, or a list with members of its sort
abbrev pub layer_fits : Layer Part → Bool
layer_fits l = fits_sort (layer_sort l) l
