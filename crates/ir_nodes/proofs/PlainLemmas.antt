-- Nodes whose labels are plain, and nodes that are leaves.
use Rattle.std.proofs.Common.{◌≡◌, true, false, true≢false, List, [], ◌∷◌, map, None, inl, inr, refl, sym, ap, ◌∙◌, arith, Bool}
use Rattle.std.specs.Prelude.{sum_by}
use Rattle.std.specs.Option.{option_map}
use Rattle.ir_core.specs.declared.handles.Part.TheVariants as part
use Rattle.ir_core.specs.declared.ids.SolverDefId.{SolverDefId}
use Rattle.ir_laws.specs.declared.words.Word.{Word}
use Rattle.ir_laws.specs.declared.words.Word.TheVariants.{BoundVariable, CanonicalVariable, ConstantParameter, Placeholder, RegionParameter, TypeParameter}
use Rattle.ir_laws.specs.Counts.{field_size}
use Rattle.ir_laws.specs.Heap.{OfNames, leaf_by, leaf_of, own_size}
use Rattle.ir_laws.specs.Environment.{variable_of, parameter_of}
use Rattle.ir_laws.specs.declared.labels.Sort.{Sort}
use Rattle.ir_laws.specs.declared.labels.Sort.TheVariants.{OfType, OfRegion, OfConstant}
use Rattle.ir_laws.specs.Label.{row}
use Rattle.ir_laws.specs.Names.{field_forms}
use Rattle.ir_laws.specs.Formed.{fields_fit}
use Rattle.ir_laws.specs.declared.labels.FieldForm.{FieldForm}
use Rattle.ir_laws.specs.declared.labels.FieldForm.TheVariants.{ANumber, AVariableKind, IdOf}
use Rattle.ir_laws.specs.declared.labels.ItemPlace.TheVariants.{ParentPlace}
use Rattle.std.proofs.lemmas.Bool.{and_parts}
use Rattle.std.proofs.lemmas.List.Sums.{sum_by-cons}
use Rattle.ir_nodes.specs.declared.nodes.Field.{Field as NodeField}
use Rattle.ir_nodes.specs.declared.nodes.Field.TheVariants as field
use Rattle.ir_nodes.specs.declared.nodes.Node.{Node as TableNode}
use Rattle.ir_nodes.specs.Fits.{fits_row}
use Rattle.ir_nodes.specs.declared.nodes.Content.{Content}
use Rattle.ir_nodes.specs.declared.nodes.Content.TheVariants as content
use Rattle.ir_laws.specs.Tree.{Field}
use Rattle.ir_laws.specs.Word.{same_word}
use Rattle.ir_nodes.specs.Plain.{IsPlain, IsBare}
use Rattle.ir_nodes.specs.Nodes.{binder_in, field_seen, fields_in, kids_in, node_layer}

abbrev parameter_forms : List FieldForm
parameter_forms = IdOf ParentPlace ∷ ANumber ∷ ANumber ∷ []

-- where the fields are no variable's and no parameter's, the label is plain
plain_word : (fs : List (Field SolverDefId)) → fields_fit (ANumber ∷ ANumber ∷ AVariableKind ∷ []) fs ≡ false → fields_fit (ANumber ∷ AVariableKind ∷ []) fs ≡ false → fields_fit parameter_forms fs ≡ false → sum_by field_size fs ≡ 0
    → (w : Word) → fields_fit (field_forms (row w).parts) fs ≡ true → IsPlain (record { word = w; fields = fs })
plain_word fs a b c z BoundVariable e = absurd (true≢false (sym e ∙ a))
plain_word fs a b c z Placeholder e = absurd (true≢false (sym e ∙ a))
plain_word fs a b c z CanonicalVariable e = absurd (true≢false (sym e ∙ b))
plain_word fs a b c z TypeParameter e = absurd (true≢false (sym e ∙ c))
plain_word fs a b c z RegionParameter e = absurd (true≢false (sym e ∙ c))
plain_word fs a b c z ConstantParameter e = absurd (true≢false (sym e ∙ c))
plain_word fs a b c z w e = record { leaf = refl; flags = refl; number = refl; size = z }

-- the fields are no variable's
abbrev pub is_plain : Content → Bool
is_plain (content.Placed i n v) = false
is_plain (content.Numbered n v) = false
is_plain _ = true

plain_content : (w : Word) (x : Content) → fields_fit (field_forms (row w).parts) (map field_seen (fields_in x)) ≡ true → is_plain x ≡ true → IsPlain (record { word = w; fields = map field_seen (fields_in x) })
plain_content w (content.Numbered k v) e p = absurd (true≢false (sym p))
plain_content w (content.Placed i k v) e p = absurd (true≢false (sym p))
plain_content w x e p = plain_word (map field_seen (fields_in x)) refl refl refl refl w e

-- fields without a size have none together, and those of nodes are such
pub fields_sizeless : {X : Type 0} (f : X → Field SolverDefId) → ((x : X) → field_size (f x) ≡ 0) → (xs : List X) → sum_by field_size (map f xs) ≡ 0
fields_sizeless f none [] = refl
fields_sizeless f none (x ∷ xs) = let s = sum_by-cons field_size (f x) (map f xs) in let z = none x in let r = fields_sizeless f none xs in omega arith

field_sizeless : (f : NodeField) → field_size (field_seen f) ≡ 0
field_sizeless (field.Chosen k) = refl
field_sizeless _ = refl

pub node_size : (n : TableNode) → own_size (record { label = (node_layer n).label; bind = None }) ≡ 1
node_size n = let f = fields_sizeless field_seen field_sizeless (fields_in n.content) in omega arith

-- a label without a variable's or a parameter's fields is no leaf
no_leaf : (w : Word) (fs : List (Field SolverDefId)) → variable_of fs ≡ None → ((s : Sort) → parameter_of s fs ≡ None) → leaf_of (record { word = w; fields = fs }) ≡ None
no_leaf w fs a b = by (same_word w BoundVariable) (same_word w TypeParameter) (same_word w RegionParameter) (same_word w ConstantParameter)
  where
    by : (v t r c : Bool) → leaf_by v t r c fs ≡ None
    by true t r c = a
    by false true r c = b OfType
    by false false true c = b OfRegion
    by false false false true = b OfConstant
    by false false false false = refl

-- the fields may be a bound variable's
abbrev is_placed : Content → Bool
is_placed (content.Placed i n v) = true
is_placed _ = false

other_leaf : (w : Word) (x : Content) → is_placed x ≡ false → leaf_of (record { word = w; fields = map field_seen (fields_in x) }) ≡ None
other_leaf w (content.Placed i n v) e = absurd (true≢false e)
other_leaf w x e = no_leaf w (map field_seen (fields_in x)) refl (λ s. refl)

pub node_leaf : (n : TableNode) (x : Content) → n.content ≡ x → is_placed x ≡ false → leaf_of (node_layer n).label ≡ None
node_leaf n x is e = other_leaf n.word n.content (ap is_placed is ∙ e)

-- a node is a variable's, or binds and has kids only where its label is no leaf
pub node_bare : (n : TableNode) → IsBare (node_layer n)
node_bare n = by n.content refl
  where
    by : (x : Content) → n.content ≡ x → IsBare (node_layer n)
    by (content.Placed i k v) is = inr (ap (λ y. option_map part.BoundVarKinds (binder_in y)) is, ap (λ y. OfNames (kids_in y)) is)
    by x is = inl (node_leaf n x is refl)

pub plain_node : (n : TableNode) → fits_row (node_layer n) ≡ true → is_plain n.content ≡ true → IsPlain (node_layer n).label
plain_node n e plain = plain_content n.word n.content (and_parts (fields_fit (field_forms (row n.word).parts) (map field_seen (fields_in n.content))) _ e).0 plain
