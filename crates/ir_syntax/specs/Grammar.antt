-- What a contract sees of fields, variable kinds and labels.
use Rattle.std.specs.Prelude.{Bool, true, false, List, [], ◌∷◌, Option, Some, None, option_map, find, bytes_eq}
use Rattle.ir_laws.specs.Tree as tree
use Rattle.ir_laws.specs.Tree.{Text, KindName, Nameless, Environment, Called, Kind, Label}
use Rattle.ir_laws.specs.declared.labels.Sort.TheVariants.{OfType, OfRegion, OfConstant}
use Rattle.ir_laws.specs.Expression.{Expr}
use Rattle.ir_laws.specs.Phrase.{Phrase, phrase_of, phrases_in, list_phrase}
use Rattle.ir_laws.specs.declared.labels.FieldForm.{FieldForm}
use Rattle.ir_laws.specs.declared.labels.FieldForm.TheVariants.{OneWordOf, ItemOf, AliasOfTrait, IdOf, ANumber, AVariableKind, ARegionKind, AMemory}
use Rattle.ir_laws.specs.declared.labels.KidForm.{KidForm}
use Rattle.ir_laws.specs.declared.labels.KidForm.TheVariants.{OneOf, TypeOrConstant, ListOf, ArgumentsOf}
use Rattle.ir_laws.specs.declared.labels.Part.{Part}
use Rattle.ir_laws.specs.declared.labels.Part.TheVariants.{Fixed, ForGroup, AField, AKid}
use Rattle.ir_laws.specs.declared.words.Word.{Word}
use Rattle.ir_laws.specs.declared.words.Word.TheVariants.{ArgumentList}
use Rattle.ir_laws.specs.Word.{label_words}
use Rattle.ir_laws.specs.Label.{row}
use Rattle.ir_laws.specs.Keyword.{fixed_text}
use Rattle.ir_syntax.specs.declared.fields.Field.{Field}
use Rattle.ir_syntax.specs.declared.fields.Field.TheVariants as field
use Rattle.ir_syntax.specs.declared.fields.VariableKind.{VariableKind}
use Rattle.ir_syntax.specs.declared.fields.VariableKind.TheVariants as variable

-- a name, or an empty text for none
abbrev pub name_seen : Text → KindName Text
name_seen [] = Nameless
name_seen (b ∷ bs) = Called (b ∷ bs)

abbrev pub kind_seen : VariableKind → Kind Text
kind_seen (variable.Type name) = record { sort = OfType; name = name_seen name.now }
kind_seen (variable.Region name) = record { sort = OfRegion; name = name_seen name.now }
kind_seen variable.Environment = record { sort = OfRegion; name = Environment }
kind_seen variable.Constant = record { sort = OfConstant; name = Nameless }

-- the name that a kind has
abbrev pub name_in : Kind Text → Option Text
name_in k = elim (k.name) [ Nameless ↦ None | Environment ↦ None | Called name ↦ Some name ]

abbrev pub field_seen : Field → tree.Field Text
field_seen (field.Chosen w) = tree.Chosen w
field_seen (field.Number n) = tree.Number n
field_seen (field.OfKind k) = tree.OfKind (kind_seen k)

-- ---- from expressions to phrases

-- the forms of fields that are read so far
abbrev pub is_built_field : FieldForm → Bool
is_built_field (OneWordOf choice) = true
is_built_field ANumber = true
is_built_field AVariableKind = true
is_built_field ARegionKind = true
is_built_field (ItemOf place) = false
is_built_field AliasOfTrait = false
is_built_field (IdOf place) = false
is_built_field AMemory = false

-- the expression as a kid of this form
abbrev pub kid_in : KidForm → Expr → Option Phrase
kid_in (OneOf sort) e = phrase_of e
kid_in TypeOrConstant e = phrase_of e
kid_in (ListOf list sort if_empty) e = list_phrase list (phrases_in e)
kid_in (ArgumentsOf count) e = list_phrase ArgumentList (phrases_in e)

-- ---- the label of a group, by its first word and what comes next: another word, or none where that is a group

-- the parts begin with no fixed word, or with the next word
abbrev pub begins_with : List Part → Option Text → Bool
begins_with [] next = false
begins_with (Fixed word ∷ parts) None = false
begins_with (Fixed word ∷ parts) (Some text) = bytes_eq (fixed_text word) text
begins_with (ForGroup ∷ parts) next = true
begins_with (AField form ∷ parts) next = true
begins_with (AKid form ∷ parts) next = true

abbrev pub label_before : Text → Option Text → Option Word
label_before text next = find (λ w. elim (bytes_eq (row w).text text) [ true ↦ begins_with (row w).parts next | false ↦ false ]) label_words
