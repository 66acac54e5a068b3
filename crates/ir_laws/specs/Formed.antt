-- What the grammar makes of expressions fits the table: each label has the fields and the kids that its row names, and binds where its row has a group for that.
use Rattle.std.specs.Prelude.{Bool, true, false, ◌&&◌, ◌||◌, ◌≡◌, not, List, [], ◌∷◌, Option, Some, None}
use Rattle.ir_laws.specs.declared.words.Word.{Word}
use Rattle.ir_laws.specs.declared.words.Word.TheVariants.{ArgumentList}
use Rattle.ir_laws.specs.declared.labels.Keyword.{Keyword}
use Rattle.ir_laws.specs.declared.labels.FieldForm.{FieldForm}
use Rattle.ir_laws.specs.declared.labels.FieldForm.TheVariants.{OneWordOf, ItemOf, AliasOfTrait, IdOf, ANumber, AVariableKind, ARegionKind, AMemory}
use Rattle.ir_laws.specs.declared.labels.KidForm.{KidForm}
use Rattle.ir_laws.specs.declared.labels.KidForm.TheVariants.{OneOf, TypeOrConstant, ListOf, ArgumentsOf}
use Rattle.ir_laws.specs.declared.labels.Part.{Part}
use Rattle.ir_laws.specs.declared.labels.Part.TheVariants.{Fixed, ForGroup, AField, AKid}
use Rattle.ir_laws.specs.Tree.{Kind, Field, Number, Item, Chosen, OfKind, Memory}
use Rattle.ir_laws.specs.Word.{same_word, label_words}
use Rattle.ir_laws.specs.Keyword.{same_keyword, choice_words}
use Rattle.ir_laws.specs.Label.{row}
use Rattle.ir_laws.specs.Expression.{Expr}
use Rattle.ir_laws.specs.Phrase.{Phrase, Phrases, Name, Labelled, NoPhrase, ThenPhrase, phrase_of}
use Rattle.ir_laws.specs.Names.{field_forms}
use Rattle.ir_laws.specs.Parts.{has_for_group}
use Rattle.ir_laws.specs.Sorts.{is_word_among}

-- the forms of a label's kids
abbrev pub kid_forms : List Part → List KidForm
kid_forms [] = []
kid_forms (Fixed word ∷ parts) = kid_forms parts
kid_forms (ForGroup ∷ parts) = kid_forms parts
kid_forms (AField form ∷ parts) = kid_forms parts
kid_forms (AKid form ∷ parts) = form ∷ kid_forms parts

abbrev pub is_keyword_among : List Keyword → Keyword → Bool
is_keyword_among [] k = false
is_keyword_among (l ∷ ls) k = same_keyword l k || is_keyword_among ls k

-- a field is of its form
abbrev pub field_fits : {N : Type 0} → FieldForm → Field N → Bool
field_fits (OneWordOf choice) (Chosen k) = is_keyword_among (choice_words choice) k
field_fits (ItemOf place) (Item name) = true
field_fits AliasOfTrait (Item name) = true
field_fits (IdOf place) (Item name) = true
field_fits ANumber (Number n) = true
field_fits AVariableKind (OfKind k) = true
field_fits ARegionKind (OfKind k) = true
field_fits AMemory (Memory bytes mapped) = true
field_fits form field = false

-- there is a field for each form, and no other
abbrev pub fields_fit : {N : Type 0} → List FieldForm → List (Field N) → Bool
fields_fit [] [] = true
fields_fit (form ∷ forms) (field ∷ fields) = field_fits form field && fields_fit forms fields
fields_fit forms fields = false

abbrev pub has_no_fields : {N : Type 0} → List (Field N) → Bool
has_no_fields [] = true
has_no_fields fields = false

-- the label binds, perhaps nothing, just where its row has a group of variable kinds
abbrev pub bind_fits : {N : Type 0} → List Part → Option (List (Kind N)) → Bool
bind_fits parts None = not (has_for_group parts)
bind_fits parts (Some ks) = has_for_group parts

-- A phrase that is no list has a label that is built, its row's fields, a group of variable kinds where its row has one, and for each kid form a kid; where that wants a list, a list of that word. A list has no fields, binds nothing, and has members that are no lists
abbrev mutual
  pub is_formed : Phrase → Bool
  is_formed (Name name) = true
  is_formed (Labelled l b ps) = is_word_among label_words l.word && fields_fit (field_forms (row l.word).parts) l.fields && bind_fits (row l.word).parts b && kids_formed (kid_forms (row l.word).parts) ps

  pub kids_formed : List KidForm → Phrases → Bool
  kids_formed [] NoPhrase = true
  kids_formed (OneOf sort ∷ forms) (ThenPhrase p ps) = is_formed p && kids_formed forms ps
  kids_formed (TypeOrConstant ∷ forms) (ThenPhrase p ps) = is_formed p && kids_formed forms ps
  kids_formed (ListOf list sort empty ∷ forms) (ThenPhrase p ps) = is_list_formed list p && kids_formed forms ps
  kids_formed (ArgumentsOf count ∷ forms) (ThenPhrase p ps) = is_list_formed ArgumentList p && kids_formed forms ps
  kids_formed forms ps = false

  pub is_list_formed : Word → Phrase → Bool
  is_list_formed list (Name name) = false
  is_list_formed list (Labelled l b ps) = same_word l.word list && has_no_fields l.fields && bind_fits [] b && all_formed ps

  pub all_formed : Phrases → Bool
  all_formed NoPhrase = true
  all_formed (ThenPhrase p ps) = is_formed p && all_formed ps

-- each phrase that the grammar makes is formed
abbrev pub PhrasesAreFormed : Type 0
PhrasesAreFormed = (e : Expr) (p : Phrase) → phrase_of e ≡ Some p → is_formed p ≡ true
