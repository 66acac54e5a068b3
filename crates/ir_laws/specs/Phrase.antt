-- The terms of the grammar: phrases, whose names are not yet looked up.
use Rattle.std.specs.Prelude.{ℕ, Bool, true, false, ◌&&◌, List, [], ◌∷◌, find, Option, Some, None, nat_eq, nat_lt, bytes_eq, codes, option_map}
use Rattle.ir_laws.specs.declared.words.Word.{Word}
use Rattle.ir_laws.specs.declared.words.Word.TheVariants.{ArgumentList}
use Rattle.ir_laws.specs.Word.{label_words}
use Rattle.ir_laws.specs.Keyword.{keyword_text, fixed_text, choice_words}
use Rattle.ir_laws.specs.declared.labels.Sort.{Sort}
use Rattle.ir_laws.specs.declared.labels.Sort.TheVariants.{OfType, OfRegion, OfConstant}
use Rattle.ir_laws.specs.Tree.{Text, KindName, Nameless, Environment, Called, Kind, Mapped, Field, Number, Item, Chosen, OfKind, Memory, Label}
use Rattle.ir_laws.specs.declared.labels.FieldForm.{FieldForm}
use Rattle.ir_laws.specs.declared.labels.FieldForm.TheVariants.{OneWordOf, ItemOf, AliasOfTrait, IdOf, ANumber, AVariableKind, ARegionKind, AMemory}
use Rattle.ir_laws.specs.declared.labels.KidForm.TheVariants.{OneOf, TypeOrConstant, ListOf, ArgumentsOf}
use Rattle.ir_laws.specs.declared.labels.Part.{Part}
use Rattle.ir_laws.specs.declared.labels.Part.TheVariants.{Fixed, ForGroup, AField, AKid}
use Rattle.ir_laws.specs.Label.{row}
use Rattle.ir_laws.specs.Expression.{Expr, Exprs, Single, Group, NoExpr, ThenExpr}
use Rattle.ir_laws.specs.Numeral.{name_of, number_of, address_of, bytes_of_hex}

mutual
  -- a NAME, or a label with its group of variable kinds and its kids; a list is a label too
  pub data Phrase : Type 0 where
    Name : (name : Text) → Phrase
    Labelled : (label : Label Text) → (bind : Option (List (Kind Text))) → (kids : Phrases) → Phrase

  -- phrases one after the other
  pub data Phrases : Type 0 where
    NoPhrase : Phrases
    ThenPhrase : (first : Phrase) → (rest : Phrases) → Phrases

-- the phrases as a list
abbrev pub phrase_list : Phrases → List Phrase
phrase_list NoPhrase = []
phrase_list (ThenPhrase p ps) = p ∷ phrase_list ps

-- ---- variable kinds

-- the first, or else the second
abbrev pub or_else : {A : Type 0} → Option A → Option A → Option A
or_else None b = b
or_else (Some x) b = Some x

-- what stands after these first bytes, if the text begins with them
abbrev pub after : Text → Text → Option Text
after [] text = Some text
after (b ∷ bs) [] = None
after (b ∷ bs) (c ∷ cs) = elim (nat_eq b c) [ true ↦ after bs cs | false ↦ None ]

-- a kind that is written as this word
abbrev pub kind_written : Text → Sort → KindName Text → Text → Option (Kind Text)
kind_written word sort name text = elim (bytes_eq word text) [ true ↦ Some (record { sort = sort; name = name }) | false ↦ None ]

-- a kind that is written as these first bytes with a NAME
abbrev pub kind_called : Text → Sort → Text → Option (Kind Text)
kind_called first sort text = elim (after first text) [
  | Some rest ↦ option_map (λ name. record { sort = sort; name = Called name }) (name_of rest)
  | None ↦ None
]

-- `r`, `r:NAME` or `env`
abbrev pub region_kind_of : Text → Option (Kind Text)
region_kind_of text = or_else (kind_written (codes "r") OfRegion Nameless text) (or_else (kind_written (codes "env") OfRegion Environment text) (kind_called (codes "r:") OfRegion text))

-- a region's, or `t`, `t:NAME` or `c`
abbrev pub kind_of : Text → Option (Kind Text)
kind_of text = or_else (region_kind_of text) (or_else (kind_written (codes "t") OfType Nameless text) (or_else (kind_written (codes "c") OfConstant Nameless text) (kind_called (codes "t:") OfType text)))

-- both, or none
abbrev pub cons_if : {A : Type 0} → Option A → Option (List A) → Option (List A)
cons_if (Some x) (Some xs) = Some (x ∷ xs)
cons_if x xs = None

-- the words, where no group is among the expressions
abbrev pub words_of : Exprs → Option (List Text)
words_of NoExpr = Some []
words_of (ThenExpr (Single text) es) = cons_if (Some text) (words_of es)
words_of (ThenExpr (Group items) es) = None

-- what each member gives, where each gives something
abbrev pub each_of : {A B : Type 0} → (A → Option B) → List A → Option (List B)
each_of f [] = Some []
each_of f (x ∷ xs) = cons_if (f x) (each_of f xs)

-- what the value gives, where there is one
abbrev pub and_then : {A B : Type 0} → Option A → (A → Option B) → Option B
and_then None f = None
and_then (Some x) f = f x

-- `(for K*)`
abbrev pub bind_of : Expr → Option (List (Kind Text))
bind_of (Group (ThenExpr (Single text) es)) = elim (bytes_eq text (codes "for")) [ true ↦ and_then (words_of es) (each_of kind_of) | false ↦ None ]
bind_of e = None

-- ---- fields

-- an address with its bytes
abbrev pub mapped_entry : Option ℕ → Option Text → Option Mapped
mapped_entry (Some address) (Some bytes) = Some (record { address = address; bytes = bytes })
mapped_entry address bytes = None

-- addresses and bytes by turns
abbrev pub mapped_of : List Text → Option (List Mapped)
mapped_of [] = Some []
mapped_of (address ∷ []) = None
mapped_of (address ∷ bytes ∷ rest) = cons_if (mapped_entry (address_of address) (bytes_of_hex bytes)) (mapped_of rest)

-- each address is above the one before
abbrev pub are_rising : List Mapped → Bool
are_rising [] = true
are_rising (m ∷ []) = true
are_rising (m ∷ n ∷ ms) = nat_lt m.address n.address && are_rising (n ∷ ms)

-- the field of bytes and mapped addresses, where these rise
abbrev pub memory_field : Text → List Mapped → Option (Field Text)
memory_field bytes mapped = elim (are_rising mapped) [ true ↦ Some (Memory bytes mapped) | false ↦ None ]

-- `HEX (ADDR HEX)*`, the addresses strictly rising
abbrev pub memory_of : List Text → Option (Field Text)
memory_of [] = None
memory_of (bytes ∷ rest) = and_then (bytes_of_hex bytes) (λ b. and_then (mapped_of rest) (memory_field b))

-- the field that a word gives in its place
abbrev pub field_of : FieldForm → Text → Option (Field Text)
field_of (OneWordOf choice) text = option_map Chosen (find (λ w. bytes_eq (keyword_text w) text) (choice_words choice))
field_of (ItemOf place) text = option_map Item (name_of text)
field_of AliasOfTrait text = option_map Item (name_of text)
field_of (IdOf place) text = option_map Item (name_of text)
field_of ANumber text = option_map Number (number_of text)
field_of AVariableKind text = option_map OfKind (kind_of text)
field_of ARegionKind text = option_map OfKind (region_kind_of text)
field_of AMemory text = None

-- the same of an expression, which must be a word
abbrev pub field_in : FieldForm → Expr → Option (Field Text)
field_in form (Single text) = field_of form text
field_in form (Group es) = None

-- ---- labels

-- the label is written as its word alone
abbrev pub no_parts : List Part → Bool
no_parts [] = true
no_parts ps = false

-- the label that is written as this word alone
abbrev pub bare_word : Text → Option Word
bare_word text = find (λ w. elim (bytes_eq (row w).text text) [ true ↦ no_parts (row w).parts | false ↦ false ]) label_words

-- the expression is this word
abbrev pub is_word : Text → Expr → Bool
is_word word (Single text) = bytes_eq word text
is_word word (Group es) = false

-- the parts begin with no fixed word, or with the word that the expressions begin with
abbrev pub begins : List Part → Exprs → Bool
begins (Fixed word ∷ parts) (ThenExpr e es) = is_word (fixed_text word) e
begins (Fixed word ∷ parts) NoExpr = false
begins (ForGroup ∷ parts) es = true
begins (AField form ∷ parts) es = true
begins (AKid form ∷ parts) es = true
begins [] es = false

-- the label that is written in brackets with this word, before these expressions
abbrev pub written_word : Text → Exprs → Option Word
written_word text es = find (λ w. elim (bytes_eq (row w).text text) [ true ↦ begins (row w).parts es | false ↦ false ]) label_words

-- what the parts of a label give
pub record Fitted : Type 0 where
  pub fields : List (Field Text)
  pub bind : Option (List (Kind Text))
  pub kids : Phrases

-- a field before what the further parts give
abbrev pub with_field : Option (Field Text) → Option Fitted → Option Fitted
with_field (Some f) (Some r) = Some (record { fields = f ∷ r.fields; bind = r.bind; kids = r.kids })
with_field f r = None

-- the group of variable kinds beside what the further parts give
abbrev pub with_bind : Option (List (Kind Text)) → Option Fitted → Option Fitted
with_bind (Some b) (Some r) = Some (record { fields = r.fields; bind = Some b; kids = r.kids })
with_bind b r = None

-- a kid before what the further parts give
abbrev pub with_kid : Option Phrase → Option Fitted → Option Fitted
with_kid (Some k) (Some r) = Some (record { fields = r.fields; bind = r.bind; kids = ThenPhrase k r.kids })
with_kid k r = None

-- a list of these phrases, by the list's word
abbrev pub list_phrase : Word → Option Phrases → Option Phrase
list_phrase list = option_map (λ ps. Labelled (record { word = list; fields = [] }) None ps)

-- both, or none
abbrev pub cons_phrase : Option Phrase → Option Phrases → Option Phrases
cons_phrase (Some p) (Some ps) = Some (ThenPhrase p ps)
cons_phrase p ps = None

-- the phrase of a label with what its parts gave
abbrev pub labelled : Word → Option Fitted → Option Phrase
labelled word = option_map (λ r. Labelled (record { word = word; fields = r.fields }) r.bind r.kids)

-- a label whose last part is this field
abbrev pub fields_alone : Option (Field Text) → Option Fitted
fields_alone = option_map (λ f. record { fields = f ∷ []; bind = None; kids = NoPhrase })

-- a bare label or a NAME
abbrev pub bare_or_name : Text → Option Phrase
bare_or_name text = elim (bare_word text) [
  | Some w ↦ Some (Labelled (record { word = w; fields = [] }) None NoPhrase)
  | None ↦ option_map Name (name_of text)
]

-- A term is a bare label or a NAME, or a label in brackets with its parts in order
abbrev mutual
  pub phrase_of : Expr → Option Phrase
  phrase_of (Single text) = bare_or_name text
  phrase_of (Group NoExpr) = None
  phrase_of (Group (ThenExpr (Group items) es)) = None
  phrase_of (Group (ThenExpr (Single text) es)) = elim (written_word text es) [
    | Some w ↦ labelled w (fit es (row w).parts)
    | None ↦ None
  ]

  -- the expressions as these parts
  pub fit : Exprs → List Part → Option Fitted
  fit NoExpr [] = Some (record { fields = []; bind = None; kids = NoPhrase })
  fit NoExpr (part ∷ parts) = None
  fit (ThenExpr e es) [] = None
  fit (ThenExpr e es) (Fixed word ∷ parts) = fit es parts
  fit (ThenExpr e es) (ForGroup ∷ parts) = with_bind (bind_of e) (fit es parts)
  fit (ThenExpr e es) (AField AMemory ∷ parts) = fields_alone (and_then (words_of (ThenExpr e es)) memory_of)
  fit (ThenExpr e es) (AField (OneWordOf choice) ∷ parts) = with_field (field_in (OneWordOf choice) e) (fit es parts)
  fit (ThenExpr e es) (AField (ItemOf place) ∷ parts) = with_field (field_in (ItemOf place) e) (fit es parts)
  fit (ThenExpr e es) (AField AliasOfTrait ∷ parts) = with_field (field_in AliasOfTrait e) (fit es parts)
  fit (ThenExpr e es) (AField (IdOf place) ∷ parts) = with_field (field_in (IdOf place) e) (fit es parts)
  fit (ThenExpr e es) (AField ANumber ∷ parts) = with_field (field_in ANumber e) (fit es parts)
  fit (ThenExpr e es) (AField AVariableKind ∷ parts) = with_field (field_in AVariableKind e) (fit es parts)
  fit (ThenExpr e es) (AField ARegionKind ∷ parts) = with_field (field_in ARegionKind e) (fit es parts)
  fit (ThenExpr e es) (AKid TypeOrConstant ∷ parts) = with_kid (phrase_of e) (fit es parts)
  fit (ThenExpr e es) (AKid (OneOf sort) ∷ parts) = with_kid (phrase_of e) (fit es parts)
  fit (ThenExpr e es) (AKid (ListOf list sort if_empty) ∷ parts) = with_kid (list_phrase list (phrases_in e)) (fit es parts)
  fit (ThenExpr e es) (AKid (ArgumentsOf count) ∷ parts) = with_kid (list_phrase ArgumentList (phrases_in e)) (fit es parts)

  -- `( TERM* )`
  pub phrases_in : Expr → Option Phrases
  phrases_in (Single text) = None
  phrases_in (Group es) = phrases_of es

  pub phrases_of : Exprs → Option Phrases
  phrases_of NoExpr = Some NoPhrase
  phrases_of (ThenExpr e es) = cons_phrase (phrase_of e) (phrases_of es)
