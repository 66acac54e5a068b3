-- The third stage: sorts, item kinds and the lengths of lists.
use Rattle.std.specs.Prelude.{ℕ, zero, Bool, true, false, ◌&&◌, ◌||◌, not, List, [], ◌∷◌, ◌++◌, map, flat_map, drop, length, replicate, Option, Some, None, nat_eq}
use Rattle.ir_laws.specs.declared.words.Word.{Word}
use Rattle.ir_laws.specs.declared.words.Word.TheVariants.{TraitClause}
use Rattle.ir_laws.specs.Word.{same_word}
use Rattle.ir_laws.specs.declared.labels.Sort.{Sort}
use Rattle.ir_laws.specs.declared.labels.Sort.TheVariants.{OfType, OfRegion, OfConstant, OfPattern, OfPredicate, OfExistential}
use Rattle.ir_laws.specs.Tree.{Text, Nameless, Environment as EnvName, Called, Kind, Field, Item, OfKind, Label, Term}
use Rattle.ir_laws.specs.Same.{same_sort}
use Rattle.ir_laws.specs.declared.items.ItemKind.{ItemKind}
use Rattle.ir_laws.specs.declared.items.ItemKind.TheVariants.{TraitItem, AliasItem}
pub use Rattle.ir_laws.specs.ItemKind.{is_kind_among}
use Rattle.ir_laws.specs.ItemKind.{same_item_kind, item_row, Declared, Nothing, AType, ATraitClause}
use Rattle.ir_laws.specs.Cause.{Cause, WrongSort, Arity}
use Rattle.ir_laws.specs.declared.labels.FieldForm.{FieldForm}
use Rattle.ir_laws.specs.declared.labels.FieldForm.TheVariants.{ItemOf, AliasOfTrait, IdOf}
use Rattle.ir_laws.specs.declared.labels.KidForm.{KidForm}
use Rattle.ir_laws.specs.declared.labels.KidForm.TheVariants.{OneOf, TypeOrConstant, ListOf, ArgumentsOf}
use Rattle.ir_laws.specs.declared.labels.ArgumentCount.{ArgumentCount}
use Rattle.ir_laws.specs.declared.labels.ArgumentCount.TheVariants.{Whole, WithoutSelf, WithTypes}
use Rattle.ir_laws.specs.declared.labels.Part.{Part}
use Rattle.ir_laws.specs.declared.labels.Part.TheVariants.{Fixed, ForGroup, AField, AKid}
use Rattle.ir_laws.specs.Label.{row, kinds_at, empty_cause, clause_words}
use Rattle.ir_laws.specs.Counts.{sort_of, sort_of_label, word_of, bind_at_top}
use Rattle.ir_laws.specs.Phrase.{Phrase, Phrases, Name, Labelled, NoPhrase, ThenPhrase, phrase_list, and_then}
use Rattle.ir_laws.specs.Form.{Declaration, Form, Blank, Declare, Let, Print, Same, Flags, Open, Subst, Shift, Renumber, Anon, Super, Elab}
use Rattle.ir_laws.specs.Environment.{ItemData, Environment, item_named, item_at, term_named, is_here}
use Rattle.ir_laws.specs.Names.{by_form, field_forms, unless, if_so, unknown_maybe}

-- what a place wants
pub data Wanted : Type 0 where
  OfSorts : (sorts : List Sort) → Wanted
  AClause : Wanted
  ATrait : Wanted
  -- a list of members of a sort, and the cause if it is empty
  Members : (sort : Sort) → (if_empty : Option Cause) → Wanted
  -- a list of arguments of these sorts, where they are known
  Arguments : (sorts : Option (List Sort)) → Wanted

-- whether a sort is among these
abbrev pub is_sort_among : List Sort → Sort → Bool
is_sort_among [] s = false
is_sort_among (t ∷ ts) s = same_sort t s || is_sort_among ts s

-- whether a word is among these
abbrev pub is_word_among : List Word → Word → Bool
is_word_among [] w = false
is_word_among (v ∷ vs) w = same_word v w || is_word_among vs w

-- the sorts that an operand and a let may have
abbrev pub operand : Wanted
operand = OfSorts (OfType ∷ OfRegion ∷ OfConstant ∷ OfPattern ∷ OfPredicate ∷ [])

-- the sorts of an argument
abbrev pub an_argument : Wanted
an_argument = OfSorts (OfType ∷ OfRegion ∷ OfConstant ∷ [])

-- whether a label of this word and sort may stand there; lists stand in their places by the grammar
abbrev pub suits : Wanted → Word → Sort → Bool
suits (OfSorts sorts) w s = is_sort_among sorts s
suits AClause w s = is_word_among clause_words w
suits ATrait w s = same_word w TraitClause
suits (Members sort if_empty) w s = true
suits (Arguments sorts) w s = true

-- the list has a member
abbrev pub has_some : {A : Type 0} → List A → Bool
has_some [] = false
has_some (x ∷ xs) = true

-- ---- items in labels

-- there is an item, and it has one of these kinds
abbrev pub has_kind : List ItemKind → Option ItemData → Bool
has_kind kinds None = false
has_kind kinds (Some i) = is_kind_among kinds i.kind

-- the parent of an item
abbrev pub parent_of : Environment → ItemData → Option ItemData
parent_of env i = and_then i.parent (item_at env)

-- there is an item, and it is an alias whose parent is a trait
abbrev pub is_alias_of_trait : Environment → Option ItemData → Bool
is_alias_of_trait env None = false
is_alias_of_trait env (Some i) = same_item_kind i.kind AliasItem && has_kind (TraitItem ∷ []) (parent_of env i)

-- the name of a variable kind must be an item's
abbrev pub kind_misfits : Environment → Kind Text → List Cause
kind_misfits env k = elim (k.name) [ Nameless ↦ [] | EnvName ↦ [] | Called name ↦ unless (is_here (item_named env name)) WrongSort ]

-- so must the names of a variable list
abbrev pub bind_misfits : Environment → Option (List (Kind Text)) → List Cause
bind_misfits env None = []
bind_misfits env (Some ks) = flat_map (kind_misfits env) ks

-- an item must have a kind that its place wants
abbrev pub field_misfits : Environment → FieldForm → Field Text → List Cause
field_misfits env (ItemOf place) (Item name) = unless (has_kind (kinds_at place) (item_named env name)) WrongSort
field_misfits env (IdOf place) (Item name) = unless (has_kind (kinds_at place) (item_named env name)) WrongSort
field_misfits env AliasOfTrait (Item name) = unless (is_alias_of_trait env (item_named env name)) WrongSort
field_misfits env form (OfKind k) = kind_misfits env k
field_misfits env form field = []

-- ---- argument lists

-- the item that a label is about: the first one among its fields
abbrev pub first_item : Environment → List (Field Text) → Option ItemData
first_item env [] = None
first_item env (Item name ∷ fs) = item_named env name
first_item env (f ∷ fs) = first_item env fs

-- The sorts of an argument list: all that the item takes, those without Self, or those and some types. The last two are not known of an item of another kind
abbrev pub argument_sorts : Environment → ArgumentCount → ItemData → Option (List Sort)
argument_sorts env Whole i = Some i.parameters
argument_sorts env WithoutSelf i = elim (same_item_kind i.kind TraitItem || is_alias_of_trait env (Some i)) [ true ↦ Some (drop 1 i.parameters) | false ↦ None ]
argument_sorts env (WithTypes kind n) i = elim (same_item_kind i.kind kind) [ true ↦ Some (i.parameters ++ replicate n OfType) | false ↦ None ]

-- what a kid of this form is wanted to be
abbrev pub kid_wanted : Environment → List (Field Text) → KidForm → Wanted
kid_wanted env fields (OneOf sort) = OfSorts (sort ∷ [])
kid_wanted env fields TypeOrConstant = OfSorts (OfType ∷ OfConstant ∷ [])
kid_wanted env fields (ListOf list sort empty) = Members sort (empty_cause empty)
kid_wanted env fields (ArgumentsOf count) = Arguments (and_then (first_item env fields) (argument_sorts env count))

-- what the kids of a label are wanted to be, in order
abbrev pub kids_wanted : Environment → List (Field Text) → List Part → List Wanted
kids_wanted env fields [] = []
kids_wanted env fields (AKid form ∷ parts) = kid_wanted env fields form ∷ kids_wanted env fields parts
kids_wanted env fields (AField form ∷ parts) = kids_wanted env fields parts
kids_wanted env fields (ForGroup ∷ parts) = kids_wanted env fields parts
kids_wanted env fields (Fixed word ∷ parts) = kids_wanted env fields parts

-- the causes of a label's fields
abbrev pub fields_misfits : Environment → Label Text → List Cause
fields_misfits env l = by_form (field_misfits env) (field_forms (row l.word).parts) l.fields

-- The fields by which a label's arguments are counted. An existential predicate whose item is of a wrong kind has none, since no count is known
abbrev pub fields_counted : Environment → Label Text → List (Field Text)
fields_counted env l = elim (same_sort (sort_of_label l) OfExistential && has_some (fields_misfits env l)) [ true ↦ [] | false ↦ l.fields ]

-- what the first kids of a phrase are wanted to be, and what all further ones are
pub record Places : Type 0 where
  pub first : List Wanted
  pub further : Wanted

-- what the kids of a phrase are wanted to be, by what the phrase itself is wanted to be
abbrev pub places : Environment → Wanted → Label Text → Places
places env (Members sort if_empty) l = record { first = []; further = OfSorts (sort ∷ []) }
places env (Arguments (Some sorts)) l = record { first = map (λ s. OfSorts (s ∷ [])) sorts; further = an_argument }
places env (Arguments None) l = record { first = []; further = an_argument }
places env wanted l = record { first = kids_wanted env (fields_counted env l) (row l.word).parts; further = an_argument }

-- the cause of a list that may not be empty
abbrev pub empty_misfits : Option Cause → ℕ → List Cause
empty_misfits (Some c) zero = c ∷ []
empty_misfits if_empty n = []

-- faults of a list's length
abbrev pub length_misfits : Wanted → ℕ → List Cause
length_misfits (Members sort if_empty) n = empty_misfits if_empty n
length_misfits (Arguments (Some sorts)) n = unless (nat_eq (length sorts) n) Arity
length_misfits wanted n = []

-- ---- phrases in their places

-- a named term must suit its place; an item's name is no term
abbrev pub term_misfits : Wanted → Option Term → List Cause
term_misfits wanted None = WrongSort ∷ []
term_misfits wanted (Some t) = unless (suits wanted (word_of t) (sort_of t)) WrongSort

-- a label must suit its place, and its items theirs
abbrev pub label_misfits : Environment → Wanted → Label Text → List Cause
label_misfits env wanted l = unless (suits wanted l.word (sort_of_label l)) WrongSort ++ fields_misfits env l

-- the causes of a phrase in its place, and of all that is in it
abbrev mutual
  pub misfits : Environment → Wanted → Phrase → List Cause
  misfits env wanted (Name name) = term_misfits wanted (term_named env name)
  misfits env wanted (Labelled l b ps) = label_misfits env wanted l ++ bind_misfits env b ++ length_misfits wanted (length (phrase_list ps)) ++ each_misfits env (places env wanted l).first (places env wanted l).further ps

  pub each_misfits : Environment → List Wanted → Wanted → Phrases → List Cause
  each_misfits env first further NoPhrase = []
  each_misfits env [] further (ThenPhrase p ps) = misfits env further p ++ each_misfits env [] further ps
  each_misfits env (wanted ∷ first) further (ThenPhrase p ps) = misfits env wanted p ++ each_misfits env first further ps

-- ---- lines

-- the term has a binder at its top
abbrev pub has_binder : Environment → Phrase → Bool
has_binder env (Name name) = is_here (and_then (term_named env name) bind_at_top)
has_binder env (Labelled l b ps) = is_here b

-- the sort of a phrase; none for a name that means no term
abbrev pub sort_of_phrase : Environment → Phrase → Option Sort
sort_of_phrase env (Name name) = elim (term_named env name) [ Some t ↦ Some (sort_of t) | None ↦ None ]
sort_of_phrase env (Labelled l b ps) = Some (sort_of_label l)

-- both have a sort, and it is one
abbrev pub are_of_one_sort : Option Sort → Option Sort → Bool
are_of_one_sort (Some s) (Some t) = same_sort s t
are_of_one_sort s t = false

-- a parent of a kind that the item's kind wants, or none where it may lack one
abbrev pub parent_misfits : Environment → Declaration Phrase → List Cause
parent_misfits env d = elim (d.parent) [
  | None ↦ unless (item_row d.kind).may_lack_parent WrongSort
  | Some name ↦ unless (has_kind (item_row d.kind).parents (item_named env name)) WrongSort
]

-- what the declared term of an item is wanted to be
abbrev pub decl_wanted : Declared → Wanted
decl_wanted Nothing = OfSorts []
decl_wanted AType = OfSorts (OfType ∷ [])
decl_wanted ATraitClause = ATrait

-- `env` holds the earlier lines, and `own_env` the item of the line besides
abbrev pub declaration_misfits : Environment → Environment → Declaration Phrase → List Cause
declaration_misfits env own_env d = parent_misfits env d ++ if_so (has_some d.own && not (item_row d.kind).may_have_own) Arity ++ unknown_maybe (misfits own_env (decl_wanted (item_row d.kind).declared)) d.decl ++ flat_map (misfits own_env AClause) d.clauses

-- the causes of the members of a list part: the first ones in their places, all further ones in theirs
abbrev pub list_misfits : Environment → List Wanted → Wanted → List Phrase → List Cause
list_misfits env first further [] = []
list_misfits env [] further (p ∷ ps) = misfits env further p ++ list_misfits env [] further ps
list_misfits env (w ∷ first) further (p ∷ ps) = misfits env w p ++ list_misfits env first further ps

-- the arguments of `subst`: those of the item, which has a declared term
abbrev pub subst_misfits : Environment → Option ItemData → List Phrase → List Cause
subst_misfits env None ps = WrongSort ∷ list_misfits env [] an_argument ps
subst_misfits env (Some i) ps = unless (is_here i.decl) WrongSort ++ unless (nat_eq (length i.parameters) (length ps)) Arity ++ list_misfits env (map (λ s. OfSorts (s ∷ [])) i.parameters) an_argument ps

-- stage 3: Sort, Arity and EmptyOr
abbrev pub sort_causes : Environment → Environment → Form Phrase → List Cause
sort_causes env own_env Blank = []
sort_causes env own_env (Declare d) = declaration_misfits env own_env d
sort_causes env own_env (Let name p) = misfits env operand p
sort_causes env own_env (Print p) = misfits env operand p
sort_causes env own_env (Same p q) = misfits env operand p ++ misfits env operand q ++ unless (are_of_one_sort (sort_of_phrase env p) (sort_of_phrase env q)) WrongSort
sort_causes env own_env (Flags p) = misfits env operand p
sort_causes env own_env (Open p rs) = misfits env operand p ++ unless (has_binder env p) WrongSort ++ flat_map (λ r. misfits env operand r.term) rs
sort_causes env own_env (Subst item ps) = subst_misfits env (item_named env item) ps
sort_causes env own_env (Shift n p) = misfits env operand p
sort_causes env own_env (Renumber n p) = misfits env operand p
sort_causes env own_env (Anon p) = misfits env operand p ++ unless (has_binder env p) WrongSort
sort_causes env own_env (Super p q) = misfits env AClause p ++ misfits env ATrait q
sort_causes env own_env (Elab ps) = flat_map (misfits env AClause) ps
