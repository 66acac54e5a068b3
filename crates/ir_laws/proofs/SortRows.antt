-- Sorts and counts of phrases written out, each row named by what it shows. All hold by computation.
use Rattle.std.proofs.Common.{◌≡◌, List, [], ◌∷◌, Some, None, codes, refl}
use Rattle.ir_laws.specs.declared.words.Word.{Word}
use Rattle.ir_laws.specs.declared.words.Word.TheVariants.{U8Type, AdtType, PatternType, OrPattern, NotNullPattern, DynType, ClosureType, FnPtrType, ExistentialTrait, ExistentialProjection, StaticRegion, TypeList, ArgumentList, PatternList, ExistentialList}
use Rattle.ir_laws.specs.declared.labels.Sort.TheVariants.{OfType, OfRegion}
use Rattle.ir_laws.specs.declared.labels.Keyword.TheVariants.{Safe, Rust, Fixed}
use Rattle.ir_laws.specs.declared.items.ItemKind.TheVariants.{StructItem, TraitItem, AliasItem, FnItem, ClosureItem}
use Rattle.ir_laws.specs.Tree.{Text, Field, Item, Chosen}
use Rattle.ir_laws.specs.Cause.{Cause, WrongSort, Arity, EmptyOr, each_once}
use Rattle.ir_laws.specs.Phrase.{Phrase, Phrases, Labelled, NoPhrase, ThenPhrase}
use Rattle.ir_laws.specs.Form.{Declaration, Declare, Print}
use Rattle.ir_laws.specs.Environment.{Environment, item_of}
use Rattle.ir_laws.specs.Sorts.{sort_causes}
use Rattle.ir_laws.proofs.Samples.{nothing_declared, with_declared, with_child}

-- ---- phrases

abbrev phrases : List Phrase → Phrases
phrases [] = NoPhrase
phrases (p ∷ ps) = ThenPhrase p (phrases ps)

abbrev plain : Word → List (Field Text) → List Phrase → Phrase
plain w fs ps = Labelled (record { word = w; fields = fs }) None (phrases ps)

-- with an empty group of variable kinds
abbrev binding : Word → List (Field Text) → List Phrase → Phrase
binding w fs ps = Labelled (record { word = w; fields = fs }) (Some []) (phrases ps)

abbrev u8 : Phrase
u8 = plain U8Type [] []

abbrev static : Phrase
static = plain StaticRegion [] []

abbrev adt : Text → List Phrase → Phrase
adt name ps = plain AdtType (Item name ∷ []) (plain ArgumentList [] ps ∷ [])

abbrev dyn_of : Phrase → Phrase
dyn_of p = plain DynType [] (plain ExistentialList [] (p ∷ []) ∷ static ∷ [])

-- ---- items: a struct and a trait with a type parameter, an alias of the trait, a function with two parameters

abbrev items : Environment
items = with_declared FnItem (codes "F") (OfRegion ∷ OfType ∷ []) None [] (with_child AliasItem (codes "A") (codes "T") [] (with_declared TraitItem (codes "T") (OfType ∷ []) None [] (with_declared StructItem (codes "S") (OfType ∷ []) None [] nothing_declared)))

abbrev misfits_of : Phrase → List Cause
misfits_of p = each_once (sort_causes items items (Print p))

arguments_are_counted : (misfits_of (adt (codes "S") (u8 ∷ [])) ≡ []) × (misfits_of (adt (codes "S") []) ≡ Arity ∷ [])
arguments_are_counted = (refl, refl)

an_argument_has_its_parameters_sort : misfits_of (adt (codes "S") (static ∷ [])) ≡ WrongSort ∷ []
an_argument_has_its_parameters_sort = refl

a_place_past_the_count_wants_an_argument : misfits_of (adt (codes "S") (u8 ∷ plain NotNullPattern [] [] ∷ [])) ≡ WrongSort ∷ Arity ∷ []
a_place_past_the_count_wants_an_argument = refl

an_item_of_a_wrong_kind_is_counted_too : (misfits_of (adt (codes "T") (u8 ∷ u8 ∷ [])) ≡ WrongSort ∷ []) × (misfits_of (adt (codes "T") (u8 ∷ [])) ≡ WrongSort ∷ Arity ∷ [])
an_item_of_a_wrong_kind_is_counted_too = (refl, refl)

self_is_no_argument_of_an_existential : (misfits_of (dyn_of (binding ExistentialTrait (Item (codes "T") ∷ []) (plain ArgumentList [] (u8 ∷ []) ∷ []))) ≡ []) × (misfits_of (dyn_of (binding ExistentialTrait (Item (codes "T") ∷ []) (plain ArgumentList [] [] ∷ []))) ≡ Arity ∷ [])
self_is_no_argument_of_an_existential = (refl, refl)

an_existential_of_a_wrong_item_is_not_counted : (misfits_of (dyn_of (binding ExistentialTrait (Item (codes "A") ∷ []) (plain ArgumentList [] [] ∷ []))) ≡ WrongSort ∷ []) × (misfits_of (dyn_of (binding ExistentialProjection (Item (codes "T") ∷ []) (plain ArgumentList [] [] ∷ u8 ∷ []))) ≡ WrongSort ∷ [])
an_existential_of_a_wrong_item_is_not_counted = (refl, refl)

a_closure_of_a_wrong_item_is_not_counted : misfits_of (plain ClosureType (Item (codes "F") ∷ []) (plain ArgumentList [] [] ∷ [])) ≡ WrongSort ∷ []
a_closure_of_a_wrong_item_is_not_counted = refl

a_signature_has_a_member : misfits_of (binding FnPtrType (Chosen Safe ∷ Chosen Rust ∷ Chosen Fixed ∷ []) (plain TypeList [] [] ∷ [])) ≡ Arity ∷ []
a_signature_has_a_member = refl

an_or_has_a_member : misfits_of (plain PatternType [] (u8 ∷ plain OrPattern [] (plain PatternList [] [] ∷ []) ∷ [])) ≡ EmptyOr ∷ []
an_or_has_a_member = refl

-- ---- parents

abbrev closure_in : Text → Declaration Phrase
closure_in parent = record { kind = ClosureItem; name = codes "C"; parent = Some parent; own = []; decl = None; clauses = [] }

a_parent_gives_its_parameters : (item_of items (closure_in (codes "F")) None []).parameters ≡ OfRegion ∷ OfType ∷ []
a_parent_gives_its_parameters = refl

a_parent_of_a_wrong_kind_gives_none : ((item_of items (closure_in (codes "S")) None []).parameters ≡ []) × (sort_causes items items (Declare (closure_in (codes "S"))) ≡ WrongSort ∷ [])
a_parent_of_a_wrong_kind_gives_none = (refl, refl)
