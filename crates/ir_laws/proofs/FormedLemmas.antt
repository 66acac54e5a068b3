-- What the grammar makes of an expression fits the table of labels, by induction on expressions.
use Rattle.std.proofs.Common.{◌≡◌, ◌∙◌, sym, ap, true≢false, ℕ, not, Bool, true, false, ◌||◌, List, [], ◌∷◌, find, Option, Some, None, IfSome, option_map, refl, bytes_eq}
use Rattle.std.specs.Bool.{⊤}
use Rattle.std.specs.List.{list_all}
use Rattle.std.proofs.lemmas.Bool.{false≢true, and_from, and_parts, or_left, or_right, cond_both}
use Rattle.std.proofs.lemmas.Option.{IfSome_then, MatchOption-at_some}
use Rattle.ir_laws.specs.declared.words.Word.{Word}
use Rattle.ir_laws.specs.declared.words.Word.TheVariants.{ArgumentList}
use Rattle.ir_laws.specs.declared.labels.FixedWord.{FixedWord}
use Rattle.ir_laws.specs.declared.labels.FieldForm.{FieldForm}
use Rattle.ir_laws.specs.declared.labels.FieldForm.TheVariants.{OneWordOf, ItemOf, AliasOfTrait, IdOf, ANumber, AVariableKind, ARegionKind, AMemory}
use Rattle.ir_laws.specs.declared.labels.Keyword.{Keyword}
use Rattle.ir_laws.specs.declared.labels.KidForm.{KidForm}
use Rattle.ir_laws.specs.declared.labels.KidForm.TheVariants.{OneOf, TypeOrConstant, ListOf, ArgumentsOf}
use Rattle.ir_laws.specs.declared.labels.Part.{Part}
use Rattle.ir_laws.specs.declared.labels.Part.TheVariants.{Fixed, ForGroup, AField, AKid}
use Rattle.ir_laws.specs.Tree.{Text, Kind, Field, Number, Item, Chosen, OfKind, Memory, Mapped}
use Rattle.ir_laws.specs.Word.{same_word, label_words}
use Rattle.ir_laws.specs.Keyword.{keyword_text, same_keyword, choice_words}
use Rattle.ir_laws.specs.Label.{row}
use Rattle.ir_laws.specs.Expression.{Expr, Exprs, Single, Group, NoExpr, ThenExpr}
use Rattle.ir_laws.specs.Phrase.{Phrase, Phrases, Name, Labelled, NoPhrase, ThenPhrase, kind_of, region_kind_of, and_then, words_of, bind_of, mapped_of, are_rising, memory_field, memory_of, field_of, field_in, no_parts, bare_word, begins, written_word, Fitted, with_field, with_bind, with_kid, list_phrase, cons_phrase, labelled, fields_alone, bare_or_name, phrase_of, fit, phrases_in, phrases_of}
use Rattle.ir_laws.specs.Numeral.{name_of, number_of, bytes_of_hex}
use Rattle.ir_laws.specs.Names.{field_forms}
use Rattle.ir_laws.specs.Sorts.{is_word_among}
use Rattle.ir_laws.specs.Parts.{has_for_group}
use Rattle.ir_laws.proofs.SameParts.{word_decides, keyword_decides}
use Rattle.ir_laws.specs.Formed.{kid_forms, is_keyword_among, field_fits, fields_fit, bind_fits, is_formed, kids_formed, is_list_formed, all_formed}

-- ---- what a search in a list finds

-- it passes the search's test
pub find-passes : {A : Type 0} (p : A → Bool) (xs : List A) → IfSome (find p xs) (λ x. p x ≡ true)
find-passes p [] = tt
find-passes p (x ∷ xs) = cond_both (p x) (Some x) (find p xs) (λ o. IfSome o (λ y. p y ≡ true)) (λ e. e) (λ e. find-passes p xs)

-- it passes each test that the whole list passes
pub find-list_all : {A : Type 0} (p q : A → Bool) (xs : List A) → list_all q xs ≡ true → IfSome (find p xs) (λ x. q x ≡ true)
find-list_all p q [] h = tt
find-list_all p q (x ∷ xs) h =
    let parts = and_parts (q x) (list_all q xs) h in
    cond_both (p x) (Some x) (find p xs) (λ o. IfSome o (λ y. q y ≡ true)) (λ e. parts.0) (λ e. find-list_all p q xs parts.1)

-- it is among the list's elements, by a test that goes through the list
pub find-among : {A : Type 0} (same : A → A → Bool) (among : List A → A → Bool) → ((x : A) → same x x ≡ true)
    → ((y : A) (ys : List A) (x : A) → among (y ∷ ys) x ≡ (same y x || among ys x))
    → (p : A → Bool) (xs : List A) → IfSome (find p xs) (λ x. among xs x ≡ true)
find-among same among self step p [] = tt
find-among same among self step p (x ∷ xs) =
    cond_both (p x) (Some x) (find p xs) (λ o. IfSome o (λ y. among (x ∷ xs) y ≡ true))
    (λ e. rw (step x xs x) (or_left _ _ (self x)))
    (λ e. IfSome_then (find p xs) (find-among same among self step p xs) (λ y h. rw (step x xs y) (or_right _ _ h)))

same_word_self : (w : Word) → same_word w w ≡ true
same_word_self w = (word_decides w w).1 refl

find-is_word_among : (p : Word → Bool) (ws : List Word) → IfSome (find p ws) (λ w. is_word_among ws w ≡ true)
find-is_word_among = find-among same_word is_word_among same_word_self (λ y ys x. refl)

find-is_keyword_among : (p : Keyword → Bool) (ks : List Keyword) → IfSome (find p ks) (λ k. is_keyword_among ks k ≡ true)
find-is_keyword_among = find-among same_keyword is_keyword_among (λ k. (keyword_decides k k).1 refl) (λ y ys x. refl)

-- ---- options

IfSome-option_map : {A B : Type 0} (f : A → B) (P : B → Type 0) (o : Option A) → IfSome o (λ x. P (f x)) → IfSome (option_map f o) P
IfSome-option_map f P None h = tt
IfSome-option_map f P (Some x) h = h

IfSome-and_then : {A B : Type 0} (f : A → Option B) (P : B → Type 0) (o : Option A) → ((x : A) → IfSome (f x) P) → IfSome (and_then o f) P
IfSome-and_then f P None h = tt
IfSome-and_then f P (Some x) h = h x

IfSome_always : {A : Type 0} (P : A → Type 0) (o : Option A) → ((x : A) → P x) → IfSome o P
IfSome_always P None h = tt
IfSome_always P (Some x) h = h x

-- ---- fields

-- a field that fits a number's place is a number
pub number_fits : {N : Type 0} (f : Field N) → field_fits ANumber f ≡ true → (n : ℕ) × (f ≡ Number n)
number_fits (Number n) h = (n, refl)
number_fits (Item name) h = absurd (true≢false (sym h))
number_fits (Chosen word) h = absurd (true≢false (sym h))
number_fits (OfKind k) h = absurd (true≢false (sym h))
number_fits (Memory bytes mapped) h = absurd (true≢false (sym h))

field_of-fits : (form : FieldForm) (text : Text) → IfSome (field_of form text) (λ f. field_fits form f ≡ true)
field_of-fits (OneWordOf choice) text = IfSome-option_map Chosen _ (find (λ w. bytes_eq (keyword_text w) text) (choice_words choice)) (find-is_keyword_among _ (choice_words choice))
field_of-fits (ItemOf place) text = IfSome-option_map Item _ (name_of text) (IfSome_always _ (name_of text) (λ x. refl))
field_of-fits AliasOfTrait text = IfSome-option_map Item _ (name_of text) (IfSome_always _ (name_of text) (λ x. refl))
field_of-fits (IdOf place) text = IfSome-option_map Item _ (name_of text) (IfSome_always _ (name_of text) (λ x. refl))
field_of-fits ANumber text = IfSome-option_map Number _ (number_of text) (IfSome_always _ (number_of text) (λ x. refl))
field_of-fits AVariableKind text = IfSome-option_map OfKind _ (kind_of text) (IfSome_always _ (kind_of text) (λ x. refl))
field_of-fits ARegionKind text = IfSome-option_map OfKind _ (region_kind_of text) (IfSome_always _ (region_kind_of text) (λ x. refl))
field_of-fits AMemory text = tt

field_in-fits : (form : FieldForm) (e : Expr) → IfSome (field_in form e) (λ f. field_fits form f ≡ true)
field_in-fits form (Single text) = field_of-fits form text
field_in-fits form (Group es) = tt

memory_field-fits : (bytes : Text) (mapped : List Mapped) → IfSome (memory_field bytes mapped) (λ f. field_fits AMemory f ≡ true)
memory_field-fits bytes mapped = by (are_rising mapped)
  where
    by : (rising : Bool) → IfSome {T = Field Text} (elim rising [ true ↦ Some (Memory bytes mapped) | false ↦ None ]) (λ f. field_fits AMemory f ≡ true)
    by true = refl
    by false = tt

memory_of-fits : (texts : List Text) → IfSome (memory_of texts) (λ f. field_fits AMemory f ≡ true)
memory_of-fits [] = tt
memory_of-fits (bytes ∷ rest) = IfSome-and_then _ _ (bytes_of_hex bytes) (λ b. IfSome-and_then _ _ (mapped_of rest) (memory_field-fits b))

-- ---- what the parts of a label give

abbrev FitsParts : List Part → Fitted → Type 0
FitsParts parts r = (fields_fit (field_forms parts) r.fields ≡ true) × (bind_fits parts r.bind ≡ true) × (kids_formed (kid_forms parts) r.kids ≡ true)

-- a part that is no group changes nothing of what may be bound
bind_fits-behind : (parts rest : List Part) (b : Option (List (Kind Text))) → has_for_group parts ≡ has_for_group rest → bind_fits rest b ≡ true → bind_fits parts b ≡ true
bind_fits-behind parts rest None same h = ap not same ∙ h
bind_fits-behind parts rest (Some ks) same h = same ∙ h

-- a memory takes all the expressions that are left, so no part may stand after it
abbrev memory_is_last : List Part → Bool
memory_is_last [] = true
memory_is_last (AField AMemory ∷ []) = true
memory_is_last (AField AMemory ∷ part ∷ parts) = false
memory_is_last (part ∷ parts) = memory_is_last parts

with_field-fits : (form : FieldForm) (parts : List Part) (f : Option (Field Text)) (o : Option Fitted)
    → IfSome f (λ x. field_fits form x ≡ true) → IfSome o (FitsParts parts) → IfSome (with_field f o) (FitsParts (AField form ∷ parts))
with_field-fits form parts None o a b = tt
with_field-fits form parts (Some x) None a b = tt
with_field-fits form parts (Some x) (Some r) a b = (and_from _ _ a b.0, bind_fits-behind (AField form ∷ parts) parts r.bind refl b.1, b.2)

with_bind-fits : (parts : List Part) (bind : Option (List (Kind Text))) (o : Option Fitted) → IfSome o (FitsParts parts) → IfSome (with_bind bind o) (FitsParts (ForGroup ∷ parts))
with_bind-fits parts None o h = tt
with_bind-fits parts (Some b) None h = tt
with_bind-fits parts (Some b) (Some r) h = (h.0, refl, h.2)

fixed-fits : (word : FixedWord) (parts : List Part) (o : Option Fitted) → IfSome o (FitsParts parts) → IfSome o (FitsParts (Fixed word ∷ parts))
fixed-fits word parts None h = tt
fixed-fits word parts (Some r) h = (h.0, bind_fits-behind (Fixed word ∷ parts) parts r.bind refl h.1, h.2)

fields_alone-fits : (f : Option (Field Text)) → IfSome f (λ x. field_fits AMemory x ≡ true) → IfSome (fields_alone f) (FitsParts (AField AMemory ∷ []))
fields_alone-fits None h = tt
fields_alone-fits (Some x) h = (and_from _ _ h refl, refl, refl)

-- a kid is of its form
abbrev kid_formed : KidForm → Phrase → Bool
kid_formed (OneOf sort) p = is_formed p
kid_formed TypeOrConstant p = is_formed p
kid_formed (ListOf list sort empty) p = is_list_formed list p
kid_formed (ArgumentsOf count) p = is_list_formed ArgumentList p

kids_formed-then : (form : KidForm) (forms : List KidForm) (p : Phrase) (ps : Phrases) → kid_formed form p ≡ true → kids_formed forms ps ≡ true → kids_formed (form ∷ forms) (ThenPhrase p ps) ≡ true
kids_formed-then (OneOf sort) forms p ps a b = and_from _ _ a b
kids_formed-then TypeOrConstant forms p ps a b = and_from _ _ a b
kids_formed-then (ListOf list sort empty) forms p ps a b = and_from _ _ a b
kids_formed-then (ArgumentsOf count) forms p ps a b = and_from _ _ a b

with_kid-fits : (form : KidForm) (parts : List Part) (k : Option Phrase) (o : Option Fitted)
    → IfSome k (λ p. kid_formed form p ≡ true) → IfSome o (FitsParts parts) → IfSome (with_kid k o) (FitsParts (AKid form ∷ parts))
with_kid-fits form parts None o a b = tt
with_kid-fits form parts (Some p) None a b = tt
with_kid-fits form parts (Some p) (Some r) a b = (b.0, bind_fits-behind (AKid form ∷ parts) parts r.bind refl b.1, kids_formed-then form (kid_forms parts) p r.kids a b.2)

-- ---- lists

cons_phrase-formed : (p : Option Phrase) (ps : Option Phrases) → IfSome p (λ q. is_formed q ≡ true) → IfSome ps (λ qs. all_formed qs ≡ true) → IfSome (cons_phrase p ps) (λ qs. all_formed qs ≡ true)
cons_phrase-formed None ps a b = tt
cons_phrase-formed (Some q) None a b = tt
cons_phrase-formed (Some q) (Some qs) a b = and_from _ _ a b

list_phrase-formed : (list : Word) (ps : Option Phrases) → IfSome ps (λ qs. all_formed qs ≡ true) → IfSome (list_phrase list ps) (λ p. is_list_formed list p ≡ true)
list_phrase-formed list None h = tt
list_phrase-formed list (Some qs) h = and_from _ _ (and_from _ _ (and_from _ _ (same_word_self list) refl) refl) h

-- ---- labels

-- each row of the table that is built has its memory at the end
built_rows : list_all (λ w. memory_is_last (row w).parts) label_words ≡ true
built_rows = refl

-- a label that the grammar knows, whose memory is at its end
abbrev IsBuilt : Word → Type 0
IsBuilt w = (is_word_among label_words w ≡ true) × (memory_is_last (row w).parts ≡ true)

IfSome_both : {A : Type 0} (P Q : A → Type 0) (o : Option A) → IfSome o P → IfSome o Q → IfSome o (λ x. P x × Q x)
IfSome_both P Q None a b = tt
IfSome_both P Q (Some x) a b = (a, b)

find-is_built : (p : Word → Bool) → IfSome (find p label_words) IsBuilt
find-is_built p = IfSome_both _ _ (find p label_words) (find-is_word_among p label_words) (find-list_all p (λ w. memory_is_last (row w).parts) label_words built_rows)

no_parts-fits : (parts : List Part) → no_parts parts ≡ true → FitsParts parts (record { fields = []; bind = None; kids = NoPhrase })
no_parts-fits [] h = (refl, refl, refl)
no_parts-fits (part ∷ parts) h = absurd (false≢true h)

-- the tests by which the grammar looks a word up
abbrev is_bare : Text → Word → Bool
is_bare text w = elim (bytes_eq (row w).text text) [ true ↦ no_parts (row w).parts | false ↦ false ]

abbrev is_written : Text → Exprs → Word → Bool
is_written text es w = elim (bytes_eq (row w).text text) [ true ↦ begins (row w).parts es | false ↦ false ]

is_bare-no_parts : (text : Text) (w : Word) → is_bare text w ≡ true → no_parts (row w).parts ≡ true
is_bare-no_parts text w = by (bytes_eq (row w).text text) (no_parts (row w).parts)
  where
    by : (same bare : Bool) → elim same [ true ↦ bare | false ↦ false ] ≡ true → bare ≡ true
    by true bare h = h
    by false bare h = absurd (false≢true h)

bare_word-no_parts : (text : Text) → IfSome (bare_word text) (λ w. no_parts (row w).parts ≡ true)
bare_word-no_parts text = IfSome_then (bare_word text) (find-passes (is_bare text) label_words) (is_bare-no_parts text)

labelled-formed : (w : Word) (o : Option Fitted) → IsBuilt w → IfSome o (FitsParts (row w).parts) → IfSome (labelled w o) (λ p. is_formed p ≡ true)
labelled-formed w None built h = tt
labelled-formed w (Some r) built h = and_from _ _ (and_from _ _ (and_from _ _ built.0 h.0) h.1) h.2

bare_or_name-formed : (text : Text) → IfSome (bare_or_name text) (λ p. is_formed p ≡ true)
bare_or_name-formed text = by (bare_word text) (find-is_built (is_bare text)) (bare_word-no_parts text)
  where
    by : (o : Option Word) → IfSome o IsBuilt → IfSome o (λ w. no_parts (row w).parts ≡ true)
        → IfSome (elim o [ Some w ↦ Some (Labelled (record { word = w; fields = [] }) None NoPhrase) | None ↦ option_map Name (name_of text) ]) (λ p. is_formed p ≡ true)
    by None built bare = IfSome-option_map Name _ (name_of text) (IfSome_always _ (name_of text) (λ x. refl))
    by (Some w) built bare = let fits = no_parts-fits (row w).parts bare in and_from _ _ (and_from _ _ (and_from _ _ built.0 fits.0) fits.1) fits.2

written-formed : (es : Exprs) → ((parts : List Part) → memory_is_last parts ≡ true → IfSome (fit es parts) (FitsParts parts))
    → (o : Option Word) → IfSome o IsBuilt → IfSome (elim o [ Some w ↦ labelled w (fit es (row w).parts) | None ↦ None ]) (λ p. is_formed p ≡ true)
written-formed es fits None built = tt
written-formed es fits (Some w) built = labelled-formed w (fit es (row w).parts) built (fits (row w).parts built.1)

-- ---- expressions

mutual
  pub phrase_of-formed : (e : Expr) → IfSome (phrase_of e) (λ p. is_formed p ≡ true)
  phrase_of-formed (Single text) = bare_or_name-formed text
  phrase_of-formed (Group NoExpr) = tt
  phrase_of-formed (Group (ThenExpr (Group items) es)) = tt
  phrase_of-formed (Group (ThenExpr (Single text) es)) = written-formed es (λ parts last. fit-fits es parts last) (written_word text es) (find-is_built (is_written text es))

  fit-fits : (es : Exprs) (parts : List Part) → memory_is_last parts ≡ true → IfSome (fit es parts) (FitsParts parts)
  fit-fits NoExpr [] last = (refl, refl, refl)
  fit-fits NoExpr (part ∷ parts) last = tt
  fit-fits (ThenExpr e es) [] last = tt
  fit-fits (ThenExpr e es) (Fixed word ∷ parts) last = fixed-fits word parts (fit es parts) (fit-fits es parts last)
  fit-fits (ThenExpr e es) (ForGroup ∷ parts) last = with_bind-fits parts (bind_of e) (fit es parts) (fit-fits es parts last)
  fit-fits (ThenExpr e es) (AField AMemory ∷ []) last = fields_alone-fits (and_then (words_of (ThenExpr e es)) memory_of) (IfSome-and_then memory_of _ (words_of (ThenExpr e es)) memory_of-fits)
  fit-fits (ThenExpr e es) (AField AMemory ∷ part ∷ parts) last = absurd (false≢true last)
  fit-fits (ThenExpr e es) (AField form ∷ parts) last = with_field-fits form parts (field_in form e) (fit es parts) (field_in-fits form e) (fit-fits es parts last)
  fit-fits (ThenExpr e es) (AKid TypeOrConstant ∷ parts) last = with_kid-fits TypeOrConstant parts (phrase_of e) (fit es parts) (phrase_of-formed e) (fit-fits es parts last)
  fit-fits (ThenExpr e es) (AKid (OneOf sort) ∷ parts) last = with_kid-fits (OneOf sort) parts (phrase_of e) (fit es parts) (phrase_of-formed e) (fit-fits es parts last)
  fit-fits (ThenExpr e es) (AKid (ListOf list sort empty) ∷ parts) last =
      with_kid-fits (ListOf list sort empty) parts (list_phrase list (phrases_in e)) (fit es parts) (list_phrase-formed list (phrases_in e) (phrases_in-formed e)) (fit-fits es parts last)
  fit-fits (ThenExpr e es) (AKid (ArgumentsOf count) ∷ parts) last =
      with_kid-fits (ArgumentsOf count) parts (list_phrase ArgumentList (phrases_in e)) (fit es parts) (list_phrase-formed ArgumentList (phrases_in e) (phrases_in-formed e)) (fit-fits es parts last)

  phrases_in-formed : (e : Expr) → IfSome (phrases_in e) (λ ps. all_formed ps ≡ true)
  phrases_in-formed (Single text) = tt
  phrases_in-formed (Group es) = phrases_of-formed es

  phrases_of-formed : (es : Exprs) → IfSome (phrases_of es) (λ ps. all_formed ps ≡ true)
  phrases_of-formed NoExpr = refl
  phrases_of-formed (ThenExpr e es) = cons_phrase-formed (phrase_of e) (phrases_of es) (phrase_of-formed e) (phrases_of-formed es)

-- each phrase that the grammar makes is formed
pub phrases_formed : (e : Expr) (p : Phrase) → phrase_of e ≡ Some p → is_formed p ≡ true
phrases_formed e p made = MatchOption-at_some ⊤ (λ q. is_formed q ≡ true) p made (phrase_of-formed e)
