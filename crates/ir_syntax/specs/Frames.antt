-- What is open at a place, by what stands to the left of it: the stacks when it ends, from the expressions to the right.
use Rattle.std.specs.Prelude.{◌≡◌, ◌≤◌, ℕ, zero, suc, Bool, true, false, ◌&&◌, not, ◌+◌, IfSome, List, [], ◌∷◌, ◌++◌, take, drop, Option, Some, None, option_map}
use Rattle.ir_laws.specs.Tree.{Text, Field, Kind}
use Rattle.ir_laws.specs.Expression.{Expr, Exprs, Single, Group, NoExpr, ThenExpr}
use Rattle.ir_laws.specs.Label.{row}
use Rattle.ir_laws.specs.Parts.{has_for_group}
use Rattle.ir_laws.specs.Sorts.{is_word_among}
use Rattle.ir_laws.specs.Word.{label_words}
use Rattle.ir_laws.specs.Phrase.{Phrase, Phrases, Labelled, Fitted, phrase_list, phrase_of, phrases_of, fit, bind_of, kind_of, words_of, each_of, cons_if, or_else, and_then}
use Rattle.ir_laws.specs.declared.labels.Part.{Part}
use Rattle.ir_laws.specs.declared.labels.Part.TheVariants.{Fixed, ForGroup, AField, AKid}
use Rattle.ir_laws.specs.declared.labels.KidForm.{KidForm}
use Rattle.ir_laws.specs.declared.labels.KidForm.TheVariants.{OneOf, TypeOrConstant, ListOf, ArgumentsOf}
use Rattle.ir_laws.specs.declared.words.Word.{Word}
use Rattle.ir_laws.specs.declared.words.Word.TheVariants.{ArgumentList}
use Rattle.ir_syntax.specs.Grammar.{is_built_field}
use Rattle.ir_syntax.specs.Steps.{Stack, IsKnown, kid_count, puts, takes, top, below, phrases, fields_taken, group_taken, kids_taken, over_rest, list_of, with_terms, step_on}
use Rattle.ir_syntax.specs.declared.steps.Step.{Step}
use Rattle.ir_syntax.specs.declared.frames.Around.{Around}
use Rattle.ir_syntax.specs.declared.frames.Frame.{Frame}
use Rattle.ir_syntax.specs.declared.frames.Frame.TheVariants as code
use Rattle.ir_syntax.specs.declared.frames.Taken.{Taken}

-- ---- one thing more on a stack

abbrev pub push_term : Stack → Phrase → Stack
push_term st p = with_terms (st.terms ++ p ∷ []) st

abbrev pub push_kind : Stack → Kind Text → Stack
push_kind st k = record { terms = st.terms; fields = st.fields; kinds = st.kinds ++ k ∷ []; groups = st.groups }

abbrev pub push_field : Stack → Field Text → Stack
push_field st f = record { terms = st.terms; fields = st.fields ++ f ∷ []; kinds = st.kinds; groups = st.groups }

abbrev pub push_group : Stack → List (Kind Text) → Stack
push_group st b = record { terms = st.terms; fields = st.fields; kinds = st.kinds; groups = st.groups ++ b ∷ [] }

-- ---- what a frame makes of the expressions up to its end

-- the expressions as so many terms
abbrev pub terms_in : ℕ → Exprs → Option (List Phrase)
terms_in zero NoExpr = Some []
terms_in zero (ThenExpr e es) = None
terms_in (suc n) NoExpr = None
terms_in (suc n) (ThenExpr e es) = cons_if (phrase_of e) (terms_in n es)

-- a label over what the parts that are read left on the stacks, before what the others give
abbrev pub with_read : Word → List Part → Fitted → Stack → Stack
with_read w parts r st = over_rest parts (Labelled (record { word = w; fields = fields_taken parts st ++ r.fields }) (or_else (group_taken parts st) r.bind) (phrases (kids_taken parts st ++ phrase_list r.kids))) st

-- a label of which the parts before are read, and the others follow
abbrev pub label_read : Word → List Part → List Part → Exprs → Stack → Option Stack
label_read w before after es st = option_map (λ r. with_read w before r st) (fit es after)

-- a list over the topmost so many terms, before those that follow
abbrev pub with_members : Word → ℕ → Phrases → Stack → Stack
with_members w n ps st = with_terms (below n st.terms ++ list_of w (top n st.terms ++ phrase_list ps) ∷ []) st

-- a group over the topmost so many kinds, before those that follow
abbrev pub with_kinds : ℕ → List (Kind Text) → Stack → Stack
with_kinds n ks st = record { terms = st.terms; fields = st.fields; kinds = below n st.kinds; groups = st.groups ++ (top n st.kinds ++ ks) ∷ [] }

-- the stacks when what is open ends, whose rest the expressions are
abbrev pub finish : Frame → Exprs → Stack → Option Stack
finish (code.Terms n) es st = option_map (λ ps. with_terms (st.terms ++ ps) st) (terms_in n es)
finish (code.List w n) es st = option_map (λ ps. with_members w n ps st) (phrases_of es)
finish code.Begun es st = option_map (push_term st) (phrase_of (Group es))
finish (code.Named text) es st = option_map (push_term st) (phrase_of (Group (ThenExpr (Single text.now) es)))
finish (code.Label w at) es st = label_read w (take at (row w).parts) (drop at (row w).parts) es st
finish code.Group es st = option_map (push_group st) (bind_of (Group es))
finish (code.Variables n) es st = option_map (λ ks. with_kinds n ks st) (and_then (words_of es) (each_of kind_of))

-- ---- what a word, a group and an end make of a frame

abbrev pub maybe_on : Option Step → Stack → Stack
maybe_on None st = st
maybe_on (Some step) st = step_on st step

-- behind a word
abbrev pub go_on : Option Taken → Exprs → Stack → Option Stack
go_on None es st = None
go_on (Some t) es st = finish t.frame es (maybe_on t.step st)

-- behind a group of these expressions
abbrev pub enter : Option Around → Exprs → Exprs → Stack → Option Stack
enter None inner es st = None
enter (Some a) inner es st = and_then (finish a.inner inner st) (finish a.outer es)

-- at the end
abbrev pub ended : Option (Option Step) → Stack → Option Stack
ended None st = None
ended (Some step) st = Some (maybe_on step st)

-- a group of these expressions as a part of a label
abbrev pub opened : Option Frame → Exprs → Stack → Option Stack
opened None inner st = None
opened (Some f) inner st = finish f inner st

-- ---- what holds of the labels that are open

-- the word of the list that a kid is; none where it is a term
abbrev pub list_word : KidForm → Option Word
list_word (OneOf sort) = None
list_word TypeOrConstant = None
list_word (ListOf list sort if_empty) = Some list
list_word (ArgumentsOf count) = Some ArgumentList

-- a list has no word of a label
abbrev pub is_list : Option Word → Bool
is_list None = true
is_list (Some w) = not (is_word_among label_words w)

-- a part that is read by its expression alone
abbrev pub is_plain : Part → Bool
is_plain (Fixed word) = false
is_plain ForGroup = true
is_plain (AField form) = is_built_field form
is_plain (AKid form) = is_list (list_word form)

-- a group of variable kinds comes first
abbrev pub is_in_place : ℕ → Part → Bool
is_in_place zero part = true
is_in_place (suc at) (Fixed word) = true
is_in_place (suc at) ForGroup = false
is_in_place (suc at) (AField form) = true
is_in_place (suc at) (AKid form) = true

-- both of the parts from a place on
abbrev pub are_plain : ℕ → List Part → Bool
are_plain at [] = true
are_plain at (part ∷ parts) = is_plain part && is_in_place at part && are_plain (suc at) parts

-- of a label that is open, which the grammar knows, no fixed word is left
abbrev pub is_kept : Frame → Bool
is_kept (code.Terms n) = true
is_kept (code.List w n) = is_list (Some w)
is_kept code.Begun = true
is_kept (code.Named text) = true
is_kept (code.Label w at) = is_word_among label_words w && are_plain at (drop at (row w).parts)
is_kept code.Group = true
is_kept (code.Variables n) = true

-- how many fixed words the parts begin with
abbrev pub label_start : List Part → ℕ
label_start [] = 0
label_start (Fixed word ∷ parts) = 1
label_start (ForGroup ∷ parts) = 0
label_start (AField form ∷ parts) = 0
label_start (AKid form ∷ parts) = 0

-- a group of variable kinds has none before it
abbrev pub IsNew : Part → List Part → Type 0
IsNew (Fixed word) before = Unit {0}
IsNew ForGroup before = has_for_group before ≡ false
IsNew (AField form) before = Unit {0}
IsNew (AKid form) before = Unit {0}

-- the expression is the next part of a label, and does this to the stacks
abbrev pub Reads : Part → Expr → (Stack → Option Stack) → Type 0
Reads part e read = (w : Word) (before after : List Part) (es : Exprs) (st : Stack) → IsNew part before → label_read w before (part ∷ after) (ThenExpr e es) st ≡ and_then (read st) (label_read w (before ++ part ∷ []) after es)

-- ---- how many terms it finds

-- the terms on the stack that are its own
abbrev pub needs : Frame → ℕ
needs (code.Terms n) = 0
needs (code.List w n) = n
needs code.Begun = 0
needs (code.Named text) = 0
needs (code.Label w at) = kid_count (take at (row w).parts)
needs code.Group = 0
needs (code.Variables n) = 0

-- the terms that it leaves in their place
abbrev pub gives : Frame → ℕ
gives (code.Terms n) = 0
gives (code.List w n) = 1
gives code.Begun = 1
gives (code.Named text) = 1
gives (code.Label w at) = 1
gives code.Group = 0
gives (code.Variables n) = 0

-- how many terms a step, if there is one, takes and puts
abbrev pub taken_by : Option Step → ℕ
taken_by None = 0
taken_by (Some step) = takes step

abbrev pub put_by : Option Step → ℕ
put_by None = 0
put_by (Some step) = puts step

-- a step that takes no term and puts so many
abbrev pub IsLeaf : ℕ → Step → Type 0
IsLeaf n step = (takes step ≡ 0) × (puts step ≡ n) × IsKnown step

-- behind a word of a frame that needs and gives so many: no term is taken, and what is needed is there
abbrev pub KeepsWord : ℕ → ℕ → Taken → Type 0
KeepsWord n m t = (is_kept t.frame ≡ true) × (needs t.frame ≤ n + put_by t.step) × (gives t.frame ≡ m) × (taken_by t.step ≡ 0) × IfSome t.step IsKnown

-- in a group and behind it: what is needed is there when the group ends
abbrev pub KeepsGroup : ℕ → ℕ → Around → Type 0
KeepsGroup n m a = (is_kept a.inner ≡ true) × (is_kept a.outer ≡ true) × (needs a.inner ≡ 0) × (needs a.outer ≤ n + gives a.inner) × (gives a.outer ≡ m)

-- at the end: what was needed is taken
abbrev pub KeepsEnd : ℕ → ℕ → Option Step → Type 0
KeepsEnd n m o = (taken_by o ≡ n) × (put_by o ≡ m) × IfSome o IsKnown
