-- What a flat list of steps stands for: the stacks that it leaves.
use Rattle.std.specs.Prelude.{ℕ, ◌≡◌, ◌-◌, ◌≤◌, true, false, List, [], ◌∷◌, ◌++◌, length, take, drop, Option, Some, None}
use Rattle.ir_laws.specs.Formed.{kid_forms}
use Rattle.ir_laws.specs.Label.{row}
use Rattle.ir_laws.specs.Names.{field_forms}
use Rattle.ir_laws.specs.Parts.{has_for_group}
use Rattle.ir_laws.specs.Phrase.{Phrase, Phrases, Name, Labelled, NoPhrase, ThenPhrase}
use Rattle.ir_laws.specs.Sorts.{is_word_among}
use Rattle.ir_laws.specs.Word.{label_words}
use Rattle.ir_laws.specs.Tree.{Text, Field, Kind, Label}
use Rattle.ir_laws.specs.declared.labels.Part.{Part}
use Rattle.ir_laws.specs.declared.words.Word.{Word}
use Rattle.ir_syntax.specs.Grammar.{field_seen, kind_seen}
use Rattle.ir_syntax.specs.declared.steps.Step.{Step}
use Rattle.ir_syntax.specs.declared.steps.Step.TheVariants as code

-- terms, fields, variable kinds and groups of kinds, each list with its top last
pub record Stack : Type 0 where
  pub terms : List Phrase
  pub fields : List (Field Text)
  pub kinds : List (Kind Text)
  pub groups : List (List (Kind Text))

-- these terms, and nothing else
abbrev pub only : List Phrase → Stack
only ps = record { terms = ps; fields = []; kinds = []; groups = [] }

-- the topmost so many, and those below them
abbrev pub top : {A : Type 0} → ℕ → List A → List A
top n xs = drop (length xs - n) xs

abbrev pub below : {A : Type 0} → ℕ → List A → List A
below n xs = take (length xs - n) xs

-- the list as phrases
abbrev pub phrases : List Phrase → Phrases
phrases [] = NoPhrase
phrases (p ∷ ps) = ThenPhrase p (phrases ps)

-- how many groups, fields and terms the parts take
abbrev pub group_count : List Part → ℕ
group_count parts = elim (has_for_group parts) [ true ↦ 1 | false ↦ 0 ]

abbrev pub field_count : List Part → ℕ
field_count parts = length (field_forms parts)

abbrev pub kid_count : List Part → ℕ
kid_count parts = length (kid_forms parts)

-- the first member, if there is one
abbrev pub first_of : {A : Type 0} → List A → Option A
first_of [] = None
first_of (x ∷ xs) = Some x

-- what the parts take off the stacks
abbrev pub fields_taken : List Part → Stack → List (Field Text)
fields_taken parts s = top (field_count parts) s.fields

abbrev pub group_taken : List Part → Stack → Option (List (Kind Text))
group_taken parts s = first_of (top (group_count parts) s.groups)

abbrev pub kids_taken : List Part → Stack → List Phrase
kids_taken parts s = top (kid_count parts) s.terms

-- the term over what is left when the parts are taken off
abbrev pub over_rest : List Part → Phrase → Stack → Stack
over_rest parts p s = record { terms = below (kid_count parts) s.terms ++ p ∷ []; fields = below (field_count parts) s.fields; kinds = s.kinds; groups = below (group_count parts) s.groups }

-- a label that takes what its row has
abbrev pub label_taken : Word → Stack → Label Text
label_taken w s = record { word = w; fields = fields_taken (row w).parts s }

abbrev pub label_over : Word → Stack → Phrase
label_over w s = Labelled (label_taken w s) (group_taken (row w).parts s) (phrases (kids_taken (row w).parts s))

-- a list of the word with these members
abbrev pub list_of : Word → List Phrase → Phrase
list_of w ps = Labelled (record { word = w; fields = [] }) None (phrases ps)

abbrev pub with_terms : List Phrase → Stack → Stack
with_terms ps s = record { terms = ps; fields = s.fields; kinds = s.kinds; groups = s.groups }

-- the stacks after a step
abbrev pub step_on : Stack → Step → Stack
step_on s (code.Name name) = with_terms (s.terms ++ Name name.now ∷ []) s
step_on s (code.Field f) = record { terms = s.terms; fields = s.fields ++ field_seen f ∷ []; kinds = s.kinds; groups = s.groups }
step_on s (code.Variable k) = record { terms = s.terms; fields = s.fields; kinds = s.kinds ++ kind_seen k ∷ []; groups = s.groups }
step_on s (code.Bind n) = record { terms = s.terms; fields = s.fields; kinds = below n s.kinds; groups = s.groups ++ top n s.kinds ∷ [] }
step_on s (code.Label w) = over_rest (row w).parts (label_over w s) s
step_on s (code.List w n) = with_terms (below n s.terms ++ list_of w (top n s.terms) ∷ []) s

-- the stacks after steps
abbrev pub steps_on : Stack → List Step → Stack
steps_on s [] = s
steps_on s (step ∷ steps) = steps_on (step_on s step) steps

-- the stacks that the steps leave
abbrev pub built : List Step → Stack
built steps = steps_on (only []) steps

-- the terms that a step takes off the stack, and those that it puts there
abbrev pub takes : Step → ℕ
takes (code.Name name) = 0
takes (code.Field f) = 0
takes (code.Variable k) = 0
takes (code.Bind n) = 0
takes (code.Label w) = kid_count (row w).parts
takes (code.List w n) = n

abbrev pub puts : Step → ℕ
puts (code.Name name) = 1
puts (code.Field f) = 0
puts (code.Variable k) = 0
puts (code.Bind n) = 0
puts (code.Label w) = 1
puts (code.List w n) = 1

-- a label has a word that the grammar knows, and a list has none of these
abbrev pub IsKnown : Step → Type 0
IsKnown (code.Name name) = Unit {0}
IsKnown (code.Field f) = Unit {0}
IsKnown (code.Variable k) = Unit {0}
IsKnown (code.Bind n) = Unit {0}
IsKnown (code.Label w) = is_word_among label_words w ≡ true
IsKnown (code.List w n) = is_word_among label_words w ≡ false

-- the step finds as many terms as it takes
abbrev pub IsAmple : Stack → Step → Type 0
IsAmple s step = (takes step ≤ length s.terms) × IsKnown step

-- so does each step, on the stacks that those before it leave
abbrev pub AreAmple : Stack → List Step → Type 0
AreAmple s [] = Unit {0}
AreAmple s (step ∷ steps) = IsAmple s step × AreAmple (step_on s step) steps
