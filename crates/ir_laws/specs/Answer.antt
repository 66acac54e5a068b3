-- What a script answers.
use Rattle.std.specs.Prelude.{◌≡◌, ℕ, suc, ◌/◌, ◌%◌, Bool, true, false, List, [], ◌∷◌, ◌++◌, map, length, Option, Some, None, nat_eq, nat_le, codes, IsTrue}
use Rattle.ir_laws.specs.Tree.{Text, Term}
use Rattle.ir_laws.specs.Same.{same_term}
use Rattle.ir_laws.specs.Cause.{Cause, TooMany, is_cause_among}
use Rattle.ir_laws.specs.Flag.{flag_words}
use Rattle.ir_laws.specs.Counts.{outer, flags}
use Rattle.ir_laws.specs.Spelling.{spell, spaced}
use Rattle.ir_laws.specs.Expression.{lines_of}
use Rattle.ir_laws.specs.Numeral.{numeral}
use Rattle.ir_laws.specs.Phrase.{Phrase}
use Rattle.ir_laws.specs.Form.{Form, Blank, Declare, Let, Same, Flags, form_of}
use Rattle.ir_laws.specs.Environment.{Environment, item_of, with_item, with_term, with_own, form_trees, name_at}
use Rattle.ir_laws.specs.Limits.{Limits, capped}
use Rattle.ir_laws.specs.Parts.{with_parts_of}
use Rattle.ir_laws.specs.Start.{start_parts}
use Rattle.ir_laws.specs.LineTrees.{operands, made_trees, spelled_trees}
use Rattle.ir_laws.specs.Causes.{causes_of}

-- ---- the line that a command writes

-- the word that `same` writes
abbrev pub yes_or_no : Bool → Text
yes_or_no true = codes "yes"
yes_or_no false = codes "no"

-- the words of the flags in the set, in order
abbrev pub flag_texts : ℕ → List Text → List Text
flag_texts set [] = []
flag_texts set (word ∷ words) = elim (nat_eq (set % 2) 1) [ true ↦ word ∷ flag_texts (set / 2) words | false ↦ flag_texts (set / 2) words ]

-- how many binders outside of it the term speaks of, and its flags
abbrev pub flags_text : Term → Text
flags_text t = spaced (codes "outer" ∷ numeral (outer t) ∷ flag_texts (flags t) flag_words)

-- the spellings of the line's terms, with one space between two
abbrev pub spelled_text : Environment → Form Term → Text
spelled_text env form = spaced (map (spell (name_at env)) (spelled_trees env form))

-- the line of a command; none for a blank line, `item` and `let`
abbrev pub line_text : Environment → Form Term → Option Text
line_text env Blank = None
line_text env (Declare d) = None
line_text env (Let name t) = None
line_text env (Same t u) = Some (yes_or_no (same_term t u))
line_text env (Flags t) = Some (flags_text t)
line_text env form = Some (spelled_text env form)

-- a written line ends with byte 10
abbrev pub with_end : Option Text → Text
with_end None = []
with_end (Some text) = text ++ 10 ∷ []

-- ---- the lines

-- what the earlier lines leave: the environment, and the parts of the start, of every operand and of every tree made
pub record State : Type 0 where
  pub environment : Environment
  pub parts : List Term

-- before the first line nothing is declared, and the parts of the start are held
abbrev pub start : State
start = record { environment = record { items = []; terms = [] }; parts = start_parts }

-- the environment after a line: `item` and `let` add what they declare
abbrev pub declared : Environment → Form Term → Environment
declared env (Declare d) = with_item env (item_of env d d.decl d.clauses)
declared env (Let name t) = with_term env name t
declared env form = env

-- what the line leaves
abbrev pub state_after : Limits → State → Form Term → State
state_after limits s form = record { environment = declared s.environment form; parts = with_parts_of s.parts (operands form ++ made_trees limits s.environment form) }

-- what a script answers: its text, or the first line that meets a cause, with the causes that may be named
pub data Answer : Type 0 where
  Writes : (text : Text) → (after : State) → Answer
  Meets : (line : ℕ) → (causes : List Cause) → Answer

-- a line's form with its trees
abbrev pub resolved : Environment → Option (Form Phrase) → Option (Form Term)
resolved env None = None
resolved env (Some form) = form_trees (with_own env form) form

-- A line that meets no cause has a form with trees. It leaves a state and writes its text behind the text so far
abbrev pub after_line : Limits → State → Option (Form Term) → State
after_line limits s None = s
after_line limits s (Some form) = state_after limits s form

-- what a line writes
abbrev pub text_of_line : State → Option (Form Term) → Text
text_of_line s None = []
text_of_line s (Some form) = with_end (line_text s.environment form)

-- the lines from number n on, after a text
abbrev pub answer_lines : Limits → List Text → ℕ → State → Text → Answer
answer_lines limits [] n s text = Writes text s
answer_lines limits (line ∷ lines) n s text = elim (causes_of limits s.environment s.parts (form_of line)) [
  | [] ↦ answer_lines limits lines (suc n) (after_line limits s (resolved s.environment (form_of line))) (text ++ text_of_line s (resolved s.environment (form_of line)))
  | c ∷ cs ↦ Meets n (c ∷ cs)
]

-- line 0 is the start
abbrev pub answer_within : Limits → Text → Answer
answer_within limits script = elim (nat_le (length start_parts) limits.nodes) [
  | true ↦ answer_lines limits (lines_of script) 1 start []
  | false ↦ Meets 0 (TooMany ∷ [])
]

-- what a script answers under limits, each of which counts as at most its cap
abbrev pub answer : Limits → Text → Answer
answer limits script = answer_within (capped limits) script

-- ---- answers as a relation

-- what a run over a script can say
pub data Result : Type 0 where
  Lines : (text : Text) → Result
  Fault : (line : ℕ) → (cause : Cause) → Result

-- the text must be that text; a fault names that line and one of the causes
abbrev pub Allows : Answer → Result → Type 0
Allows (Writes text after) (Lines t) = t ≡ text
Allows (Meets line causes) (Fault n c) = (n ≡ line) × IsTrue (is_cause_among causes c)
Allows a r = ⊥

-- a run over the script may say this
abbrev pub IsAnswer : Limits → Text → Result → Type 0
IsAnswer limits script r = Allows (answer limits script) r

-- the answer is a text
abbrev pub Succeeds : Answer → Type 0
Succeeds (Writes text after) = Unit {0}
Succeeds (Meets line causes) = ⊥

-- the start fits, and no line meets a cause
abbrev pub IsValid : Limits → Text → Type 0
IsValid limits script = Succeeds (answer limits script)
