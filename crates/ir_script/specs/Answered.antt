-- What a contract says of an answer.
use Rattle.std.specs.Prelude.{◌≡◌, ℕ, ◌⊎◌, List, [], ◌∷◌, ◌++◌, Option, None, Some, Result, OnOk, IfErr, codes}
use Rattle.ir_core.specs.declared.handles.Part.{Part}
use Rattle.ir_laws.specs.Answer.{Answer, State, Writes, Meets, Allows, Fault, after_line, declared, line_text, resolved, text_of_line, with_end}
use Rattle.ir_laws.specs.Cause as cause
use Rattle.ir_laws.specs.Causes.{causes_of, size_causes}
use Rattle.ir_laws.specs.Environment.{Environment}
use Rattle.ir_laws.specs.Form.{Form}
use Rattle.ir_laws.specs.Heap.{Heap}
use Rattle.ir_laws.specs.Held.{HoldsJust}
use Rattle.ir_laws.specs.Limits.{Limits}
use Rattle.ir_laws.specs.LineTrees.{spelled_trees}
use Rattle.ir_laws.specs.Phrase.{Phrase}
use Rattle.ir_laws.specs.Tree.{Text, Term}
use Rattle.ir_table.specs.Interner.{heap}
use Rattle.ir_script.specs.declared.answers.Run.{Run}
use Rattle.ir_script.specs.declared.causes.Cause.{Cause}
use Rattle.ir_script.specs.declared.causes.ScriptError.{ScriptError}
use Rattle.ir_script.specs.Causes.{cause_seen, Says}
use Rattle.ir_script.specs.Kept.{AreKnown, IsKept}
use Rattle.ir_script.specs.Scope.{Named, AreTerms, env_of, scope_names}

-- what the lines so far leave: the names over a heap, and the parts that are held
abbrev pub left_by : Heap Part → List Named → List Term → State
left_by h ns held = record { environment = env_of h ns; parts = held }

-- the causes that a line of the form meets, after lines that left this
abbrev pub causes_met : Limits → Option (Form Phrase) → State → List cause.Cause
causes_met limits form s = causes_of limits s.environment s.parts form

-- the line that the form writes
abbrev pub written : Option (Form Phrase) → State → Text
written form s = text_of_line s (resolved s.environment form)

-- what the line leaves
abbrev pub left_after : Limits → Option (Form Phrase) → State → State
left_after limits form s = after_line limits s (resolved s.environment form)

-- What the answering of one form says, after lines that left this. Want of memory has no clause
pub record AnswersForm (limits : Limits) (form : Option (Form Phrase)) (s : State) (old new : Text) (now : Heap Part) (names : List Named) (r : Result Unit Cause) : Type 0 where
  pub clear : OnOk r (causes_met limits form s ≡ [])
  pub text : OnOk r (new ≡ old ++ written form s)
  pub left : OnOk r (HoldsJust now (left_after limits form s).parts)
  pub names_are : OnOk r ((left_after limits form s).environment ≡ env_of now names)
  pub fault : IfErr r (λ c. (cause_seen c ≡ None) ⊎ Says c (causes_met limits form s))

-- What the writing of a line says, whose form over trees is this, where the names mean this. Want of memory has no clause
pub record WritesLine (limits : Limits) (env : Environment) (tree : Form Term) (now : Heap Part) (names : List Named) (old new : Text) (r : Result Unit Cause) : Type 0 where
  pub small : OnOk r (size_causes limits (spelled_trees env tree) ≡ [])
  pub text : OnOk r (new ≡ old ++ with_end (line_text env tree))
  pub names_are : OnOk r (declared env tree ≡ env_of now names)
  pub fault : IfErr r (λ c. (cause_seen c ≡ None) ⊎ Says c (size_causes limits (spelled_trees env tree)))

-- the names are those of terms, and what is known from line to line holds
pub record IsReady (run : Run) : Type 0 where
  pub terms : AreTerms (heap run.cx) (scope_names run.scope)
  pub kept : IsKept (heap run.cx) run.stages
  pub known : AreKnown (heap run.cx) run.text run.spellings

-- the line that says yes exactly where this holds
abbrev pub YesOrNo : Type 0 → Text → Type 0
YesOrNo A text = (A × (text ≡ codes "yes" ++ 10 ∷ [])) ⊎ ((A → ⊥) × (text ≡ codes "no" ++ 10 ∷ []))

-- the parts that are held when the script is answered
abbrev pub parts_left : Answer → List Term
parts_left (Writes text after) = after.parts
parts_left (Meets line causes) = []

-- a fault at the line; want of memory has no clause
abbrev pub AllowsCause : Answer → ℕ → Option cause.Cause → Type 0
AllowsCause a line None = Unit {0}
AllowsCause a line (Some c) = Allows a (Fault line c)

-- the answer allows the fault
abbrev pub AllowsFault : Answer → ScriptError → Type 0
AllowsFault a e = AllowsCause a e.line (cause_seen e.cause)
