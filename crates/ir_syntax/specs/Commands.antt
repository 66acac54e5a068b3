-- The commands, and what a line asks for by its own, whose terms the steps build.
use Rattle.std.specs.Prelude.{◌≡◌, ℕ, Bool, true, false, List, [], ◌∷◌, Option, Some, None, IsSome, codes}
use Rattle.std.specs.Borrow.{Bor}
use Rattle.ir_laws.specs.Cause.{Cause, Duplicate}
use Rattle.ir_laws.specs.Environment.{Environment, is_known}
use Rattle.ir_laws.specs.Expression.{Token, Exprs, tokens_of, nested, closed, if_shallow}
use Rattle.ir_laws.specs.Form as form
use Rattle.ir_laws.specs.Form.{Form, Blank, Let, Print, Same, Flags}
use Rattle.ir_laws.specs.Names.{if_so}
use Rattle.ir_laws.specs.Phrase.{Phrase, and_then}
use Rattle.ir_laws.specs.Tree.{Text}
use Rattle.ir_syntax.specs.Frames.{terms_in}
use Rattle.ir_syntax.specs.Steps.{Stack, only}
use Rattle.ir_syntax.specs.declared.commands.Command.{Command}
use Rattle.ir_syntax.specs.declared.commands.Command.TheVariants as command
use Rattle.ir_syntax.specs.declared.commands.Asked.{Asked}
use Rattle.ir_syntax.specs.declared.commands.Asked.TheVariants as code

-- the row of a form that begins with a word
abbrev pub form_row : Command → form.FormRow
form_row command.Let = record { text = codes "let"; read = form.let_form }
form_row command.Print = record { text = codes "print"; read = form.one_term form.Print }
form_row command.Same = record { text = codes "same"; read = form.two_terms form.Same }
form_row command.Flags = record { text = codes "flags"; read = form.one_term form.Flags }

-- how many terms end the line of a form
abbrev pub term_count : Command → ℕ
term_count command.Let = 1
term_count command.Print = 1
term_count command.Same = 2
term_count command.Flags = 1

-- the forms that are built, in order
abbrev pub commands : List Command
commands = command.Let ∷ command.Print ∷ command.Same ∷ command.Flags ∷ []

-- the form of what is asked over these terms, where it takes so many
abbrev pub asked_form : {T : Type 0} → Asked → List T → Option (Form T)
asked_form code.Blank [] = Some Blank
asked_form (code.Let name) (t ∷ []) = Some (Let name.now t)
asked_form code.Print (t ∷ []) = Some (Print t)
asked_form code.Same (t ∷ u ∷ []) = Some (Same t u)
asked_form code.Flags (t ∷ []) = Some (Flags t)
asked_form a ts = None

-- the expressions that tokens are
abbrev pub whole : List Token → Option Exprs
whole ts = if_shallow (closed (nested ts))

-- tokens as so many terms
abbrev pub terms_of : ℕ → List Token → Option (List Phrase)
terms_of n ts = and_then (whole ts) (terms_in n)

-- the stacks hold the terms, or there are none
abbrev pub IsTerms : Bool → Option (List Phrase) → Stack → Type 0
IsTerms true o st = (ps : List Phrase) × (o ≡ Some ps) × (st ≡ only ps)
IsTerms false o st = o ≡ None

-- the form of a line that asks for this, by how many terms it has and the text that holds these
abbrev pub form_asked : Option (Asked × ℕ × Bor Text) → Option (Form Phrase)
form_asked None = None
form_asked (Some asked) = and_then (terms_of asked.1 (tokens_of asked.2.now)) (asked_form asked.0)

-- how many terms it takes
abbrev pub asked_count : Asked → ℕ
asked_count code.Blank = 0
asked_count (code.Let name) = 1
asked_count code.Print = 1
asked_count code.Same = 2
asked_count code.Flags = 1

-- the causes of names that are not of its terms
abbrev pub own_causes : Environment → Asked → List Cause
own_causes env code.Blank = []
own_causes env (code.Let name) = if_so (is_known env name.now) Duplicate
own_causes env code.Print = []
own_causes env code.Same = []
own_causes env code.Flags = []

-- whether its terms are to be of one sort
abbrev pub wants_one_sort : Asked → Bool
wants_one_sort code.Blank = false
wants_one_sort (code.Let name) = false
wants_one_sort code.Print = false
wants_one_sort code.Same = true
wants_one_sort code.Flags = false

-- the line has the form, and the steps build its terms
pub record HasTerms (form : Option (Form Phrase)) (a : Asked) (st : Stack) : Type 0 where
  pub terms : List Phrase
  pub built_is : st ≡ only terms
  pub form_is : form ≡ asked_form a terms
  pub some : IsSome form
