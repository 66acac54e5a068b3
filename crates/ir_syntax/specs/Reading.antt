-- What is open at a place of a line, whose tokens stand to the left of it, and how it goes on with those to the right.
use Rattle.std.specs.Prelude.{◌≡◌, ◌≤◌, ℕ, ◌+◌, ◌-◌, Bool, true, false, List, [], ◌∷◌, length, reverse, Option, Some, None, nat_le}
use Rattle.std.specs.List.{list_all}
use Rattle.ir_laws.specs.Expression.{Token, Exprs, Unclosed, nested}
use Rattle.ir_laws.specs.Phrase.{and_then}
use Rattle.ir_syntax.specs.Frames.{finish, gives, is_kept, needs}
use Rattle.ir_syntax.specs.Nesting.{nesting}
use Rattle.ir_syntax.specs.Steps.{AreAmple, Stack, built, only}
use Rattle.ir_syntax.specs.declared.frames.Frame.{Frame}
use Rattle.ir_syntax.specs.declared.scan.Reader.{Reader}

-- the stacks when all that is open ends, whose rests these are, the innermost first
abbrev pub resume : List Frame → List Exprs → Stack → Option Stack
resume [] [] st = Some st
resume [] (es ∷ ess) st = None
resume (f ∷ fs) [] st = None
resume (f ∷ fs) (es ∷ ess) st = and_then (finish f es st) (resume fs ess)

-- the same of what stands to the right of a place
abbrev pub continues : List Frame → Unclosed → Stack → Option Stack
continues fs None st = None
continues fs (Some ess) st = resume fs ess st

-- brackets nest no deeper than they may
abbrev pub is_shallow : Unclosed → Bool
is_shallow None = true
is_shallow (Some ess) = nat_le (nesting ess) 256

-- none where it doesn't go on
abbrev pub if_goes : Bool → Option Stack → Option Stack
if_goes true o = o
if_goes false o = None

abbrev pub continued : List Frame → Unclosed → Stack → Option Stack
continued fs u st = if_goes (is_shallow u) (continues fs u st)

-- the stacks at the end, if these tokens follow
abbrev pub ahead : Reader → List Token → Option Stack
ahead r ts = continued (r.frame ∷ reverse r.outer.items) (nested ts) (built r.steps.items)

-- the reader goes over a token, or no line goes on so
abbrev pub Takes : Token → Reader → Bool → Reader → Type 0
Takes t old goes new = (ts : List Token) → ahead old (t ∷ ts) ≡ if_goes goes (ahead new ts)

-- each open frame finds the terms that are its own, the innermost first
abbrev pub HasRoom : List Frame → ℕ → Type 0
HasRoom [] n = Unit {0}
HasRoom (f ∷ fs) n = (needs f ≤ n) × HasRoom fs (n - needs f + gives f)

-- what holds between two tokens
pub record IsOpen (r : Reader) : Type 0 where
  pub frame : is_kept r.frame ≡ true
  pub outer : list_all is_kept r.outer.items ≡ true
  pub few : length r.outer.items ≤ 256
  pub steps : AreAmple (only []) r.steps.items
  pub room : HasRoom (r.frame ∷ reverse r.outer.items) (length (built r.steps.items).terms)
