-- The causes for which a line is refused.
use Rattle.std.specs.Prelude.{ℕ, Bool, false, ◌||◌, List, [], ◌∷◌, filter, codes, bytes_eq}

-- one for each way in which a line can be none of the language or pass a limit
pub data Cause : Type 0 where
  Syntax : Cause
  Unknown : Cause
  Duplicate : Cause
  WrongSort : Cause
  Arity : Cause
  EmptyOr : Cause
  TooDeep : Cause
  TooMany : Cause
  Unlisted : Cause
  Escapes : Cause
  MissingVar : Cause
  TooLarge : Cause

-- the name that a fault's line has
abbrev pub cause_text : Cause → List ℕ
cause_text Syntax = codes "Syntax"
cause_text Unknown = codes "Unknown"
cause_text Duplicate = codes "Duplicate"
cause_text WrongSort = codes "Sort"
cause_text Arity = codes "Arity"
cause_text EmptyOr = codes "EmptyOr"
cause_text TooDeep = codes "TooDeep"
cause_text TooMany = codes "TooMany"
cause_text Unlisted = codes "Unlisted"
cause_text Escapes = codes "Escapes"
cause_text MissingVar = codes "MissingVar"
cause_text TooLarge = codes "TooLarge"

-- two causes are the same where their names are
abbrev pub same_cause : Cause → Cause → Bool
same_cause a b = bytes_eq (cause_text a) (cause_text b)

-- whether a cause is in the list
abbrev pub is_cause_among : List Cause → Cause → Bool
is_cause_among [] c = false
is_cause_among (d ∷ ds) c = same_cause d c || is_cause_among ds c

-- all causes
abbrev pub all_causes : List Cause
all_causes = Syntax ∷ Unknown ∷ Duplicate ∷ WrongSort ∷ Arity ∷ EmptyOr ∷ TooDeep ∷ TooMany ∷ Unlisted ∷ Escapes ∷ MissingVar ∷ TooLarge ∷ []

-- the causes of a list, each once
abbrev pub each_once : List Cause → List Cause
each_once cs = filter (is_cause_among cs) all_causes
