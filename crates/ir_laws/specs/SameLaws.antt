-- The laws of sameness and of numerals, as statements.
use Rattle.std.specs.Prelude.{◌≡◌, ℕ, Decides, decimal}
use Rattle.ir_core.specs.declared.ids.SolverDefId.{SolverDefId}
use Rattle.ir_laws.specs.declared.words.Word.{Word}
use Rattle.ir_laws.specs.declared.labels.Keyword.{Keyword}
use Rattle.ir_laws.specs.declared.labels.Sort.{Sort}
use Rattle.ir_laws.specs.Word.{same_word}
use Rattle.ir_laws.specs.Keyword.{same_keyword}
use Rattle.ir_laws.specs.Id.{same_id}
use Rattle.ir_laws.specs.Tree.{Kind, Field, Label, Parameter, Term}
use Rattle.ir_laws.specs.Same.{same_sort, same_kind, same_field, same_label, same_parameter, same_term}
use Rattle.ir_laws.specs.Numeral.{numeral}

-- each test is true exactly where the two are equal
abbrev pub WordsTell : Type 0
WordsTell = (a b : Word) → Decides (same_word a b) (a ≡ b)

abbrev pub KeywordsTell : Type 0
KeywordsTell = (a b : Keyword) → Decides (same_keyword a b) (a ≡ b)

abbrev pub SortsTell : Type 0
SortsTell = (a b : Sort) → Decides (same_sort a b) (a ≡ b)

abbrev pub IdsTell : Type 0
IdsTell = (a b : SolverDefId) → Decides (same_id a b) (a ≡ b)

abbrev pub KindsTell : Type 0
KindsTell = (a b : Kind SolverDefId) → Decides (same_kind a b) (a ≡ b)

abbrev pub FieldsTell : Type 0
FieldsTell = (a b : Field SolverDefId) → Decides (same_field a b) (a ≡ b)

abbrev pub LabelsTell : Type 0
LabelsTell = (a b : Label SolverDefId) → Decides (same_label a b) (a ≡ b)

abbrev pub ParametersTell : Type 0
ParametersTell = (a b : Parameter) → Decides (same_parameter a b) (a ≡ b)

abbrev pub TermsTell : Type 0
TermsTell = (t u : Term) → Decides (same_term t u) (t ≡ u)

-- a number is written as a formatted number is
abbrev pub NumeralsAreDecimals : Type 0
NumeralsAreDecimals = (n : ℕ) → numeral n ≡ decimal n
