-- What the looking up of names finds in a step.
use Rattle.std.specs.Prelude.{◌≡◌, ℕ, List, [], ◌∷◌, Option, Some, None}
use Rattle.ir_laws.specs.Tree.{Text, Nameless, Environment, Called, Field, Item, OfKind}
use Rattle.ir_laws.specs.declared.labels.Sort.{Sort}
use Rattle.ir_laws.specs.declared.labels.Sort.TheVariants.{OfList}
use Rattle.ir_script.specs.Causes.{cause_seen}
use Rattle.ir_laws.specs.Cause as cause
use Rattle.ir_syntax.specs.Grammar.{field_seen, kind_seen}
use Rattle.ir_script.specs.Scope.{Named, part_named}
use Rattle.ir_script.specs.declared.causes.Cause.{Cause}
use Rattle.ir_syntax.specs.declared.steps.Step.{Step}
use Rattle.ir_syntax.specs.declared.steps.Step.TheVariants as code

-- ---- sorts

-- the sort of a field's variable kind
abbrev pub field_sort : Field Text → Option Sort
field_sort (OfKind k) = Some k.sort
field_sort f = None

-- the first of these sorts
abbrev pub sort_of_sorts : List (Option Sort) → Sort
sort_of_sorts [] = OfList
sort_of_sorts (Some s ∷ ss) = s
sort_of_sorts (None ∷ ss) = sort_of_sorts ss

-- ---- names, counted

-- what a step counts, by what a name and a field do
abbrev pub step_count : (Text → ℕ) → (Field Text → ℕ) → Step → ℕ
step_count f g (code.Name name) = f name.now
step_count f g (code.Field x) = g (field_seen x)
step_count f g (code.Variable k) = g (OfKind (kind_seen k))
step_count f g step = 0

-- the names that stand for no part
abbrev pub name_unknowns : List Named → Text → ℕ
name_unknowns ns name = elim (part_named ns name) [ Some q ↦ 0 | None ↦ 1 ]

abbrev pub field_unknowns : List Named → Field Text → ℕ
field_unknowns ns (OfKind k) = elim (k.name) [ Nameless ↦ 0 | Environment ↦ 0 | Called name ↦ name_unknowns ns name ]
field_unknowns ns (Item name) = name_unknowns ns name
field_unknowns ns f = 0

abbrev pub step_unknowns : List Named → Step → ℕ
step_unknowns ns = step_count (name_unknowns ns) (field_unknowns ns)

-- the names of variable kinds
abbrev pub field_names : Field Text → ℕ
field_names (OfKind k) = elim (k.name) [ Nameless ↦ 0 | Environment ↦ 0 | Called name ↦ 1 ]
field_names f = 0

abbrev pub no_name : Text → ℕ
no_name name = 0

abbrev pub step_names : Step → ℕ
step_names = step_count no_name field_names

-- why it is refused where so many names are unknown, and so many kinds have names
abbrev pub IsFault : ℕ → ℕ → Option cause.Cause → Type 0
IsFault unknowns names (Some cause.Unknown) = unknowns ≡ 1
IsFault unknowns names (Some cause.WrongSort) = (unknowns ≡ 0) × (names ≡ 1)
IsFault unknowns names (Some c) = ⊥
IsFault unknowns names None = Unit {0}

abbrev pub IsFaultOf : ℕ → ℕ → Cause → Type 0
IsFaultOf unknowns names c = IsFault unknowns names (cause_seen c)
