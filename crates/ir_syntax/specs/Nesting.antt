-- What is open at a place of a line, whose expressions stand to the right of it.
use Rattle.std.specs.Prelude.{ℕ, ◌≡◌, ◌+◌, ◌<◌, ◌≤◌, Bool, true, false, ◌&&◌, not, max, List, [], ◌∷◌, length, map, reverse, Some, None, if◌then◌else◌}
use Rattle.ir_laws.specs.Tree.{Text}
use Rattle.ir_laws.specs.Expression.{Exprs, Unclosed, Opens, Closes, is_space, is_opening, ends_word, with_word, with_token, depths}
use Rattle.ir_syntax.specs.declared.expression.Expr as code
use Rattle.ir_syntax.specs.declared.expression.OpenGroups.{OpenGroups}
use Rattle.ir_syntax.specs.Views.{exprs_in}

-- the bytes of a word
abbrev pub are_word_bytes : Text → Bool
are_word_bytes [] = true
are_word_bytes (b ∷ bs) = not (ends_word b) && are_word_bytes bs

-- a word, if there are bytes
abbrev pub with_bytes : Text → List Exprs → Unclosed
with_bytes [] stack = Some stack
with_bytes (b ∷ bs) stack = with_word (b ∷ bs) stack

-- the group whose expressions are held last first
abbrev pub group_in : List code.Expr → Exprs
group_in es = exprs_in (reverse es)

-- the innermost group, and those round it
abbrev pub stack_of : OpenGroups → List Exprs
stack_of groups = group_in groups.innermost.items ∷ map (λ es. group_in es.items) (reverse groups.outer.items)

-- how deep brackets nest at a place, where each open group has a bracket of its own
abbrev pub nesting : List Exprs → ℕ
nesting [] = 0
nesting (es ∷ outer) = max (depths es + length outer) (nesting outer)

-- a space changes nothing, and any other byte that ends a word is a bracket
abbrev pub with_separator : ℕ → Unclosed → Unclosed
with_separator b rest = if is_space b then rest else (if is_opening b then with_token Opens rest else with_token Closes rest)

-- no line ends with what stands here: its brackets don't match or nest too deep
abbrev pub IsLost : Unclosed → Type 0
IsLost None = Unit {0}
IsLost (Some stack) = 256 < nesting stack

-- what is open after a step; where it is refused, nothing is kept
abbrev pub Leaves : Bool → Unclosed → List Exprs → Type 0
Leaves true rest stack = (rest ≡ Some stack) × (nesting stack ≤ 256)
Leaves false rest stack = IsLost rest
