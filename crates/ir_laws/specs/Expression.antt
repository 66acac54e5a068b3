-- From bytes to lines, tokens and expressions.
use Rattle.std.specs.Prelude.{ℕ, suc, max, Bool, true, false, ◌&&◌, ◌||◌, not, List, [], ◌∷◌, Option, Some, None, nat_eq, nat_le}
use Rattle.ir_laws.specs.Tree.{Text}

-- a byte begins the text's first line; if there is none, it is that line
abbrev pub onto_first_line : ℕ → List Text → List Text
onto_first_line b [] = (b ∷ []) ∷ []
onto_first_line b (line ∷ lines) = (b ∷ line) ∷ lines

-- each line ends at byte 10; the last may lack its end
abbrev pub lines_of : Text → List Text
lines_of [] = []
lines_of (b ∷ bs) = elim (nat_eq b 10) [ true ↦ [] ∷ lines_of bs | false ↦ onto_first_line b (lines_of bs) ]

-- the bytes that a line may hold
abbrev pub is_line_byte : ℕ → Bool
is_line_byte b = nat_le 32 b && nat_le b 126

-- each byte may stand in a line
abbrev pub are_line_bytes : Text → Bool
are_line_bytes [] = true
are_line_bytes (b ∷ bs) = is_line_byte b && are_line_bytes bs

-- byte 32
abbrev pub is_space : ℕ → Bool
is_space b = nat_eq b 32

-- the byte of `(`
abbrev pub is_opening : ℕ → Bool
is_opening b = nat_eq b 40

-- the byte of `)`
abbrev pub is_closing : ℕ → Bool
is_closing b = nat_eq b 41

-- the bytes that no word has
abbrev pub ends_word : ℕ → Bool
ends_word b = is_space b || is_opening b || is_closing b

-- a bracket or a word
pub data Token : Type 0 where
  Opens : Token
  Closes : Token
  Word : (text : Text) → Token

-- whether a word goes on with what follows
abbrev pub goes_on : Text → Bool
goes_on [] = false
goes_on (b ∷ bs) = not (ends_word b)

-- a byte of a word, before the rest of its word if that goes on
abbrev pub onto_word : ℕ → Bool → List Token → List Token
onto_word b true (Word text ∷ tokens) = Word (b ∷ text) ∷ tokens
onto_word b goes tokens = Word (b ∷ []) ∷ tokens

-- a space separates, a bracket stands for itself, a word is a longest run of other bytes
abbrev pub tokens_of : Text → List Token
tokens_of [] = []
tokens_of (b ∷ bs) = elim (is_space b) [
  | true ↦ tokens_of bs
  | false ↦ elim (is_opening b) [
    | true ↦ Opens ∷ tokens_of bs
    | false ↦ elim (is_closing b) [ true ↦ Closes ∷ tokens_of bs | false ↦ onto_word b (goes_on bs) (tokens_of bs) ]
  ]
]

mutual
  -- an expression is a word, or a group of expressions in brackets
  pub data Expr : Type 0 where
    Single : (text : Text) → Expr
    Group : (items : Exprs) → Expr

  -- expressions one after the other
  pub data Exprs : Type 0 where
    NoExpr : Exprs
    ThenExpr : (first : Expr) → (rest : Exprs) → Exprs

-- the expressions as a list
abbrev pub expr_list : Exprs → List Expr
expr_list NoExpr = []
expr_list (ThenExpr e es) = e ∷ expr_list es

-- what stands to the right of a place: the expressions up to the end of the group round that place, then those up to the end of the group round that one, and so on
abbrev pub Unclosed : Type 0
Unclosed = Option (List Exprs)

-- a word stands before what follows it
abbrev pub with_word : Text → List Exprs → Unclosed
with_word text [] = None
with_word text (es ∷ outer) = Some (ThenExpr (Single text) es ∷ outer)

-- an opening bracket ends the innermost group, seen from the right; there must be one round it
abbrev pub with_group : List Exprs → Unclosed
with_group (inner ∷ es ∷ outer) = Some (ThenExpr (Group inner) es ∷ outer)
with_group stack = None

-- what stands to the right of the place before a token
abbrev pub with_token : Token → Unclosed → Unclosed
with_token token None = None
with_token (Word text) (Some stack) = with_word text stack
with_token Opens (Some stack) = with_group stack
with_token Closes (Some stack) = Some (NoExpr ∷ stack)

-- what stands to the right of the place before these tokens; at the end of a line there is nothing
abbrev pub nested : List Token → Unclosed
nested [] = Some (NoExpr ∷ [])
nested (token ∷ tokens) = with_token token (nested tokens)

-- all brackets are closed
abbrev pub closed : Unclosed → Option Exprs
closed (Some (es ∷ [])) = Some es
closed stack = None

-- how deep brackets nest
abbrev mutual
  pub depth : Expr → ℕ
  depth (Single text) = 0
  depth (Group es) = suc (depths es)

  pub depths : Exprs → ℕ
  depths NoExpr = 0
  depths (ThenExpr e es) = max (depth e) (depths es)

-- brackets nest at most 256 deep
abbrev pub if_shallow : Option Exprs → Option Exprs
if_shallow None = None
if_shallow (Some es) = elim (nat_le (depths es) 256) [ true ↦ Some es | false ↦ None ]

-- the expressions of a line; none if a byte is none of a line's, brackets don't match or nest more than 256 deep
abbrev pub expressions : Text → Option Exprs
expressions line = elim (are_line_bytes line) [ true ↦ if_shallow (closed (nested (tokens_of line))) | false ↦ None ]
