-- What the code sees as tokens.
use Rattle.std.specs.Prelude.{◌≡◌, [], ◌∷◌, Option, Some, None}
use Rattle.std.specs.Borrow.{Bor}
use Rattle.ir_laws.specs.Tree.{Text}
use Rattle.ir_laws.specs.Expression.{Token, Opens, Closes, Word, tokens_of}
use Rattle.ir_syntax.specs.declared.tokens.Token.TheVariants as code
use Rattle.ir_syntax.specs.declared.tokens.Token as the

abbrev pub token_seen : the.Token → Token
token_seen code.Opens = Opens
token_seen code.Closes = Closes
token_seen (code.Word text) = Word text.now

-- the first token of a text, before those of what stands behind it
abbrev pub IsFirst : Text → Option (the.Token × Bor Text) → Type 0
IsFirst text None = tokens_of text ≡ []
IsFirst text (Some first) = tokens_of text ≡ token_seen first.0 ∷ tokens_of first.1.now
