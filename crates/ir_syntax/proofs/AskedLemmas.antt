-- What a line asks for, by its first words and its terms.
use Rattle.std.proofs.Common.{◌≡◌, ℕ, zero, suc, length, IfSome, IsSome, subst, Bool, true, false, List, [], ◌∷◌, find, bytes_eq, Option, Some, None, option_map, refl, sym, ap, ◌∙◌, arith}
use Rattle.std.proofs.lemmas.Grind.{common_steps}
use Rattle.std.proofs.lemmas.Bool.Decides.{nat_tests}
use Rattle.ir_laws.specs.Tree.{Text}
use Rattle.ir_laws.specs.Expression.{Expr, Exprs, Single, NoExpr, ThenExpr, Token, Word, Unclosed, with_token, nested, closed, are_line_bytes, if_shallow, expr_list, tokens_of}
use Rattle.ir_laws.specs.Form.{Form, Let, form_begun, form_of, form_of_exprs, let_form, one_term, two_terms}
use Rattle.ir_laws.specs.Numeral.{name_of}
use Rattle.ir_laws.specs.Phrase.{Phrase, and_then, cons_if, phrase_of}
use Rattle.ir_syntax.specs.Commands.{HasTerms, IsTerms, asked_form, commands, form_row, term_count, terms_of, whole}
use Rattle.ir_syntax.specs.Frames.{terms_in}
use Rattle.ir_syntax.specs.Reading.{if_goes}
use Rattle.ir_syntax.specs.Steps.{Stack, only}
use Rattle.ir_syntax.specs.declared.commands.Command.{Command}
use Rattle.ir_syntax.specs.declared.commands.Command.TheVariants as command
use Rattle.ir_syntax.specs.declared.commands.Asked.{Asked}
use Rattle.ir_syntax.specs.declared.commands.Asked.TheVariants as asked
use Rattle.ir_syntax.proofs.ExpressionLemmas.{expressions-readable}
use Rattle.ir_syntax.specs.Tokens.{token_seen}
use Rattle.ir_syntax.specs.declared.tokens.Token as token
use Rattle.ir_syntax.specs.declared.tokens.Token.TheVariants as code
use Rattle.ir_syntax.proofs.ReaderLemmas.{filled}
use Rattle.std.specs.Borrow.{Bor}

-- ---- terms

pub terms-read : (all : Bool) (o : Option (List Phrase)) (st : Stack) → option_map only o ≡ if_goes all (Some st) → IsTerms all o st
terms-read true None st e = cc
terms-read true (Some ps) st e = (ps, refl, cc)
terms-read false o st e = grind (arith, common_steps)

cons-none : (o : Option Phrase) → cons_if o None ≡ None
cons-none o = grind (arith, common_steps)

module _ (a : List Phrase → Option (Form Phrase)) where
  none : (o : Option Phrase) (ps : Option (List Phrase)) → ps ≡ None → None ≡ and_then (cons_if o ps) a
  none o ps is = sym (ap (λ ps. and_then (cons_if o ps) a) is ∙ ap (λ ps. and_then ps a) (cons-none o))

  pub one-asked : (make : Phrase → Form Phrase) → ((p : Phrase) → Some (make p) ≡ a (p ∷ [])) → (es : Exprs) → one_term make (expr_list es) ≡ and_then (terms_in 1 es) a
  one-asked make is NoExpr = refl
  one-asked make is (ThenExpr e NoExpr) = by (phrase_of e)
    where
      by : (o : Option Phrase) → option_map make o ≡ and_then (cons_if o (Some [])) a
      by o = grind (arith, common_steps)
  one-asked make is (ThenExpr e (ThenExpr f es)) = none (phrase_of e) None refl

  pub two-asked : (make : Phrase → Phrase → Form Phrase) → ((p q : Phrase) → Some (make p q) ≡ a (p ∷ q ∷ [])) → (es : Exprs) → two_terms make (expr_list es) ≡ and_then (terms_in 2 es) a
  two-asked make is NoExpr = refl
  two-asked make is (ThenExpr e NoExpr) = none (phrase_of e) None refl
  two-asked make is (ThenExpr e (ThenExpr f NoExpr)) = by (phrase_of e) (phrase_of f)
    where
      by : (o p : Option Phrase) → and_then o (λ x. option_map (make x) p) ≡ and_then (cons_if o (cons_if p (Some []))) a
      by o p = grind (arith, common_steps)
  two-asked make is (ThenExpr e (ThenExpr f (ThenExpr g es))) = none (phrase_of e) (cons_if (phrase_of f) None) (cons-none (phrase_of f))

  rows : (n : ℕ) (f : Exprs → Option (Form Phrase)) → ((es : Exprs) → f es ≡ and_then (terms_in n es) a) → (o : Option Exprs) → and_then o f ≡ and_then (and_then o (terms_in n)) a
  rows n f is None = refl
  rows n f is (Some es) = is es

  -- what the line of a command makes of its terms
  pub asked-row : (command is : Command) (n : ℕ) → command ≡ is → n ≡ term_count command → ((es : Exprs) → (form_row is).read (expr_list es) ≡ and_then (terms_in (term_count is) es) a) → (ts : List Token)
      → and_then (whole ts) (λ es. (form_row command).read (expr_list es)) ≡ and_then (terms_of n ts) a
  asked-row command is n same count read ts = ap (λ k. and_then (whole ts) (λ es. (form_row k).read (expr_list es))) same ∙ rows (term_count is) (λ es. (form_row is).read (expr_list es)) read (whole ts) ∙ ap (λ k. and_then (terms_of k ts) a) (sym (count ∙ ap term_count same))

-- ---- a first word

whole-word : (w : Text) (ts : List Token) → whole (Word w ∷ ts) ≡ option_map (ThenExpr (Single w)) (whole ts)
whole-word w ts = by (nested ts)
  where
    by : (u : Unclosed) → if_shallow (closed (with_token (Word w) u)) ≡ option_map (ThenExpr (Single w)) (if_shallow (closed u))
    by u = grind (arith, nat_tests, common_steps)

pub word-first : (w : Text) (ts : List Token) (f : Exprs → Option (Form Phrase)) → and_then (whole (Word w ∷ ts)) f ≡ and_then (whole ts) (λ es. f (ThenExpr (Single w) es))
word-first w ts f = ap (λ o. and_then o f) (whole-word w ts) ∙ by (whole ts)
  where
    by : (o : Option Exprs) → and_then (option_map (ThenExpr (Single w)) o) f ≡ and_then o (λ es. f (ThenExpr (Single w) es))
    by o = grind (arith, common_steps)

-- what a command asks that has one word before its one term
pub word-asked : (a : Asked) (command is : Command) (n : ℕ) → command ≡ is → n ≡ term_count command → term_count is ≡ 1 → (make : Phrase → Form Phrase) → ((p : Phrase) → Some (make p) ≡ asked_form a (p ∷ [])) → (text : Text) → ((es : Exprs) → (form_row is).read (Single text ∷ expr_list es) ≡ one_term make (expr_list es)) → (rest all : List Token) → all ≡ Word text ∷ rest
    → and_then (whole all) (λ es. (form_row command).read (expr_list es)) ≡ and_then (terms_of n rest) (asked_form a)
word-asked a command is n same count one make makes text read rest all begins =
    (λ i. and_then (whole (begins i)) (λ es. (form_row (same i)).read (expr_list es))) ∙ word-first text rest (λ es. (form_row is).read (expr_list es))
    ∙ rows (asked_form a) 1 (λ es. (form_row is).read (Single text ∷ expr_list es)) (λ es. read es ∙ one-asked (asked_form a) make makes es) (whole rest)
    ∙ ap (λ m. and_then (terms_of m rest) (asked_form a)) (sym (count ∙ ap term_count same ∙ one))

pub begun-row : (text : Text) (es : List Expr) → form_begun text es ≡ and_then (find (λ c. bytes_eq (form_row c).text text) commands) (λ c. (form_row c).read es)
begun-row text es = grind (arith, common_steps)

-- ---- a line

module _ (line : Text) (readable : are_line_bytes line ≡ true) where
  line-read : form_of line ≡ and_then (whole (tokens_of line)) (λ es. form_of_exprs (expr_list es))
  line-read = ap (λ o. and_then o (λ es. form_of_exprs (expr_list es))) (expressions-readable line readable)

  -- a line that begins with a command
  pub line-command : (word : Text) (rest : List Token) (command : Command) → tokens_of line ≡ Word word ∷ rest → Some command ≡ find (λ c. bytes_eq (form_row c).text word) commands → form_of line ≡ and_then (whole rest) (λ es. (form_row command).read (expr_list es))
  line-command word rest command begins found =
      line-read ∙ ap (λ ts. and_then (whole ts) (λ es. form_of_exprs (expr_list es))) begins ∙ word-first word rest (λ es. form_of_exprs (expr_list es))
      ∙ (λ i. and_then (whole rest) (λ es. (begun-row word (expr_list es) ∙ ap (λ o. and_then o (λ c. (form_row c).read (expr_list es))) (sym found)) i))

  -- a line that begins with another word
  pub line-unknown : (word : Text) (rest : List Token) → tokens_of line ≡ Word word ∷ rest → None ≡ find (λ c. bytes_eq (form_row c).text word) commands → form_of line ≡ None
  line-unknown word rest begins found =
      line-read ∙ ap (λ ts. and_then (whole ts) (λ es. form_of_exprs (expr_list es))) begins ∙ word-first word rest (λ es. form_of_exprs (expr_list es))
      ∙ (λ i. and_then (whole rest) (λ es. (begun-row word (expr_list es) ∙ ap (λ o. and_then o (λ c. (form_row c).read (expr_list es))) (sym found)) i)) ∙ by (whole rest)
    where
      by : (o : Option Exprs) → and_then {B = Form Phrase} o (λ es. None) ≡ None
      by None = refl
      by (Some es) = refl

  -- a line that begins with a bracket
  pub line-bracket : (t : token.Token) (rest : List Token) → tokens_of line ≡ token_seen t ∷ rest → ((w : Bor Text) → t ≡ code.Word w → ⊥) → form_of line ≡ None
  line-bracket t rest begins other = line-read ∙ ap (λ ts. and_then (whole ts) (λ es. form_of_exprs (expr_list es))) begins ∙ by t other (nested rest) (filled rest)
    where
      by : (t : token.Token) → ((w : Bor Text) → t ≡ code.Word w → ⊥) → (u : Unclosed) → (u ≡ Some [] → ⊥) → and_then (if_shallow (closed (with_token (token_seen t) u))) (λ es. form_of_exprs (expr_list es)) ≡ None
      by (code.Word w) other u some = absurd (other w refl)
      by code.Opens other None some = refl
      by code.Closes other None some = refl
      by t other (Some []) some = absurd (some refl)
      by code.Opens other (Some (es ∷ [])) some = refl
      by code.Opens other (Some (es ∷ next ∷ [])) some = grind (arith, nat_tests, common_steps)
      by code.Opens other (Some (es ∷ next ∷ more ∷ ess)) some = refl
      by code.Closes other (Some (es ∷ ess)) some = refl

-- so many terms are as many phrases
pub terms-count : (n : ℕ) (ts : List Token) → IfSome (terms_of n ts) (λ ps. length ps ≡ n)
terms-count n ts = by (whole ts)
  where
    each : (n : ℕ) (es : Exprs) → IfSome (terms_in n es) (λ ps. length ps ≡ n)
    each zero NoExpr = refl
    each zero (ThenExpr e es) = tt
    each (suc n) NoExpr = tt
    each (suc n) (ThenExpr e es) = one (phrase_of e) (terms_in n es) (each n es)
      where
        one : (o : Option Phrase) (ps : Option (List Phrase)) → IfSome ps (λ ps. length ps ≡ n) → IfSome (cons_if o ps) (λ ps. length ps ≡ suc n)
        one None ps h = tt
        one (Some p) None h = tt
        one (Some p) (Some ps) h = ap suc h

    by : (o : Option Exprs) → IfSome (and_then o (terms_in n)) (λ ps. length ps ≡ n)
    by None = tt
    by (Some es) = each n es

-- what is read of a line of this form, and the stacks that its steps leave
abbrev IsAsked : Option (Form Phrase) → Option Asked → Stack → Type 0
IsAsked form None st = form ≡ None
IsAsked form (Some a) st = HasTerms form a st

-- what the terms of a line say of its form
pub line-terms : (f : Option (Form Phrase)) (a : Asked) (n : ℕ) (ts : List Token) (all goes : Bool) (st : Stack) → f ≡ and_then (terms_of n ts) (asked_form a) → ((ps : List Phrase) → length ps ≡ n → IsSome (asked_form a ps)) → all ≡ goes → IsTerms all (terms_of n ts) st
    → IsAsked f (elim goes [ true ↦ Some a | false ↦ None ]) st
line-terms f a n ts all goes st is some so read =
    subst (λ (f : Option (Form Phrase)). IsAsked f (elim goes as (λ v. Option Asked) [ true ↦ Some a | false ↦ None ]) st) (sym is) (by goes (terms_of n ts) (terms-count n ts) (subst (λ (b : Bool). IsTerms b (terms_of n ts) st) so read))
  where
    by : (goes : Bool) (o : Option (List Phrase)) → IfSome o (λ ps. length ps ≡ n) → IsTerms goes o st → IsAsked (and_then o (asked_form a)) (elim goes as (λ v. Option Asked) [ true ↦ Some a | false ↦ None ]) st
    by false o count e = ap (λ o. and_then o (asked_form a)) e
    by true None count e = let none : None ≡ Some e.0 = e.1 in absurd (cc)
    by true (Some ps) count e = let same : Some ps ≡ Some e.0 = e.1 in let these : e.0 ≡ ps = cc in record { terms = ps; built_is = e.2 ∙ ap only these; form_is = refl; some = some ps count }
