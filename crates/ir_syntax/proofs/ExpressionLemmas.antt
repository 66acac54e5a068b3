-- How a line is read from its right.
use Rattle.std.proofs.Common.{◌≡◌, ℕ, ◌+◌, ◌-◌, ◌<◌, ◌≤◌, if◌then◌else◌, suc, Bool, true, false, ◌&&◌, ◌||◌, not, nat_le, length, get_or, take, drop, List, [], ◌∷◌, ◌++◌, map, reverse, Some, None, Vec, Global, refl, sym, ap, ◌∙◌, subst, arith}
use Rattle.std.specs.List.{slice_range}
use Rattle.std.proofs.lemmas.List.{reverse-append, drop_more, take-append-drop}
use Rattle.std.proofs.lemmas.List.Folds.{drop_split}
use Rattle.std.proofs.lemmas.Bool.Decides.{nat_tests}
use mathlib.Core.Former.{Count}
use Rattle.ir_laws.specs.Tree.{Text}
use Rattle.ir_laws.specs.Expression.{Token, Opens, Closes, Word, Exprs, Single, Group, ThenExpr, Unclosed, are_line_bytes, is_space, is_opening, is_closing, ends_word, goes_on, onto_word, tokens_of, with_group, with_token, nested, closed, depths, if_shallow, expressions}
use Rattle.ir_syntax.specs.declared.expression.Expr as code
use Rattle.ir_syntax.specs.declared.expression.Exprs as list
use Rattle.ir_syntax.specs.Views.{expr_of, exprs_of, exprs_in, items_of}
use Rattle.ir_syntax.specs.Nesting.{are_word_bytes, group_in, nesting, with_bytes, with_separator, IsLost, Leaves}

row_of : code.Expr → (n : Count) × code.Row_of-Expr n
row_of (code.Group' _ row) = (_, row)
row_of _ = (_, code.end_of-Expr)

row_exprs : (n : _) (row : code.Row_of-Expr n) → exprs_of row ≡ exprs_in (code.items-the_row-Expr n row)
row_exprs n code.end_of-Expr = refl
row_exprs n (code.more_of-Expr e es) = ap (ThenExpr (expr_of e)) (row_exprs _ es)

-- a group is seen as the list of its expressions
pub expr_of-Group : (es : list.Exprs) → expr_of (code.Group es) ≡ Group (exprs_in (items_of es))
unfolding row_of
expr_of-Group es =
    let row = row_of (code.Group es) in
    ap Group (row_exprs row.0 row.1 ∙ ap exprs_in (code.items_hidden-the_row-Expr-0 es.items))

-- one more byte to the left of a word
word_more : (line : Text) (start n : ℕ) → start < length line → ends_word (get_or line start 0) ≡ false → are_word_bytes (take n (drop (start + 1) line)) ≡ true → are_word_bytes (take (suc n) (drop start line)) ≡ true
word_more line start n within word rest =
    rw (drop_more line start 0 within) (ap (λ b. not b && are_word_bytes (take n (drop (start + 1) line))) word ∙ rest)

pub word_longer : (line : Text) (start end : ℕ) → 0 < start → start ≤ end → end ≤ length line → ends_word (get_or line (start - 1) 0) ≡ false → are_word_bytes (slice_range line start end) ≡ true → are_word_bytes (slice_range line (start - 1) end) ≡ true
word_longer line start end some below within byte rest =
    let first : start - 1 < length line = omega arith in
    let after : start ≡ start - 1 + 1 = omega arith in
    let more : end - (start - 1) ≡ suc (end - start) = omega arith in
    ap (λ n. are_word_bytes (take n (drop (start - 1) line))) more
    ∙ word_more line (start - 1) (end - start) first byte (ap (λ at. are_word_bytes (take (end - start) (drop at line))) (sym after) ∙ rest)

onto_word-append : (b : ℕ) (goes : Bool) (t : Token) (ts us : List Token) → onto_word b goes ((t ∷ ts) ++ us) ≡ onto_word b goes (t ∷ ts) ++ us
onto_word-append b true (Word text) ts us = refl
onto_word-append b true Opens ts us = refl
onto_word-append b true Closes ts us = refl
onto_word-append b false t ts us = refl

-- a byte of a word begins a token
onto_word-some : (b : ℕ) (goes : Bool) (ts : List Token) → (t : Token) × ((us : List Token) × (onto_word b goes ts ≡ t ∷ us))
onto_word-some b true [] = (Word (b ∷ []), ([], refl))
onto_word-some b true (Word text ∷ ts) = (Word (b ∷ text), (ts, refl))
onto_word-some b true (Opens ∷ ts) = (Word (b ∷ []), (Opens ∷ ts, refl))
onto_word-some b true (Closes ∷ ts) = (Word (b ∷ []), (Closes ∷ ts, refl))
onto_word-some b false ts = (Word (b ∷ []), (ts, refl))

-- a first byte's token stands before those of the rest, and leaves what follows alone
onto_tokens : Bool → Bool → Bool → ℕ → Bool → List Token → List Token
onto_tokens true opening closing b goes ts = ts
onto_tokens false true closing b goes ts = Opens ∷ ts
onto_tokens false false true b goes ts = Closes ∷ ts
onto_tokens false false false b goes ts = onto_word b goes ts

tokens_of-onto : (b : ℕ) (bs : Text) → tokens_of (b ∷ bs) ≡ onto_tokens (is_space b) (is_opening b) (is_closing b) b (goes_on bs) (tokens_of bs)
unfolding onto_tokens
tokens_of-onto b bs =
    let P : Bool → Bool → Bool → Type 0 = λ space opening closing.
    (elim space [ true ↦ tokens_of bs | false ↦ elim opening [ true ↦ Opens ∷ tokens_of bs | false ↦ elim closing [ true ↦ Closes ∷ tokens_of bs | false ↦ onto_word b (goes_on bs) (tokens_of bs) ] ] ])
    ≡ onto_tokens space opening closing b (goes_on bs) (tokens_of bs) in
    elim (is_space b) as (λ v. P v (is_opening b) (is_closing b)) [
      | true ↦ refl
      | false ↦ elim (is_opening b) as (λ v. P false v (is_closing b)) [ true ↦ refl | false ↦ elim (is_closing b) as (λ v. P false false v) [ true ↦ refl | false ↦ refl ] ]
    ]

onto_tokens-append : (space opening closing : Bool) (b : ℕ) (goes alone : Bool) (ts us : List Token) → onto_word b goes (ts ++ us) ≡ onto_word b alone ts ++ us → onto_tokens space opening closing b goes (ts ++ us) ≡ onto_tokens space opening closing b alone ts ++ us
unfolding onto_tokens
onto_tokens-append true opening closing b goes alone ts us e = refl
onto_tokens-append false true closing b goes alone ts us e = refl
onto_tokens-append false false true b goes alone ts us e = refl
onto_tokens-append false false false b goes alone ts us e = e

onto_tokens-word : (space opening closing : Bool) (b : ℕ) (goes : Bool) (ts : List Token) → (space || opening || closing) ≡ false → onto_tokens space opening closing b goes ts ≡ onto_word b goes ts
unfolding onto_tokens
onto_tokens-word true true true b goes ts e = cc
onto_tokens-word true true false b goes ts e = cc
onto_tokens-word true false true b goes ts e = cc
onto_tokens-word true false false b goes ts e = cc
onto_tokens-word false true true b goes ts e = cc
onto_tokens-word false true false b goes ts e = cc
onto_tokens-word false false true b goes ts e = cc
onto_tokens-word false false false b goes ts e = refl

IsSomeToken : List Token → Type 0
IsSomeToken ts = (t : Token) × ((us : List Token) × (ts ≡ t ∷ us))

tokens_of-word_byte : (b : ℕ) (bs : Text) → ends_word b ≡ false → tokens_of (b ∷ bs) ≡ onto_word b (goes_on bs) (tokens_of bs)
tokens_of-word_byte b bs e = tokens_of-onto b bs ∙ onto_tokens-word (is_space b) (is_opening b) (is_closing b) b (goes_on bs) (tokens_of bs) e

tokens_of-some : (b : ℕ) (bs : Text) → ends_word b ≡ false → IsSomeToken (tokens_of (b ∷ bs))
unfolding IsSomeToken
tokens_of-some b bs e =
    let some = onto_word-some b (goes_on bs) (tokens_of bs) in
    (some.0, (some.1.0, tokens_of-word_byte b bs e ∙ some.1.1))

onto_word-append_if : (b : ℕ) (ends : Bool) (ts us : List Token) → (ends ≡ false → IsSomeToken ts) → onto_word b (not ends) (ts ++ us) ≡ onto_word b (not ends) ts ++ us
unfolding IsSomeToken
onto_word-append_if b true ts us some = refl
onto_word-append_if b false ts us some =
    let w = some refl in
    let P : List Token → Type 0 = λ ts. onto_word b true (ts ++ us) ≡ onto_word b true ts ++ us in
    subst P (sym w.1.1) (onto_word-append b true w.0 w.1.0 us)

word_before : (b : ℕ) (bs rest : Text) → goes_on rest ≡ false → onto_word b (goes_on (bs ++ rest)) (tokens_of bs ++ tokens_of rest) ≡ onto_word b (goes_on bs) (tokens_of bs) ++ tokens_of rest
word_before b [] rest stop = ap (λ goes. onto_word b goes (tokens_of rest)) stop
word_before b (c ∷ cs) rest stop = onto_word-append_if b (ends_word c) (tokens_of (c ∷ cs)) (tokens_of rest) (tokens_of-some c cs)

-- where no word goes on into the rest, the tokens of both stand one behind the other
pub tokens_of-append : (bs rest : Text) → goes_on rest ≡ false → tokens_of (bs ++ rest) ≡ tokens_of bs ++ tokens_of rest
tokens_of-append [] rest stop = refl
tokens_of-append (b ∷ bs) rest stop =
    tokens_of-onto b (bs ++ rest)
    ∙ ap (onto_tokens (is_space b) (is_opening b) (is_closing b) b (goes_on (bs ++ rest))) (tokens_of-append bs rest stop)
    ∙ onto_tokens-append (is_space b) (is_opening b) (is_closing b) b (goes_on (bs ++ rest)) (goes_on bs) (tokens_of bs) (tokens_of rest) (word_before b bs rest stop)
    ∙ ap (λ ts. ts ++ tokens_of rest) (sym (tokens_of-onto b bs))

not_and : (ends rest : Bool) → (not ends && rest) ≡ true → (ends ≡ false) × (rest ≡ true)
not_and true rest e = cc
not_and false rest e = (refl, e)

pub word_byte : (b : ℕ) (bs : Text) → are_word_bytes (b ∷ bs) ≡ true → (ends_word b ≡ false) × (are_word_bytes bs ≡ true)
word_byte b bs word = not_and (ends_word b) (are_word_bytes bs) word

-- a word's bytes are one token
pub tokens_of-word : (b : ℕ) (bs : Text) → are_word_bytes (b ∷ bs) ≡ true → tokens_of (b ∷ bs) ≡ Word (b ∷ bs) ∷ []
tokens_of-word b [] word = tokens_of-word_byte b [] (word_byte b [] word).0
tokens_of-word b (c ∷ cs) word =
    let parts = word_byte b (c ∷ cs) word in
    let rest = parts.1 in
    tokens_of-word_byte b (c ∷ cs) parts.0
    ∙ ap (λ ends. onto_word b (not ends) (tokens_of (c ∷ cs))) (word_byte c cs rest).0
    ∙ ap (onto_word b true) (tokens_of-word c cs rest)

-- what is lost stays lost, whatever stands to the left of it
IsLost-token : (t : Token) (rest : Unclosed) → IsLost rest → IsLost (with_token t rest)
IsLost-token t None lost = tt
IsLost-token (Word text) (Some []) lost = tt
IsLost-token (Word text) (Some (es ∷ outer)) lost = omega arith
IsLost-token Opens (Some []) lost = tt
IsLost-token Opens (Some (inner ∷ [])) lost = tt
IsLost-token Opens (Some (inner ∷ es ∷ outer)) lost = omega arith
IsLost-token Closes (Some stack) lost = omega arith

IsLost-append : (ts us : List Token) → IsLost (nested us) → IsLost (nested (ts ++ us))
IsLost-append [] us lost = lost
IsLost-append (t ∷ ts) us lost = IsLost-token t (nested (ts ++ us)) (IsLost-append ts us lost)

-- what is lost has no expressions
no_expressions-lost : (rest : Unclosed) → IsLost rest → if_shallow (closed rest) ≡ None
no_expressions-lost None lost = refl
no_expressions-lost (Some []) lost = refl
no_expressions-lost (Some (es ∷ [])) lost =
    let deep : nat_le (depths es) 256 ≡ false = grind (arith, nat_tests) in
    ap (λ shallow. elim shallow [ true ↦ Some es | false ↦ None ]) deep
no_expressions-lost (Some (es ∷ around ∷ outer)) lost = refl

group-leaves : (inner around : Exprs) (outer : List Exprs) → nesting (inner ∷ around ∷ outer) ≤ 256 → Leaves true (with_group (inner ∷ around ∷ outer)) (ThenExpr (Group inner) around ∷ outer)
group-leaves inner around outer shallow = (refl, omega arith)

-- an opening bracket makes the innermost group the first expression of the group round it
pub end_group-leaves : (inner new : List code.Expr) (around : Vec code.Expr Global) (group : list.Exprs) (before after : List (Vec code.Expr Global)) → before ≡ after ++ around ∷ [] → items_of group ≡ reverse inner → new ≡ around.items ++ code.Group group ∷ [] → nesting (group_in inner ∷ map (λ es. group_in es.items) (reverse before)) ≤ 256 → Leaves true (with_group (group_in inner ∷ map (λ es. group_in es.items) (reverse before))) (group_in new ∷ map (λ es. group_in es.items) (reverse after))
end_group-leaves inner new around group before after split whole pushed shallow =
    let stack : List (Vec code.Expr Global) → List Exprs = λ outer. map (λ es. group_in es.items) outer in
    let was : reverse before ≡ around ∷ reverse after = ap reverse split ∙ reverse-append after (around ∷ []) in
    let is : group_in new ≡ ThenExpr (Group (group_in inner)) (group_in around.items) =
    ap group_in pushed ∙ ap exprs_in (reverse-append around.items (code.Group group ∷ []))
    ∙ ap (λ e. ThenExpr e (group_in around.items)) (expr_of-Group group ∙ ap (λ es. Group (exprs_in es)) whole) in
    let From : List (Vec code.Expr Global) → Exprs → Type 0 = λ outer top. nesting (group_in inner ∷ stack outer) ≤ 256 → Leaves true (with_group (group_in inner ∷ stack outer)) (top ∷ stack (reverse after)) in
    subst (λ (top : Exprs). From (reverse before) top) (sym is)
    (subst (λ (outer : List (Vec code.Expr Global)). From outer (ThenExpr (Group (group_in inner)) (group_in around.items))) (sym was)
    (group-leaves (group_in inner) (group_in around.items) (stack (reverse after)))) shallow

-- the expressions from a place on are read, and the byte there belongs to no word
pub record IsReadFrom (line : Text) (at : ℕ) (stack : List Exprs) : Type 0 where
  pub within : at ≤ length line
  pub read : nested (tokens_of (drop at line)) ≡ Some stack
  pub stops : goes_on (drop at line) ≡ false
  pub shallow : nesting stack ≤ 256

-- the same at a place where a word may start
pub record IsReadFromWord (line : Text) (at : ℕ) (stack : List Exprs) : Type 0 where
  pub read : nested (tokens_of (drop at line)) ≡ Some stack
  pub shallow : nesting stack ≤ 256

nesting-with_bytes : (text : Text) (old new : List Exprs) → with_bytes text old ≡ Some new → nesting old ≤ 256 → nesting new ≤ 256
nesting-with_bytes [] old new e shallow =
    let is : old ≡ new = cc in
    subst (λ (stack : List Exprs). nesting stack ≤ 256) is shallow
nesting-with_bytes (b ∷ bs) [] new e shallow = cc
nesting-with_bytes (b ∷ bs) (es ∷ outer) new e shallow =
    let is : ThenExpr (Single (b ∷ bs)) es ∷ outer ≡ new = cc in
    subst (λ (stack : List Exprs). nesting stack ≤ 256) is (omega arith)

nested-word : (word rest : Text) (old : List Exprs) → are_word_bytes word ≡ true → goes_on rest ≡ false → nested (tokens_of rest) ≡ Some old → nested (tokens_of (word ++ rest)) ≡ with_bytes word old
nested-word [] rest old word stop read = read
nested-word (b ∷ bs) rest old word stop read =
    ap nested (tokens_of-append (b ∷ bs) rest stop) ∙ ap (λ ts. nested (ts ++ tokens_of rest)) (tokens_of-word b bs word)
    ∙ ap (with_token (Word (b ∷ bs))) read

-- a word is read, or there is none
pub IsReadFromWord-bytes : (line : Text) (start end : ℕ) (old new : List Exprs) → IsReadFrom line end old → start ≤ end → are_word_bytes (slice_range line start end) ≡ true → with_bytes (slice_range line start end) old ≡ Some new → IsReadFromWord line start new
IsReadFromWord-bytes line start end old new before within word put = record {
  read =
      ap (λ rest. nested (tokens_of rest)) (drop_split line start end within)
      ∙ nested-word (slice_range line start end) (drop end line) old word before.stops before.read ∙ put;
  shallow = nesting-with_bytes (slice_range line start end) old new put before.shallow;
}

nested-onto : (space opening closing : Bool) (b : ℕ) (goes : Bool) (ts : List Token) → (space || opening || closing) ≡ true → nested (onto_tokens space opening closing b goes ts) ≡ (if space then nested ts else (if opening then with_token Opens (nested ts) else with_token Closes (nested ts)))
unfolding onto_tokens
nested-onto true opening closing b goes ts e = refl
nested-onto false true closing b goes ts e = refl
nested-onto false false true b goes ts e = refl
nested-onto false false false b goes ts e = cc

nested-separator : (b : ℕ) (rest : Text) → ends_word b ≡ true → nested (tokens_of (b ∷ rest)) ≡ with_separator b (nested (tokens_of rest))
nested-separator b rest ends =
    ap nested (tokens_of-onto b rest) ∙ nested-onto (is_space b) (is_opening b) (is_closing b) b (goes_on rest) (tokens_of rest) ends

-- what a byte that ends a word makes of what is read
pub record IsSeparated (line : Text) (at : ℕ) (rest : Unclosed) : Type 0 where
  pub read : nested (tokens_of (drop at line)) ≡ rest
  pub stops : goes_on (drop at line) ≡ false

pub IsSeparated-byte : (line : Text) (start at b : ℕ) (stack : List Exprs) → IsReadFromWord line start stack → at + 1 ≡ start → at < length line → b ≡ get_or line at 0 → ends_word b ≡ true → IsSeparated line at (with_separator b (Some stack))
IsSeparated-byte line start at b stack word here within byte ends =
    let first : drop at line ≡ b ∷ drop start line =
    drop_more line at 0 within ∙ ap (λ next. next ∷ drop (at + 1) line) (sym byte) ∙ ap (λ from. b ∷ drop from line) here in
    record {
      read = ap (λ rest. nested (tokens_of rest)) first ∙ nested-separator b (drop start line) ends ∙ ap (with_separator b) word.read;
      stops = ap goes_on first ∙ ap not ends;
    }

pub IsReadFrom-separator : (line : Text) (at : ℕ) (rest : Unclosed) (stack : List Exprs) (goes : Bool) → IsSeparated line at rest → at ≤ length line → goes ≡ true → Leaves goes rest stack → IsReadFrom line at stack
IsReadFrom-separator line at rest stack goes separated within on leaves =
    let open_there = subst (λ (b : Bool). Leaves b rest stack) on leaves in
    record { within = within; read = separated.read ∙ open_there.0; stops = separated.stops; shallow = open_there.1 }

pub expressions-readable : (line : Text) → are_line_bytes line ≡ true → expressions line ≡ if_shallow (closed (nested (tokens_of line)))
expressions-readable line readable = ap (λ b. elim b [ true ↦ if_shallow (closed (nested (tokens_of line))) | false ↦ None ]) readable

-- what stands on the right is lost
pub expressions-lost : (line : Text) (at : ℕ) (rest : Unclosed) (stack : List Exprs) (goes : Bool) → are_line_bytes line ≡ true → IsSeparated line at rest → goes ≡ false → Leaves goes rest stack → expressions line ≡ None
expressions-lost line at rest stack goes readable separated off leaves =
    let lost = subst (λ (b : Bool). Leaves b rest stack) off leaves in
    let parts : tokens_of line ≡ tokens_of (take at line) ++ tokens_of (drop at line) =
    ap tokens_of (sym (take-append-drop at line)) ∙ tokens_of-append (take at line) (drop at line) separated.stops in
    expressions-readable line readable ∙ ap (λ ts. if_shallow (closed (nested ts))) parts
    ∙ no_expressions-lost _ (IsLost-append (tokens_of (take at line)) (tokens_of (drop at line)) (subst (λ (u : Unclosed). IsLost u) (sym separated.read) lost))

-- the whole line is read
pub expressions-read : (line : Text) (start : ℕ) (stack : List Exprs) → are_line_bytes line ≡ true → IsReadFromWord line start stack → start ≡ 0 → expressions line ≡ if_shallow (closed (Some stack))
expressions-read line start stack readable word here =
    expressions-readable line readable ∙ ap (λ at. if_shallow (closed (nested (tokens_of (drop at line))))) (sym here) ∙ ap (λ u. if_shallow (closed u)) word.read
