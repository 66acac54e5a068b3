-- The forms of a line. T is what stands for a term: a phrase in the grammar, a tree when its names are looked up.
use Rattle.std.specs.Prelude.{ℕ, Bool, true, false, ◌||◌, not, List, [], ◌∷◌, find, Option, Some, None, bytes_eq, codes, option_map}
use Rattle.ir_laws.specs.declared.labels.Sort.{Sort}
use Rattle.ir_laws.specs.declared.labels.Sort.TheVariants.{OfType, OfRegion, OfConstant}
use Rattle.ir_laws.specs.Tree.{Text}
use Rattle.ir_laws.specs.Same.{same_sort}
use Rattle.ir_laws.specs.declared.items.ItemKind.{ItemKind}
use Rattle.ir_laws.specs.ItemKind.{item_row, item_kinds}
use Rattle.ir_laws.specs.Expression.{Expr, Single, Group, expressions, expr_list}
use Rattle.ir_laws.specs.Numeral.{name_of, number_of}
use Rattle.ir_laws.specs.Phrase.{Phrase, and_then, each_of, phrase_of}

-- what `item` declares
pub record Declaration (T : Type 0) : Type 0 where
  pub kind : ItemKind
  pub name : Text
  pub parent : Option Text
  pub own : List Sort
  pub decl : Option T
  pub clauses : List T

-- variable `number` is replaced by the term
pub record Replacement (T : Type 0) : Type 0 where
  pub number : ℕ
  pub term : T

-- a line: one constructor for each form, and one for a blank line
pub data Form (T : Type 0) : Type 0 where
  Blank : Form T
  Declare : (declaration : Declaration T) → Form T
  Let : (name : Text) → (term : T) → Form T
  Print : (term : T) → Form T
  Same : (first second : T) → Form T
  Flags : (term : T) → Form T
  Open : (term : T) → (replacements : List (Replacement T)) → Form T
  Subst : (item : Text) → (arguments : List T) → Form T
  Shift : (by : ℕ) → (term : T) → Form T
  Renumber : (by : ℕ) → (term : T) → Form T
  Anon : (term : T) → Form T
  Super : (clause trait : T) → Form T
  Elab : (clauses : List T) → Form T

-- ---- parts of a form

-- a word that is a NAME
abbrev pub name_in : Expr → Option Text
name_in (Single text) = name_of text
name_in (Group es) = None

-- a word that is a number
abbrev pub number_in : Expr → Option ℕ
number_in (Single text) = number_of text
number_in (Group es) = None

-- the members of a group
abbrev pub group_in : Expr → Option (List Expr)
group_in (Single text) = None
group_in (Group es) = Some (expr_list es)

-- a group of terms
abbrev pub terms_in : Expr → Option (List Phrase)
terms_in e = and_then (group_in e) (each_of phrase_of)

-- `-` for none
abbrev pub maybe : {A : Type 0} → (Expr → Option A) → Expr → Option (Option A)
maybe read (Single text) = elim (bytes_eq text (codes "-")) [ true ↦ Some None | false ↦ option_map Some (read (Single text)) ]
maybe read (Group es) = option_map Some (read (Group es))

-- the kind of item that is written as this word
abbrev pub item_kind_of : Text → Option ItemKind
item_kind_of text = find (λ k. bytes_eq (item_row k).text text) item_kinds

-- a word that is an item kind
abbrev pub item_kind_in : Expr → Option ItemKind
item_kind_in (Single text) = item_kind_of text
item_kind_in (Group es) = None

-- `lt`, `ty` or `ct`
abbrev pub parameter_sort : Text → Option Sort
parameter_sort text = elim (bytes_eq text (codes "lt")) [
  | true ↦ Some OfRegion
  | false ↦ elim (bytes_eq text (codes "ty")) [
    | true ↦ Some OfType
    | false ↦ elim (bytes_eq text (codes "ct")) [ true ↦ Some OfConstant | false ↦ None ]
  ]
]

-- a word that is a parameter's sort
abbrev pub parameter_in : Expr → Option Sort
parameter_in (Single text) = parameter_sort text
parameter_in (Group es) = None

-- whether a region is among these sorts
abbrev pub has_region : List Sort → Bool
has_region [] = false
has_region (s ∷ ss) = same_sort s OfRegion || has_region ss

-- no region follows a type or a constant
abbrev pub are_in_order : List Sort → Bool
are_in_order [] = true
are_in_order (s ∷ ss) = elim (same_sort s OfRegion) [ true ↦ are_in_order ss | false ↦ not (has_region ss) ]

-- the sorts, where regions come first
abbrev pub if_in_order : List Sort → Option (List Sort)
if_in_order ss = elim (are_in_order ss) [ true ↦ Some ss | false ↦ None ]

-- `(P*)`: a group of parameter sorts, regions first
abbrev pub parameters_in : Expr → Option (List Sort)
parameters_in e = and_then (and_then (group_in e) (each_of parameter_in)) if_in_order

-- a number and a term
abbrev pub replacement_of : List Expr → Option (Replacement Phrase)
replacement_of (n ∷ t ∷ []) = and_then (number_in n) (λ number. option_map (λ term. record { number = number; term = term }) (phrase_of t))
replacement_of es = None

-- a group of a number and a term
abbrev pub replacement_in : Expr → Option (Replacement Phrase)
replacement_in e = and_then (group_in e) replacement_of

-- ---- the forms, each by the word that begins it

-- a form of one term
abbrev pub one_term : (Phrase → Form Phrase) → List Expr → Option (Form Phrase)
one_term form (t ∷ []) = option_map form (phrase_of t)
one_term form es = None

-- a form of two terms
abbrev pub two_terms : (Phrase → Phrase → Form Phrase) → List Expr → Option (Form Phrase)
two_terms form (t ∷ u ∷ []) = and_then (phrase_of t) (λ p. option_map (form p) (phrase_of u))
two_terms form es = None

-- a form of a number and a term
abbrev pub number_and_term : (ℕ → Phrase → Form Phrase) → List Expr → Option (Form Phrase)
number_and_term form (n ∷ t ∷ []) = and_then (number_in n) (λ number. option_map (form number) (phrase_of t))
number_and_term form es = None

-- `let NAME TERM`
abbrev pub let_form : List Expr → Option (Form Phrase)
let_form (n ∷ t ∷ []) = and_then (name_in n) (λ name. option_map (Let name) (phrase_of t))
let_form es = None

-- `subst NAME (TERM*)`
abbrev pub subst_form : List Expr → Option (Form Phrase)
subst_form (n ∷ ts ∷ []) = and_then (name_in n) (λ name. option_map (Subst name) (terms_in ts))
subst_form es = None

-- `open TERM (N TERM)*`
abbrev pub open_form : List Expr → Option (Form Phrase)
open_form [] = None
open_form (t ∷ rs) = and_then (phrase_of t) (λ term. option_map (Open term) (each_of replacement_in rs))

-- `elab TERM*`
abbrev pub elab_form : List Expr → Option (Form Phrase)
elab_form es = option_map Elab (each_of phrase_of es)

-- `item KIND NAME PARENT (P*) DECL (TERM*)`
abbrev pub item_form : List Expr → Option (Form Phrase)
item_form (k ∷ n ∷ p ∷ ps ∷ d ∷ cs ∷ []) = and_then (item_kind_in k) (λ kind. and_then (name_in n) (λ name. and_then (maybe name_in p) (λ parent. and_then (parameters_in ps) (λ own. and_then (maybe phrase_of d) (λ decl. option_map (λ clauses. Declare (record { kind = kind; name = name; parent = parent; own = own; decl = decl; clauses = clauses })) (terms_in cs))))))
item_form es = None

-- a form: the word that begins it, and how the rest of the line is read
pub record FormRow : Type 0 where
  pub text : Text
  pub read : List Expr → Option (Form Phrase)

-- all forms of a line that holds a token, each by the word that begins it
abbrev pub all_forms : List FormRow
all_forms = record { text = codes "item"; read = item_form }
    ∷ record { text = codes "let"; read = let_form }
    ∷ record { text = codes "print"; read = one_term Print }
    ∷ record { text = codes "same"; read = two_terms Same }
    ∷ record { text = codes "flags"; read = one_term Flags }
    ∷ record { text = codes "open"; read = open_form }
    ∷ record { text = codes "subst"; read = subst_form }
    ∷ record { text = codes "shift"; read = number_and_term Shift }
    ∷ record { text = codes "renumber"; read = number_and_term Renumber }
    ∷ record { text = codes "anon"; read = one_term Anon }
    ∷ record { text = codes "super"; read = two_terms Super }
    ∷ record { text = codes "elab"; read = elab_form } ∷ []

-- The forms that the grammar knows so far: a line that begins with another word has no form
abbrev pub forms : List FormRow
forms = record { text = codes "let"; read = let_form } ∷ record { text = codes "print"; read = one_term Print } ∷ record { text = codes "same"; read = two_terms Same } ∷ record { text = codes "flags"; read = one_term Flags } ∷ []

-- the form that begins with this word, of these further expressions
abbrev pub form_begun : Text → List Expr → Option (Form Phrase)
form_begun text es = and_then (find (λ form. bytes_eq form.text text) forms) (λ form. form.read es)

-- a line without expressions is blank; every other line begins with the word of its form
abbrev pub form_of_exprs : List Expr → Option (Form Phrase)
form_of_exprs [] = Some Blank
form_of_exprs (Single text ∷ es) = form_begun text es
form_of_exprs (Group items ∷ es) = None

-- the form of a line; none where it has none
abbrev pub form_of : Text → Option (Form Phrase)
form_of line = and_then (expressions line) (λ es. form_of_exprs (expr_list es))
