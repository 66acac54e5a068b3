-- Trees with binders. One type holds terms, types and lists of them.
use Rattle.std.specs.Prelude.{ℕ, List, [], ◌∷◌, Option}
use Rattle.ir_core.specs.declared.ids.SolverDefId.{SolverDefId}
use Rattle.ir_laws.specs.declared.words.Word.{Word}
use Rattle.ir_laws.specs.declared.labels.Sort.{Sort}
use Rattle.ir_laws.specs.declared.labels.Keyword.{Keyword}

-- bytes
abbrev pub Text : Type 0
Text = List ℕ

-- A variable's kind is a sort with a name, with `env` or with nothing. A name is an item's: N is the type of its id, or of the text that a line has
pub data KindName (N : Type 0) : Type 0 where
  Nameless : KindName N
  Environment : KindName N
  Called : (name : N) → KindName N

-- a sort, and a name or none
pub record Kind (N : Type 0) : Type 0 where
  pub sort : Sort
  pub name : KindName N

-- a mapped address of a value, and its bytes
pub record Mapped : Type 0 where
  pub address : ℕ
  pub bytes : Text

-- a part of a label: a number, an item, a keyword, a variable kind, or the bytes of a value
pub data Field (N : Type 0) : Type 0 where
  Number : (number : ℕ) → Field N
  Item : (name : N) → Field N
  Chosen : (word : Keyword) → Field N
  OfKind : (kind : Kind N) → Field N
  Memory : (bytes : Text) → (mapped : List Mapped) → Field N

-- the word of a table row, and the fields in the row's order
pub record Label (N : Type 0) : Type 0 where
  pub word : Word
  pub fields : List (Field N)

-- a parameter of an item: type, region or constant number `index` of the parameters that reach there
pub record Parameter : Type 0 where
  pub sort : Sort
  pub parent : SolverDefId
  pub local : ℕ
  pub index : ℕ

mutual
  -- A tree whose bound variables have a V, an index or a place. Under a `bind` all kids stand, also under an empty one
  pub data Tree (V : Type 0) : Type 0 where
    Var : (at : V) → (number : ℕ) → (kind : Kind SolverDefId) → Tree V
    Param : (parameter : Parameter) → Tree V
    Node : (label : Label SolverDefId) → (bind : Option (List (Kind SolverDefId))) → (kids : Trees V) → Tree V

  -- trees one after the other
  pub data Trees (V : Type 0) : Type 0 where
    End : Trees V
    And : (first : Tree V) → (rest : Trees V) → Trees V

-- an index counts the binders from the variable outwards
abbrev pub Term : Type 0
Term = Tree ℕ

-- terms one after the other
abbrev pub Terms : Type 0
Terms = Trees ℕ

-- the terms of a list
abbrev pub terms_of : List Term → Terms
terms_of [] = End
terms_of (t ∷ ts) = And t (terms_of ts)

-- the terms as a list
abbrev pub term_list : Terms → List Term
term_list End = []
term_list (And t ts) = t ∷ term_list ts
