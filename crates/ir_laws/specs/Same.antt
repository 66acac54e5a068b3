-- Whether two trees are the same.
use Rattle.std.specs.Prelude.{Bool, true, false, ◌&&◌, List, [], ◌∷◌, Option, Some, None, nat_eq, bytes_eq}
use denote.Enum.Bare.{sameb}
use Rattle.ir_core.specs.declared.ids.SolverDefId.{SolverDefId}
use Rattle.ir_laws.specs.Id.{same_id}
use Rattle.ir_laws.specs.Keyword.{same_keyword}
use Rattle.ir_laws.specs.Word.{same_word}
use Rattle.ir_laws.specs.contracts.labels.Sort.{the_type}
use Rattle.ir_laws.specs.declared.labels.Sort.{Sort}
use Rattle.ir_laws.specs.Tree.{KindName, Nameless, Environment, Called, Kind, Mapped, Field, Number, Item, Chosen, OfKind, Memory, Label, Parameter, Var, Param, Node, End, And, Term, Terms}

-- whether two sorts are the same
abbrev pub same_sort : Sort → Sort → Bool
same_sort = sameb the_type

-- lists of one length, whose members are the same one by one
abbrev pub same_list : {A : Type 0} → (A → A → Bool) → List A → List A → Bool
same_list same [] [] = true
same_list same (a ∷ as') (b ∷ bs) = same a b && same_list same as' bs
same_list same as' bs = false

-- without name, `env`, or the same id
abbrev pub same_kind_name : KindName SolverDefId → KindName SolverDefId → Bool
same_kind_name Nameless Nameless = true
same_kind_name Environment Environment = true
same_kind_name (Called a) (Called b) = same_id a b
same_kind_name a b = false

-- the same sort and name
abbrev pub same_kind : Kind SolverDefId → Kind SolverDefId → Bool
same_kind a b = same_sort a.sort b.sort && same_kind_name a.name b.name

-- the same address and bytes
abbrev pub same_mapped : Mapped → Mapped → Bool
same_mapped a b = nat_eq a.address b.address && bytes_eq a.bytes b.bytes

-- fields of one form with the same content
abbrev pub same_field : Field SolverDefId → Field SolverDefId → Bool
same_field (Number a) (Number b) = nat_eq a b
same_field (Item a) (Item b) = same_id a b
same_field (Chosen a) (Chosen b) = same_keyword a b
same_field (OfKind a) (OfKind b) = same_kind a b
same_field (Memory a as') (Memory b bs) = bytes_eq a b && same_list same_mapped as' bs
same_field a b = false

-- the same word and fields
abbrev pub same_label : Label SolverDefId → Label SolverDefId → Bool
same_label a b = elim (same_word a.word b.word) [ true ↦ same_list same_field a.fields b.fields | false ↦ false ]

-- none, or the same kinds in order
abbrev pub same_bind : Option (List (Kind SolverDefId)) → Option (List (Kind SolverDefId)) → Bool
same_bind None None = true
same_bind (Some a) (Some b) = same_list same_kind a b
same_bind a b = false

-- the same sort, parent, local id and index
abbrev pub same_parameter : Parameter → Parameter → Bool
same_parameter a b = same_sort a.sort b.sort && same_id a.parent b.parent && nat_eq a.local b.local && nat_eq a.index b.index

-- two terms are the same where labels, variable lists and kids are, and for variables index, number and kind
abbrev mutual
  pub same_term : Term → Term → Bool
  same_term (Var i n k) (Var j m l) = nat_eq i j && nat_eq n m && same_kind k l
  same_term (Param p) (Param q) = same_parameter p q
  same_term (Node l b ts) (Node m c us) = elim (same_label l m && same_bind b c) [ true ↦ same_terms ts us | false ↦ false ]
  same_term t u = false

  pub same_terms : Terms → Terms → Bool
  same_terms End End = true
  same_terms (And t ts) (And u us) = elim (same_term t u) [ true ↦ same_terms ts us | false ↦ false ]
  same_terms ts us = false
