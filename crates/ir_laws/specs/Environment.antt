-- What the names of the earlier lines mean, and the tree of a phrase.
use Rattle.std.specs.Prelude.{Bool, true, false, ◌||◌, List, [], ◌∷◌, ◌++◌, filter, find, length, Option, Some, None, bytes_eq, option_map, codes}
use Rattle.ir_core.specs.declared.ids.SolverDefId.{SolverDefId}
use Rattle.ir_laws.specs.declared.words.Word.TheVariants.{BoundVariable, TypeParameter, RegionParameter, ConstantParameter}
use Rattle.ir_laws.specs.Id.{same_id, id_of_kind}
use Rattle.ir_laws.specs.Word.{same_word}
use Rattle.ir_laws.specs.declared.labels.Sort.{Sort}
use Rattle.ir_laws.specs.declared.labels.Sort.TheVariants.{OfType, OfRegion, OfConstant}
use Rattle.ir_laws.specs.Tree.{Text, Nameless, Environment as EnvName, Called, Kind, Field, Number, Item, Chosen, OfKind, Memory, Label, Var, Param, Node, End, And, Term, Terms}
use Rattle.ir_laws.specs.declared.items.ItemKind.{ItemKind}
use Rattle.ir_laws.specs.ItemKind.{same_item_kind, is_kind_among, item_row, Counting, Own, SelfAndOwn, ParentAndOwn, NoArguments, OfParent}
use Rattle.ir_laws.specs.Phrase.{Phrase, Phrases, Name, Labelled, NoPhrase, ThenPhrase, and_then, each_of}
use Rattle.ir_laws.specs.Form.{Declaration, Replacement, Form, Blank, Declare, Let, Print, Same, Flags, Open, Subst, Shift, Renumber, Anon, Super, Elab}

-- a declared item; `parameters` are the sorts that its argument list has
pub record ItemData : Type 0 where
  pub id : SolverDefId
  pub name : Text
  pub kind : ItemKind
  pub parent : Option SolverDefId
  pub parameters : List Sort
  pub decl : Option Term
  pub clauses : List Term

-- a term that `let` declared
pub record NamedTerm : Type 0 where
  pub name : Text
  pub term : Term

-- the items in the order in which they were declared, and the terms
pub record Environment : Type 0 where
  pub items : List ItemData
  pub terms : List NamedTerm

-- the id of the item of this name
abbrev pub id_of : Environment → Text → Option SolverDefId
id_of env name = option_map (λ i. i.id) (find (λ i. bytes_eq i.name name) env.items)

-- the item of this id
abbrev pub item_at : Environment → SolverDefId → Option ItemData
item_at env id = find (λ i. same_id i.id id) env.items

-- the item of this name
abbrev pub item_named : Environment → Text → Option ItemData
item_named env name = find (λ i. bytes_eq i.name name) env.items

-- the term of this name
abbrev pub term_named : Environment → Text → Option Term
term_named env name = option_map (λ t. t.term) (find (λ t. bytes_eq t.name name) env.terms)

-- there is a value
abbrev pub is_here : {A : Type 0} → Option A → Bool
is_here None = false
is_here (Some x) = true

-- an item or a term of this name is declared: both share one name space
abbrev pub is_known : Environment → Text → Bool
is_known env name = is_here (id_of env name) || is_here (term_named env name)

-- the name of an item, `?` for an id that isn't declared
abbrev pub name_at : Environment → SolverDefId → Text
name_at env id = elim (item_at env id) [ Some i ↦ i.name | None ↦ codes "?" ]

-- ---- the tree of a phrase

-- the kind with its name looked up
abbrev pub kind_in : Environment → Kind Text → Option (Kind SolverDefId)
kind_in env k = elim (k.name) [
  | Nameless ↦ Some (record { sort = k.sort; name = Nameless })
  | EnvName ↦ Some (record { sort = k.sort; name = EnvName })
  | Called name ↦ option_map (λ id. record { sort = k.sort; name = Called id }) (id_of env name)
]

-- the field with its name looked up
abbrev pub field_meant : Environment → Field Text → Option (Field SolverDefId)
field_meant env (Number n) = Some (Number n)
field_meant env (Item name) = option_map Item (id_of env name)
field_meant env (Chosen word) = Some (Chosen word)
field_meant env (OfKind k) = option_map OfKind (kind_in env k)
field_meant env (Memory bytes mapped) = Some (Memory bytes mapped)

-- the variable list with its names looked up
abbrev pub bind_in : Environment → Option (List (Kind Text)) → Option (Option (List (Kind SolverDefId)))
bind_in env None = Some None
bind_in env (Some ks) = option_map Some (each_of (kind_in env) ks)

-- the bound variable of these fields: index, number and kind
abbrev pub variable_of : List (Field SolverDefId) → Option Term
variable_of (Number i ∷ Number n ∷ OfKind k ∷ []) = Some (Var i n k)
variable_of fs = None

-- the parameter of these fields: parent, local id and index
abbrev pub parameter_of : Sort → List (Field SolverDefId) → Option Term
parameter_of s (Item p ∷ Number l ∷ Number i ∷ []) = Some (Param (record { sort = s; parent = p; local = l; index = i }))
parameter_of s fs = None

-- a bound variable and a parameter are leaves of their own, every other label has a node
abbrev pub tree_made : Label SolverDefId → Option (List (Kind SolverDefId)) → Terms → Option Term
tree_made l b ts = elim (same_word l.word BoundVariable) [
  | true ↦ variable_of l.fields
  | false ↦ elim (same_word l.word TypeParameter) [
    | true ↦ parameter_of OfType l.fields
    | false ↦ elim (same_word l.word RegionParameter) [
      | true ↦ parameter_of OfRegion l.fields
      | false ↦ elim (same_word l.word ConstantParameter) [ true ↦ parameter_of OfConstant l.fields | false ↦ Some (Node l b ts) ]
    ]
  ]
]

-- the label with the names of its fields looked up
abbrev pub label_in : Environment → Label Text → Option (Label SolverDefId)
label_in env l = option_map (λ fs. record { word = l.word; fields = fs }) (each_of (field_meant env) l.fields)

-- the tree of a label, its variable list and the trees of its parts
abbrev pub tree_with : Environment → Label Text → Option (List (Kind Text)) → Option Terms → Option Term
tree_with env l b ts = and_then (label_in env l) (λ label. and_then (bind_in env b) (λ bind. and_then ts (tree_made label bind)))

-- both, or none
abbrev pub cons_term : Option Term → Option Terms → Option Terms
cons_term (Some t) (Some ts) = Some (And t ts)
cons_term t ts = None

-- a name stands for its term as it is; a label has its fields with names looked up, and the trees of its parts
abbrev mutual
  pub tree_in : Environment → Phrase → Option Term
  tree_in env (Name name) = term_named env name
  tree_in env (Labelled l b ps) = tree_with env l b (trees_of env ps)

  pub trees_of : Environment → Phrases → Option Terms
  trees_of env NoPhrase = Some End
  trees_of env (ThenPhrase p ps) = cons_term (tree_in env p) (trees_of env ps)

-- ---- the form with trees

-- a replacement with the tree of its term
abbrev pub replacement_tree : Environment → Replacement Phrase → Option (Replacement Term)
replacement_tree env r = option_map (λ t. record { number = r.number; term = t }) (tree_in env r.term)

-- the tree of a term that may be left out
abbrev pub maybe_tree : Environment → Option Phrase → Option (Option Term)
maybe_tree env None = Some None
maybe_tree env (Some p) = option_map Some (tree_in env p)

-- a declaration with the trees of its terms
abbrev pub declaration_trees : Environment → Declaration Phrase → Option (Declaration Term)
declaration_trees env d = and_then (maybe_tree env d.decl) (λ decl. option_map (λ clauses. record { kind = d.kind; name = d.name; parent = d.parent; own = d.own; decl = decl; clauses = clauses }) (each_of (tree_in env) d.clauses))

-- the form with the trees of its terms; none where a name means no term
abbrev pub form_trees : Environment → Form Phrase → Option (Form Term)
form_trees env Blank = Some Blank
form_trees env (Declare d) = option_map Declare (declaration_trees env d)
form_trees env (Let name p) = option_map (Let name) (tree_in env p)
form_trees env (Print p) = option_map Print (tree_in env p)
form_trees env (Same p q) = and_then (tree_in env p) (λ t. option_map (Same t) (tree_in env q))
form_trees env (Flags p) = option_map Flags (tree_in env p)
form_trees env (Open p rs) = and_then (tree_in env p) (λ t. option_map (Open t) (each_of (replacement_tree env) rs))
form_trees env (Subst item ps) = option_map (Subst item) (each_of (tree_in env) ps)
form_trees env (Shift n p) = option_map (Shift n) (tree_in env p)
form_trees env (Renumber n p) = option_map (Renumber n) (tree_in env p)
form_trees env (Anon p) = option_map Anon (tree_in env p)
form_trees env (Super p q) = and_then (tree_in env p) (λ t. option_map (Super t) (tree_in env q))
form_trees env (Elab ps) = option_map Elab (each_of (tree_in env) ps)

-- ---- the environment of an item's own line

-- the parameters of a parent; one of a kind that the item's kind doesn't want has none to give
abbrev pub parameters_from : List ItemKind → Option ItemData → List Sort
parameters_from kinds None = []
parameters_from kinds (Some i) = elim (is_kind_among kinds i.kind) [ true ↦ i.parameters | false ↦ [] ]

-- the parameters that a parent gives, where there is one
abbrev pub parameters_at : Environment → List ItemKind → Option SolverDefId → List Sort
parameters_at env kinds None = []
parameters_at env kinds (Some id) = parameters_from kinds (item_at env id)

-- the sorts of an item's argument list
abbrev pub counted : Counting → List Sort → List Sort → List Sort
counted Own parent own = own
counted SelfAndOwn parent own = OfType ∷ own
counted ParentAndOwn parent own = parent ++ own
counted NoArguments parent own = []
counted OfParent parent own = parent

-- the id of the parent that is named
abbrev pub parent_id : Environment → Option Text → Option SolverDefId
parent_id env None = None
parent_id env (Some name) = id_of env name

-- the declared items of a kind
abbrev pub items_of : Environment → ItemKind → List ItemData
items_of env kind = filter (λ i. same_item_kind i.kind kind) env.items

-- The item that a line declares: its id counts the earlier items of its kind, and its argument list goes by its kind's count
abbrev pub item_of : {T : Type 0} → Environment → Declaration T → Option Term → List Term → ItemData
item_of env d decl clauses = record { id = id_of_kind d.kind (length (items_of env d.kind)); name = d.name; kind = d.kind; parent = parent_id env d.parent; parameters = counted (item_row d.kind).counting (parameters_at env (item_row d.kind).parents (parent_id env d.parent)) d.own; decl = decl; clauses = clauses }

-- one more item
abbrev pub with_item : Environment → ItemData → Environment
with_item env i = record { items = env.items ++ i ∷ []; terms = env.terms }

-- one more term
abbrev pub with_term : Environment → Text → Term → Environment
with_term env name t = record { items = env.items; terms = env.terms ++ record { name = name; term = t } ∷ [] }

-- in its own line an item's name has the id that the item is to have
abbrev pub with_own : Environment → Form Phrase → Environment
with_own env (Declare d) = with_item env (item_of env d None [])
with_own env form = env
