-- The parts of a term: its counted subtrees and its variable lists. A set of parts is a list in which none stands twice.
use Rattle.std.specs.Prelude.{Bool, true, false, ◌&&◌, ◌||◌, not, List, [], ◌∷◌, ◌++◌, map, Option, Some, None}
use Rattle.ir_core.specs.declared.ids.SolverDefId.{SolverDefId}
use Rattle.ir_laws.specs.declared.words.Word.TheVariants.{VariableList}
use Rattle.ir_laws.specs.declared.labels.Sort.TheVariants.{OfExistential}
use Rattle.ir_laws.specs.Tree.{Kind, OfKind, Label, Var, Param, Node, End, And, Term, Terms}
use Rattle.ir_laws.specs.Same.{same_sort, same_term}
use Rattle.ir_laws.specs.declared.labels.Part.{Part}
use Rattle.ir_laws.specs.declared.labels.Part.TheVariants.{Fixed, ForGroup, AField, AKid}
use Rattle.ir_laws.specs.Label.{row}
use Rattle.ir_laws.specs.Counts.{sort_of_label}

-- the label may bind
abbrev pub has_for_group : List Part → Bool
has_for_group [] = false
has_for_group (ForGroup ∷ parts) = true
has_for_group (Fixed word ∷ parts) = has_for_group parts
has_for_group (AField form ∷ parts) = has_for_group parts
has_for_group (AKid form ∷ parts) = has_for_group parts

-- the node has a `bind`, perhaps an empty one
abbrev pub is_bound : Option (List (Kind SolverDefId)) → Bool
is_bound None = false
is_bound (Some ks) = true

-- an existential predicate isn't counted, nor is an opened body, whose label may bind and which has no `bind`
abbrev pub is_counted : Label SolverDefId → Option (List (Kind SolverDefId)) → Bool
is_counted l b = not (same_sort (sort_of_label l) OfExistential) && (is_bound b || not (has_for_group (row l.word).parts))

-- a variable list is a leaf that has the kinds as fields
abbrev pub variable_list : List (Kind SolverDefId) → Term
variable_list ks = Node (record { word = VariableList; fields = map OfKind ks }) None End

-- the variable list of a `bind`
abbrev pub variable_lists : Option (List (Kind SolverDefId)) → List Term
variable_lists None = []
variable_lists (Some ks) = variable_list ks ∷ []

-- the term, where it is counted
abbrev pub if_counted : Bool → Term → List Term
if_counted true t = t ∷ []
if_counted false t = []

-- the counted subtrees and the variable lists of a term, from outside in; one may stand several times
abbrev mutual
  pub parts : Term → List Term
  parts (Var i n k) = Var i n k ∷ []
  parts (Param p) = Param p ∷ []
  parts (Node l b ts) = if_counted (is_counted l b) (Node l b ts) ++ variable_lists b ++ all_parts ts

  pub all_parts : Terms → List Term
  all_parts End = []
  all_parts (And t ts) = parts t ++ all_parts ts

-- whether the term is in the set
abbrev pub is_part : List Term → Term → Bool
is_part [] t = false
is_part (u ∷ us) t = elim (same_term u t) [ true ↦ true | false ↦ is_part us t ]

-- no term stands twice
abbrev pub is_set : List Term → Bool
is_set [] = true
is_set (t ∷ ts) = not (is_part ts t) && is_set ts

-- the set with one more part
abbrev pub with_part : List Term → Term → List Term
with_part held t = elim (is_part held t) [ true ↦ held | false ↦ t ∷ held ]

-- the set with more parts
abbrev pub with_each_part : List Term → List Term → List Term
with_each_part held [] = held
with_each_part held (t ∷ ts) = with_each_part (with_part held t) ts

-- the set with the parts of these terms
abbrev pub with_parts_of : List Term → List Term → List Term
with_parts_of held [] = held
with_parts_of held (t ∷ ts) = with_parts_of (with_each_part held (parts t)) ts
