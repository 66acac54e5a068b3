-- What the making of terms keeps: parts and lists of variables, and what they are to the trees that the steps grow.
use Rattle.std.specs.Prelude.{◌≡◌, true, List, [], ◌∷◌, map, Option, Result, OnOk, is_some}
use Rattle.ir_core.specs.Parts.{sort_in}
use Rattle.ir_core.specs.declared.errors.TermError.{TermError}
use Rattle.ir_core.specs.declared.handles.BoundVarKinds.{BoundVarKinds}
use Rattle.ir_core.specs.declared.handles.Part.{Part}
use Rattle.ir_core.specs.declared.handles.Part.TheVariants as part
use Rattle.ir_core.specs.declared.ids.SolverDefId.{SolverDefId}
use Rattle.ir_laws.specs.Counts.{sort_of_label}
use Rattle.ir_laws.specs.Formed.{kid_forms}
use Rattle.ir_laws.specs.Heap.{Grows, Heap, IsLive, kinds_at, tree_of}
use Rattle.ir_laws.specs.Label.{row}
use Rattle.ir_laws.specs.Names.{field_forms}
use Rattle.ir_laws.specs.Parts.{has_for_group, parts, variable_list}
use Rattle.ir_laws.specs.Tree.{Kind, Term}
use Rattle.ir_laws.specs.declared.words.Word.{Word}
use Rattle.ir_nodes.specs.Fits.{are_of_forms, kids_fit, term_sort}
use Rattle.ir_nodes.specs.Nodes.{field_seen, variable_seen}
use Rattle.ir_nodes.specs.declared.nodes.Field.{Field}
use Rattle.ir_script.specs.Grove.{Fits, Grove, Root, grown, label_root, list_root}
use Rattle.ir_syntax.specs.Steps.{field_count, first_of, group_count, kid_count, top}
use Rattle.ir_script.specs.declared.builder.Builder.{Builder}
use Rattle.ir_script.specs.declared.resolved.Resolved.{Resolved}
use Rattle.ir_script.specs.declared.resolved.Resolved.TheVariants as step
use Rattle.ir_table.specs.State.{Makes, State}

-- each of the one list and that at its place in the other
abbrev pub Pairs : {A B : Type 0} → (A → B → Type 0) → List A → List B → Type 0
Pairs R [] [] = Unit {0}
Pairs R (x ∷ xs) (y ∷ ys) = R x y × Pairs R xs ys
Pairs R xs ys = ⊥

-- the part names the tree
pub record IsRoot (h : Heap Part) (r : Root) (q : Part) : Type 0 where
  pub live : IsLive h q
  pub tree : tree_of h q ≡ r.tree
  pub sort : sort_in q ≡ r.sort

-- the list names these kinds
pub record IsGroup (h : Heap Part) (ks : List (Kind SolverDefId)) (v : BoundVarKinds) : Type 0 where
  pub live : IsLive h (part.BoundVarKinds v)
  pub kinds : kinds_at h (part.BoundVarKinds v) ≡ ks

abbrev pub AreRoots : Heap Part → List Root → List Part → Type 0
AreRoots h = Pairs (IsRoot h)

-- the stacks name what the steps grow
pub record IsGrown (h : Heap Part) (g : Grove) (b : Builder) : Type 0 where
  pub roots : AreRoots h g.roots b.parts.items
  pub fields : map field_seen b.fields.items ≡ g.fields
  pub kinds : map variable_seen b.variables.items ≡ g.kinds
  pub groups : Pairs (IsGroup h) g.groups b.binders.items

-- the step fits what the stacks name
pub record IsNext (h : Heap Part) (b : Builder) (s : Resolved) : Type 0 where
  pub grove : Grove
  pub grown : IsGrown h grove b
  pub fits : Fits h grove s

-- the parts of the tree that a step adds
abbrev pub added : Heap Part → Grove → Resolved → List Term
added h g (step.Term q) = parts (tree_of h q)
added h g (step.Field f) = []
added h g (step.Variable v) = []
added h g (step.Bind n) = variable_list (top n g.kinds) ∷ []
added h g (step.Label w sort) = (label_root w g).tree ∷ []
added h g (step.List w n) = (list_root (top n g.roots)).tree ∷ []

-- the tree is made, and on Ok the stacks name what the step leaves
pub record Takes (h : Heap Part) (g : Grove) (old new : State) (after : Builder) (s : Resolved) (r : Result Unit TermError) : Type 0 where
  pub makes : Makes old new (added h g s) r
  pub grown : OnOk r (IsGrown new.heap (grown h g s) after)

-- the same of whatever the stacks name, over a heap from which this one has grown
abbrev pub TakesStep : State → State → Builder → Builder → Resolved → Result Unit TermError → Type 0
TakesStep old new before after s r = (h : Heap Part) (g : Grove) → Grows h old.heap → IsGrown old.heap g before → Fits h g s → Takes h g old new after s r

-- ---- what a label of the word takes off the stacks

abbrev pub fields_on : Word → Builder → List Field
fields_on w b = top (field_count (row w).parts) b.fields.items

abbrev pub binder_on : Word → Builder → Option BoundVarKinds
binder_on w b = first_of (top (group_count (row w).parts) b.binders.items)

abbrev pub kids_on : Word → Builder → List Part
kids_on w b = top (kid_count (row w).parts) b.parts.items

-- what the making of a node wants of its word, fields, binder and kids
pub record FitsNode (w : Word) (fs : List Field) (v : Option BoundVarKinds) (qs : List Part) : Type 0 where
  pub fields : are_of_forms (field_forms (row w).parts) fs ≡ true
  pub binder : is_some v ≡ has_for_group (row w).parts
  pub kids : kids_fit (kid_forms (row w).parts) qs ≡ true
  pub sort : is_some (term_sort (sort_of_label (record { word = w; fields = map field_seen fs }))) ≡ true
