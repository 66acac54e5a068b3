-- The trees that resolved steps grow, over the trees of the parts among them.
use Rattle.std.specs.Prelude.{◌≡◌, Bool, true, false, ◌&&◌, List, [], ◌∷◌, ◌++◌, flat_map, map, Option, None, is_some}
use Rattle.std.specs.Option.{unwrap_or}
use Rattle.std.specs.List.{list_all}
use Rattle.ir_core.specs.Parts.{sort_in, same_part_sort}
use Rattle.ir_core.specs.declared.handles.Part.{Part}
use Rattle.ir_core.specs.declared.handles.PartSort.{PartSort}
use Rattle.ir_core.specs.declared.handles.PartSort.TheVariants as handle
use Rattle.ir_core.specs.declared.ids.SolverDefId.{SolverDefId}
use Rattle.ir_laws.specs.Counts.{sort_of_label}
use Rattle.ir_laws.specs.Formed.{bind_fits, fields_fit, kid_forms}
use Rattle.ir_laws.specs.Heap.{Heap, IsLive, forest, plant, tree_of}
use Rattle.ir_laws.specs.Label.{row}
use Rattle.ir_laws.specs.Names.{field_forms}
use Rattle.ir_laws.specs.Parts.{parts, variable_list}
use Rattle.ir_laws.specs.Sorts.{is_word_among}
use Rattle.ir_laws.specs.Tree.{Kind, Label, Term}
use Rattle.ir_laws.specs.Word.{label_words}
use Rattle.ir_laws.specs.declared.labels.KidForm.{KidForm}
use Rattle.ir_laws.specs.declared.words.Word.{Word}
use Rattle.ir_laws.specs.declared.words.Word.TheVariants.{TypeList}
use Rattle.ir_nodes.specs.Fits.{is_wanted, term_sort}
use Rattle.ir_nodes.specs.Nodes.{Fields, field_seen, variable_seen}
use Rattle.ir_syntax.specs.Steps.{below, field_count, first_of, group_count, kid_count, top}
use Rattle.ir_script.specs.declared.resolved.Resolved.{Resolved}
use Rattle.ir_script.specs.declared.resolved.Resolved.TheVariants as step

-- a tree, and the sort of the handle that names it
pub record Root : Type 0 where
  pub tree : Term
  pub sort : PartSort

-- trees, and what stands beside them for the labels to come, each list with its top last
pub record Grove : Type 0 where
  pub roots : List Root
  pub fields : Fields
  pub kinds : List (Kind SolverDefId)
  pub groups : List (List (Kind SolverDefId))

abbrev pub bare : Grove
bare = record { roots = []; fields = []; kinds = []; groups = [] }

-- what a label of the word takes
abbrev pub own_label : Word → Grove → Label SolverDefId
own_label w g = record { word = w; fields = top (field_count (row w).parts) g.fields }

abbrev pub own_group : Word → Grove → Option (List (Kind SolverDefId))
own_group w g = first_of (top (group_count (row w).parts) g.groups)

abbrev pub own_kids : Word → Grove → List Root
own_kids w g = top (kid_count (row w).parts) g.roots

-- the tree of a label over what it takes
abbrev pub label_root : Word → Grove → Root
label_root w g = record { tree = plant (record { label = own_label w g; bind = own_group w g }) (forest (λ r. r.tree) (own_kids w g)); sort = unwrap_or (term_sort (sort_of_label (own_label w g))) handle.Ty }

-- the tree of a list of types
abbrev pub list_root : List Root → Root
list_root rs = record { tree = plant (record { label = record { word = TypeList; fields = [] }; bind = None }) (forest (λ r. r.tree) rs); sort = handle.Tys }

abbrev pub with_roots : List Root → Grove → Grove
with_roots rs g = record { roots = rs; fields = g.fields; kinds = g.kinds; groups = g.groups }

-- each sort is what its form wants
abbrev pub are_wanted : List KidForm → List PartSort → Bool
are_wanted [] [] = true
are_wanted (form ∷ forms) (g ∷ gs) = is_wanted form g && are_wanted forms gs
are_wanted forms gs = false

-- what a label of the word takes fits its row
pub record LabelFits (w : Word) (g : Grove) : Type 0 where
  pub word : is_word_among label_words w ≡ true
  pub fields : fields_fit (field_forms (row w).parts) (own_label w g).fields ≡ true
  pub bind : bind_fits (row w).parts (own_group w g) ≡ true
  pub kids : are_wanted (kid_forms (row w).parts) (map (λ r. r.sort) (own_kids w g)) ≡ true
  pub sort : is_some (term_sort (sort_of_label (own_label w g))) ≡ true

-- the trees that stand so far, those of the lists of variables too
abbrev pub made : Grove → List Term
made g = flat_map (λ r. parts r.tree) g.roots ++ map variable_list g.groups

module _ (h : Heap Part) where
  -- the trees after a step
  abbrev pub grown : Grove → Resolved → Grove
  grown g (step.Term q) = with_roots (g.roots ++ record { tree = tree_of h q; sort = sort_in q } ∷ []) g
  grown g (step.Field f) = record { roots = g.roots; fields = g.fields ++ field_seen f ∷ []; kinds = g.kinds; groups = g.groups }
  grown g (step.Variable v) = record { roots = g.roots; fields = g.fields; kinds = g.kinds ++ variable_seen v ∷ []; groups = g.groups }
  grown g (step.Bind n) = record { roots = g.roots; fields = g.fields; kinds = below n g.kinds; groups = g.groups ++ top n g.kinds ∷ [] }
  grown g (step.Label w sort) = record { roots = below (kid_count (row w).parts) g.roots ++ label_root w g ∷ []; fields = below (field_count (row w).parts) g.fields; kinds = g.kinds; groups = below (group_count (row w).parts) g.groups }
  grown g (step.List w n) = with_roots (below n g.roots ++ list_root (top n g.roots) ∷ []) g

  abbrev pub grove_on : Grove → List Resolved → Grove
  grove_on g [] = g
  grove_on g (s ∷ steps) = grove_on (grown g s) steps

  -- the trees that the steps leave
  abbrev pub grove : List Resolved → Grove
  grove steps = grove_on bare steps

  -- a part is live, a label fits its row, and a list is one of types
  abbrev pub Fits : Grove → Resolved → Type 0
  Fits g (step.Term q) = IsLive h q
  Fits g (step.Field f) = Unit {0}
  Fits g (step.Variable v) = Unit {0}
  Fits g (step.Bind n) = Unit {0}
  Fits g (step.Label w sort) = LabelFits w g
  Fits g (step.List w n) = list_all (λ r. same_part_sort r.sort handle.Ty) (top n g.roots) ≡ true

  abbrev pub AllFit : Grove → List Resolved → Type 0
  AllFit g [] = Unit {0}
  AllFit g (s ∷ steps) = Fits g s × AllFit (grown g s) steps
