-- What is spelled of a part, and behind what.
use Rattle.std.specs.Prelude.{◌≡◌, ◌≤◌, false, List, [], ◌∷◌, ◌++◌, map, Option, Some, unwrap_or, length, take, codes}
use Rattle.std.specs.List.{slice_range}
use Rattle.indexmap.specs.IndexMap.{get}
use Rattle.ir_core.specs.contracts.handles.PartPartialEq.TheImpl as part_eq
use Rattle.ir_core.specs.declared.ids.SolverDefId.{SolverDefId}
use Rattle.ir_core.specs.declared.handles.Part.{Part}
use Rattle.ir_laws.specs.declared.labels.Part.{Part as LabelPart}
use Rattle.ir_laws.specs.declared.labels.Sort.TheVariants.{OfList}
use Rattle.ir_laws.specs.Tree.{Text, Label}
use Rattle.ir_laws.specs.Same.{same_sort}
use Rattle.ir_laws.specs.Counts.{sort_of_label}
use Rattle.ir_laws.specs.Spelling.{bind_texts, field_text, in_brackets, label_text, part_texts, spell}
use Rattle.ir_laws.specs.Heap.{Heap, IsLive, shape_over, tree_of}
use Rattle.ir_nodes.specs.declared.nodes.Node.{Node}
use Rattle.ir_nodes.specs.declared.layers.List.{List as ListRead}
use Rattle.ir_nodes.specs.Layers.{list_kids}
use Rattle.ir_nodes.specs.Nodes.{kids_in, node_layer}
use Rattle.ir_table.specs.declared.spelling.Span.{Span}
use Rattle.ir_table.specs.declared.spelling.Spellings.{Spellings}

-- the part is live, and the text spells it at this place
pub record IsSpelled (name : SolverDefId → Text) (h : Heap Part) (text : Text) (p : Part) (span : Span) : Type 0 where
  pub live : IsLive h p
  pub order : span.start ≤ span.end
  pub within : span.end ≤ length text
  pub spelled : slice_range text span.start span.end ≡ spell name (tree_of h p)

-- so does each part that is known, at its place
pub record AreSpelled (name : SolverDefId → Text) (h : Heap Part) (text : Text) (known : Spellings) : Type 0 where
  pub each : (p : Part) (span : Span) → get part_eq.ghosts.eq known.spans p ≡ Some span → IsSpelled name h text p span

-- an id without a name is spelled `?`
abbrev pub name_text : (SolverDefId → Option Text) → SolverDefId → Text
name_text named id = unwrap_or (named id) (codes "?")

-- what was there comes first still
abbrev pub Begins : Text → Text → Type 0
Begins old new = take (length old) new ≡ old

-- each text behind a space
abbrev pub after_each : List Text → Text
after_each [] = []
after_each (t ∷ ts) = codes " " ++ t ++ after_each ts

-- the first text behind this one, and each other behind a space
abbrev pub after : Text → List Text → Text
after space [] = []
after space (t ∷ ts) = space ++ t ++ after_each ts

module _ (name : SolverDefId → Text) (h : Heap Part) where
  -- the texts of the parts
  abbrev pub kid_texts : List Part → List Text
  kid_texts ps = map (λ p. spell name (tree_of h p)) ps

  -- a node
  unfoldable pub node_text : Node → Text
  node_text n = label_text name (node_layer n).label (shape_over h (node_layer n)).bind (kid_texts (kids_in n.content))

  -- what stands behind the word of a node
  unfoldable pub places_text : List LabelPart → Node → Text
  places_text parts n = after_each (part_texts parts (map (field_text name) (node_layer n).label.fields) (bind_texts name (shape_over h (node_layer n)).bind) (kid_texts (kids_in n.content)))

  -- a list
  unfoldable pub list_text : ListRead → Text
  list_text l = in_brackets (kid_texts (list_kids l))

-- the label is no list's
unfoldable pub IsNoList : Label SolverDefId → Type 0
IsNoList l = same_sort (sort_of_label l) OfList ≡ false
