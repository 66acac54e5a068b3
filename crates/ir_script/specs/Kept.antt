-- What is known from line to line: of the parts of labels that are a word alone, of variable lists, and of spellings.
use Rattle.std.specs.Prelude.{◌≡◌, ℕ, [], None, Some, slice_index_or}
use Rattle.std.specs.Option.{unwrap_or}
use Rattle.ir_core.specs.declared.handles.Part.{Part}
use Rattle.ir_core.specs.declared.handles.PartSort.TheVariants as handle
use Rattle.ir_core.specs.declared.ids.SolverDefId.{SolverDefId}
use Rattle.ir_laws.specs.Counts.{sort_of_label}
use Rattle.ir_laws.specs.Heap.{Heap, plant}
use Rattle.ir_laws.specs.Label.{row}
use Rattle.ir_laws.specs.Tree.{End, Label, Text}
use Rattle.ir_laws.specs.declared.words.Word.{Word}
use Rattle.ir_nodes.specs.Fits.{term_sort}
use Rattle.ir_script.specs.Grove.{Root}
use Rattle.ir_script.specs.Making.{IsRoot}
use Rattle.ir_script.specs.declared.leaves.Leaves.{Leaves}
use Rattle.ir_script.specs.declared.stages.Stages.{Stages}
use Rattle.ir_table.specs.Listed.{AreListed}
use Rattle.ir_table.specs.Spelled.{AreSpelled, name_text}
use Rattle.ir_table.specs.declared.spelling.Spellings.{Spellings}

-- a label that is this word alone, and its tree
abbrev pub leaf_label : Word → Label SolverDefId
leaf_label w = record { word = w; fields = [] }

abbrev pub leaf_root : Word → Root
leaf_root w = record { tree = plant (record { label = leaf_label w; bind = None }) End; sort = unwrap_or (term_sort (sort_of_label (leaf_label w))) handle.Ty }

-- the label is the word alone, and this is its part
pub record IsLeafOf (h : Heap Part) (w : Word) (q : Part) : Type 0 where
  pub bare : (row w).parts ≡ []
  pub root : IsRoot h (leaf_root w) q

-- so is each part that is known
pub record AreLeaves (h : Heap Part) (leaves : Leaves) : Type 0 where
  pub each : (i : ℕ) (w : Word) (q : Part) → slice_index_or leaves.parts i None ≡ Some (w, q) → IsLeafOf h w q

-- what the stages keep holds of the heap
pub record IsKept (h : Heap Part) (stages : Stages) : Type 0 where
  pub leaves : AreLeaves h stages.builder.leaves
  pub listed : AreListed h stages.listed

-- what is known of spellings holds of the heap and the text; no item has a name
abbrev pub AreKnown : Heap Part → Text → Spellings → Type 0
AreKnown = AreSpelled (name_text (λ id. None))
