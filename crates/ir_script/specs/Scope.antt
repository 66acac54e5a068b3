-- The names that earlier lines declare, and what they mean over a heap.
use Rattle.std.specs.Prelude.{◌≡◌, true, List, [], ◌∷◌, map, find, Option, bytes_eq}
use Rattle.std.specs.Option.{option_map}
use Rattle.ir_core.specs.declared.handles.Part.{Part}
use Rattle.ir_laws.specs.declared.labels.Sort.{Sort}
use Rattle.ir_laws.specs.declared.labels.Sort.TheVariants.{OfType, OfRegion, OfConstant, OfPattern, OfPredicate}
use Rattle.ir_laws.specs.Counts.{sort_of}
use Rattle.ir_laws.specs.Environment.{Environment, NamedTerm}
use Rattle.ir_laws.specs.Heap.{Heap, Each, IsLive, tree_of}
use Rattle.ir_laws.specs.Sorts.{is_sort_among}
use Rattle.ir_laws.specs.Tree.{Text}
use Rattle.ir_nodes.specs.Fits.{part_sort}
use Rattle.ir_script.specs.declared.scope.Scope.{Scope}

-- a name and the part that it stands for
abbrev pub Named : Type 0
Named = Text × Part

-- the names in the order in which they were declared
abbrev pub scope_names : Scope → List Named
scope_names s = map (λ e. (e.0.now, e.1)) s.parts.entries

-- the part of the first such name
abbrev pub part_named : List Named → Text → Option Part
part_named ns name = option_map (λ n. n.1) (find (λ n. bytes_eq n.0 name) ns)

-- the name with the tree of its part
abbrev pub term_in : Heap Part → Named → NamedTerm
term_in h n = record { name = n.0; term = tree_of h n.1 }

-- what the names mean; no item is declared yet
abbrev pub env_of : Heap Part → List Named → Environment
env_of h ns = record { items = []; terms = map (term_in h) ns }

-- the sorts that an operand may have
abbrev pub operand_sorts : List Sort
operand_sorts = OfType ∷ OfRegion ∷ OfConstant ∷ OfPattern ∷ OfPredicate ∷ []

-- the part is live, and stands for a term that may be an operand
pub record IsTerm (h : Heap Part) (q : Part) : Type 0 where
  pub live : IsLive h q
  pub sort : sort_of (tree_of h q) ≡ part_sort q
  pub kind : is_sort_among operand_sorts (part_sort q) ≡ true

-- so does each name's
abbrev pub AreTerms : Heap Part → List Named → Type 0
AreTerms h ns = Each (λ n. IsTerm h n.1) ns
