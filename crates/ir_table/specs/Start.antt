-- The handles of the start, each with its tree.
use Rattle.std.specs.Prelude.{◌≡◌, ℕ, Bool, true, ◌&&◌, List, [], ◌∷◌, ◌++◌, None, map, is_some}
use Rattle.std.specs.List.{list_all}
use Rattle.ir_core.specs.declared.errors.TermError.{TermError}
use Rattle.ir_core.specs.declared.errors.TermError.TheVariants as error
use Rattle.ir_core.specs.declared.defaults.DefaultTypes.{DefaultTypes}
use Rattle.ir_core.specs.declared.defaults.DefaultEmpty.{DefaultEmpty}
use Rattle.ir_core.specs.declared.defaults.DefaultAny.{DefaultAny}
use Rattle.ir_core.specs.declared.handles.Part.{Part}
use Rattle.ir_core.specs.declared.handles.Part.TheVariants as part
use Rattle.ir_core.specs.declared.handles.Ty.{Ty}
use Rattle.ir_core.specs.declared.kinds.Variance.TheVariants as variance
use Rattle.ir_core.specs.declared.variables.BoundRegionKind.TheVariants as bound_region
use Rattle.ir_core.specs.declared.variables.BoundVarKind.TheVariants as variable
use Rattle.ir_laws.specs.declared.labels.Keyword.TheVariants.{Not, Mut}
use Rattle.ir_laws.specs.declared.words.Word.TheVariants.{BoolType, CharType, StrType, NeverType, I8Type, I16Type, I32Type, I64Type, I128Type, ISizeType, U8Type, U16Type, U32Type, U64Type, U128Type, USizeType, F16Type, F32Type, F64Type, F128Type, ErrorType, PointerType, ReferenceType, StaticRegion, ErasedRegion, ErrorRegion, ErrorConstant}
use Rattle.ir_laws.specs.Heap.{Heap, IsLive, Layer, plant, tree_of}
use Rattle.ir_laws.specs.Same.{same_term}
use Rattle.ir_laws.specs.Held.{HoldsJust}
use Rattle.ir_laws.specs.Start.{start_parts, leaf, node_by, unit}
use Rattle.ir_laws.specs.Tree.{End, Term}
use Rattle.ir_table.specs.declared.start.Leaf.{Leaf}
use Rattle.ir_table.specs.declared.start.Leaf.TheVariants as row
use Rattle.ir_nodes.specs.declared.layers.EmptyList.TheVariants as empty
use Rattle.ir_nodes.specs.Fits.{is_term, layer_fits, layer_sort, part_by}
use Rattle.ir_nodes.specs.Nodes.{empty_layer, layer, tys_layer, variables_layer, variances_layer}

-- a part and a tree
abbrev pub Named : Type 0
Named = Part × Term

-- ---- the parts without kids

abbrev pub leaf_layer : Leaf → Layer Part
leaf_layer (row.Word w) = layer w [] []
leaf_layer row.Types = tys_layer []
leaf_layer row.Variables = variables_layer []
leaf_layer row.Variances = variances_layer []
leaf_layer row.Environment = variables_layer (variable.Region bound_region.ClosureEnv ∷ [])
leaf_layer (row.Variance v) = variances_layer (v ∷ [])
leaf_layer (row.Empty k) = empty_layer k

abbrev pub leaf_tree : Leaf → Term
leaf_tree l = plant (record { label = (leaf_layer l).label; bind = None }) End

abbrev pub leaf_part : Leaf → ℕ → Part
leaf_part l i = part_by (layer_sort (leaf_layer l)) i

-- a word alone is that of a term, and its row has no more
abbrev pub leaf_fits : Leaf → Bool
leaf_fits (row.Word w) = is_term (layer_sort (layer w [] [])) && layer_fits (layer w [] [])
leaf_fits l = true

-- in their order
abbrev pub leaves : List Leaf
leaves = map row.Word (I8Type ∷ I16Type ∷ I32Type ∷ I64Type ∷ I128Type ∷ ISizeType ∷ U8Type ∷ U16Type ∷ U32Type ∷ U64Type ∷ U128Type ∷ USizeType ∷ F16Type ∷ F32Type ∷ F64Type ∷ F128Type ∷ BoolType ∷ CharType ∷ StrType ∷ NeverType ∷ ErrorType ∷ ErrorConstant ∷ ErrorRegion ∷ StaticRegion ∷ ErasedRegion ∷ [])
    ++ row.Types ∷ row.Empty empty.GenericArgs ∷ row.Empty empty.PatList ∷ row.Empty empty.BoundExistentialPredicates ∷ row.Empty empty.Clauses ∷ row.Variables ∷ row.Variances ∷ row.Empty empty.RegionAssumptions
    ∷ row.Variance variance.Invariant ∷ row.Variance variance.Covariant ∷ row.Environment ∷ []

abbrev pub leaf_trees : List Term
leaf_trees = map leaf_tree leaves

-- each with its part, by the places of these
abbrev pub name_leaves : List ℕ → List Leaf → List Named
name_leaves (i ∷ is) (l ∷ ls) = (leaf_part l i, leaf_tree l) ∷ name_leaves is ls
name_leaves is ls = []

-- ---- all parts

-- parts with trees, one by one
abbrev pub name_each : List Part → List Term → List Named
name_each (p ∷ ps) (t ∷ ts) = (p, t) ∷ name_each ps ts
name_each ps ts = []

-- the types that have kids
abbrev pub compound_types : List Term
compound_types = unit ∷ node_by ReferenceType Not (leaf StaticRegion ∷ leaf StrType ∷ []) ∷ node_by PointerType Mut (unit ∷ []) ∷ []

abbrev pub named_compounds : (unit static_str_ref mut_unit_ptr : Ty) → List Named
named_compounds unit static_str_ref mut_unit_ptr = name_each (map part.Ty (unit ∷ static_str_ref ∷ mut_unit_ptr ∷ [])) compound_types

-- the parts that the handles name, in the order of the parts of the start
abbrev pub type_parts : DefaultTypes → List Part
type_parts d = map part.Ty (d.i8 ∷ d.i16 ∷ d.i32 ∷ d.i64 ∷ d.i128 ∷ d.isize ∷ d.u8 ∷ d.u16 ∷ d.u32 ∷ d.u64 ∷ d.u128 ∷ d.usize ∷ d.f16 ∷ d.f32 ∷ d.f64 ∷ d.f128 ∷ d.bool ∷ d.char ∷ d.str ∷ d.never ∷ d.error ∷ d.unit ∷ d.static_str_ref ∷ d.mut_unit_ptr ∷ [])

abbrev pub empty_parts : DefaultEmpty → List Part
empty_parts d =
    part.Tys d.tys ∷ part.GenericArgs d.generic_args ∷ part.PatList d.pat_list ∷ part.BoundExistentialPredicates d.bound_existential_predicates ∷ part.Clauses d.clauses
    ∷ part.BoundVarKinds d.bound_var_kinds ∷ part.VariancesOf d.variances ∷ part.RegionAssumptions d.region_assumptions ∷ []

abbrev pub handles : DefaultAny → List Part
handles d = type_parts d.types ++ part.Const d.consts.error ∷ part.Region d.regions.error ∷ part.Region d.regions.statik ∷ part.Region d.regions.erased
    ∷ empty_parts d.empty ++ part.VariancesOf d.one_invariant ∷ part.VariancesOf d.one_covariant ∷ part.BoundVarKinds d.coroutine_captures_by_ref_bound_var_kinds ∷ []

-- each with its tree
abbrev pub named_start : DefaultAny → List Named
named_start d = name_each (handles d) start_parts

-- the part is live and stands for the tree
abbrev pub Names : Heap Part → Named → Type 0
Names h n = IsLive h n.0 × (tree_of h n.0 ≡ n.1)

-- the same as a test
abbrev pub names : Heap Part → Named → Bool
names h n = is_some (h n.0) && same_term (tree_of h n.0) n.1

-- each handle names its part
unfoldable pub are_named : Heap Part → DefaultAny → Bool
are_named h d = list_all (names h) (named_start d)

-- the refusals at the start
abbrev pub IsStartRefusal : TermError → Type 0
IsStartRefusal error.TooMany = Unit {0}
IsStartRefusal error.Memory = Unit {0}
IsStartRefusal e = ⊥

-- just the parts of the start are held
unfoldable pub HoldsStart : Heap Part → Type 0
HoldsStart h = HoldsJust h start_parts
