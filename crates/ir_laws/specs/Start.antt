-- The parts that are there at the start.
use Rattle.std.specs.Prelude.{List, [], ◌∷◌, ◌++◌, map, None}
use Rattle.ir_core.specs.declared.ids.SolverDefId.{SolverDefId}
use Rattle.ir_laws.specs.declared.words.Word.{Word}
use Rattle.ir_laws.specs.declared.labels.Keyword.{Keyword}
use Rattle.ir_laws.specs.declared.labels.Keyword.TheVariants.{Not, Mut, Invariant, Covariant}
use Rattle.ir_laws.specs.declared.words.Word.TheVariants.{BoolType, CharType, StrType, NeverType, I8Type, I16Type, I32Type, I64Type, I128Type, ISizeType, U8Type, U16Type, U32Type, U64Type, U128Type, USizeType, F16Type, F32Type, F64Type, F128Type, ErrorType, PointerType, ReferenceType, TupleType, StaticRegion, ErasedRegion, ErrorRegion, ErrorConstant, TypeList, ArgumentList, PatternList, ExistentialList, ClauseList, VariableList, VarianceList, AssumptionList}
use Rattle.ir_laws.specs.declared.labels.Sort.TheVariants.{OfRegion}
use Rattle.ir_laws.specs.Tree.{Environment, Field, Chosen, Label, Node, Term, terms_of}
use Rattle.ir_laws.specs.Parts.{variable_list}

-- a label of a word and fields
abbrev pub label : Word → List (Field SolverDefId) → Label SolverDefId
label w fs = record { word = w; fields = fs }

-- a node without fields
abbrev pub node : Word → List Term → Term
node w ts = Node (label w []) None (terms_of ts)

-- a leaf without fields
abbrev pub leaf : Word → Term
leaf w = node w []

-- a node with `not` or `mut`
abbrev pub node_by : Word → Keyword → List Term → Term
node_by w choice ts = Node (label w (Chosen choice ∷ [])) None (terms_of ts)

-- `(tuple ())`
abbrev pub unit : Term
unit = node TupleType (leaf TypeList ∷ [])

-- 24 types
abbrev pub start_types : List Term
start_types = map leaf (I8Type ∷ I16Type ∷ I32Type ∷ I64Type ∷ I128Type ∷ ISizeType ∷ U8Type ∷ U16Type ∷ U32Type ∷ U64Type ∷ U128Type ∷ USizeType ∷ F16Type ∷ F32Type ∷ F64Type ∷ F128Type ∷ BoolType ∷ CharType ∷ StrType ∷ NeverType ∷ ErrorType ∷ [])
    ++ unit ∷ node_by ReferenceType Not (leaf StaticRegion ∷ leaf StrType ∷ []) ∷ node_by PointerType Mut (unit ∷ []) ∷ []

-- three regions
abbrev pub start_regions : List Term
start_regions = map leaf (ErrorRegion ∷ StaticRegion ∷ ErasedRegion ∷ [])

-- the empty lists of types, arguments, patterns, existential predicates, clauses, variables, variances and region assumptions
abbrev pub empty_lists : List Term
empty_lists = map leaf (TypeList ∷ ArgumentList ∷ PatternList ∷ ExistentialList ∷ ClauseList ∷ VariableList ∷ VarianceList ∷ AssumptionList ∷ [])

-- a list of one variance
abbrev pub variance_list : Keyword → Term
variance_list variance = Node (label VarianceList (Chosen variance ∷ [])) None (terms_of [])

-- `[Invariant]`, `[Covariant]` and the variable list of one `env`
abbrev pub start_lists : List Term
start_lists = variance_list Invariant ∷ variance_list Covariant ∷ variable_list (record { sort = OfRegion; name = Environment } ∷ []) ∷ []

-- all of them: 39 parts
abbrev pub start_parts : List Term
start_parts = start_types ++ leaf ErrorConstant ∷ start_regions ++ empty_lists ++ start_lists
