-- The table of labels: from each word to what is written after it, its sort and its own flags.
use Rattle.std.specs.Prelude.{ℕ, ◌+◌, List, [], ◌∷◌, Option, Some, None, codes}
use Rattle.ir_laws.specs.declared.words.Word.{Word}
use Rattle.ir_laws.specs.declared.words.Word.TheVariants.{BoolType, CharType, StrType, NeverType, I8Type, I16Type, I32Type, I64Type, I128Type, ISizeType, U8Type, U16Type, U32Type, U64Type, U128Type, USizeType, F16Type, F32Type, F64Type, F128Type, ErrorType, AdtType, ForeignType, ArrayType, PatternType, SliceType, PointerType, ReferenceType, FnDefType, FnPtrType, UnsafeBinderType, DynType, ClosureType, CoroutineClosureType, CoroutineType, WitnessType, TupleType, ProjectionAlias, InherentAlias, FreeAlias, OpaqueAlias, TypeParameter, TypeVariable, IntegerVariable, FloatVariable, FreshType, FreshInteger, FreshFloat, StaticRegion, ErasedRegion, ErrorRegion, RegionParameter, LateRegion, RegionVariable, ConstantParameter, ConstantVariable, FreshConstant, UnevaluatedConstant, ValueConstant, ExprConstant, ErrorConstant, CanonicalVariable, BoundVariable, Placeholder, ByteTree, RangePattern, OrPattern, NotNullPattern, ExistentialTrait, ExistentialProjection, ExistentialAuto, TraitClause, RegionOutlives, TypeOutlives, ProjectionClause, ConstantHasType, WellFormed, ConstantEvaluatable, HostEffect, UnstableFeature, DynCompatible, SubtypePredicate, CoercePredicate, ConstantEquate, AmbiguousPredicate, NormalizesTo, AliasRelate, TypeList, ArgumentList, PatternList, ExistentialList, ClauseList, VariableList, VarianceList, AssumptionList}
use Rattle.ir_laws.specs.declared.labels.Sort.{Sort}
use Rattle.ir_laws.specs.declared.labels.Sort.TheVariants.{OfType, OfRegion, OfConstant, OfPattern, OfPredicate, OfBytes, OfExistential, OfList}
use Rattle.ir_laws.specs.declared.items.ItemKind.{ItemKind}
use Rattle.ir_laws.specs.declared.items.ItemKind.TheVariants.{StructItem, EnumItem, UnionItem, VariantItem, TraitItem, ImplItem, DeriveItem, FnItem, ConstItem, StaticItem, AliasItem, ClosureItem, CoroutineItem, OpaqueItem}
use Rattle.ir_laws.specs.declared.labels.FixedWord.TheVariants.{Projection, Inherent, Free, Opaque, Star}
use Rattle.ir_laws.specs.declared.labels.Choice.{Choice}
use Rattle.ir_laws.specs.declared.labels.Choice.TheVariants.{Mutability, Safety, Abi, Variadic, Polarity, Constness, Expected, Direction}
use Rattle.ir_laws.specs.declared.labels.ItemPlace.{ItemPlace}
use Rattle.ir_laws.specs.declared.labels.ItemPlace.TheVariants.{AdtPlace, AliasPlace, CallablePlace, ClosurePlace, CoroutinePlace, OpaquePlace, ConstantPlace, TraitPlace, ProjectedPlace, ParentPlace, AnyPlace}
use Rattle.ir_laws.specs.declared.labels.FieldForm.TheVariants.{OneWordOf, ItemOf, AliasOfTrait, IdOf, ANumber, AVariableKind, ARegionKind, AMemory}
use Rattle.ir_laws.specs.declared.labels.ArgumentCount.{ArgumentCount}
use Rattle.ir_laws.specs.declared.labels.ArgumentCount.TheVariants.{Whole, WithoutSelf, WithTypes}
use Rattle.ir_laws.specs.declared.labels.IfEmpty.{IfEmpty}
use Rattle.ir_laws.specs.declared.labels.IfEmpty.TheVariants.{Fine, ArityIfEmpty, EmptyOrIfEmpty}
use Rattle.ir_laws.specs.declared.labels.KidForm.TheVariants.{OneOf, TypeOrConstant, ListOf, ArgumentsOf}
use Rattle.ir_laws.specs.declared.labels.Part.{Part}
use Rattle.ir_laws.specs.declared.labels.Part.TheVariants.{Fixed, ForGroup, AField, AKid}
use Rattle.ir_laws.specs.Tree.{Text}
use Rattle.ir_laws.specs.Cause.{Cause, Arity, EmptyOr}
use Rattle.ir_laws.specs.Flag.{HAS_TY_PARAM, HAS_RE_PARAM, HAS_CT_PARAM, HAS_TY_INFER, HAS_RE_INFER, HAS_CT_INFER, HAS_FREE_LOCAL_REGIONS, HAS_TY_PROJECTION, HAS_TY_FREE_ALIAS, HAS_TY_OPAQUE, HAS_TY_INHERENT, HAS_CT_PROJECTION, HAS_ERROR, HAS_FREE_REGIONS, HAS_RE_ERASED, HAS_TY_FRESH, HAS_CT_FRESH, HAS_TY_COROUTINE}

-- the kinds of item that may stand there
abbrev pub kinds_at : ItemPlace → List ItemKind
kinds_at AdtPlace = StructItem ∷ EnumItem ∷ UnionItem ∷ []
kinds_at AliasPlace = AliasItem ∷ []
kinds_at CallablePlace = FnItem ∷ StructItem ∷ VariantItem ∷ []
kinds_at ClosurePlace = ClosureItem ∷ []
kinds_at CoroutinePlace = CoroutineItem ∷ []
kinds_at OpaquePlace = OpaqueItem ∷ []
kinds_at ConstantPlace = ConstItem ∷ StaticItem ∷ []
kinds_at TraitPlace = TraitItem ∷ []
kinds_at ProjectedPlace = AliasItem ∷ ConstItem ∷ OpaqueItem ∷ []
kinds_at ParentPlace = StructItem ∷ EnumItem ∷ UnionItem ∷ TraitItem ∷ ImplItem ∷ DeriveItem ∷ FnItem ∷ ConstItem ∷ StaticItem ∷ AliasItem ∷ []
kinds_at AnyPlace = StructItem ∷ EnumItem ∷ UnionItem ∷ VariantItem ∷ TraitItem ∷ ImplItem ∷ DeriveItem ∷ FnItem ∷ ConstItem ∷ StaticItem ∷ AliasItem ∷ ClosureItem ∷ CoroutineItem ∷ OpaqueItem ∷ []

-- the cause of an empty list
abbrev pub empty_cause : IfEmpty → Option Cause
empty_cause Fine = None
empty_cause ArityIfEmpty = Some Arity
empty_cause EmptyOrIfEmpty = Some EmptyOr

-- a label has one sort, or that of its variable kind
pub data LabelSort : Type 0 where
  Always : (sort : Sort) → LabelSort
  ByKind : LabelSort

-- How a label is written, its sort, its parts in order and its own flags
pub record Row : Type 0 where
  pub text : Text
  pub sort : LabelSort
  pub parts : List Part
  pub flags : ℕ

-- a kid of a sort
abbrev pub kid : Sort → Part
kid s = AKid (OneOf s)

-- a kid that is a type or a constant
abbrev pub type_or_constant : Part
type_or_constant = AKid TypeOrConstant

-- a list of members of a sort, which may be empty
abbrev pub members : Word → Sort → Part
members w s = AKid (ListOf w s Fine)

-- a list of members of a sort, with the rule for an empty one
abbrev pub some_members : Word → Sort → IfEmpty → Part
some_members w s c = AKid (ListOf w s c)

-- a list of arguments, so many as is said
abbrev pub arguments : ArgumentCount → Part
arguments n = AKid (ArgumentsOf n)

-- one of a few keywords
abbrev pub one_of : Choice → Part
one_of c = AField (OneWordOf c)

-- an item of the place's kinds
abbrev pub item : ItemPlace → Part
item p = AField (ItemOf p)

-- an alias whose parent is a trait
abbrev pub trait_alias : Part
trait_alias = AField AliasOfTrait

-- the item that a parameter belongs to
abbrev pub parameter_parent : Part
parameter_parent = AField (IdOf ParentPlace)

-- an item of any kind
abbrev pub any_item : Part
any_item = AField (IdOf AnyPlace)

-- a number
abbrev pub number : Part
number = AField ANumber

-- a variable kind of any sort
abbrev pub variable_kind : Part
variable_kind = AField AVariableKind

-- a variable kind that is a region's
abbrev pub region_kind : Part
region_kind = AField ARegionKind

-- bytes and mapped addresses
abbrev pub memory : Part
memory = AField AMemory

-- ---- rows

-- a word alone
abbrev pub bare : Text → Sort → ℕ → Row
bare text sort flags = record { text = text; sort = Always sort; parts = []; flags = flags }

-- a word and its parts in brackets
abbrev pub node : Text → Sort → List Part → ℕ → Row
node text sort parts flags = record { text = text; sort = Always sort; parts = parts; flags = flags }

-- a label whose sort is that of its variable kind; its flags go by that sort too
abbrev pub by_kind : Text → List Part → Row
by_kind text parts = record { text = text; sort = ByKind; parts = parts; flags = 0 }

-- a list: no word stands before its members
abbrev pub list_row : Row
list_row = record { text = []; sort = Always OfList; parts = []; flags = 0 }

-- the table: the word that is written, the sort, the parts in order, and the flags of its own
abbrev pub row : Word → Row
row BoolType = bare (codes "bool") OfType 0
row CharType = bare (codes "char") OfType 0
row StrType = bare (codes "str") OfType 0
row NeverType = bare (codes "never") OfType 0
row I8Type = bare (codes "i8") OfType 0
row I16Type = bare (codes "i16") OfType 0
row I32Type = bare (codes "i32") OfType 0
row I64Type = bare (codes "i64") OfType 0
row I128Type = bare (codes "i128") OfType 0
row ISizeType = bare (codes "isize") OfType 0
row U8Type = bare (codes "u8") OfType 0
row U16Type = bare (codes "u16") OfType 0
row U32Type = bare (codes "u32") OfType 0
row U64Type = bare (codes "u64") OfType 0
row U128Type = bare (codes "u128") OfType 0
row USizeType = bare (codes "usize") OfType 0
row F16Type = bare (codes "f16") OfType 0
row F32Type = bare (codes "f32") OfType 0
row F64Type = bare (codes "f64") OfType 0
row F128Type = bare (codes "f128") OfType 0
row ErrorType = bare (codes "tyerror") OfType HAS_ERROR
row AdtType = node (codes "adt") OfType (item AdtPlace ∷ arguments Whole ∷ []) 0
row ForeignType = node (codes "foreign") OfType (item AliasPlace ∷ []) 0
row ArrayType = node (codes "array") OfType (kid OfType ∷ kid OfConstant ∷ []) 0
row PatternType = node (codes "pat") OfType (kid OfType ∷ kid OfPattern ∷ []) 0
row SliceType = node (codes "slice") OfType (kid OfType ∷ []) 0
row PointerType = node (codes "ptr") OfType (one_of Mutability ∷ kid OfType ∷ []) 0
row ReferenceType = node (codes "ref") OfType (one_of Mutability ∷ kid OfRegion ∷ kid OfType ∷ []) 0
row FnDefType = node (codes "fndef") OfType (item CallablePlace ∷ arguments Whole ∷ []) 0
row FnPtrType = node (codes "fnptr") OfType (ForGroup ∷ one_of Safety ∷ one_of Abi ∷ one_of Variadic ∷ some_members TypeList OfType ArityIfEmpty ∷ []) 0
row UnsafeBinderType = node (codes "unsafe") OfType (ForGroup ∷ kid OfType ∷ []) 0
row DynType = node (codes "dyn") OfType (members ExistentialList OfExistential ∷ kid OfRegion ∷ []) 0
row ClosureType = node (codes "closure") OfType (item ClosurePlace ∷ arguments (WithTypes ClosureItem 3) ∷ []) 0
row CoroutineClosureType = node (codes "coclosure") OfType (item CoroutinePlace ∷ arguments (WithTypes CoroutineItem 4) ∷ []) 0
row CoroutineType = node (codes "coroutine") OfType (item CoroutinePlace ∷ arguments (WithTypes CoroutineItem 5) ∷ []) HAS_TY_COROUTINE
row WitnessType = node (codes "witness") OfType (item CoroutinePlace ∷ arguments (WithTypes CoroutineItem 5) ∷ []) 0
row TupleType = node (codes "tuple") OfType (members TypeList OfType ∷ []) 0
row ProjectionAlias = node (codes "alias") OfType (Fixed Projection ∷ item AliasPlace ∷ arguments Whole ∷ []) HAS_TY_PROJECTION
row InherentAlias = node (codes "alias") OfType (Fixed Inherent ∷ item AliasPlace ∷ arguments Whole ∷ []) HAS_TY_INHERENT
row FreeAlias = node (codes "alias") OfType (Fixed Free ∷ item AliasPlace ∷ arguments Whole ∷ []) HAS_TY_FREE_ALIAS
row OpaqueAlias = node (codes "alias") OfType (Fixed Opaque ∷ item OpaquePlace ∷ arguments Whole ∷ []) HAS_TY_OPAQUE
row TypeParameter = node (codes "tparam") OfType (parameter_parent ∷ number ∷ number ∷ []) HAS_TY_PARAM
row TypeVariable = node (codes "tyvar") OfType (number ∷ []) HAS_TY_INFER
row IntegerVariable = node (codes "intvar") OfType (number ∷ []) HAS_TY_INFER
row FloatVariable = node (codes "floatvar") OfType (number ∷ []) HAS_TY_INFER
row FreshType = node (codes "freshty") OfType (number ∷ []) HAS_TY_FRESH
row FreshInteger = node (codes "freshint") OfType (number ∷ []) HAS_TY_FRESH
row FreshFloat = node (codes "freshfloat") OfType (number ∷ []) HAS_TY_FRESH
row StaticRegion = bare (codes "static") OfRegion HAS_FREE_REGIONS
row ErasedRegion = bare (codes "erased") OfRegion HAS_RE_ERASED
row ErrorRegion = bare (codes "reerror") OfRegion (HAS_FREE_REGIONS + HAS_ERROR)
row RegionParameter = node (codes "early") OfRegion (parameter_parent ∷ number ∷ number ∷ []) (HAS_FREE_REGIONS + HAS_FREE_LOCAL_REGIONS + HAS_RE_PARAM)
row LateRegion = node (codes "late") OfRegion (any_item ∷ region_kind ∷ []) (HAS_FREE_REGIONS + HAS_FREE_LOCAL_REGIONS)
row RegionVariable = node (codes "revar") OfRegion (number ∷ []) (HAS_FREE_REGIONS + HAS_FREE_LOCAL_REGIONS + HAS_RE_INFER)
row ConstantParameter = node (codes "cparam") OfConstant (parameter_parent ∷ number ∷ number ∷ []) HAS_CT_PARAM
row ConstantVariable = node (codes "ctvar") OfConstant (number ∷ []) HAS_CT_INFER
row FreshConstant = node (codes "freshct") OfConstant (number ∷ []) HAS_CT_FRESH
row UnevaluatedConstant = node (codes "uneval") OfConstant (item ConstantPlace ∷ arguments Whole ∷ []) HAS_CT_PROJECTION
row ValueConstant = node (codes "value") OfConstant (kid OfType ∷ kid OfBytes ∷ []) 0
row ExprConstant = bare (codes "expr") OfConstant HAS_CT_PROJECTION
row ErrorConstant = bare (codes "cterror") OfConstant HAS_ERROR
row CanonicalVariable = by_kind (codes "var") (Fixed Star ∷ number ∷ variable_kind ∷ [])
row BoundVariable = by_kind (codes "var") (number ∷ number ∷ variable_kind ∷ [])
row Placeholder = by_kind (codes "place") (number ∷ number ∷ variable_kind ∷ [])
row ByteTree = node (codes "bytes") OfBytes (memory ∷ []) 0
row RangePattern = node (codes "range") OfPattern (kid OfConstant ∷ kid OfConstant ∷ []) 0
row OrPattern = node (codes "or") OfPattern (some_members PatternList OfPattern EmptyOrIfEmpty ∷ []) 0
row NotNullPattern = bare (codes "notnull") OfPattern 0
row ExistentialTrait = node (codes "extrait") OfExistential (ForGroup ∷ item TraitPlace ∷ arguments WithoutSelf ∷ []) 0
row ExistentialProjection = node (codes "exproj") OfExistential (ForGroup ∷ trait_alias ∷ arguments WithoutSelf ∷ type_or_constant ∷ []) 0
row ExistentialAuto = node (codes "exauto") OfExistential (ForGroup ∷ item TraitPlace ∷ []) 0
row TraitClause = node (codes "trait") OfPredicate (ForGroup ∷ one_of Polarity ∷ item TraitPlace ∷ arguments Whole ∷ []) 0
row RegionOutlives = node (codes "reoutlives") OfPredicate (ForGroup ∷ kid OfRegion ∷ kid OfRegion ∷ []) 0
row TypeOutlives = node (codes "tyoutlives") OfPredicate (ForGroup ∷ kid OfType ∷ kid OfRegion ∷ []) 0
row ProjectionClause = node (codes "projects") OfPredicate (ForGroup ∷ item ProjectedPlace ∷ arguments Whole ∷ type_or_constant ∷ []) 0
row ConstantHasType = node (codes "ctty") OfPredicate (ForGroup ∷ kid OfConstant ∷ kid OfType ∷ []) 0
row WellFormed = node (codes "wf") OfPredicate (ForGroup ∷ type_or_constant ∷ []) 0
row ConstantEvaluatable = node (codes "evaluatable") OfPredicate (ForGroup ∷ kid OfConstant ∷ []) 0
row HostEffect = node (codes "host") OfPredicate (ForGroup ∷ one_of Constness ∷ item TraitPlace ∷ arguments Whole ∷ []) 0
row UnstableFeature = node (codes "unstable") OfPredicate (ForGroup ∷ []) 0
row DynCompatible = node (codes "dyncompat") OfPredicate (ForGroup ∷ item TraitPlace ∷ []) 0
row SubtypePredicate = node (codes "subtype") OfPredicate (ForGroup ∷ one_of Expected ∷ kid OfType ∷ kid OfType ∷ []) 0
row CoercePredicate = node (codes "coerce") OfPredicate (ForGroup ∷ kid OfType ∷ kid OfType ∷ []) 0
row ConstantEquate = node (codes "consteq") OfPredicate (ForGroup ∷ kid OfConstant ∷ kid OfConstant ∷ []) 0
row AmbiguousPredicate = node (codes "ambiguous") OfPredicate (ForGroup ∷ []) 0
row NormalizesTo = node (codes "normalizes") OfPredicate (ForGroup ∷ item ProjectedPlace ∷ arguments Whole ∷ type_or_constant ∷ []) 0
row AliasRelate = node (codes "aliasrelate") OfPredicate (ForGroup ∷ one_of Direction ∷ type_or_constant ∷ type_or_constant ∷ []) 0
row TypeList = list_row
row ArgumentList = list_row
row PatternList = list_row
row ExistentialList = list_row
row ClauseList = list_row
row VariableList = list_row
row VarianceList = list_row
row AssumptionList = list_row

-- the predicates that are clauses
abbrev pub clause_words : List Word
clause_words = TraitClause ∷ RegionOutlives ∷ TypeOutlives ∷ ProjectionClause ∷ ConstantHasType ∷ WellFormed ∷ ConstantEvaluatable ∷ HostEffect ∷ UnstableFeature ∷ []
