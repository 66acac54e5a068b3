-- Kinds as views of nodes.
use Rattle.std.specs.Prelude.{ℕ, Bool, true, false}
use Rattle.ir_core.specs.declared.terms.AnyTerm.{AnyTerm}
use Rattle.ir_core.specs.declared.terms.AnyTerm.TheVariants as term
use Rattle.ir_core.specs.declared.handles.Part.{Part}
use Rattle.ir_core.specs.declared.handles.Part.TheVariants as part
use Rattle.ir_core.specs.declared.kinds.IntTy.{IntTy}
use Rattle.ir_core.specs.declared.kinds.IntTy.TheVariants as int
use Rattle.ir_core.specs.declared.kinds.UintTy.{UintTy}
use Rattle.ir_core.specs.declared.kinds.UintTy.TheVariants as uint
use Rattle.ir_core.specs.declared.kinds.FloatTy.{FloatTy}
use Rattle.ir_core.specs.declared.kinds.FloatTy.TheVariants as float
use Rattle.ir_core.specs.declared.kinds.Mutability.{Mutability}
use Rattle.ir_core.specs.declared.kinds.Mutability.TheVariants as mutability
use Rattle.ir_core.specs.declared.signatures.Safety.{Safety}
use Rattle.ir_core.specs.declared.signatures.Safety.TheVariants as safety
use Rattle.ir_core.specs.declared.signatures.FnAbi.{FnAbi}
use Rattle.ir_core.specs.declared.signatures.FnAbi.TheVariants as abi
use Rattle.ir_core.specs.declared.variables.BoundVarIndexKind.{BoundVarIndexKind}
use Rattle.ir_core.specs.declared.variables.BoundVarIndexKind.TheVariants as index
use Rattle.ir_core.specs.declared.variables.BoundVarKind.{BoundVarKind}
use Rattle.ir_core.specs.declared.variables.BoundVarKind.TheVariants as variable
use Rattle.ir_laws.specs.declared.words.Word.{Word}
use Rattle.ir_laws.specs.declared.words.Word.TheVariants.{BoolType, CharType, StrType, NeverType, I8Type, I16Type, I32Type, I64Type, I128Type, ISizeType, U8Type, U16Type, U32Type, U64Type, U128Type, USizeType, F16Type, F32Type, F64Type, F128Type, ErrorType, ArrayType, SliceType, PointerType, ReferenceType, FnPtrType, UnsafeBinderType, DynType, TupleType, TypeVariable, IntegerVariable, FloatVariable, FreshType, FreshInteger, FreshFloat, BoundVariable, CanonicalVariable, Placeholder, StaticRegion, ErasedRegion, ErrorRegion, RegionVariable, ConstantVariable, FreshConstant, ExprConstant, ErrorConstant}
use Rattle.ir_laws.specs.declared.labels.Keyword.{Keyword}
use Rattle.ir_laws.specs.declared.labels.Keyword.TheVariants.{Not, Mut, Safe, Unsafe, Rust, RustCall, C, System, Fixed, Variadic}
use Rattle.ir_core.specs.declared.kinds.InferTy.{InferTy}
use Rattle.ir_core.specs.declared.kinds.InferTy.TheVariants as infer
use Rattle.ir_core.specs.declared.kinds.TyKind.{TyKind}
use Rattle.ir_core.specs.declared.kinds.TyKind.TheVariants as kind
use Rattle.ir_core.specs.declared.kinds.RegionKind.{RegionKind}
use Rattle.ir_core.specs.declared.kinds.RegionKind.TheVariants as region
use Rattle.ir_core.specs.declared.kinds.InferConst.{InferConst}
use Rattle.ir_core.specs.declared.kinds.InferConst.TheVariants as infer_const
use Rattle.ir_core.specs.declared.kinds.ConstKind.{ConstKind}
use Rattle.ir_core.specs.declared.kinds.ConstKind.TheVariants as constant
use Rattle.ir_nodes.specs.declared.nodes.Content.{Content}
use Rattle.ir_nodes.specs.declared.nodes.Content.TheVariants.{Bare, Number, Numbered, Placed, One, Two, ChosenOne, ChosenTwo, BoundOne, Signature}
use Rattle.ir_nodes.specs.declared.nodes.Node.{Node}
use Rattle.ir_core.specs.declared.handles.PartSort.{PartSort}
use Rattle.ir_core.specs.declared.handles.PartSort.TheVariants as sort
use Rattle.ir_nodes.specs.declared.views.AnyKind.{AnyKind}
use Rattle.ir_nodes.specs.declared.views.AnyKind.TheVariants as any

abbrev pub int_word : IntTy → Word
int_word int.I8 = I8Type
int_word int.I16 = I16Type
int_word int.I32 = I32Type
int_word int.I64 = I64Type
int_word int.I128 = I128Type
int_word int.Isize = ISizeType

abbrev pub uint_word : UintTy → Word
uint_word uint.U8 = U8Type
uint_word uint.U16 = U16Type
uint_word uint.U32 = U32Type
uint_word uint.U64 = U64Type
uint_word uint.U128 = U128Type
uint_word uint.Usize = USizeType

abbrev pub float_word : FloatTy → Word
float_word float.F16 = F16Type
float_word float.F32 = F32Type
float_word float.F64 = F64Type
float_word float.F128 = F128Type

abbrev pub mutability_word : Mutability → Keyword
mutability_word mutability.Not = Not
mutability_word mutability.Mut = Mut

abbrev pub safety_word : Safety → Keyword
safety_word safety.Safe = Safe
safety_word safety.Unsafe = Unsafe

abbrev pub abi_word : FnAbi → Keyword
abi_word abi.Rust = Rust
abi_word abi.RustCall = RustCall
abi_word abi.C = C
abi_word abi.System = System

abbrev pub variadic_word : Bool → Keyword
variadic_word true = Variadic
variadic_word false = Fixed

abbrev pub node : Word → Content → Node
node w c = record { word = w; content = c }

-- the node of a variable that is bound
abbrev pub bound_node : BoundVarIndexKind → ℕ → BoundVarKind → Node
bound_node (index.Bound i) n v = node BoundVariable (Placed i.0 n v)
bound_node index.Canonical n v = node CanonicalVariable (Numbered n v)

-- the node of a variable whose binder was opened
abbrev pub placeholder_node : ℕ → ℕ → BoundVarKind → Node
placeholder_node u n v = node Placeholder (Placed u n v)

abbrev pub infer_node : InferTy → Node
infer_node (infer.TyVar v) = node TypeVariable (Number v.0)
infer_node (infer.IntVar v) = node IntegerVariable (Number v.0)
infer_node (infer.FloatVar v) = node FloatVariable (Number v.0)
infer_node (infer.FreshTy n) = node FreshType (Number n)
infer_node (infer.FreshIntTy n) = node FreshInteger (Number n)
infer_node (infer.FreshFloatTy n) = node FreshFloat (Number n)

abbrev pub ty_node : TyKind → Node
ty_node kind.Bool = node BoolType Bare
ty_node kind.Char = node CharType Bare
ty_node (kind.Int i) = node (int_word i) Bare
ty_node (kind.Uint u) = node (uint_word u) Bare
ty_node (kind.Float f) = node (float_word f) Bare
ty_node kind.Str = node StrType Bare
ty_node (kind.Array t c) = node ArrayType (Two (part.Ty t) (part.Const c))
ty_node (kind.Slice t) = node SliceType (One (part.Ty t))
ty_node (kind.RawPtr t m) = node PointerType (ChosenOne (mutability_word m) (part.Ty t))
ty_node (kind.Ref r t m) = node ReferenceType (ChosenTwo (mutability_word m) (part.Region r) (part.Ty t))
ty_node (kind.FnPtr b h) = node FnPtrType (Signature (safety_word h.safety) (abi_word h.abi) (variadic_word h.c_variadic) b.bound_vars (part.Tys b.value.inputs_and_output))
ty_node (kind.UnsafeBinder b) = node UnsafeBinderType (BoundOne b.bound_vars (part.Ty b.value))
ty_node (kind.Dynamic es r) = node DynType (Two (part.BoundExistentialPredicates es) (part.Region r))
ty_node kind.Never = node NeverType Bare
ty_node (kind.Tuple ts) = node TupleType (One (part.Tys ts))
ty_node (kind.Bound i b) = bound_node i b.var.0 (variable.Ty b.kind)
ty_node (kind.Placeholder p) = placeholder_node p.universe.0 p.bound.var.0 (variable.Ty p.bound.kind)
ty_node (kind.Infer i) = infer_node i
ty_node (kind.Error e) = node ErrorType Bare

abbrev pub region_node : RegionKind → Node
region_node (region.ReBound i b) = bound_node i b.var.0 (variable.Region b.kind)
region_node region.ReStatic = node StaticRegion Bare
region_node (region.ReVar v) = node RegionVariable (Number v.0)
region_node (region.RePlaceholder p) = placeholder_node p.universe.0 p.bound.var.0 (variable.Region p.bound.kind)
region_node region.ReErased = node ErasedRegion Bare
region_node (region.ReError e) = node ErrorRegion Bare

abbrev pub infer_const_node : InferConst → Node
infer_const_node (infer_const.Var v) = node ConstantVariable (Number v.0)
infer_const_node (infer_const.Fresh n) = node FreshConstant (Number n)

abbrev pub const_node : ConstKind → Node
const_node (constant.Infer i) = infer_const_node i
const_node (constant.Bound i b) = bound_node i b.var.0 variable.Const
const_node (constant.Placeholder p) = placeholder_node p.universe.0 p.bound.var.0 variable.Const
const_node (constant.Error e) = node ErrorConstant Bare
const_node (constant.Expr e) = node ExprConstant Bare

-- the same of a kind of any sort
abbrev pub any_node : AnyKind → Node
any_node (any.Ty k) = ty_node k
any_node (any.Region k) = region_node k
any_node (any.Const k) = const_node k

abbrev pub any_sort : AnyKind → PartSort
any_sort (any.Ty k) = sort.Ty
any_sort (any.Region k) = sort.Region
any_sort (any.Const k) = sort.Const

-- the part of a term
abbrev pub part_of : AnyTerm → Part
part_of (term.Ty t) = part.Ty t
part_of (term.Region r) = part.Region r
part_of (term.Const c) = part.Const c
