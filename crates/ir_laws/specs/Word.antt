-- The words of labels.
use Rattle.std.specs.Prelude.{Bool, List, [], ◌∷◌}
use denote.Enum.Bare.{sameb}
use Rattle.ir_laws.specs.contracts.words.Word.{the_type}
use Rattle.ir_laws.specs.declared.words.Word.{Word}
use Rattle.ir_laws.specs.declared.words.Word.TheVariants.{BoolType, CharType, StrType, NeverType, I8Type, I16Type, I32Type, I64Type, I128Type, ISizeType, U8Type, U16Type, U32Type, U64Type, U128Type, USizeType, F16Type, F32Type, F64Type, F128Type, ErrorType, AdtType, ForeignType, ArrayType, PatternType, SliceType, PointerType, ReferenceType, FnDefType, FnPtrType, UnsafeBinderType, DynType, ClosureType, CoroutineClosureType, CoroutineType, WitnessType, TupleType, ProjectionAlias, InherentAlias, FreeAlias, OpaqueAlias, TypeParameter, TypeVariable, IntegerVariable, FloatVariable, FreshType, FreshInteger, FreshFloat, StaticRegion, ErasedRegion, ErrorRegion, RegionParameter, LateRegion, RegionVariable, ConstantParameter, ConstantVariable, FreshConstant, UnevaluatedConstant, ValueConstant, ExprConstant, ErrorConstant, CanonicalVariable, BoundVariable, Placeholder, ByteTree, RangePattern, OrPattern, NotNullPattern, ExistentialTrait, ExistentialProjection, ExistentialAuto, TraitClause, RegionOutlives, TypeOutlives, ProjectionClause, ConstantHasType, WellFormed, ConstantEvaluatable, HostEffect, UnstableFeature, DynCompatible, SubtypePredicate, CoercePredicate, ConstantEquate, AmbiguousPredicate, NormalizesTo, AliasRelate}

-- whether two words are the same
abbrev pub same_word : Word → Word → Bool
same_word = sameb the_type

-- The words that a script could write. A label with a second fixed word comes before the one of the same first word without it
abbrev pub all_label_words : List Word
all_label_words = BoolType ∷ CharType ∷ StrType ∷ NeverType ∷ I8Type ∷ I16Type ∷ I32Type ∷ I64Type ∷ I128Type ∷ ISizeType ∷ U8Type ∷ U16Type ∷ U32Type ∷ U64Type ∷ U128Type ∷ USizeType ∷ F16Type ∷ F32Type ∷ F64Type ∷ F128Type ∷ ErrorType ∷ AdtType ∷ ForeignType ∷ ArrayType ∷ PatternType ∷ SliceType ∷ PointerType ∷ ReferenceType ∷ FnDefType ∷ FnPtrType ∷ UnsafeBinderType ∷ DynType ∷ ClosureType ∷ CoroutineClosureType ∷ CoroutineType ∷ WitnessType ∷ TupleType ∷ ProjectionAlias ∷ InherentAlias ∷ FreeAlias ∷ OpaqueAlias ∷ TypeParameter ∷ TypeVariable ∷ IntegerVariable ∷ FloatVariable ∷ FreshType ∷ FreshInteger ∷ FreshFloat ∷ StaticRegion ∷ ErasedRegion ∷ ErrorRegion ∷ RegionParameter ∷ LateRegion ∷ RegionVariable ∷ ConstantParameter ∷ ConstantVariable ∷ FreshConstant ∷ UnevaluatedConstant ∷ ValueConstant ∷ ExprConstant ∷ ErrorConstant ∷ CanonicalVariable ∷ BoundVariable ∷ Placeholder ∷ ByteTree ∷ RangePattern ∷ OrPattern ∷ NotNullPattern ∷ ExistentialTrait ∷ ExistentialProjection ∷ ExistentialAuto ∷ TraitClause ∷ RegionOutlives ∷ TypeOutlives ∷ ProjectionClause ∷ ConstantHasType ∷ WellFormed ∷ ConstantEvaluatable ∷ HostEffect ∷ UnstableFeature ∷ DynCompatible ∷ SubtypePredicate ∷ CoercePredicate ∷ ConstantEquate ∷ AmbiguousPredicate ∷ NormalizesTo ∷ AliasRelate ∷ []

-- The words that the grammar knows so far: a label of another word is no term
abbrev pub label_words : List Word
label_words = BoolType ∷ U8Type ∷ ReferenceType ∷ FnPtrType ∷ UnsafeBinderType ∷ TupleType ∷ StaticRegion ∷ ErasedRegion ∷ CanonicalVariable ∷ BoundVariable ∷ []
