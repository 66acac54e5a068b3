-- Measures of a term.
use Rattle.std.specs.Prelude.{ℕ, suc, ◌+◌, ◌-◌, max, Bool, true, false, ◌||◌, List, [], ◌∷◌, ◌++◌, sum_by, length, Option, Some, None, nat_eq, bit_or}
use Rattle.ir_core.specs.declared.ids.SolverDefId.{SolverDefId}
use Rattle.ir_laws.specs.declared.words.Word.{Word}
use Rattle.ir_laws.specs.declared.words.Word.TheVariants.{BoundVariable, TypeParameter, RegionParameter, ConstantParameter, CanonicalVariable, Placeholder}
use Rattle.ir_laws.specs.declared.labels.Sort.{Sort}
use Rattle.ir_laws.specs.declared.labels.Sort.TheVariants.{OfType, OfRegion, OfConstant, OfPattern, OfPredicate, OfBytes, OfExistential, OfList}
use Rattle.ir_laws.specs.Tree.{Kind, Field, OfKind, Memory, Label, Var, Param, Node, End, And, Term, Terms}
use Rattle.ir_laws.specs.Word.{same_word}
use Rattle.ir_laws.specs.Flag.{HAS_TY_BOUND, HAS_RE_BOUND, HAS_CT_BOUND, HAS_TY_PLACEHOLDER, HAS_RE_PLACEHOLDER, HAS_CT_PLACEHOLDER, HAS_FREE_REGIONS, HAS_FREE_LOCAL_REGIONS, HAS_CANONICAL_BOUND, HAS_BINDER_VARS}
use Rattle.ir_laws.specs.Label.{row, Always, ByKind}

-- a leaf has height 1, another node one more than its highest kid
abbrev mutual
  pub height : Term → ℕ
  height (Var i n k) = 1
  height (Param p) = 1
  height (Node l b ts) = 1 + heights ts

  pub heights : Terms → ℕ
  heights End = 0
  heights (And t ts) = max (height t) (heights ts)

-- how many variables a node binds
abbrev pub bind_size : Option (List (Kind SolverDefId)) → ℕ
bind_size None = 0
bind_size (Some b) = length b

-- a value's bytes, and for each address 8 and its bytes
abbrev pub field_size : Field SolverDefId → ℕ
field_size (Memory bytes mapped) = length bytes + sum_by (λ m. 8 + length m.bytes) mapped
field_size f = 0

-- 1, the variables that the node binds, its bytes, and the sizes of its kids
abbrev mutual
  pub size : Term → ℕ
  size (Var i n k) = 1
  size (Param p) = 1
  size (Node l b ts) = 1 + bind_size b + sum_by field_size l.fields + sizes ts

  pub sizes : Terms → ℕ
  sizes End = 0
  sizes (And t ts) = size t + sizes ts

-- how many binders outside of it a term speaks of
abbrev mutual
  pub outer : Term → ℕ
  outer (Var i n k) = suc i
  outer (Param p) = 0
  outer (Node l None ts) = outers ts
  outer (Node l (Some b) ts) = outers ts - 1

  pub outers : Terms → ℕ
  outers End = 0
  outers (And t ts) = max (outer t) (outers ts)

-- ---- flags

-- the flag of a bound variable, by its sort
abbrev pub bound_flag : Sort → ℕ
bound_flag OfType = HAS_TY_BOUND
bound_flag OfRegion = HAS_RE_BOUND
bound_flag OfConstant = HAS_CT_BOUND
bound_flag OfPattern = 0
bound_flag OfPredicate = 0
bound_flag OfBytes = 0
bound_flag OfExistential = 0
bound_flag OfList = 0

-- the flags of a placeholder, by its sort
abbrev pub placeholder_flags : Sort → ℕ
placeholder_flags OfType = HAS_TY_PLACEHOLDER
placeholder_flags OfRegion = HAS_RE_PLACEHOLDER + HAS_FREE_REGIONS + HAS_FREE_LOCAL_REGIONS
placeholder_flags OfConstant = HAS_CT_PLACEHOLDER
placeholder_flags OfPattern = 0
placeholder_flags OfPredicate = 0
placeholder_flags OfBytes = 0
placeholder_flags OfExistential = 0
placeholder_flags OfList = 0

-- the word of a parameter, by its sort
abbrev pub parameter_word : Sort → Word
parameter_word OfType = TypeParameter
parameter_word OfRegion = RegionParameter
parameter_word OfConstant = ConstantParameter
parameter_word OfPattern = TypeParameter
parameter_word OfPredicate = TypeParameter
parameter_word OfBytes = TypeParameter
parameter_word OfExistential = TypeParameter
parameter_word OfList = TypeParameter

-- the sort of the variable kind among the fields
abbrev pub sort_of_fields : {N : Type 0} → List (Field N) → Sort
sort_of_fields [] = OfList
sort_of_fields (OfKind k ∷ fs) = k.sort
sort_of_fields (f ∷ fs) = sort_of_fields fs

-- the flags of a node by itself; those of a canonical variable and of a placeholder go by the sort of its kind
abbrev pub own_flags : Label SolverDefId → ℕ
own_flags l = elim (same_word l.word CanonicalVariable) [
  | true ↦ bound_flag (sort_of_fields l.fields) + HAS_CANONICAL_BOUND
  | false ↦ elim (same_word l.word Placeholder) [ true ↦ placeholder_flags (sort_of_fields l.fields) | false ↦ (row l.word).flags ]
]

-- whether some variable is bound
abbrev pub binder_flag : Option (List (Kind SolverDefId)) → ℕ
binder_flag (Some (k ∷ ks)) = HAS_BINDER_VARS
binder_flag b = 0

-- the union of the own flags of all nodes
abbrev mutual
  pub flags : Term → ℕ
  flags (Var i n k) = bound_flag k.sort
  flags (Param p) = (row (parameter_word p.sort)).flags
  flags (Node l b ts) = bit_or (bit_or (own_flags l) (binder_flag b)) (all_flags ts)

  pub all_flags : Terms → ℕ
  all_flags End = 0
  all_flags (And t ts) = bit_or (flags t) (all_flags ts)

-- ---- variables

-- a variable's number and kind, without the binder that it points to
pub record Variable : Type 0 where
  pub number : ℕ
  pub kind : Kind SolverDefId

-- the variables of the binder that stands d binders further out, in order from left to right
abbrev mutual
  pub occurring : ℕ → Term → List Variable
  occurring d (Var i n k) = elim (nat_eq i d) [ true ↦ record { number = n; kind = k } ∷ [] | false ↦ [] ]
  occurring d (Param p) = []
  occurring d (Node l None ts) = all_occurring d ts
  occurring d (Node l (Some b) ts) = all_occurring (suc d) ts

  pub all_occurring : ℕ → Terms → List Variable
  all_occurring d End = []
  all_occurring d (And t ts) = occurring d t ++ all_occurring d ts

-- the variables of a node's own binder in its kids
abbrev pub own_variables : Term → List Variable
own_variables (Node l b ts) = all_occurring 0 ts
own_variables t = []

-- whether one of these variables has the number
abbrev pub has_number : List Variable → ℕ → Bool
has_number [] n = false
has_number (v ∷ vs) n = nat_eq v.number n || has_number vs n

-- the first variable of each number, after those that were seen
abbrev pub first_of_each : List Variable → List Variable → List Variable
first_of_each seen [] = []
first_of_each seen (v ∷ vs) = elim (has_number seen v.number) [ true ↦ first_of_each seen vs | false ↦ v ∷ first_of_each (v ∷ seen) vs ]

-- the numbers of a node's own binder that are used, each with the kind of its first occurrence, in order of these
abbrev pub used : Term → List Variable
used b = first_of_each [] (own_variables b)

-- ---- the sort of a term

-- the sort that the table gives, or that of the variable kind
abbrev pub sort_of_label : {N : Type 0} → Label N → Sort
sort_of_label l = elim ((row l.word).sort) [ Always s ↦ s | ByKind ↦ sort_of_fields l.fields ]

-- the sort of a term is that of its label
abbrev pub sort_of : Term → Sort
sort_of (Var i n k) = k.sort
sort_of (Param p) = p.sort
sort_of (Node l b ts) = sort_of_label l

-- the word of a term's label
abbrev pub word_of : Term → Word
word_of (Var i n k) = BoundVariable
word_of (Param p) = parameter_word p.sort
word_of (Node l b ts) = l.word

-- the variables that the top of a term binds, if it has a binder
abbrev pub bind_at_top : Term → Option (List (Kind SolverDefId))
bind_at_top (Node l b ts) = b
bind_at_top t = None
