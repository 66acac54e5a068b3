-- Limits, and whether a term passes them.
use Rattle.std.specs.Prelude.{ℕ, ◌^◌, min, max, Bool, true, false, ◌&&◌, List, [], ◌∷◌, nat_le}
use Rattle.ir_core.specs.declared.ids.SolverDefId.{SolverDefId}
use Rattle.ir_laws.specs.declared.words.Word.TheVariants.{CanonicalVariable}
use Rattle.ir_laws.specs.Word.{same_word}
use Rattle.ir_laws.specs.Tree.{Field, Number, Label, Var, Param, Node, End, And, Term, Terms}
use Rattle.ir_laws.specs.Counts.{height}

-- the greatest index and number of a variable, the greatest height of a term, how many parts may be held, and how large the spelled terms of one line may be together
pub record Limits : Type 0 where
  pub index : ℕ
  pub number : ℕ
  pub height : ℕ
  pub nodes : ℕ
  pub size : ℕ

-- each limit counts as at most its cap, and a height below 3 as 3
abbrev pub capped : Limits → Limits
capped l = record { index = min l.index 65535; number = min l.number 65535; height = max 3 (min l.height 512); nodes = min l.nodes 4294967295; size = min l.size (2 ^ 48) }

-- the program's limits
abbrev pub program_limits : Limits
program_limits = record { index = 65535; number = 65535; height = 512; nodes = 1000000; size = 1000000 }

-- the first number among the fields
abbrev pub first_number : List (Field SolverDefId) → ℕ
first_number [] = 0
first_number (Number n ∷ fs) = n
first_number (f ∷ fs) = first_number fs

-- a canonical variable has a number, and no index
abbrev pub label_fits : Limits → Label SolverDefId → Bool
label_fits limits l = elim (same_word l.word CanonicalVariable) [ true ↦ nat_le (first_number l.fields) limits.number | false ↦ true ]

-- the indices and numbers of variables are at most the limits
abbrev mutual
  pub variables_fit : Limits → Term → Bool
  variables_fit limits (Var i n k) = nat_le i limits.index && nat_le n limits.number
  variables_fit limits (Param p) = true
  variables_fit limits (Node l b ts) = label_fits limits l && all_variables_fit limits ts

  pub all_variables_fit : Limits → Terms → Bool
  all_variables_fit limits End = true
  all_variables_fit limits (And t ts) = variables_fit limits t && all_variables_fit limits ts

-- no index, number or height passes its limit
abbrev pub is_within : Limits → Term → Bool
is_within limits t = nat_le (height t) limits.height && variables_fit limits t
