-- The causes that a line meets, stage by stage.
use Rattle.std.specs.Prelude.{ℕ, zero, suc, Bool, true, false, ◌&&◌, List, [], ◌∷◌, ◌++◌, map, flat_map, filter, length, sum_by, Option, Some, None, nat_eq, nat_le, slice_get}
use Rattle.ir_core.specs.declared.ids.SolverDefId.{SolverDefId}
use Rattle.ir_laws.specs.declared.labels.Sort.{Sort}
use Rattle.ir_laws.specs.Tree.{Kind, Parameter, Var, Param, Node, End, And, Term, Terms}
use Rattle.ir_laws.specs.Id.{same_id}
use Rattle.ir_laws.specs.Same.{same_sort, same_kind}
use Rattle.ir_laws.specs.Cause.{Cause, Syntax, WrongSort, Arity, TooDeep, TooMany, Unlisted, Escapes, MissingVar, TooLarge}
use Rattle.ir_laws.specs.Counts.{outer, size, used, sort_of}
use Rattle.ir_laws.specs.Phrase.{Phrase}
use Rattle.ir_laws.specs.Form.{Replacement, Form, Declare, Open, Subst, Super, Elab}
use Rattle.ir_laws.specs.Environment.{Environment, item_at, with_own, form_trees}
use Rattle.ir_laws.specs.Names.{unless, has_replacement, name_causes}
use Rattle.ir_laws.specs.Sorts.{sort_causes}
use Rattle.ir_laws.specs.Limits.{Limits, is_within}
use Rattle.ir_laws.specs.Parts.{with_parts_of}
use Rattle.ir_laws.specs.CommandReading.{bound_kinds, arguments_of}
use Rattle.ir_laws.specs.Elaboration.{implied, positive_trait, all_fit}
use Rattle.ir_laws.specs.LineTrees.{operands, declared_term, made_trees, spelled_trees}

-- ---- stages 4 and 6: limits

-- some tree passes a limit
abbrev pub depth_causes : Limits → List Term → List Cause
depth_causes limits ts = unless (all_fit (is_within limits) ts) TooDeep

-- the parts that are held, with those of the trees, are too many
abbrev pub count_causes : Limits → List Term → List Term → List Cause
count_causes limits held ts = unless (nat_le (length (with_parts_of held ts)) limits.nodes) TooMany

-- a tree passes a limit, or there are too many parts
abbrev pub limit_causes : Limits → List Term → List Term → List Cause
limit_causes limits held ts = depth_causes limits ts ++ count_causes limits held ts

-- ---- stage 5: variables and parameters

-- whether a list of kinds has this kind at this number
abbrev pub lists : List (Kind SolverDefId) → ℕ → Kind SolverDefId → Bool
lists ks n k = elim (slice_get ks n) [ Some l ↦ same_kind l k | None ↦ false ]

-- whether the binder at an index lists this number and kind; a variable that is bound further out isn't looked at
abbrev pub is_listed : List (List (Kind SolverDefId)) → ℕ → ℕ → Kind SolverDefId → Bool
is_listed binds i n k = elim (slice_get binds i) [ Some ks ↦ lists ks n k | None ↦ true ]

-- each variable below a binder that it points to has a number and a kind that this binder lists; the innermost binder is the first
abbrev mutual
  pub are_listed : List (List (Kind SolverDefId)) → Term → Bool
  are_listed binds (Var i n k) = is_listed binds i n k
  are_listed binds (Param p) = true
  are_listed binds (Node l None ts) = all_are_listed binds ts
  are_listed binds (Node l (Some ks) ts) = all_are_listed (ks ∷ binds) ts

  pub all_are_listed : List (List (Kind SolverDefId)) → Terms → Bool
  all_are_listed binds End = true
  all_are_listed binds (And t ts) = are_listed binds t && all_are_listed binds ts

-- some term has a variable that its binder doesn't list
abbrev pub unlisted_causes : List Term → List Cause
unlisted_causes ts = unless (all_fit (are_listed []) ts) Unlisted

-- some term speaks of a binder outside of it
abbrev pub escape_causes : List Term → List Cause
escape_causes ts = unless (all_fit (λ t. nat_eq (outer t) 0) ts) Escapes

-- a binder to be opened speaks of no binder outside of it
abbrev pub opened_causes : Term → List Cause
opened_causes b = escape_causes (b ∷ [])

-- a replacement is of a listed variable and of its sort, and speaks of at most one binder outside of it
abbrev pub replacement_causes : Term → Replacement Term → List Cause
replacement_causes b r = elim (slice_get (bound_kinds b) r.number) [
  | Some k ↦ unless (same_sort k.sort (sort_of r.term)) WrongSort
  | None ↦ Unlisted ∷ []
]
    ++ unless (nat_le (outer r.term) 1) Escapes

-- each used variable of the opened binder has a replacement
abbrev pub missing_causes : Term → List (Replacement Term) → List Cause
missing_causes b rs = flat_map (λ v. unless (has_replacement rs v.number) MissingVar) (used b)

-- the parameters in a term, from left to right
abbrev mutual
  pub parameters : Term → List Parameter
  parameters (Var i n k) = []
  parameters (Param p) = p ∷ []
  parameters (Node l b ts) = all_parameters ts

  pub all_parameters : Terms → List Parameter
  all_parameters End = []
  all_parameters (And t ts) = parameters t ++ all_parameters ts

-- a parameter has an argument, and one of its sort
abbrev pub parameter_causes : List Sort → Parameter → List Cause
parameter_causes sorts p = elim (slice_get sorts p.index) [ Some s ↦ unless (same_sort s p.sort) WrongSort | None ↦ Arity ∷ [] ]

-- the causes of a term whose parameters are to have arguments of these sorts
abbrev pub given_causes : List Sort → Term → List Cause
given_causes sorts t = flat_map (parameter_causes sorts) (parameters t)

-- the same, where there is a term
abbrev pub given_causes_maybe : List Sort → Option Term → List Cause
given_causes_maybe sorts None = []
given_causes_maybe sorts (Some t) = given_causes sorts t

-- ---- the traits that an elaboration reaches

-- the list has no member
abbrev pub is_empty : {A : Type 0} → List A → Bool
is_empty [] = true
is_empty (x ∷ xs) = false

-- the sorts of an item's argument list
abbrev pub parameters_of_item : Environment → SolverDefId → List Sort
parameters_of_item env id = elim (item_at env id) [ Some i ↦ i.parameters | None ↦ [] ]

-- the clauses of a trait's implied ones that can be made from its arguments
abbrev pub fitting : Environment → SolverDefId → List Term
fitting env id = filter (λ c. is_empty (given_causes (parameters_of_item env id) c)) (implied env id)

-- the ids with one more, each once
abbrev pub with_id : List SolverDefId → SolverDefId → List SolverDefId
with_id [] n = n ∷ []
with_id (m ∷ ms) n = elim (same_id m n) [ true ↦ m ∷ ms | false ↦ m ∷ with_id ms n ]

-- the ids with the traits of the positive trait clauses among the terms
abbrev pub with_traits : List SolverDefId → List Term → List SolverDefId
with_traits ids [] = ids
with_traits ids (t ∷ ts) = elim (positive_trait t) [ Some id ↦ with_traits (with_id ids id) ts | None ↦ with_traits ids ts ]

-- the ids with the traits that these traits' fitting clauses are about
abbrev pub next_traits : Environment → List SolverDefId → List SolverDefId → List SolverDefId
next_traits env ids [] = ids
next_traits env ids (t ∷ ts) = next_traits env (with_traits ids (fitting env t)) ts

-- the traits' own faults, and level after level those of the traits that they imply; there are no more levels than items
abbrev pub reached_causes : ℕ → Environment → List SolverDefId → List Cause
reached_causes zero env ids = []
reached_causes (suc n) env ids = flat_map (λ id. flat_map (given_causes (parameters_of_item env id)) (implied env id)) ids ++ reached_causes n env (next_traits env [] ids)

-- the causes of the parameters in the clauses of all traits that the given ones reach
abbrev pub elab_causes : Environment → List Term → List Cause
elab_causes env ts = reached_causes (length env.items) env (with_traits [] ts)

-- ---- stage 5 of each form

-- the causes of stage 5 that belong to one form alone; unlisted variables are looked at in every form
abbrev pub form_causes : Environment → Form Term → List Cause
form_causes env (Declare d) = escape_causes (operands (Declare d))
form_causes env (Open b rs) = opened_causes b ++ flat_map (replacement_causes b) rs ++ missing_causes b rs
form_causes env (Subst item ts) = given_causes_maybe (map sort_of ts) (declared_term env item)
form_causes env (Super c t) = given_causes (map sort_of (arguments_of t)) c
form_causes env (Elab ts) = elab_causes env ts
form_causes env form = []

-- ---- stage 7

-- the trees to be spelled are together too large
abbrev pub size_causes : Limits → List Term → List Cause
size_causes limits ts = unless (nat_le (sum_by size ts) limits.size) TooLarge

-- ---- the stages

-- stages 4 to 7
abbrev pub tree_stages : Limits → Environment → List Term → Form Term → List (List Cause)
tree_stages limits env held form = limit_causes limits held (operands form)
    ∷ (unlisted_causes (operands form) ++ form_causes env form)
    ∷ limit_causes limits held (operands form ++ made_trees limits env form)
    ∷ size_causes limits (spelled_trees env form)
    ∷ []

-- names that mean no term are met at an earlier stage
abbrev pub tree_stages_if : Limits → Environment → List Term → Option (Form Term) → List (List Cause)
tree_stages_if limits env held None = []
tree_stages_if limits env held (Some form) = tree_stages limits env held form

-- the causes of the earliest stage that has some
abbrev pub earliest : List (List Cause) → List Cause
earliest [] = []
earliest ([] ∷ stages) = earliest stages
earliest ((c ∷ cs) ∷ stages) = c ∷ cs

-- The causes of the earliest stage that a line meets: 1 has no form, 2 names, 3 sorts, 4 limits of the operands, 5 variables and parameters, 6 limits of all trees, 7 size
abbrev pub causes_of : Limits → Environment → List Term → Option (Form Phrase) → List Cause
causes_of limits env held None = Syntax ∷ []
causes_of limits env held (Some form) = earliest (name_causes env form ∷ sort_causes env (with_own env form) form ∷ tree_stages_if limits env held (form_trees (with_own env form) form))
