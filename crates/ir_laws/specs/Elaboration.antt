-- The elaboration of clauses.
use Rattle.std.specs.Prelude.{ℕ, zero, suc, ◌+◌, Bool, true, false, ◌&&◌, List, [], ◌∷◌, ◌++◌, map, filter, flat_map, length, Option, Some, None, nat_eq}
use Rattle.ir_core.specs.declared.ids.SolverDefId.{SolverDefId}
use Rattle.ir_laws.specs.declared.words.Word.{Word}
use Rattle.ir_laws.specs.declared.labels.Keyword.TheVariants.{Pos}
use Rattle.ir_laws.specs.declared.words.Word.TheVariants.{TraitClause, TypeOutlives, ProjectionClause, HostEffect, ProjectionAlias}
use Rattle.ir_laws.specs.Word.{same_word}
use Rattle.ir_laws.specs.declared.labels.Sort.TheVariants.{OfType}
use Rattle.ir_laws.specs.Tree.{Field, Item, Chosen, Var, Param, Node, End, And, Term, Terms, term_list}
use Rattle.ir_laws.specs.Same.{same_sort}
use Rattle.ir_laws.specs.Counts.{Variable, own_variables, used}
use Rattle.ir_laws.specs.Reading.{without_name}
use Rattle.ir_laws.specs.Parts.{is_part}
use Rattle.ir_laws.specs.Environment.{Environment, item_at}
use Rattle.ir_laws.specs.Sorts.{is_word_among}
use Rattle.ir_laws.specs.CommandReading.{anon_reading, super_reading, renumber_reading, term_of, bound_kinds}

-- type parameter 0, or a projection whose first argument is so in turn
abbrev mutual
  pub is_self : Term → Bool
  is_self (Var i n k) = false
  is_self (Param p) = same_sort p.sort OfType && nat_eq p.index 0
  is_self (Node l b ts) = elim (same_word l.word ProjectionAlias) [ true ↦ first_begins_with_self ts | false ↦ false ]

  pub begins_with_self : Term → Bool
  begins_with_self (Var i n k) = false
  begins_with_self (Param p) = false
  begins_with_self (Node l b ts) = first_is_self ts

  pub first_is_self : Terms → Bool
  first_is_self End = false
  first_is_self (And t ts) = is_self t

  pub first_begins_with_self : Terms → Bool
  first_begins_with_self End = false
  first_begins_with_self (And t ts) = begins_with_self t

-- the clauses whose self type is the first argument
abbrev pub by_argument : List Word
by_argument = TraitClause ∷ ProjectionClause ∷ HostEffect ∷ []

-- a clause of these and a TypeOutlives clause is implied where its self type is Self, every other clause always
abbrev pub is_implied : Term → Bool
is_implied (Node l b ts) = elim (is_word_among by_argument l.word) [
  | true ↦ first_begins_with_self ts
  | false ↦ elim (same_word l.word TypeOutlives) [ true ↦ first_is_self ts | false ↦ true ]
]
is_implied t = true

-- the implied clauses of a trait, in declared order
abbrev pub implied : Environment → SolverDefId → List Term
implied env id = elim (item_at env id) [ Some i ↦ filter is_implied i.clauses | None ↦ [] ]

-- the trait of a trait clause's fields, where the polarity is `pos`
abbrev pub positive_trait_of_fields : List (Field SolverDefId) → Option SolverDefId
positive_trait_of_fields (Chosen Pos ∷ Item id ∷ fs) = Some id
positive_trait_of_fields fs = None

-- the trait of a positive trait clause
abbrev pub positive_trait : Term → Option SolverDefId
positive_trait (Node l b ts) = elim (same_word l.word TraitClause) [ true ↦ positive_trait_of_fields l.fields | false ↦ None ]
positive_trait t = None

-- the implied clauses of a positive trait clause's trait
abbrev pub implied_by : Environment → Term → List Term
implied_by env t = elim (positive_trait t) [ Some id ↦ implied env id | None ↦ [] ]

-- ---- the trees of `anon` and of `super`

-- a variable for each of these, numbered from j on and without names
abbrev pub numbered_from : ℕ → List Variable → List Term
numbered_from j [] = []
numbered_from j (v ∷ vs) = Var 0 j (without_name v.kind) ∷ numbered_from (suc j) vs

-- the term that `anon` makes
abbrev pub anonymous_form : Term → Term
anonymous_form b = term_of (anon_reading b)

-- a variable for each one used, and the term
abbrev pub anon_trees : Term → List Term
anon_trees b = numbered_from 0 (used b) ++ anonymous_form b ∷ []

-- the kids of a node; a leaf has none
abbrev pub kids : Term → List Term
kids (Node l b ts) = term_list ts
kids t = []

-- the term that `super` makes of a clause and a trait clause
abbrev pub super_term : Term → Term → Term
super_term c t = term_of (super_reading c t)

-- the renumbered variables of the clause's binder, its renumbered kids, and the term
abbrev pub super_trees : Term → Term → List Term
super_trees c t = map (λ v. Var 0 (v.number + length (bound_kinds t)) v.kind) (own_variables c) ++ map (λ k. term_of (renumber_reading (length (bound_kinds t)) k)) (kids c) ++ super_term c t ∷ []

-- ---- the list

-- each term passes the test
abbrev pub all_fit : (Term → Bool) → List Term → Bool
all_fit fits [] = true
all_fit fits (t ∷ ts) = fits t && all_fit fits ts

-- the implied clauses of a listed clause's trait from which a candidate can be made: the trees of `super` fit
abbrev pub makeable : (Term → Bool) → Environment → Term → List Term
makeable fits env t = filter (λ c. all_fit fits (super_trees c t)) (implied_by env t)

-- the candidates of these clauses, in order
abbrev pub candidates : (Term → Bool) → Environment → List Term → List Term
candidates fits env ts = flat_map (λ t. map (λ c. super_term c t) (makeable fits env t)) ts

-- these clauses without those whose anonymous form is that of a listed one, or of one before
abbrev pub not_yet_listed : List Term → List Term → List Term
not_yet_listed listed [] = []
not_yet_listed listed (t ∷ ts) = elim (is_part (map anonymous_form listed) (anonymous_form t)) [
  | true ↦ not_yet_listed listed ts
  | false ↦ t ∷ not_yet_listed (listed ++ t ∷ []) ts
]

-- Level after level: what is listed, then the candidates of what was listed last, and so on
abbrev pub with_levels : ℕ → (Term → Bool) → Environment → List Term → List Term → List Term
with_levels zero fits env listed last = listed
with_levels (suc n) fits env listed [] = listed
with_levels (suc n) fits env listed (t ∷ ts) = let next = not_yet_listed listed (candidates fits env (t ∷ ts)) in with_levels n fits env (listed ++ next) next

-- The given clauses, and level after level their candidates. An implied clause is of an earlier trait, so there are no more levels than items
abbrev pub elaborate : (Term → Bool) → Environment → List Term → List Term
elaborate fits env given = let first = not_yet_listed [] given in with_levels (length env.items) fits env first first

-- the listed clauses
abbrev pub elaborated : Environment → List Term → List Term
elaborated env given = elaborate (λ t. true) env given
