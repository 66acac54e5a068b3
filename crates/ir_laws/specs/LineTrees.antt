-- The operands of a line, its term, the trees that it makes, and those that it spells.
use Rattle.std.specs.Prelude.{ℕ, ◌+◌, Bool, List, [], ◌∷◌, ◌++◌, map, flat_map, Option, Some, None}
use Rattle.ir_laws.specs.declared.words.Word.TheVariants.{ArgumentList, ClauseList}
use Rattle.ir_laws.specs.Tree.{Text, Var, Term}
use Rattle.ir_laws.specs.Counts.{occurring}
use Rattle.ir_laws.specs.Start.{node}
use Rattle.ir_laws.specs.Form.{Form, Blank, Declare, Let, Print, Same, Flags, Open, Subst, Shift, Renumber, Anon, Super, Elab}
use Rattle.ir_laws.specs.Environment.{Environment, item_named}
use Rattle.ir_laws.specs.Limits.{Limits, is_within}
use Rattle.ir_laws.specs.CommandReading.{open_reading, subst_reading, shift_reading, renumber_reading, term_of}
use Rattle.ir_laws.specs.Elaboration.{implied_by, anonymous_form, super_term, anon_trees, super_trees, candidates, elaborate, elaborated}

-- a list of the value, where there is one
abbrev pub maybe_list : {A : Type 0} → Option A → List A
maybe_list None = []
maybe_list (Some x) = x ∷ []

-- the declared term of the item of this name
abbrev pub declared_term : Environment → Text → Option Term
declared_term env name = elim (item_named env name) [ Some i ↦ i.decl | None ↦ None ]

-- the trees of the line's terms; a list part is one operand
abbrev pub operands : Form Term → List Term
operands Blank = []
operands (Declare d) = maybe_list d.decl ++ node ClauseList d.clauses ∷ []
operands (Let name t) = t ∷ []
operands (Print t) = t ∷ []
operands (Same t u) = t ∷ u ∷ []
operands (Flags t) = t ∷ []
operands (Open t rs) = t ∷ map (λ r. r.term) rs
operands (Subst item ts) = node ArgumentList ts ∷ []
operands (Shift n t) = t ∷ []
operands (Renumber n t) = t ∷ []
operands (Anon t) = t ∷ []
operands (Super c t) = c ∷ t ∷ []
operands (Elab ts) = ts

-- the declared term with its parameters given, where there is one
abbrev pub subst_terms : Option Term → List Term → List Term
subst_terms None ts = []
subst_terms (Some declared) ts = term_of (subst_reading declared ts) ∷ []

-- the command's term, and for `elab` the listed clauses; none for a line that has no term
abbrev pub terms_answered : Environment → Form Term → List Term
terms_answered env (Open t rs) = term_of (open_reading t rs) ∷ []
terms_answered env (Subst item ts) = subst_terms (declared_term env item) ts
terms_answered env (Shift n t) = term_of (shift_reading n t) ∷ []
terms_answered env (Renumber n t) = term_of (renumber_reading n t) ∷ []
terms_answered env (Anon t) = anonymous_form t ∷ []
terms_answered env (Super c t) = super_term c t ∷ []
terms_answered env (Elab ts) = elaborated env ts
terms_answered env form = []

-- a variable for each one of the outermost open binder
abbrev pub renumbered_variables : ℕ → Term → List Term
renumbered_variables n t = map (λ v. Var 0 (v.number + n) v.kind) (occurring 0 t)

-- what `super` makes of each candidate of these clauses
abbrev pub candidate_trees : Environment → List Term → List Term
candidate_trees env ts = flat_map (λ t. flat_map (λ c. super_trees c t) (implied_by env t)) ts

-- `elab`: what `super` makes of each candidate, what `anon` makes of each given clause and candidate, and the list of the result
abbrev pub elab_trees : (Term → Bool) → Environment → List Term → List Term
elab_trees fits env given = let listed = elaborate fits env given in candidate_trees env listed ++ flat_map anon_trees (given ++ candidates fits env listed) ++ node ClauseList listed ∷ []

-- the trees that a line makes beside its operands
abbrev pub made_trees : Limits → Environment → Form Term → List Term
made_trees limits env (Renumber n t) = renumbered_variables n t ++ term_of (renumber_reading n t) ∷ []
made_trees limits env (Anon t) = anon_trees t
made_trees limits env (Super c t) = super_trees c t
made_trees limits env (Elab ts) = elab_trees (is_within limits) env ts
made_trees limits env form = terms_answered env form

-- the trees that a line spells
abbrev pub spelled_trees : Environment → Form Term → List Term
spelled_trees env (Print t) = t ∷ []
spelled_trees env form = terms_answered env form
