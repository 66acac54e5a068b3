-- The causes that a line's terms meet, whatever is asked of them, and what the making of these terms answers.
use Rattle.std.specs.Prelude.{◌≡◌, ◌⊎◌, Bool, true, ◌||◌, not, List, [], ◌∷◌, ◌++◌, length, map, Option, Some, None, Result, OnOk, IfErr}
use Rattle.std.specs.List.{list_all}
use Rattle.ir_core.specs.declared.handles.Part.{Part}
use Rattle.ir_laws.specs.Answer as answer
use Rattle.ir_laws.specs.Cause as cause
use Rattle.ir_laws.specs.Causes.{earliest, limit_causes, unlisted_causes}
use Rattle.ir_laws.specs.Environment.{Environment, tree_in}
use Rattle.ir_laws.specs.Formed.{is_formed}
use Rattle.ir_laws.specs.Heap.{Each, Grows, tree_of}
use Rattle.ir_laws.specs.Held.{HoldsJust}
use Rattle.ir_laws.specs.Limits.{Limits, capped}
use Rattle.ir_laws.specs.Names.{unless}
use Rattle.ir_laws.specs.Parts.{with_parts_of}
use Rattle.ir_laws.specs.Phrase.{Phrase, each_of}
use Rattle.ir_laws.specs.Sorts.{sort_of_phrase}
use Rattle.ir_laws.specs.Tree.{Term}
use Rattle.ir_table.specs.State.{State}
use Rattle.ir_script.specs.Answered.{left_by}
use Rattle.ir_script.specs.Causes.{cause_seen, Says}
use Rattle.ir_script.specs.Operands.{are_alike, operand_misfits, operand_unknowns}
use Rattle.ir_script.specs.Resolved.{StandFor}
use Rattle.ir_script.specs.Scope.{Named, AreTerms, IsTerm, env_of}
use Rattle.ir_syntax.specs.Steps.{Stack, only}
use Rattle.ir_script.specs.declared.causes.Cause.{Cause}
use Rattle.ir_script.specs.declared.resolved.Resolved.{Resolved}

-- the stacks hold nothing but terms of the grammar
pub record AreOperands (st : Stack) : Type 0 where
  pub alone : st ≡ only st.terms
  pub formed : list_all is_formed st.terms ≡ true

-- faults of the terms in their places, and of terms that are to be alike and aren't
abbrev pub operand_sorts : Environment → Bool → List Phrase → List cause.Cause
operand_sorts env alike ps = operand_misfits env ps ++ unless (not alike || are_alike (map (sort_of_phrase env) ps)) cause.WrongSort

-- the stages over the terms' trees, where all have one
abbrev pub operand_trees : Limits → List Term → Option (List Term) → List (List cause.Cause)
operand_trees limits held None = []
operand_trees limits held (Some ts) = limit_causes limits held ts ∷ unlisted_causes ts ∷ []

-- the causes that the terms meet, after lines that left this: those of their names, of their sorts, of limits or of variables
abbrev pub operand_causes : Limits → Bool → List Phrase → answer.State → List cause.Cause
operand_causes limits alike ps s = earliest (operand_unknowns s.environment ps ∷ operand_sorts s.environment alike ps ∷ operand_trees limits s.parts (each_of (tree_in s.environment) ps))

-- What the stages before the making say. Want of memory has no clause
pub record FitOperands (env : Environment) (ns : List Named) (alike : Bool) (rs : List Resolved) (ps : List Phrase) (r : Result Unit Cause) : Type 0 where
  pub known : OnOk r (operand_unknowns env ps ≡ [])
  pub sorts : OnOk r (operand_sorts env alike ps ≡ [])
  pub stand : OnOk r (StandFor env ns rs ps)
  pub fault : IfErr r (λ c. (cause_seen c ≡ None) ⊎ Says c (earliest (operand_unknowns env ps ∷ operand_sorts env alike ps ∷ [])))

-- What the making of a line's terms says, where these parts were held. Want of memory has no clause
pub record MakesTerms (alike : Bool) (ps : List Phrase) (ns : List Named) (held : List Term) (old new : State) (qs : List Part) (r : Result Unit Cause) : Type 0 where
  pub clear : OnOk r (operand_causes (capped old.limits) alike ps (left_by old.heap ns held) ≡ [])
  pub trees : OnOk r (each_of (tree_in (env_of old.heap ns)) ps ≡ Some (map (tree_of new.heap) qs))
  pub left : OnOk r (HoldsJust new.heap (with_parts_of held (map (tree_of new.heap) qs)))
  pub names_are : OnOk r (env_of old.heap ns ≡ env_of new.heap ns)
  pub fault : IfErr r (λ c. (cause_seen c ≡ None) ⊎ Says c (operand_causes (capped old.limits) alike ps (left_by old.heap ns held)))

-- what stands then, whatever was held
pub record StandTerms (ns : List Named) (ps : List Phrase) (old new : State) (qs : List Part) (r : Result Unit Cause) : Type 0 where
  pub limits : new.limits ≡ old.limits
  pub grows : OnOk r (Grows old.heap new.heap)
  pub names : OnOk r (AreTerms new.heap ns)
  pub made : OnOk r (Each (IsTerm new.heap) qs)
  pub count : OnOk r (length qs ≡ length ps)
