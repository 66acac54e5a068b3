-- What the stages of a line's operands say: its names, and the sorts of what stands in its places.
use Rattle.std.specs.Prelude.{◌≡◌, ◌⊎◌, Bool, true, ◌&&◌, List, [], ◌∷◌, flat_map, map, Option, None, Result, OnOk, IfErr, IfOk}
use Rattle.ir_laws.specs.Cause as cause
use Rattle.ir_laws.specs.Causes.{earliest}
use Rattle.ir_laws.specs.Environment.{Environment}
use Rattle.ir_laws.specs.Names.{unknown_list}
use Rattle.ir_laws.specs.Phrase.{Phrase}
use Rattle.ir_laws.specs.Sorts.{are_of_one_sort, misfits, operand, sort_of_phrase}
use Rattle.ir_laws.specs.declared.labels.Sort.{Sort}
use Rattle.ir_script.specs.Causes.{cause_seen, Says}
use Rattle.ir_script.specs.Resolved.{StandFor}
use Rattle.ir_script.specs.Scope.{Named}
use Rattle.ir_script.specs.declared.causes.Cause.{Cause}
use Rattle.ir_script.specs.declared.resolved.Resolved.{Resolved}

-- each has a sort, and it is that of the one before
abbrev pub are_alike : List (Option Sort) → Bool
are_alike [] = true
are_alike (s ∷ []) = true
are_alike (s ∷ t ∷ ss) = are_of_one_sort s t && are_alike (t ∷ ss)

-- the names of the operands that aren't declared, and their faults in their places
abbrev pub operand_unknowns : Environment → List Phrase → List cause.Cause
operand_unknowns env ps = unknown_list env None ps

abbrev pub operand_misfits : Environment → List Phrase → List cause.Cause
operand_misfits env ps = flat_map (misfits env operand) ps

-- What the looking up of names answers. A variable kind with the name of a term is a fault of sorts. Want of memory has no clause
pub record AnswersNames (env : Environment) (ns : List Named) (rs : List Resolved) (ps : List Phrase) (r : Result Unit Cause) : Type 0 where
  pub known : OnOk r (operand_unknowns env ps ≡ [])
  pub stand : OnOk r (StandFor env ns rs ps)
  pub fault : IfErr r (λ c. (cause_seen c ≡ None) ⊎ Says c (earliest (operand_unknowns env ps ∷ operand_misfits env ps ∷ [])))

-- What the test of places answers: on Ok, whether all operands have one sort. Want of memory has no clause
pub record AnswersPlaces (env : Environment) (ps : List Phrase) (r : Result Bool Cause) : Type 0 where
  pub fit : OnOk r (operand_misfits env ps ≡ [])
  pub alike : IfOk r (λ b. b ≡ are_alike (map (sort_of_phrase env) ps))
  pub fault : IfErr r (λ c. (cause_seen c ≡ None) ⊎ Says c (operand_misfits env ps))
