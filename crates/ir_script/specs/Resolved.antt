-- What steps are when their names are looked up.
use Rattle.std.specs.Prelude.{◌≡◌, List, [], ◌∷◌, Some}
use Rattle.ir_laws.specs.Counts.{sort_of_label}
use Rattle.ir_laws.specs.Environment.{Environment, field_meant, kind_in}
use Rattle.ir_nodes.specs.Nodes as table
use Rattle.ir_nodes.specs.Nodes.{variable_seen}
use Rattle.ir_syntax.specs.Grammar.{field_seen, kind_seen}
use Rattle.ir_script.specs.Scope.{Named, part_named}
use Rattle.ir_laws.specs.Phrase.{Phrase}
use Rattle.ir_syntax.specs.Steps.{IsAmple, Stack, built, label_taken, only, step_on}
use Rattle.ir_script.specs.declared.resolved.Resolved.{Resolved}
use Rattle.ir_script.specs.declared.resolved.Resolved.TheVariants as seen
use Rattle.ir_syntax.specs.declared.steps.Step.{Step}
use Rattle.ir_syntax.specs.declared.steps.Step.TheVariants as code

module _ (env : Environment) (ns : List Named) where
  -- the step, on these stacks, is this
  abbrev pub IsResolved : Stack → Step → Resolved → Type 0
  IsResolved st (code.Name name) (seen.Term q) = part_named ns name.now ≡ Some q
  IsResolved st (code.Field f) (seen.Field g) = field_meant env (field_seen f) ≡ Some (table.field_seen g)
  IsResolved st (code.Variable k) (seen.Variable v) = kind_in env (kind_seen k) ≡ Some (variable_seen v)
  IsResolved st (code.Bind n) (seen.Bind m) = n ≡ m
  IsResolved st (code.Label w) (seen.Label v sort) = (w ≡ v) × (sort ≡ sort_of_label (label_taken w st)) × IsAmple st (code.Label w)
  IsResolved st (code.List w n) (seen.List v m) = (w ≡ v) × (n ≡ m) × IsAmple st (code.List w n)
  IsResolved st step r = ⊥

  -- each step, on the stacks that those before it leave, is the one at its place
  abbrev pub AreResolved : Stack → List Step → List Resolved → Type 0
  AreResolved st [] [] = Unit {0}
  AreResolved st (step ∷ steps) (r ∷ rs) = IsResolved st step r × AreResolved (step_on st step) steps rs
  AreResolved st steps rs = ⊥

  -- the resolved steps stand for these phrases: they are those of steps that build them
  pub record StandFor (rs : List Resolved) (ps : List Phrase) : Type 0 where
    pub steps : List Step
    pub built_is : built steps ≡ only ps
    pub resolved : AreResolved (only []) steps rs
