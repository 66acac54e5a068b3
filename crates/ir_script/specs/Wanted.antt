-- What a contract sees of places and what they want.
use Rattle.std.specs.Prelude.{[], ◌∷◌, None}
use Rattle.ir_laws.specs.declared.words.Word.{Word}
use Rattle.ir_laws.specs.declared.labels.Sort.TheVariants.{OfType, OfConstant}
use Rattle.ir_laws.specs.Tree.{Text, Label}
use Rattle.ir_laws.specs.Label.{empty_cause}
use Rattle.ir_laws.specs.Sorts as spec
use Rattle.ir_laws.specs.Sorts.{operand, an_argument}
use Rattle.ir_script.specs.declared.sorts.Wanted.{Wanted}
use Rattle.ir_script.specs.declared.sorts.Wanted.TheVariants.{Operand, One, TypeOrConstant, Argument, Members, Arguments}

abbrev pub wanted_seen : Wanted → spec.Wanted
wanted_seen Operand = operand
wanted_seen (One sort) = spec.OfSorts (sort ∷ [])
wanted_seen TypeOrConstant = spec.OfSorts (OfType ∷ OfConstant ∷ [])
wanted_seen Argument = an_argument
wanted_seen (Members sort if_empty) = spec.Members sort (empty_cause if_empty)
wanted_seen Arguments = spec.Arguments None

-- the label of a word that keeps nothing beside it
abbrev pub bare : Word → Label Text
bare word = record { word = word; fields = [] }
