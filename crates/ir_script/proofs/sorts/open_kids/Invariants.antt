use Rattle.std.proofs.Common.{◌≡◌, ◌++◌, [], drop, Some}
use Rattle.ir_laws.specs.Environment.{Environment}
use Rattle.ir_laws.specs.Sorts.{kids_wanted, places}
use Rattle.ir_script.specs.Open.{kids_open, open_places, places_made}
use Rattle.ir_script.specs.Wanted.{bare, wanted_seen}
use Rattle.ir_script.proofs.sorts.open_kids.Given as goal

abbrev pub invariant-loop-part : goal.invariant-loop-part
invariant-loop-part l = (env : Environment) → open_places l.pending.items ++ kids_open (kids_wanted env [] (drop l.part-index l.part-items)) (places env (wanted_seen l.wanted) (bare l.fn.word)).further l.left
    ≡ open_places l.fn.pending.items ++ places_made env (wanted_seen l.wanted) (Some (l.fn.word, l.count))
