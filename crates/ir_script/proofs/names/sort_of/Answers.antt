use Rattle.std.proofs.Common.{ap, sym, ◌∙◌}
use Rattle.ir_script.specs.LookedUp.{sort_of_sorts}
use Rattle.ir_script.proofs.ResolveLemmas.{sort_always, sort_by_kind, sorts_of}
use Rattle.ir_script.proofs.names.sort_of.Goals as goal

pub returns-in-Some : goal.returns-in-Some
returns-in-Some c = λ fields is. sort_always _ fields _ c.in-Some.ensures

pub returns-in-None : goal.returns-in-None
returns-in-None c = λ fields is. c.first_sort.ensures ∙ ap sort_of_sorts (sym is) ∙ sorts_of fields ∙ sort_by_kind _ fields c.in-None.ensures
