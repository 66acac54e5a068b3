use Rattle.std.proofs.Common.{Some, None, refl, sym, ◌∙◌}
use Rattle.ir_laws.specs.Expression.{Group}
use Rattle.ir_syntax.specs.Frames.{finish}
use Rattle.ir_syntax.specs.declared.frames.Frame.TheVariants as code
use Rattle.ir_syntax.proofs.FrameLemmas.{group-then, kid-then, list-begun, reads-by}
use Rattle.ir_syntax.proofs.frames.part_frame.Goals as goal

pub returns-in-ForGroup-clause-read : goal.returns-in-ForGroup-clause-read
returns-in-ForGroup-clause-read c = λ inner. reads-by _ _ (Group inner) _ (finish code.Group inner) c.in-ForGroup.is (group-then (Group inner)) (λ st. refl)

pub returns-in-Some-clause-read : goal.returns-in-Some-clause-read
returns-in-Some-clause-read c = λ inner. reads-by _ _ (Group inner) _ (finish (code.List c.in-Some.list 0) inner) c.in-AKid.is (kid-then (Group inner) _ (Some c.in-Some.list) (sym c.in-Some.is ∙ c.list_word.ensures)) (list-begun c.in-Some.list inner)

pub returns-in-None-clause-read : goal.returns-in-None-clause-read
returns-in-None-clause-read c = λ inner. reads-by _ _ (Group inner) _ (finish code.Begun inner) c.in-AKid.is (kid-then (Group inner) _ None (sym c.in-None.is ∙ c.list_word.ensures)) (λ st. refl)
