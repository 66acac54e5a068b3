use Rattle.std.proofs.Common.{◌≤◌, [], length, Option, IfSome, subst, ap, sym, ◌∙◌}
use Rattle.ir_syntax.specs.Frames.{maybe_on, taken_by}
use Rattle.ir_syntax.specs.Steps.{AreAmple, IsKnown, built, only}
use Rattle.ir_syntax.specs.declared.steps.Step.{Step}
use Rattle.ir_syntax.proofs.RoomLemmas.{ample-push}
use Rattle.ir_syntax.proofs.ReaderLemmas.{steps_on-push}
use Rattle.ir_syntax.proofs.scan.Reader.put.Goals as goal

pub returns-in_ok-push-clause-put : goal.returns-in_ok-push-clause-put
returns-in_ok-push-clause-put c = ap built c.in_ok-push.ensures.items ∙ steps_on-push (only []) c.args.self.now.steps.items _ ∙ ap (λ s. maybe_on s (built c.args.self.now.steps.items)) (sym c.in-Some.is)

pub returns-in_ok-push-clause-ample : goal.returns-in_ok-push-clause-ample
returns-in_ok-push-clause-ample c = λ enough known all.
    let one = subst (λ (o : Option Step). taken_by o ≤ length (built c.args.self.now.steps.items).terms) c.in-Some.is enough in
    subst (AreAmple (only [])) (sym c.in_ok-push.ensures.items) (ample-push (only []) c.args.self.now.steps.items _ all (one, subst (λ (o : Option Step). IfSome o IsKnown) c.in-Some.is known))
