use Rattle.std.proofs.Common.{◌≡◌, ◌++◌, ◌∷◌, [], subst, rules}
use Rattle.ir_script.specs.LookedUp.{IsFaultOf, step_names, step_unknowns}
use Rattle.ir_script.specs.Scope.{scope_names}
use Rattle.ir_script.proofs.ResolveLemmas.{look_fault, look_named, look_next, look_stand, look_wrong}
use Rattle.ir_script.proofs.names.Names.resolve.Goals as goal
use Rattle.ir_script.proofs.names.Names.resolve.Goals.{in-Ok+in-Ok-push, in-Err+in-Sort}

pub loop-step-preserved : goal.loop-step-preserved
loop-step-preserved c =
    let ns = scope_names c.args.scope.now in
    let steps = c.args.steps.now in
    let i = c.loop-step.step-index in
    elim c.match-next.branch [
      | in-Ok+in-Ok-push w ↦
          let pushed : w.push.new.self.items ≡ c.loop-step.self.resolved.items ++ w.in-Ok.resolved ∷ [] = search rules in
          rw (w.named-is, w.self-is, pushed)
          (look_next ns steps i _ c.loop-step-test.true c.loop-step.named c.loop-step.self.sorts.items c.next.new.sorts.items c.loop-step.self.resolved.items c.loop-step.invariant w.in-Ok.resolved w.in-Ok.ensures.known w.in-Ok.ensures.ok w.in-Ok.ensures.sorts)
      | in-Err+in-Sort w ↦
          rw (w.named-is, w.self-is)
          (look_named ns steps i _ c.loop-step-test.true c.loop-step.named c.loop-step.self.sorts.items c.next.new.sorts.items c.loop-step.self.resolved.items c.loop-step.invariant (subst (IsFaultOf (step_unknowns ns _) (step_names _)) w.in-Sort.is w.in-Err.ensures.err))
    ]

pub returns-then-named : goal.returns-then-named
returns-then-named c = λ h ps is ample. look_wrong (scope_names c.args.scope.now) c.args.steps.now h ps is c.loop-step.step-index c.loop-step.named c.loop-step.self.sorts.items c.loop-step.self.resolved.items c.loop-step-test.false c.loop-step.invariant c.if-named.true

pub returns-else-named : goal.returns-else-named
returns-else-named c = λ h ps is ample. look_stand (scope_names c.args.scope.now) c.args.steps.now h ps is c.loop-step.step-index c.loop-step.named c.loop-step.self.sorts.items c.loop-step.self.resolved.items c.loop-step-test.false c.loop-step.invariant c.if-named.false ample

pub returns-in_default-cause : goal.returns-in_default-cause
returns-in_default-cause c = λ h ps is ample. look_fault (scope_names c.args.scope.now) c.args.steps.now h ps is c.loop-step.self.resolved.items c.loop-step.step-index _ c.in-Err.cause c.loop-step-test.true c.in-Err.ensures.err c.in_default-cause.not-Sort
