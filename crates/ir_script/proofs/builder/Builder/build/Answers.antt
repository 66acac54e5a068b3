use Rattle.std.proofs.Common.{Err, sym, ap, ◌∙◌, subst}
use Rattle.std.proofs.lemmas.List.{drop_all, drop_more}
use Rattle.std.proofs.lemmas.Result.{err_from_is_err_and}
use Rattle.ir_script.specs.Grove.{grove, made}
use Rattle.ir_script.proofs.MakingLemmas.{all_taken, next_is, next_refused, next_taken, none_taken}
use Rattle.ir_table.specs.Interner.{heap, state}
use Rattle.ir_table.specs.State.{Makes}
use Rattle.ir_script.proofs.builder.Builder.build.Goals as goal

pub loop-step-init : goal.loop-step-init
loop-step-init c = record { so_far = none_taken _ _ _ c.clear.ensures.items c.clear-2.ensures.items c.clear-3.ensures.items c.clear-4.ensures.items c.requires.fit; leaves = c.requires.leaves }

pub step-requires-clause-next : goal.step-requires-clause-next
step-requires-clause-next c = next_is (drop_more _ _ _ c.loop-step-test.true) c.loop-step.invariant.so_far

pub returns-in_err-step-clause-makes : goal.returns-in_err-step-clause-makes
returns-in_err-step-clause-makes c =
    let from = err_from_is_err_and c.from_residual.result c.from_residual.ensures.1 in
    subst (Makes (state c.args.cx.now) (state c.step.new.cx) (made (grove (heap c.args.cx.now) c.args.steps.now))) (sym (from.1 ∙ ap Err from.2))
    (next_refused (drop_more _ _ _ c.loop-step-test.true) c.loop-step.invariant.so_far _ c.in_err-step.ensures.takes)

pub loop-step-preserved : goal.loop-step-preserved
loop-step-preserved c = record { so_far = next_taken (drop_more _ _ _ c.loop-step-test.true) c.loop-step.invariant.so_far c.in_ok-step.ensures.takes; leaves = c.in_ok-step.ensures.leaves }

pub returns-clause-makes : goal.returns-clause-makes
returns-clause-makes c = (all_taken c.loop-step.invariant.so_far (drop_all _ _ c.loop-step-test.false)).0

pub returns-clause-built : goal.returns-clause-built
returns-clause-built c = (all_taken c.loop-step.invariant.so_far (drop_all _ _ c.loop-step-test.false)).1
