use Rattle.std.proofs.Common.{◌∙◌, Err, ap}
use Rattle.std.proofs.lemmas.Result.{err_from_is_err_and}
use Rattle.ir_script.proofs.StageLemmas.{unknown_unfit, misplaced_unfit, unlike_unfit, all_fit_operands}
use Rattle.ir_script.proofs.stages.Stages.fit.Goals as goal

pub returns-in_err-resolve-clause-fits : goal.returns-in_err-resolve-clause-fits
returns-in_err-resolve-clause-fits c h terms =
    let from = err_from_is_err_and c.from_residual.result c.from_residual.ensures.1 in
    unknown_unfit (c.in_err-resolve.ensures h _ c.requires.operands.alone c.requires.ample) (from.1 ∙ ap Err from.2)

pub returns-in_err-are_alike-clause-fits : goal.returns-in_err-are_alike-clause-fits
returns-in_err-are_alike-clause-fits c h terms =
    let from = err_from_is_err_and c.from_residual-in_err-are_alike.result c.from_residual-in_err-are_alike.ensures.1 in
    misplaced_unfit (c.in_ok-resolve.ensures h _ c.requires.operands.alone c.requires.ample) c.deref.ensures.value (λ stand. c.in_err-are_alike.ensures h _ _ terms stand) (from.1 ∙ ap Err from.2)

pub returns-then-not-are_alike-clause-fits : goal.returns-then-not-are_alike-clause-fits
returns-then-not-are_alike-clause-fits c h terms = unlike_unfit (c.in_ok-resolve.ensures h _ c.requires.operands.alone c.requires.ample) c.deref.ensures.value (λ stand. c.in_ok-are_alike.ensures h _ _ terms stand) c.if-alike.true c.if-not-are_alike.true

pub returns-clause-fits : goal.returns-clause-fits
returns-clause-fits c h terms = all_fit_operands (c.in_ok-resolve.ensures h _ c.requires.operands.alone c.requires.ample) c.deref.ensures.value (λ stand. c.in_ok-are_alike.ensures h _ _ terms stand) c.else-alike.either
