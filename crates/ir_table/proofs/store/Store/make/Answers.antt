use Rattle.std.proofs.Common.{◌∙◌, ap, Err}
use Rattle.std.proofs.lemmas.Result.{err_from_is_err_and}
use Rattle.ir_table.specs.Interner.{state_of}
use Rattle.ir_table.proofs.MakeLemmas.{after, ready}
use Rattle.ir_table.proofs.SortLemmas.{new_forbidden, new_held, new_made, new_memory, pushed_kept}
use Rattle.ir_table.proofs.store.Store.make.Goals as goal

pub invariant_of-self : goal.invariant_of-self
invariant_of-self g c = assumption c.args.self.now

pub returns-in-Some-clause-answers : goal.returns-in-Some-clause-answers
returns-in-Some-clause-answers g c =
    new_held (ready g.met.K.Tabled.table c.args.self.now (g.K.Key.layer c.args.key) c.requires.live c.requires.fits c.requires.owned) c.in-Some.index c.in-Some.ensures.found

pub returns-in_err-info-clause-answers : goal.returns-in_err-info-clause-answers
returns-in_err-info-clause-answers g c =
    let from = err_from_is_err_and c.from_residual.result c.from_residual.ensures.1 in
    new_forbidden (ready g.met.K.Tabled.table c.args.self.now (g.K.Key.layer c.args.key) c.requires.live c.requires.fits c.requires.owned)
    c.in_default.ensures.absent c.above.result c.above.ensures c.in_err-info.field-0.0 c.in_err-info.ensures.err c.from_residual.result (from.1 ∙ ap Err from.2)

pub invariant_of-self-2 : goal.invariant_of-self-2
invariant_of-self-2 g c =
    let start = ready g.met.K.Tabled.table c.args.self.now (g.K.Key.layer c.args.key) c.requires.live c.requires.fits c.requires.owned in
    let made = pushed_kept start c.in_default.ensures.absent c.above.result c.above.ensures c.in_ok-info.ensures.room c.in_ok-info.ensures.low c.in_ok-info.info c.in_ok-info.ensures.ok in
    assumption (after c.args.self.now.limits _ _ start.kept made c.push.result c.push.new.tables c.push.ensures.ok c.push.ensures.err)

pub returns-in_err-push-clause-answers : goal.returns-in_err-push-clause-answers
returns-in_err-push-clause-answers g c =
    let from = err_from_is_err_and c.from_residual-in_err-push.result c.from_residual-in_err-push.ensures.1 in
    new_memory (ready g.met.K.Tabled.table c.args.self.now (g.K.Key.layer c.args.key) c.requires.live c.requires.fits c.requires.owned)
    c.in_default.ensures.absent (state_of c.push.new.tables c.args.self.now.limits) (rw c.in_err-push.ensures.err) c.from_residual-in_err-push.result (from.1 ∙ ap Err from.2)

pub returns-clause-answers : goal.returns-clause-answers
returns-clause-answers g c =
    new_made (ready g.met.K.Tabled.table c.args.self.now (g.K.Key.layer c.args.key) c.requires.live c.requires.fits c.requires.owned)
    c.in_default.ensures.absent c.above.result c.above.ensures c.in_ok-info.ensures.room c.in_ok-info.ensures.low c.in_ok-info.info c.in_ok-info.ensures.ok
    (state_of c.push.new.tables c.args.self.now.limits) c.len-index.result (rw c.in_ok-push.ensures.ok) c.len-index.ensures
