use Rattle.std.proofs.Common.{rules, arith, ◌≡◌, ◌∙◌, ◌-◌, take, length, Err, refl, ap}
use Rattle.std.proofs.lemmas.Result.{err_from_is_err_and}
use Rattle.ir_script.proofs.MakingLemmas.{bind_makes, bind_taken, slice_top, takes_err, takes_late, takes_ok}
use Rattle.ir_script.proofs.builder.Builder.bind.Goals as goal

pub returns-in_err-list-clause-takes : goal.returns-in_err-list-clause-takes
returns-in_err-list-clause-takes c = λ h g grows grown fits.
    let from = err_from_is_err_and c.from_residual.result c.from_residual.ensures.1 in
    let at : c.saturating_sub-at.result ≡ length c.args.self.now.variables.items - c.args.count = first_of (search rules, grind arith) in
    takes_err h g _ _ _ _ _ _ _ refl (from.1 ∙ ap Err from.2) (bind_makes _ g _ c.args.count grown _ (slice_top _ _ c.args.count _ c.deref.ensures.value at) _ _ c.args.cx.now.store.counted _ c.in_err-list.ensures.answers)

pub returns-in_err-push-clause-takes : goal.returns-in_err-push-clause-takes
returns-in_err-push-clause-takes c = λ h g grows grown fits.
    let from = err_from_is_err_and c.from_residual-in_err-push.result c.from_residual-in_err-push.ensures.1 in
    let at : c.saturating_sub-at.result ≡ length c.args.self.now.variables.items - c.args.count = first_of (search rules, grind arith) in
    takes_late h g _ _ _ _ _ _ _ _ refl from.1 from.2 (bind_makes _ g _ c.args.count grown _ (slice_top _ _ c.args.count _ c.deref.ensures.value at) _ _ c.args.cx.now.store.counted _ c.in_ok-list.ensures.answers)

pub returns-clause-takes : goal.returns-clause-takes
returns-clause-takes c = λ h g grows grown fits.
    let at : c.saturating_sub-at.result ≡ length c.args.self.now.variables.items - c.args.count = first_of (search rules, grind arith) in
    let taken = slice_top _ _ c.args.count _ c.deref.ensures.value at in
    let store = c.new_from_slice.new.cx.store in
    takes_ok h g _ _ _ _ _ _ refl (bind_makes _ g _ c.args.count grown _ taken _ _ c.args.cx.now.store.counted _ c.in_ok-list.ensures.answers)
    (bind_taken _ g _ c.args.count grown _ taken store.tables _ _ refl refl store.sound store.fits _ c.in_ok-list.ensures.answers _ refl refl (c.truncate.ensures.items ∙ ap (λ n. take n c.args.self.now.variables.items) at) c.in_ok-push.ensures.items)
