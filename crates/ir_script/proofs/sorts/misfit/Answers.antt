use Rattle.std.proofs.Common.{◌≡◌, Err, refl, arith, rules, subst, sym, ◌∙◌}
use Rattle.ir_script.specs.Scope.{env_of}
use Rattle.ir_script.proofs.OpenLemmas.{AreOpen, all_terms, none_made, open_all, open_fault, open_next, open_none, term_made, terms_at}
use Rattle.ir_script.proofs.sorts.misfit.Goals as goal

pub loop-left-init : goal.loop-left-init
loop-left-init c = record {
  within = omega arith;
  so_far = λ h ns ps are stand. rw (all_terms h ns ps are c.args.resolved.now stand, c.clear.ensures.items) (open_all h ns ps _ refl refl);
}

pub loop-left-preserved-in_default : goal.loop-left-preserved-in_default
loop-left-preserved-in_default c = record {
  within = omega (arith, c.loop-left.invariant.within);
  so_far = λ h ns ps are stand.
      let none = none_made h ns ps are c.args.resolved.now stand c.loop-left.left _ c.loop-left-test.true c.loop-left.invariant.within (sym c.sort_made.ensures ∙ c.in_default.is) in
      subst (λ ts. AreOpen h ns ps ts c.loop-left.pending.items c.loop-left.operands) none (c.loop-left.invariant.so_far h ns ps are stand);
}

pub loop-left-preserved : goal.loop-left-preserved
loop-left-preserved c = record {
  within = omega (arith, c.loop-left.invariant.within);
  so_far = λ h ns ps are stand.
      let made = term_made h ns ps are c.args.resolved.now stand c.loop-left.left _ c.loop-left-test.true c.loop-left.invariant.within c.in-Some.sort c.kids_made.result (sym c.sort_made.ensures ∙ c.in-Some.is) c.kids_made.ensures in
      open_next h ns ps _ _ c.in-Some.sort _ made c.loop-left.pending.items c.next_place-place.new.pending.items c.loop-left.operands (c.loop-left.invariant.so_far h ns ps are stand)
      c.next_place-place.result c.next_place-place.ensures.places c.next_place-place.ensures.none c.unwrap_or.result c.unwrap_or.ensures
      c.enter.new.pending.items c.with-operands.result c.in_ok-enter.ensures.fits (c.in_ok-enter.ensures.places (env_of h ns)) c.with-operands.ensures;
}

pub returns-in_err-enter : goal.returns-in_err-enter
returns-in_err-enter c = λ h ns ps are stand.
    let made = term_made h ns ps are c.args.resolved.now stand c.loop-left.left _ c.loop-left-test.true c.loop-left.invariant.within c.in-Some.sort c.kids_made.result (sym c.sort_made.ensures ∙ c.in-Some.is) c.kids_made.ensures in
    let same : c.from_residual.result ≡ Err c.in_err-enter.field-0.0 = search rules in
    rw same
    (open_fault h ns ps _ _ c.in-Some.sort _ made c.loop-left.pending.items c.next_place-place.new.pending.items c.loop-left.operands (c.loop-left.invariant.so_far h ns ps are stand)
    c.next_place-place.result c.next_place-place.ensures.places c.next_place-place.ensures.none c.unwrap_or.result c.unwrap_or.ensures c.in_err-enter.field-0.0 c.in_err-enter.ensures.err)

pub returns : goal.returns
returns c = λ h ns ps are stand.
    let none : c.loop-left.left ≡ 0 = omega (arith, c.loop-left-test.false) in
    open_none h ns ps c.loop-left.pending.items c.loop-left.operands (subst (λ n. AreOpen h ns ps (terms_at h ns ps are c.args.resolved.now stand n) c.loop-left.pending.items c.loop-left.operands) none (c.loop-left.invariant.so_far h ns ps are stand))
