use Rattle.std.proofs.Common.{◌∙◌, Err, ap, refl, subst, sym}
use Rattle.std.proofs.lemmas.Result.{err_from_is_err_and}
use Rattle.ir_laws.specs.Heap.{Each, IsLive}
use Rattle.ir_table.specs.Interner.{heap, state}
use Rattle.ir_table.specs.Listed.{AreListed}
use Rattle.ir_table.proofs.CallerLemmas.{listed_later}
use Rattle.ir_script.proofs.StageLemmas.{grow, made_by, stand_made, stand_not, terms_made, terms_refused, terms_unfit, terms_unlisted}
use Rattle.ir_script.proofs.stages.Stages.make.Goals as goal

pub returns-in_err-fit-clause-makes : goal.returns-in_err-fit-clause-makes
returns-in_err-fit-clause-makes c held just =
    let from = err_from_is_err_and c.from_residual.result c.from_residual.ensures.1 in
    terms_unfit (rw c.deref.ensures.value at (c.in_err-fit.ensures.fits (heap c.args.cx.now) c.requires.terms)) (from.1 ∙ ap Err from.2)

pub build-requires-clause-fit : goal.build-requires-clause-fit
build-requires-clause-fit c = (grow (state c.args.cx.now) c.requires.terms c.requires.operands (rw c.deref.ensures.value at (c.in_ok-fit.ensures.fits (heap c.args.cx.now) c.requires.terms)) c.deref-2.ensures.value).fits

pub returns-in_err-build-clause-makes : goal.returns-in_err-build-clause-makes
returns-in_err-build-clause-makes c held just =
    let fits = rw c.deref.ensures.value at (c.in_ok-fit.ensures.fits (heap c.args.cx.now) c.requires.terms) in
    let b = made_by (state c.args.cx.now) c.requires.terms c.requires.operands fits c.deref-2.ensures.value c.in_err-build.ensures.makes c.in_err-build.ensures.built in
    let from = err_from_is_err_and c.from_residual-in_err-build.result c.from_residual-in_err-build.ensures.1 in
    terms_refused _ held _ _ _ just fits.known fits.sorts b from.1 from.2

pub returns-in_err-build-clause-stand : goal.returns-in_err-build-clause-stand
returns-in_err-build-clause-stand c =
    let fits = rw c.deref.ensures.value at (c.in_ok-fit.ensures.fits (heap c.args.cx.now) c.requires.terms) in
    let b = made_by (state c.args.cx.now) c.requires.terms c.requires.operands fits c.deref-2.ensures.value c.in_err-build.ensures.makes c.in_err-build.ensures.built in
    stand_not _ _ _ b _ c.from_residual-in_err-build.ensures.0

pub all_are_listed-requires-clause-live : goal.all_are_listed-requires-clause-live
all_are_listed-requires-clause-live c =
    let fits = rw c.deref.ensures.value at (c.in_ok-fit.ensures.fits (heap c.args.cx.now) c.requires.terms) in
    let b = made_by (state c.args.cx.now) c.requires.terms c.requires.operands fits c.deref-2.ensures.value c.in_ok-build.ensures.makes c.in_ok-build.ensures.built in
    subst (Each (IsLive (heap c.build.new.cx))) (sym c.deref-3.ensures.value) b.live

pub all_are_listed-requires-clause-listed : goal.all_are_listed-requires-clause-listed
all_are_listed-requires-clause-listed c =
    let fits = rw c.deref.ensures.value at (c.in_ok-fit.ensures.fits (heap c.args.cx.now) c.requires.terms) in
    let b = made_by (state c.args.cx.now) c.requires.terms c.requires.operands fits c.deref-2.ensures.value c.in_ok-build.ensures.makes c.in_ok-build.ensures.built in
    listed_later (heap c.args.cx.now) (heap c.build.new.cx) c.fit.new.self.listed b.makes.grows (subst (AreListed (heap c.args.cx.now)) (sym c.in_ok-fit.ensures.listed) c.requires.kept.listed)

pub returns-in_err-all_are_listed-clause-stand : goal.returns-in_err-all_are_listed-clause-stand
returns-in_err-all_are_listed-clause-stand c =
    let fits = rw c.deref.ensures.value at (c.in_ok-fit.ensures.fits (heap c.args.cx.now) c.requires.terms) in
    let b = made_by (state c.args.cx.now) c.requires.terms c.requires.operands fits c.deref-2.ensures.value c.in_ok-build.ensures.makes c.in_ok-build.ensures.built in
    stand_not _ _ _ b _ c.from_residual-in_err-all_are_listed.ensures.0

pub returns-then-not-branch-clause-makes : goal.returns-then-not-branch-clause-makes
returns-then-not-branch-clause-makes c held just =
    let fits = rw c.deref.ensures.value at (c.in_ok-fit.ensures.fits (heap c.args.cx.now) c.requires.terms) in
    let b = made_by (state c.args.cx.now) c.requires.terms c.requires.operands fits c.deref-2.ensures.value c.in_ok-build.ensures.makes c.in_ok-build.ensures.built in
    terms_unlisted _ held _ _ _ just fits.known fits.sorts c.build.new.cx b c.deref-3.ensures.value c.in_ok-all_are_listed.ensures.ok c.if-not-branch.true

pub returns-then-not-branch-clause-stand : goal.returns-then-not-branch-clause-stand
returns-then-not-branch-clause-stand c =
    let fits = rw c.deref.ensures.value at (c.in_ok-fit.ensures.fits (heap c.args.cx.now) c.requires.terms) in
    let b = made_by (state c.args.cx.now) c.requires.terms c.requires.operands fits c.deref-2.ensures.value c.in_ok-build.ensures.makes c.in_ok-build.ensures.built in
    stand_not _ _ _ b _ refl

pub returns-clause-makes : goal.returns-clause-makes
returns-clause-makes c held just =
    let fits = rw c.deref.ensures.value at (c.in_ok-fit.ensures.fits (heap c.args.cx.now) c.requires.terms) in
    let b = made_by (state c.args.cx.now) c.requires.terms c.requires.operands fits c.deref-2.ensures.value c.in_ok-build.ensures.makes c.in_ok-build.ensures.built in
    terms_made _ held _ _ _ just fits.known fits.sorts c.build.new.cx b c.deref-3.ensures.value c.in_ok-all_are_listed.ensures.ok c.if-not-branch.false c.requires.terms

pub returns-clause-stand : goal.returns-clause-stand
returns-clause-stand c =
    let fits = rw c.deref.ensures.value at (c.in_ok-fit.ensures.fits (heap c.args.cx.now) c.requires.terms) in
    let b = made_by (state c.args.cx.now) c.requires.terms c.requires.operands fits c.deref-2.ensures.value c.in_ok-build.ensures.makes c.in_ok-build.ensures.built in
    stand_made _ _ _ c.build.new.cx c.requires.terms b

pub build-requires-clause-leaves : goal.build-requires-clause-leaves
build-requires-clause-leaves c = rw c.in_ok-fit.ensures.builder c.requires.kept.leaves
