use Rattle.std.proofs.Common.{◌+◌, arith, refl, sym, ap, ◌∙◌}
use Rattle.ir_laws.specs.Expression.{Group}
use Rattle.ir_laws.specs.Phrase.{and_then}
use Rattle.ir_syntax.specs.Frames.{enter, finish, opened}
use Rattle.ir_syntax.specs.declared.frames.Frame.TheVariants as code
use Rattle.ir_syntax.proofs.FrameLemmas.{label-then, part-kept, part-needs, part-plain}
use Rattle.ir_syntax.proofs.frames.label_group.Goals as goal

pub part_frame-requires : goal.part_frame-requires
part_frame-requires c = part-plain c.args.word c.args.at _ _ c.parts.ensures c.in_ok-part.ensures.lookup.3 c.requires

pub returns-in_err-part_frame-clause-read : goal.returns-in_err-part_frame-clause-read
returns-in_err-part_frame-clause-read c = λ inner es st.
    label-then c.args.word c.args.at _ _ c.parts.ensures c.in_ok-part.ensures.lookup.3 c.requires (Group inner) (opened c.part_frame.result inner) (c.part_frame.ensures.read inner) es st
    ∙ ap (λ o. and_then (opened o inner st) (finish (code.Label c.args.word (c.args.at + 1)) es)) c.in_err-part_frame.was ∙ ap (λ o. enter o inner es st) (sym c.from_residual-in_err-part_frame.ensures)

pub returns-clause-read : goal.returns-clause-read
returns-clause-read c = λ inner es st.
    label-then c.args.word c.args.at _ _ c.parts.ensures c.in_ok-part.ensures.lookup.3 c.requires (Group inner) (opened c.part_frame.result inner) (c.part_frame.ensures.read inner) es st
    ∙ ap (λ o. and_then (opened o inner st) (finish (code.Label c.args.word (c.args.at + 1)) es)) c.in_ok-part_frame.was

pub returns-clause-kept : goal.returns-clause-kept
returns-clause-kept c =
    let there = c.in_ok-part.ensures.lookup.3 in
    let inner = c.in_ok-part_frame.ensures.kept in
    (inner.0, part-kept c.args.word c.args.at _ _ c.parts.ensures there c.requires, inner.1, omega (arith, part-needs c.args.word c.args.at _ _ c.parts.ensures there, inner.2), refl)
