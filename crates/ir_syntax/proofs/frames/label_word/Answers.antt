use Rattle.std.proofs.Common.{option_map, arith, refl, sym, ◌∙◌}
use Rattle.ir_laws.specs.Expression.{Single}
use Rattle.ir_syntax.specs.Steps.{step_on}
use Rattle.ir_syntax.specs.Frames.{needs}
use Rattle.ir_syntax.specs.declared.frames.Frame.TheVariants as code
use Rattle.ir_syntax.proofs.FrameLemmas.{label-then, part-kept, part-needs, part-plain}
use Rattle.ir_syntax.proofs.frames.label_word.Goals as goal

pub part_step-requires : goal.part_step-requires
part_step-requires c = part-plain c.args.word c.args.at _ _ c.parts.ensures c.in_ok-part.ensures.lookup.3 c.requires

pub returns-clause-read : goal.returns-clause-read
returns-clause-read c = λ es st. label-then c.args.word c.args.at _ _ c.parts.ensures c.in_ok-part.ensures.lookup.3 c.requires (Single c.args.text.now) (λ st. option_map (step_on st) c.part_step.result) c.part_step.ensures.read es st ∙ sym (c.after_step.ensures.on es st)

pub returns-clause-kept : goal.returns-clause-kept
returns-clause-kept c =
    let there = c.in_ok-part.ensures.lookup.3 in
    c.after_step.ensures.kept (needs (code.Label c.args.word c.args.at)) 1 _ (part-kept c.args.word c.args.at _ _ c.parts.ensures there c.requires) (omega (arith, part-needs c.args.word c.args.at _ _ c.parts.ensures there)) refl c.part_step.ensures.leaf
