use Rattle.std.proofs.Common.{Some, None, option_map, sym, ap, ◌∙◌}
use Rattle.ir_laws.specs.Expression.{Single}
use Rattle.ir_syntax.specs.Frames.{is_plain, push_field}
use Rattle.ir_syntax.specs.Grammar.{field_seen}
use Rattle.ir_syntax.specs.Steps.{step_on}
use Rattle.ir_syntax.proofs.FrameLemmas.{field-then, kid-then, reads-by}
use Rattle.ir_syntax.proofs.frames.part_step.Goals as goal

pub returns-in_ok-field_of-in-AField-clause-read : goal.returns-in_ok-field_of-in-AField-clause-read
returns-in_ok-field_of-in-AField-clause-read c =
    reads-by _ _ (Single c.args.text.now) _ (λ st. Some (push_field st (field_seen c.in_ok-field_of-in-AField.field-0))) c.in-AField.is (field-then (Single c.args.text.now) c.in-AField.form (ap is_plain (sym c.in-AField.is) ∙ c.requires)) (λ st. ap (option_map (push_field st)) (sym c.field_of.ensures ∙ ap (option_map field_seen) c.in_ok-field_of-in-AField.was))

pub returns-in-None-clause-read : goal.returns-in-None-clause-read
returns-in-None-clause-read c = reads-by _ _ (Single c.args.text.now) _ (λ st. option_map (step_on st) c.term_step.result) c.in-AKid.is (kid-then (Single c.args.text.now) _ None (sym c.in-None.is ∙ c.list_word.ensures)) (λ st. sym (c.term_step.ensures.read st))
