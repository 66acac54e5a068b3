use Rattle.std.proofs.Common.{inl, subst}
use Rattle.ir_core.specs.Streams.{HoldsFront}
use Rattle.ir_laws.specs.Answer.{Allows, Lines, answer}
use Rattle.ir_laws.specs.Limits.{program_limits}
use Rattle.ir_cli.proofs.RunLemmas.{cut_short, holds_terms}
use Rattle.ir_cli.proofs.running.run.Goals as goal

pub returns-in-Ok-answer-clause-cut_short : goal.returns-in-Ok-answer-clause-cut_short
returns-in-Ok-answer-clause-cut_short g c status = cut_short _ _ _ _ _ _ c.in-Ok.ensures.ok
    (subst (λ bytes. HoldsFront (g.K.Sink.held c.args.sink.now) (g.K.Sink.held c.write_all.new.sink) bytes) c.as_bytes.ensures c.in-Err-write_all.ensures.front)
    (inl (subst (λ script. Allows (answer program_limits script) (Lines c.in-Ok-answer.answered.text)) c.as_slice.ensures.value c.in-Ok-answer.ensures.ok))

pub returns-in-Ok-write_all-clause-terms : goal.returns-in-Ok-write_all-clause-terms
returns-in-Ok-write_all-clause-terms g c = holds_terms _ _ _ _ c.in-Ok-answer.answered.cx c.in-Ok.ensures.ok c.as_slice.ensures.value c.in-Ok-answer.ensures.limits c.in-Ok-answer.ensures.held
