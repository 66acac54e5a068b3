use Rattle.std.proofs.Common.{◌∙◌, Err, None, ap, length, refl}
use Rattle.std.proofs.lemmas.Result.{err_from_is_err_and}
use Rattle.ir_laws.specs.Cause.{Duplicate}
use Rattle.ir_laws.specs.Names.{if_so}
use Rattle.ir_table.specs.Interner.{heap, state}
use Rattle.ir_table.specs.Spelled.{name_text}
use Rattle.ir_table.proofs.CallerLemmas.{spelled_later}
use Rattle.ir_script.specs.Scope.{scope_names}
use Rattle.ir_script.proofs.FormLemmas.{asked_count_is, asked_operands, line_written, not_read, own_met, terms_met, unread_met}
use Rattle.ir_script.proofs.answers.Run.answer_line.Goals as goal

pub returns-then-declares_again-clause-answers : goal.returns-then-declares_again-clause-answers
returns-then-declares_again-clause-answers c held just = own_met c.in_ok-asked.ensures.read (state c.args.self.now.cx) (scope_names c.args.self.now.scope) held
    (c.declares_again.ensures _ ∙ ap (λ b. if_so b Duplicate) c.if-declares_again.true) _ _ _

pub make-requires-clause-operands : goal.make-requires-clause-operands
make-requires-clause-operands c = asked_operands c.args.line.now c.in_ok-asked.ensures.read

pub returns-in_err-make-clause-answers : goal.returns-in_err-make-clause-answers
returns-in_err-make-clause-answers c held just =
    let has = c.in_ok-asked.ensures.read in
    let new = c.declares_again.ensures (heap c.args.self.now.cx) ∙ ap (λ b. if_so b Duplicate) c.if-declares_again.false in
    let from = err_from_is_err_and c.from_residual-in_err-make.result c.from_residual-in_err-make.ensures.1 in
    terms_met has (state c.args.self.now.cx) (scope_names c.args.self.now.scope) held new c.wants_one_sort-alike.ensures (c.in_err-make.ensures.makes held just) (from.1 ∙ ap Err from.2)

pub write-requires-clause-count : goal.write-requires-clause-count
write-requires-clause-count c = ap length c.parts.ensures ∙ c.in_ok-make.ensures.stand.count ∙ asked_count_is c.in_ok-asked.ensures.read

pub write-requires-clause-known : goal.write-requires-clause-known
write-requires-clause-known c = spelled_later (name_text (λ id. None)) (heap c.args.self.now.cx) (heap c.make.new.cx) c.args.self.now.text c.args.self.now.spellings c.in_ok-make.ensures.stand.grows c.requires.ready.known

pub returns-clause-answers : goal.returns-clause-answers
returns-clause-answers c held just =
    let has = c.in_ok-asked.ensures.read in
    let new = c.declares_again.ensures (heap c.args.self.now.cx) ∙ ap (λ b. if_so b Duplicate) c.if-declares_again.false in
    line_written has (state c.args.self.now.cx) (scope_names c.args.self.now.scope) held new c.wants_one_sort-alike.ensures (c.in_ok-make.ensures.makes held just) c.in_ok-make.ensures.stand.limits
    c.args.self.now.text c.write.new.out (scope_names c.write.new.scope) c.parts.ensures c.write.result c.write.ensures.writes

pub returns-in_err-asked-clause-answers : goal.returns-in_err-asked-clause-answers
returns-in_err-asked-clause-answers c held just =
    let from = err_from_is_err_and c.from_residual.result c.from_residual.ensures.1 in
    rw from.1 (unread_met _ _ _ c.args.self.now.text _ _ from.0 (not_read _ c.in_err-asked.field-0.0 from.0 from.2 c.in_err-asked.ensures.refusal))
