use Rattle.std.proofs.Common.{◌≡◌, ap, arith}
use Rattle.std.proofs.lemmas.Result.{err_from_is_err_and}
use Rattle.ir_core.specs.declared.errors.TermError.TheVariants as error
use Rattle.ir_core.specs.declared.limit.Limits.{Limits}
use Rattle.ir_laws.specs.Limits as laws
use Rattle.ir_laws.specs.Start.{start_parts}
use Rattle.ir_laws.proofs.HeldLemmas.{just_counted}
use Rattle.ir_table.specs.Interner.{stored}
use Rattle.ir_table.specs.Heaps.{heap_of}
use Rattle.ir_table.proofs.StartLemmas.{are_named_by, start_held, start_is_held, start_too_many, start_refusal}
use Rattle.ir_table.proofs.Interner.new.Goals as goal

pub returns-in_err-defaults-clause-refusal : goal.returns-in_err-defaults-clause-refusal
returns-in_err-defaults-clause-refusal c =
    let from = err_from_is_err_and c.from_residual.result c.from_residual.ensures.1 in
    rw (from.1, from.2) (start_refusal (stored c.empty-store.result) (stored c.start.new.self) c.in_err-defaults.field-0.0 c.in_err-defaults.ensures.makes)

pub returns-in_err-defaults-clause-too_many : goal.returns-in_err-defaults-clause-too_many
returns-in_err-defaults-clause-too_many c = λ many.
    let from = err_from_is_err_and c.from_residual.result c.from_residual.ensures.1 in
    let same : c.in_err-defaults.field-0.0 ≡ error.TooMany = cc in
    let full = start_too_many (stored c.empty-store.result) (stored c.start.new.self) c.empty-store.ensures.heap (rw same at c.in_err-defaults.ensures.makes) in
    let limits = ap (λ (l : Limits). l.nodes) c.empty-store.ensures.limits in
    omega arith

pub invariant_of-result : goal.invariant_of-result
invariant_of-result c = record { start = are_named_by (heap_of c.start.new.self.tables) c.in_ok-defaults.defaults c.in_ok-defaults.ensures.names }

pub returns-clause-start : goal.returns-clause-start
returns-clause-start c = start_is_held (heap_of c.start.new.self.tables) (start_held (stored c.empty-store.result) (stored c.start.new.self) c.empty-store.ensures.heap _ c.in_ok-defaults.ensures.makes)

pub returns-clause-len : goal.returns-clause-len
returns-clause-len c =
    let just = start_held (stored c.empty-store.result) (stored c.start.new.self) c.empty-store.ensures.heap _ c.in_ok-defaults.ensures.makes in
    just_counted (heap_of c.start.new.self.tables) start_parts _ just c.start.new.self.counted

pub returns-clause-room : goal.returns-clause-room
returns-clause-room c =
    let just = start_held (stored c.empty-store.result) (stored c.start.new.self) c.empty-store.ensures.heap _ c.in_ok-defaults.ensures.makes in
    let count = just_counted (heap_of c.start.new.self.tables) start_parts _ just c.start.new.self.counted in
    let few = c.start.new.self.few in
    let limits = ap (λ (l : laws.Limits). l.nodes) c.in_ok-defaults.ensures.makes.limits in
    let given = ap (λ (l : Limits). l.nodes) c.empty-store.ensures.limits in
    omega arith
