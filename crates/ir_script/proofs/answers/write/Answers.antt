use Rattle.std.proofs.Common.{None}
use Rattle.ir_table.specs.Interner.{heap}
use Rattle.ir_table.specs.Spelled.{name_text}
use Rattle.ir_table.proofs.CallerLemmas.{known_on}
use Rattle.ir_script.specs.Scope.{scope_names}
use Rattle.ir_script.proofs.FormLemmas.{same_written}
use Rattle.ir_script.proofs.ScopeLemmas.{new_name}
use Rattle.ir_script.proofs.answers.write.Goals as goal

pub declare-requires : goal.declare-requires
declare-requires c = new_name (heap c.args.cx.now) (scope_names c.args.scope.now) c.in-Let.name.now (rw c.in-Let.is at c.requires.new)

pub returns-in_ok-append-in-Same-clause-writes : goal.returns-in_ok-append-in-Same-clause-writes
returns-in_ok-append-in-Same-clause-writes c = same_written c.args.cx.now _ _ _ c.in-Same.is c.both-one.ensures c.requires.parts c.yes_or_no.ensures c.in_ok-append-in-Same.ensures.ok

pub returns-in_ok-append-in-Same-clause-known : goal.returns-in_ok-append-in-Same-clause-known
returns-in_ok-append-in-Same-clause-known c = known_on (name_text (λ id. None)) (heap c.args.cx.now) _ _ _ c.args.known.now c.in_ok-append-in-Same.ensures.ok c.requires.known

pub returns-in_ok-write_flags-in-Flags-clause-known : goal.returns-in_ok-write_flags-in-Flags-clause-known
returns-in_ok-write_flags-in-Flags-clause-known c = known_on (name_text (λ id. None)) (heap c.args.cx.now) _ _ _ c.args.known.now c.in_ok-write_flags-in-Flags.ensures.ok c.requires.known
