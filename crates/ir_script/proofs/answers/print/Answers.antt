use Rattle.std.proofs.Common.{None}
use Rattle.ir_table.specs.Interner.{heap}
use Rattle.ir_table.specs.Spelled.{name_text}
use Rattle.ir_table.proofs.CallerLemmas.{known_on}
use Rattle.ir_script.proofs.answers.print.Goals as goal

pub returns-clause-known : goal.returns-clause-known
returns-clause-known c = known_on (name_text (λ id. None)) (heap c.args.cx.now) _ _ _ c.spell_again.new.known c.in_ok-append.ensures.ok c.in_ok-spell_again.ensures.known
