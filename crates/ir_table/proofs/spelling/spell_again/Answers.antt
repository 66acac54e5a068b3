use Rattle.std.proofs.Common.{◌∙◌, sym}
use Rattle.ir_table.specs.Interner.{heap}
use Rattle.ir_table.specs.Spelled.{name_text}
use Rattle.ir_table.proofs.SpellingLemmas.{if_ok}
use Rattle.ir_table.proofs.spelling.spell_again.Goals as goal

pub returns-then-is_err-clause-known : goal.returns-then-is_err-clause-known
returns-then-is_err-clause-known g c = c.new.ensures (name_text (g.N.Names.named c.args.names.now)) (heap c.args.cx.now) c.truncate.new.self

pub returns-else-is_err-clause-known : goal.returns-else-is_err-clause-known
returns-else-is_err-clause-known g c = if_ok c.spell_part-answer.result (sym c.is_err.ensures.value ∙ c.if-is_err.false) c.spell_part-answer.ensures.known
