use Rattle.ir_table.proofs.SpellingLemmas.{one_more_spelled}
use Rattle.ir_table.proofs.spelling.Spellings.keep.Goals as goal

pub returns-clause-kept : goal.returns-clause-kept
returns-clause-kept c = λ name h text known here. one_more_spelled name h text c.args.self.now (record { spans = c.insert.new.self }) c.args.part c.args.span known here c.in_ok-insert.ensures.updates
