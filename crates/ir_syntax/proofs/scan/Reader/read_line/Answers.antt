use Rattle.std.proofs.Common.{true, false}
use Rattle.ir_laws.specs.Expression.{tokens_of}
use Rattle.ir_syntax.proofs.AskedLemmas.{line-terms}
use Rattle.ir_syntax.proofs.scan.Reader.read_line.Goals as goal

pub returns-then-branch-clause-read : goal.returns-then-branch-clause-read
returns-then-branch-clause-read c = line-terms _ c.in-Some.asked c.in-Some.count (tokens_of c.in-Some.text.now) _ true _ c.in-Some.ensures.form c.in-Some.ensures.count c.if-branch.true c.in_ok-read_terms.ensures.read

pub returns-else-branch-clause-refusal : goal.returns-else-branch-clause-refusal
returns-else-branch-clause-refusal c = λ e. line-terms _ c.in-Some.asked c.in-Some.count (tokens_of c.in-Some.text.now) _ false _ c.in-Some.ensures.form c.in-Some.ensures.count c.if-branch.false c.in_ok-read_terms.ensures.read
