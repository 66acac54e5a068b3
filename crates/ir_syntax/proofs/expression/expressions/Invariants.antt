use Rattle.ir_syntax.specs.Nesting.{stack_of}
use Rattle.ir_syntax.proofs.ExpressionLemmas.{IsReadFrom}
use Rattle.ir_syntax.proofs.expression.expressions.Given as goal

abbrev pub invariant-loop-groups : goal.invariant-loop-groups
invariant-loop-groups l = IsReadFrom l.line l.end (stack_of l.groups)

abbrev pub decreases-loop-groups : goal.decreases-loop-groups
decreases-loop-groups l = l.end
