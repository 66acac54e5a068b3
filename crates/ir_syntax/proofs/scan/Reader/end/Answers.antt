use Rattle.std.proofs.Common.{◌≡◌, [], rules}
use Rattle.ir_laws.specs.Expression.{NoExpr}
use Rattle.ir_syntax.specs.Frames.{finish}
use Rattle.ir_syntax.specs.Steps.{built}
use Rattle.ir_syntax.proofs.ReaderLemmas.{open-end}
use Rattle.ir_syntax.proofs.scan.Reader.end.Goals as goal

pub returns-then-not-is_empty-clause-read : goal.returns-then-not-is_empty-clause-read
returns-then-not-is_empty-clause-read c =
    let some : c.args.self.now.outer.items ≡ [] → ⊥ = search rules in
    open-end (finish c.args.self.now.frame NoExpr (built c.args.self.now.steps.items)) c.args.self.now.outer.items some
