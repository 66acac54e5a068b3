use Rattle.std.proofs.Common.{◌≡◌, ◌++◌, ◌∷◌, [], rules, reverse}
use Rattle.ir_syntax.specs.Views.{items_of}
use Rattle.ir_syntax.proofs.ExpressionLemmas.{end_group-leaves}
use Rattle.ir_syntax.specs.declared.expression.Expr as code
use Rattle.ir_syntax.proofs.expression.OpenGroups.end_group.Goals as goal

pub returns : goal.returns
returns c =
    let inner = c.args.self.now.innermost.items in
    let whole : items_of c.whole-group.result ≡ reverse inner = search rules in
    let pushed : c.push.new.self.items ≡ c.in-Some.around.items ++ code.Group c.whole-group.result ∷ [] = search rules in
    record { read = end_group-leaves inner c.push.new.self.items c.in-Some.around c.whole-group.result _ _ c.in-Some.ensures.items whole pushed c.requires.shallow }
