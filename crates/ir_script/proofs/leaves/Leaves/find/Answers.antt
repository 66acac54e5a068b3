use Rattle.std.proofs.Common.{◌∙◌, subst, sym}
use Rattle.ir_nodes.specs.ExactNode.{exact_word}
use Rattle.ir_script.specs.Kept.{IsLeafOf}
use Rattle.ir_script.proofs.leaves.Leaves.find.Goals as goal

pub returns-then-eq : goal.returns-then-eq
returns-then-eq c = λ h known.
    let same = exact_word c.in_ok-known.known c.args.word (sym c.eq.ensures ∙ c.if-eq.true) in
    subst (λ w. IsLeafOf h w c.in_ok-known.part) same (known.each _ c.in_ok-known.known c.in_ok-known.part c.in_ok-known.was)
