use Rattle.std.proofs.Common.{◌≡◌, ◌∙◌, arith, length, sym}
use Rattle.std.proofs.lemmas.Bool.Decides.{nat_tests}
use Rattle.std.proofs.lemmas.List.{nil_from_length}
use Rattle.ir_script.proofs.LeafLemmas.{leaf_kept}
use Rattle.ir_script.proofs.leaves.Leaves.keep.Goals as goal

pub returns-then-is_empty : goal.returns-then-is_empty
returns-then-is_empty c = λ h known root.
    let none : length c.parts.result.now ≡ 0 = grind (arith, nat_tests) in
    let bare = sym c.parts.ensures ∙ nil_from_length c.parts.result.now none in
    leaf_kept h c.args.self.now _ c.args.word c.args.part known (record { bare = bare; root = root bare })
