use Rattle.std.proofs.Common.{◌≡◌, ◌∙◌, sym, true, arith}
use Rattle.ir_laws.specs.declared.words.Word.TheVariants.{BoundVariable}
use Rattle.ir_nodes.specs.ExactNode.{exact_word}
use Rattle.ir_nodes.specs.Nodes.{node_layer}
use Rattle.ir_table.proofs.NodeLemmas.{own_plain}
use Rattle.ir_nodes.proofs.PlainLemmas.{plain_node, is_plain}
use Rattle.ir_table.proofs.above.node_own.Goals as goal

pub returns-then-eq : goal.returns-then-eq
returns-then-eq c =
    let a = c.variable.ensures in
    let word = exact_word c.args.node.now.word BoundVariable (sym c.eq.ensures ∙ c.if-eq.true) in
    rw (word, c.in-Placed.is) (record { height = a.height; size = a.size; flags = a.flags ∙ c.bound_flag.ensures; outer = omega arith; index = a.index; number = a.number })

pub returns-in-Bare : goal.returns-in-Bare
returns-in-Bare c =
    let plain : is_plain c.args.node.now.content ≡ true = grind (arith, c.in-Bare.is) in
    own_plain (node_layer c.args.node.now).label (plain_node c.args.node.now c.requires plain) c.flags.result c.flags.ensures c.begin-in-Bare.result c.begin-in-Bare.ensures
