use Rattle.std.proofs.Common.{◌∙◌, ap, sym}
use Rattle.ir_core.specs.Parts.{part_at}
use Rattle.ir_table.specs.Owned.{nodes_table}
use Rattle.ir_nodes.specs.Nodes.{node_layer}
use Rattle.ir_table.proofs.PartLemmas.{entry_kept, entry_node, entry_row, entry_within}
use Rattle.ir_table.proofs.intern.Intern.kind.Goals as goal

pub key-requires : goal.key-requires
key-requires g c =
    let part = g.met.Self.Handle.part_is c.args.self ∙ ap (part_at g.Self.Handle.sort) (sym c.index.ensures) in
    entry_within c.args.cx.now.store.tables _ _ _ part c.requires _ (nodes_table.own c.args.cx.now.store.tables _ _ g.met.Self.Intern.is_node)

pub to_kind-requires-clause-fits : goal.to_kind-requires-clause-fits
to_kind-requires-clause-fits g c =
    let part = g.met.Self.Handle.part_is c.args.self ∙ ap (part_at g.Self.Handle.sort) (sym c.index.ensures) in
    entry_row c.args.cx.now.store.tables _ _ _ part c.requires _ (nodes_table.own c.args.cx.now.store.tables _ _ g.met.Self.Intern.is_node)
    (node_layer c.key.result.now) c.key.ensures c.args.cx.now.store.fits g.met.Self.Intern.is_node

pub to_kind-requires-clause-sort : goal.to_kind-requires-clause-sort
to_kind-requires-clause-sort g c =
    let part = g.met.Self.Handle.part_is c.args.self ∙ ap (part_at g.Self.Handle.sort) (sym c.index.ensures) in
    (entry_kept c.args.cx.now.store.tables _ _ _ part c.requires _ (nodes_table.own c.args.cx.now.store.tables _ _ g.met.Self.Intern.is_node)
    (node_layer c.key.result.now) c.key.ensures).1

pub returns : goal.returns
returns g c =
    let part = g.met.Self.Handle.part_is c.args.self ∙ ap (part_at g.Self.Handle.sort) (sym c.index.ensures) in
    rw c.to_kind.ensures
    (entry_node c.args.cx.now.store.tables _ _ _ part c.requires _ (nodes_table.own c.args.cx.now.store.tables _ _ g.met.Self.Intern.is_node)
    (node_layer c.key.result.now) c.key.ensures c.args.cx.now.store.sound)
