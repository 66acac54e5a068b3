use Rattle.std.proofs.Common.{rules, ap, sym, ◌∙◌, arith, map}
use Rattle.ir_laws.specs.Heap.{kid_names, tree_of}
use Rattle.ir_laws.specs.Listed.{fits_binder}
use Rattle.ir_laws.proofs.WithinLemmas.{fits-outer}
use Rattle.ir_table.specs.Interner.{heap}
use Rattle.ir_nodes.specs.Layers.{layer_seen}
use Rattle.ir_nodes.specs.Nodes.{variable_seen}
use Rattle.ir_table.proofs.ListedLemmas.{one_more_fits}
use Rattle.ir_table.proofs.LoopLemmas.{drop_at}
use Rattle.ir_table.proofs.SpellingLemmas.{kid_got}
use Rattle.ir_table.proofs.listed.+fit.Goals as goal

pub part_fits-returns-then-outer-depth-clause-ok : goal.part_fits-returns-then-outer-depth-clause-ok
part_fits-returns-then-outer-depth-clause-ok t c =
    sym (fits-outer (tree_of (heap c.args.cx.now) c.args.part) (map variable_seen c.args.variables.now) c.args.depth (omega (arith, c.outer_exclusive_binder-outer.ensures)))

pub part_fits-returns-clause-known : goal.part_fits-returns-clause-known
part_fits-returns-clause-known t c =
    let ks = map variable_seen c.args.variables.now in
    let inner = c.in_ok-layer_fits.ensures in
    one_more_fits (heap c.args.cx.now) ks c.layer_fits.new.known c.insert.new.self (record { part = c.args.part; depth = c.args.depth }) inner.known
    (ap (fits_binder ks c.args.depth) c.layer.ensures.layer.tree ∙ sym inner.ok ∙ c.if-not-branch.false) c.in_ok-insert.ensures.updates

pub kids_fit-part_fits-requires : goal.kids_fit-part_fits-requires
kids_fit-part_fits-requires t c = search (rules, kid_got (heap c.args.cx.now) (kid_names (layer_seen c.args.layer).kids) c.loop-index.index c.kid.result c.kid.ensures c.requires.live)

pub kids_fit-returns-then-not-branch-clause-ok : goal.kids_fit-returns-then-not-branch-clause-ok
kids_fit-returns-then-not-branch-clause-ok t c =
    let next = drop_at (kid_names (layer_seen c.args.layer).kids) c.loop-index.index c.kid.result c.kid.ensures in
    sym (rw (next, ← c.in_ok-part_fits.ensures.ok, c.if-not-branch.true) at c.loop-index.invariant.whole)

pub kids_fit-loop-index-preserved : goal.kids_fit-loop-index-preserved
kids_fit-loop-index-preserved t c =
    let next = drop_at (kid_names (layer_seen c.args.layer).kids) c.loop-index.index c.kid.result c.kid.ensures in record {
      whole = rw (next, ← c.in_ok-part_fits.ensures.ok, c.if-not-branch.false) at c.loop-index.invariant.whole;
      known = c.in_ok-part_fits.ensures.known;
    }
