use Rattle.std.proofs.Common.{rules, ◌≡◌, sym, ap, ◌∙◌, arith, bit_and}
use Rattle.std.proofs.lemmas.Bool.Decides.{nat_tests}
use Rattle.ir_laws.specs.Heap.{kid_names}
use Rattle.ir_laws.specs.Listed.{listed_within}
use Rattle.ir_table.specs.Interner.{heap}
use Rattle.ir_nodes.specs.Layers.{layer_seen}
use Rattle.ir_table.proofs.ListedLemmas.{quiet_within, plain_within, binder_within, one_more_listed}
use Rattle.ir_table.proofs.LoopLemmas.{drop_at}
use Rattle.ir_table.proofs.SpellingLemmas.{kid_got, no_item}
use Rattle.ir_table.proofs.listed.+within.Goals as goal
use Rattle.ir_table.proofs.listed.+within.Goals.{layer_is_within-in-Some+in_ok-kids_fit+else-not-branch, layer_is_within-in_default}

pub part_is_within-returns-then-not-intersects-clause-ok : goal.part_is_within-returns-then-not-intersects-clause-ok
part_is_within-returns-then-not-intersects-clause-ok t c =
    let mask = c.from_bits_retain.ensures tt in
    let test = c.intersects.ensures tt in
    let no = c.if-not-intersects.true in
    let none : bit_and c.flags.result.0 c.from_bits_retain.result.0 ≡ 0 = grind (arith, nat_tests) in
    quiet_within c.args.cx.now.store.tables c.args.cx.now.store.sound c.args.cx.now.store.fits c.args.part c.requires.live (sym (λ i. bit_and (c.flags.ensures i) (mask i)) ∙ none)

pub part_is_within-returns-clause-listed : goal.part_is_within-returns-clause-listed
part_is_within-returns-clause-listed t c =
    let inner = c.in_ok-layer_is_within.ensures in
    one_more_listed (heap c.args.cx.now) c.layer_is_within.new.listed.parts c.insert.new.self c.args.part inner.listed
    (record { live = c.requires.live; within = ap listed_within c.layer.ensures.layer.tree ∙ sym inner.ok ∙ c.if-not-branch.false }) c.in_ok-insert.ensures.updates

pub layer_is_within-returns-then-not-branch-clause-ok : goal.layer_is_within-returns-then-not-branch-clause-ok
layer_is_within-returns-then-not-branch-clause-ok t c =
    let own = binder_within (heap c.args.cx.now) c.args.layer c.binder.result c.binder.ensures c.args.cx.now.store.sound c.in-Some.variables c.as_slice-own.result.now c.in-Some.is c.requires.live c.as_slice-own.ensures in
    sym (rw (← c.in_ok-kids_fit.ensures.ok, c.if-not-branch.true) at own)

pub layer_is_within-returns-clause-ok : goal.layer_is_within-returns-clause-ok
layer_is_within-returns-clause-ok t c =
    elim c.match-binder.branch [
      | layer_is_within-in-Some+in_ok-kids_fit+else-not-branch w ↦
          let own = binder_within (heap c.args.cx.now) c.args.layer c.binder.result c.binder.ensures c.args.cx.now.store.sound w.in-Some.variables w.as_slice-own.result.now w.in-Some.is c.requires.live w.as_slice-own.ensures in
          rw (rw (← w.in_ok-kids_fit.ensures.ok, w.if-not-branch.false) at own) c.kids_are_within.ensures.ok
      | layer_is_within-in_default w ↦ rw (← plain_within (heap c.args.cx.now) c.args.layer c.binder.result c.binder.ensures (no_item c.binder.result w.in_default.not-Some)) c.kids_are_within.ensures.ok
    ]

pub kids_are_within-part_is_within-requires : goal.kids_are_within-part_is_within-requires
kids_are_within-part_is_within-requires t c = search (rules, kid_got (heap c.args.cx.now) (kid_names (layer_seen c.args.layer).kids) c.loop-index.index c.kid.result c.kid.ensures c.requires.live)

pub kids_are_within-returns-then-not-branch-clause-ok : goal.kids_are_within-returns-then-not-branch-clause-ok
kids_are_within-returns-then-not-branch-clause-ok t c =
    let next = drop_at (kid_names (layer_seen c.args.layer).kids) c.loop-index.index c.kid.result c.kid.ensures in
    sym (rw (next, ← c.in_ok-part_is_within.ensures.ok, c.if-not-branch.true) at c.loop-index.invariant.whole)

pub kids_are_within-loop-index-preserved : goal.kids_are_within-loop-index-preserved
kids_are_within-loop-index-preserved t c =
    let next = drop_at (kid_names (layer_seen c.args.layer).kids) c.loop-index.index c.kid.result c.kid.ensures in record {
      whole = rw (next, ← c.in_ok-part_is_within.ensures.ok, c.if-not-branch.false) at c.loop-index.invariant.whole;
      listed = c.in_ok-part_is_within.ensures.listed;
    }
