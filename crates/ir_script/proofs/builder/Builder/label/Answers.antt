use Rattle.std.proofs.Common.{◌∙◌, ◌++◌, ◌∷◌, [], Err, is_some, refl, sym, ap, subst}
use Rattle.std.proofs.lemmas.Result.{err_from_is_err_and}
use Rattle.ir_core.specs.declared.handles.Part.{Part}
use Rattle.ir_laws.specs.Counts.{sort_of_label}
use Rattle.ir_laws.specs.Heap.{Each, IsLive, Layer, names_in, tree_above}
use Rattle.ir_nodes.specs.Fits.{term_sort}
use Rattle.ir_script.proofs.LeafLemmas.{leaf_is, leaves_later}
use Rattle.ir_script.proofs.MakingLemmas.{label_live, label_made, label_makes, label_taken, node_fits, takes_err, takes_late, takes_ok}
use Rattle.ir_script.specs.Kept.{AreLeaves}
use Rattle.ir_script.specs.Making.{IsRoot}
use Rattle.ir_table.specs.Interner.{heap}
use Rattle.ir_script.proofs.builder.Builder.label.Goals as goal

pub node-requires : goal.node-requires
node-requires c = node_fits _ c.requires.next.grove _ c.args.word c.requires.next.grown c.requires.next.fits

pub node-requires-2-clause-live : goal.node-requires-2-clause-live
node-requires-2-clause-live c = subst (λ (l : Layer Part). Each (IsLive (heap c.args.cx.now)) (names_in l)) (sym c.node.ensures.layer) (label_live _ c.requires.next.grove _ c.args.word c.requires.next.grown)

pub node-requires-2-clause-sort : goal.node-requires-2-clause-sort
node-requires-2-clause-sort c =
    let fits = node_fits _ c.requires.next.grove _ c.args.word c.requires.next.grown c.requires.next.fits in
    ap (λ (l : Layer Part). is_some (term_sort (sort_of_label l.label))) c.node.ensures.layer ∙ fits.sort

pub returns-in_err-part-clause-takes : goal.returns-in_err-part-clause-takes
returns-in_err-part-clause-takes c = λ h g grows grown fits.
    let from = err_from_is_err_and c.from_residual.result c.from_residual.ensures.1 in
    takes_err h g _ _ _ _ _ _ _ refl (from.1 ∙ ap Err from.2) (label_makes _ g _ c.args.word grown _ _ refl c.args.cx.now.store.counted _ c.node.ensures.layer _ c.in_err-part.ensures.answers)

pub returns-in_err-push-clause-takes : goal.returns-in_err-push-clause-takes
returns-in_err-push-clause-takes c = λ h g grows grown fits.
    let from = err_from_is_err_and c.from_residual-in_err-push.result c.from_residual-in_err-push.ensures.1 in
    takes_late h g _ _ _ _ _ _ _ _ refl from.1 from.2 (label_makes _ g _ c.args.word grown _ _ refl c.args.cx.now.store.counted _ c.node.ensures.layer _ c.in_ok-part.ensures.answers)

pub returns-clause-takes : goal.returns-clause-takes
returns-clause-takes c = λ h g grows grown fits.
    let store = c.node-2.new.self.store in
    let answers = c.in_ok-part.ensures.answers in
    takes_ok h g _ _ _ _ _ _ refl (label_makes _ g _ c.args.word grown _ _ refl c.args.cx.now.store.counted _ c.node.ensures.layer _ answers)
    (label_taken _ g _ c.args.word grown store.tables _ refl store.sound answers.ok.grows c.args.sort _ fits answers.ok.live (answers.ok.tree ∙ ap (tree_above (heap c.args.cx.now)) c.node.ensures.layer) _
    (c.in_ok-push.ensures.items ∙ ap (λ qs. qs ++ c.in_ok-part.part ∷ []) c.cut.ensures.parts) c.cut.ensures.fields c.cut.ensures.variables c.cut.ensures.binders)

pub returns-clause-leaves : goal.returns-clause-leaves
returns-clause-leaves c =
    let store = c.node-2.new.self.store in
    let answers = c.in_ok-part.ensures.answers in
    let later = leaves_later _ _ _ answers.ok.grows c.requires.leaves in
    c.keep.ensures (heap c.node-2.new.self) (subst (AreLeaves (heap c.node-2.new.self)) (sym c.cut.ensures.leaves) later)
    (λ none. subst (λ r. IsRoot (heap c.node-2.new.self) r c.in_ok-part.part) (leaf_is c.args.word c.requires.next.grove none)
    (label_made _ c.requires.next.grove _ c.args.word c.requires.next.grown store.tables _ refl store.sound _ c.requires.next.fits answers.ok.live (answers.ok.tree ∙ ap (tree_above (heap c.args.cx.now)) c.node.ensures.layer)))
