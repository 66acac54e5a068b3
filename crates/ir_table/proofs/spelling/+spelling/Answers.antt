use Rattle.std.proofs.Common.{rules, arith, ◌∙◌, ◌++◌, sym, ap, slice_get}
use Rattle.std.proofs.lemmas.Grind.{common_steps}
use Rattle.std.proofs.Math.Seq.{take-length}
use Rattle.std.proofs.lemmas.List.{append_assoc, append-nil, drop-map, drop_more}
use Rattle.ir_laws.specs.declared.labels.FixedWord.TheVariants.{Projection}
use Rattle.ir_laws.specs.declared.labels.Part.TheVariants.{Fixed}
use Rattle.ir_laws.specs.Heap.{IsLive}
use Rattle.ir_laws.proofs.HeapLemmas.{kids_of_names}
use Rattle.ir_table.specs.Interner.{heap}
use Rattle.ir_nodes.specs.Nodes.{fields_in, kids_in, node_layer}
use Rattle.ir_nodes.specs.declared.layers.Layer.TheVariants as layer
use Rattle.ir_nodes.specs.Layers.{list_kids}
use Rattle.ir_table.specs.Spelled.{AreSpelled, list_text, name_text, places_text}
use Rattle.ir_table.proofs.LoopLemmas.{drop_at}
use Rattle.ir_table.proofs.SpellingLemmas.{after_space, begins_append, begins_more, begins_same, begins_trans, known_more, known_ok, known_on, on_ok, spelled_last, then_ok, drop_past, no_item, node_spelled, list_spelled, kids_lower, kid_got, no_list, bare_node, whole_node, bind_none, bind_some, spaced-after}
use Rattle.ir_table.proofs.spelling.+spelling.Goals as goal
use Rattle.ir_table.proofs.spelling.+spelling.Goals.{spell_part-in-Node+in_ok-spell_node-in-Node, spell_part-in-List+in_ok-spell_list-in-List, spell_places-in-Fixed+in_ok-append_both-in-Fixed, spell_places-in-ForGroup+in-Some+in_ok-spell_variables-in-ForGroup, spell_places-in-ForGroup+in_default, spell_places-in-AField+in-Some-field+in_ok-spell_field-in-AField, spell_places-in-AKid+in-Some-get+in_ok-append-in-AKid+in_ok-spell_part-in-AKid}

pub spell_node-returns-then-is_empty-clause-ok : goal.spell_node-returns-then-is_empty-clause-ok
spell_node-returns-then-is_empty-clause-ok g t c =
    let empty = sym c.is_empty.ensures ∙ c.if-is_empty.true in
    rw (← bare_node (name_text (g.N.Names.named c.args.names.now)) (heap c.args.cx.now) c.args.node.now c.requires.no_list c.text-word.result.now c.text-word.ensures c.parts-places.result.now c.parts-places.ensures empty) c.append.ensures.ok

pub spell_node-returns-in_err-spell_places-clause-err : goal.spell_node-returns-in_err-spell_places-clause-err
spell_node-returns-in_err-spell_places-clause-err g t c = grind (arith, common_steps, begins_trans c.args.out.now c.append_both.new.out c.spell_places.new.out (rw c.in_ok-append_both.ensures.ok (begins_append _ _)))

pub spell_node-returns-clause-ok : goal.spell_node-returns-clause-ok
spell_node-returns-clause-ok g t c =
    let full = sym c.is_empty.ensures ∙ c.if-is_empty.false in
    rw (← whole_node (name_text (g.N.Names.named c.args.names.now)) (heap c.args.cx.now) c.args.node.now c.requires.no_list c.text-word.result.now c.text-word.ensures c.parts-places.result.now c.parts-places.ensures full
    c.args.out.now c.append_both.new.out c.spell_places.new.out c.in_ok-append_both.ensures.ok c.in_ok-spell_places.ensures.ok) c.append-2.ensures.ok

pub spell_places-loop-place-init : goal.spell_places-loop-place-init
unfolding places_text
spell_places-loop-place-init g t c = search (rules, take-length c.args.out.now, c.requires.known)

pub spell_places-returns-in_err-spell_part-in-AKid-clause-err : goal.spell_places-returns-in_err-spell_part-in-AKid-clause-err
spell_places-returns-in_err-spell_part-in-AKid-clause-err g t c =
    grind (arith, common_steps, begins_trans c.args.out.now c.append.new.self c.spell_part.new.out (rw c.in_ok-append-in-AKid.ensures.ok (begins_more _ _ _ c.loop-place.invariant.begins)))

pub spell_places-loop-place-preserved : goal.spell_places-loop-place-preserved
spell_places-loop-place-preserved g t c =
    let i = c.loop-place.invariant in
    let node = c.args.node.now in
    let here = drop_more c.args.places.now c.loop-place.place-index (Fixed Projection) c.loop-place-test.true in
    elim c.match-place.branch [
      | spell_places-in-Fixed+in_ok-append_both-in-Fixed w ↦
          let whole = rw (here, w.in-Fixed.is) at i.whole in
          rw (w.out-is, w.fields-is, w.kids-is, w.in_ok-append_both-in-Fixed.ensures.ok, w.text.ensures) (simp append_assoc (search (rules, begins_more, whole, i.begins, known_more, i.known)))
      | spell_places-in-ForGroup+in-Some+in_ok-spell_variables-in-ForGroup w ↦
          let group = bind_some (name_text (g.N.Names.named c.args.names.now)) (heap c.args.cx.now) node w.binder.result w.binder.ensures w.in-Some.variables w.in-Some.is c.requires.live c.args.cx.now.store.sound w.as_slice.result.now w.as_slice.ensures in
          let whole = simp (here, w.in-ForGroup.is, group, append_assoc) at i.whole in
          rw (w.out-is, w.fields-is, w.kids-is, w.in_ok-spell_variables-in-ForGroup.ensures.ok, group) (simp append_assoc (search (rules, begins_more, whole, i.begins, known_more, i.known)))
      | spell_places-in-ForGroup+in_default w ↦
          let none = bind_none (name_text (g.N.Names.named c.args.names.now)) (heap c.args.cx.now) node w.binder.result w.binder.ensures w.in_default.not-Some in
          let whole = rw (here, w.in-ForGroup.is, none) at i.whole in
          rw (w.out-is, w.fields-is, w.kids-is, none) (search (rules, whole, i.begins))
      | spell_places-in-AField+in-Some-field+in_ok-spell_field-in-AField w ↦
          let next = drop_at (fields_in node.content) c.loop-place.fields w.in-Some-field.field (sym w.in-Some-field.ensures) in
          let whole = simp (here, w.in-AField.is, drop-map, next) at i.whole in
          rw (w.out-is, w.fields-is, w.kids-is, w.in_ok-spell_field-in-AField.ensures.ok) (simp (append_assoc, drop-map) (search (rules, begins_more, whole, i.begins, known_more, i.known)))
      | spell_places-in-AKid+in-Some-get+in_ok-append-in-AKid+in_ok-spell_part-in-AKid w ↦
          let got = w.in-Some-get.ensures ∙ ap (λ ps. slice_get ps c.loop-place.kids) w.kids.ensures in
          let next = drop_at (kids_in node.content) c.loop-place.kids w.in-Some-get.kid (sym got) in
          let whole = simp (here, w.in-AKid.is, drop-map, next) at i.whole in
          let known = simp append_assoc at (rw (w.in_ok-spell_part-in-AKid.ensures.ok, w.in_ok-append-in-AKid.ensures.ok) at w.in_ok-spell_part-in-AKid.ensures.known) in
          rw (w.out-is, w.known-is, w.fields-is, w.kids-is, w.in_ok-spell_part-in-AKid.ensures.ok, w.in_ok-append-in-AKid.ensures.ok) (simp (append_assoc, drop-map) (search (rules, begins_more, whole, i.begins, known)))
    ]

pub spell_places-returns-in_default-field-clause-ok : goal.spell_places-returns-in_default-field-clause-ok
spell_places-returns-in_default-field-clause-ok g t c =
    let here = drop_more c.args.places.now c.loop-place.place-index (Fixed Projection) c.loop-place-test.true in
    let none = drop_past (fields_in c.args.node.now.content) c.loop-place.fields (rw (← c.field.ensures) (no_item c.field.result c.in_default-field.not-Some)) in
    rw (← append-nil c.loop-place.out) (simp (here, c.in-AField.is, drop-map, none) at c.loop-place.invariant.whole)

pub spell_part-spell_node-requires : goal.spell_part-spell_node-requires
spell_part-spell_node-requires g t c κs within =
    let has = rw c.in-Node.is at c.layer.ensures.layer in
    let row = rw c.in-Node.is at c.layer.ensures.row in
    search (rules, kids_lower (heap c.args.cx.now) c.args.part (layer.Node c.in-Node.node) has, has.live, no_list (node_layer c.in-Node.node.now) row.0)

pub spell_list-loop-index-init : goal.spell_list-loop-index-init
unfolding list_text
spell_list-loop-index-init g t c = rw c.in_ok-append.ensures.ok (simp (spaced-after, append_assoc) (search (rules, begins_append, known_more, c.requires.known)))

pub spell_list-spell_part-requires : goal.spell_list-spell_part-requires
spell_list-spell_part-requires g t c κs within = search (rules, kid_got (heap c.args.cx.now) (list_kids c.args.list) c.loop-index.index c.kid.result c.kid.ensures c.requires.live, known_on, c.in_ok-append-2.ensures.ok, c.loop-index.invariant.known)

pub spell_list-returns-in_err-spell_part-clause-err : goal.spell_list-returns-in_err-spell_part-clause-err
spell_list-returns-in_err-spell_part-clause-err g t c =
    grind (arith, common_steps, begins_trans c.args.out.now c.append-in-loop-index.new.self c.spell_part.new.out (rw c.in_ok-append-2.ensures.ok (begins_more _ _ _ c.loop-index.invariant.begins)))

pub spell_list-loop-index-preserved : goal.spell_list-loop-index-preserved
spell_list-loop-index-preserved g t c =
    let i = c.loop-index.invariant in
    let next = drop_at (list_kids c.args.list) c.loop-index.index c.kid.result c.kid.ensures in
    let whole = simp (drop-map, next, append_assoc) at i.whole in
    let known = simp append_assoc at (rw (c.in_ok-spell_part.ensures.ok, c.in_ok-append-2.ensures.ok) at c.in_ok-spell_part.ensures.known) in
    rw (c.in_ok-spell_part.ensures.ok, c.in_ok-append-2.ensures.ok) (simp (after_space, append_assoc, drop-map) (search (rules, begins_more, whole, i.begins, known)))

pub spell_list-returns-clause-known : goal.spell_list-returns-clause-known
spell_list-returns-clause-known g t c = known_ok (name_text (g.N.Names.named c.args.names.now)) (heap c.args.cx.now) c.loop-index.out _ _ c.loop-index.known c.append-2.result c.append-2.ensures.ok c.loop-index.invariant.known

pub spell_node-returns-then-is_empty-clause-known : goal.spell_node-returns-then-is_empty-clause-known
spell_node-returns-then-is_empty-clause-known g t c = known_ok (name_text (g.N.Names.named c.args.names.now)) (heap c.args.cx.now) c.args.out.now _ _ c.args.known.now c.append.result c.append.ensures.ok c.requires.known

pub spell_node-spell_places-requires : goal.spell_node-spell_places-requires
spell_node-spell_places-requires g t c κs within = search (rules, known_on, c.in_ok-append_both.ensures.ok, c.requires.known)

pub spell_node-returns-clause-known : goal.spell_node-returns-clause-known
spell_node-returns-clause-known g t c = known_ok (name_text (g.N.Names.named c.args.names.now)) (heap c.args.cx.now) c.spell_places.new.out _ _ c.spell_places.new.known c.append-2.result c.append-2.ensures.ok c.in_ok-spell_places.ensures.known

pub spell_places-spell_part-requires : goal.spell_places-spell_part-requires
spell_places-spell_part-requires g t c κs within =
    let h = heap c.args.cx.now in
    let kids = kids_in c.args.node.now.content in
    let got = c.in-Some-get.ensures ∙ ap (λ ps. slice_get ps c.loop-place.kids) c.kids.ensures in
    search (rules, kid_got h kids c.loop-place.kids c.in-Some-get.kid (sym got) (kids_of_names (IsLive h) _ kids c.requires.live), known_on, c.in_ok-append-in-AKid.ensures.ok, c.loop-place.invariant.known)

pub spell_part-append_within-requires-clause-order : goal.spell_part-append_within-requires-clause-order
spell_part-append_within-requires-clause-order g t c = (c.in-Some.ensures (name_text (g.N.Names.named c.args.names.now)) (heap c.args.cx.now) c.args.out.now c.requires.known).order

pub spell_part-append_within-requires-clause-within : goal.spell_part-append_within-requires-clause-within
spell_part-append_within-requires-clause-within g t c = (c.in-Some.ensures (name_text (g.N.Names.named c.args.names.now)) (heap c.args.cx.now) c.args.out.now c.requires.known).within

pub spell_part-returns-in-Some-clause-known : goal.spell_part-returns-in-Some-clause-known
spell_part-returns-in-Some-clause-known g t c = known_ok (name_text (g.N.Names.named c.args.names.now)) (heap c.args.cx.now) c.args.out.now _ _ c.args.known.now c.append_within.result c.append_within.ensures.ok c.requires.known

pub spell_part-returns-in-Some-clause-err : goal.spell_part-returns-in-Some-clause-err
spell_part-returns-in-Some-clause-err g t c = begins_same c.args.out.now c.append_within.new.self c.append_within.result _ c.append_within.ensures.err

pub spell_part-returns-clause-ok : goal.spell_part-returns-clause-ok
spell_part-returns-clause-ok g t c = on_ok c.keep.result (elim c.match-layer.branch [
  | spell_part-in-Node+in_ok-spell_node-in-Node w ↦
      let has = rw w.in-Node.is at c.layer.ensures.layer in
      w.out-is ∙ w.in_ok-spell_node-in-Node.ensures.ok ∙ ap (λ text. c.args.out.now ++ text) (node_spelled (name_text (g.N.Names.named c.args.names.now)) (heap c.args.cx.now) c.args.part w.in-Node.node.now has)
  | spell_part-in-List+in_ok-spell_list-in-List w ↦
      let has = rw w.in-List.is at c.layer.ensures.layer in
      w.out-is ∙ w.in_ok-spell_list-in-List.ensures.ok ∙ ap (λ text. c.args.out.now ++ text) (list_spelled (name_text (g.N.Names.named c.args.names.now)) (heap c.args.cx.now) c.args.part w.in-List.list has)
])

pub spell_part-returns-clause-known : goal.spell_part-returns-clause-known
spell_part-returns-clause-known g t c = then_ok _ c.keep.result (spell_part-returns-clause-ok g t c) (λ put.
    let known : AreSpelled (name_text (g.N.Names.named c.args.names.now)) (heap c.args.cx.now) c.match-layer.out c.match-layer.known = elim c.match-layer.branch [
      | spell_part-in-Node+in_ok-spell_node-in-Node w ↦ rw (w.out-is, w.known-is) w.in_ok-spell_node-in-Node.ensures.known
      | spell_part-in-List+in_ok-spell_list-in-List w ↦ rw (w.out-is, w.known-is) w.in_ok-spell_list-in-List.ensures.known
    ] in
    c.keep.ensures.kept (name_text (g.N.Names.named c.args.names.now)) (heap c.args.cx.now) c.match-layer.out known (rw (c.as_bytes-start.ensures, c.as_bytes-end.ensures) (spelled_last (name_text (g.N.Names.named c.args.names.now)) (heap c.args.cx.now) c.args.out.now c.match-layer.out c.args.part c.requires.live put)))
