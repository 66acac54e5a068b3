use Rattle.std.proofs.Common.{◌≡◌, ◌++◌, ◌+◌, ◌*◌, ◌≤◌, drop, map, codes}
use Rattle.ir_laws.specs.Heap.{largest, cached_height, shape_over}
use Rattle.ir_laws.specs.Spelling.{bind_texts, field_text, part_texts}
use Rattle.ir_table.specs.Interner.{heap}
use Rattle.ir_nodes.specs.Layers.{list_kids}
use Rattle.ir_nodes.specs.Nodes.{field_seen, fields_in, kids_in, node_layer}
use Rattle.ir_table.specs.Spelled.{AreSpelled, Begins, after, after_each, kid_texts, list_text, name_text, places_text}
use Rattle.ir_table.proofs.spelling.+spelling.Given as goal

abbrev pub decreases-spell_part : goal.decreases-spell_part
decreases-spell_part g l = 3 * cached_height (heap l.cx.now) l.part

abbrev pub decreases-spell_node : goal.decreases-spell_node
decreases-spell_node g l = 3 * largest (cached_height (heap l.cx.now)) (kids_in l.node.now.content) + 2

abbrev pub decreases-spell_places : goal.decreases-spell_places
decreases-spell_places g l = 3 * largest (cached_height (heap l.cx.now)) (kids_in l.node.now.content) + 1

abbrev pub decreases-spell_list : goal.decreases-spell_list
decreases-spell_list g l = 3 * largest (cached_height (heap l.cx.now)) (list_kids l.list) + 1

abbrev pub invariant-spell_places-loop-place : goal.invariant-spell_places-loop-place
invariant-spell_places-loop-place g l = record {
  whole : l.out ++ after_each (part_texts (drop l.place-index l.places) (drop l.fields (map (field_text (name_text (g.N.Names.named l.names))) (map field_seen (fields_in l.node.content)))) (bind_texts (name_text (g.N.Names.named l.names)) (shape_over (heap l.cx) (node_layer l.node)).bind) (drop l.kids (kid_texts (name_text (g.N.Names.named l.names)) (heap l.cx) (kids_in l.node.content))))
      ≡ l.fn.out ++ places_text (name_text (g.N.Names.named l.names)) (heap l.cx) l.places l.node;
  begins : Begins l.fn.out l.out;
  known : AreSpelled (name_text (g.N.Names.named l.names)) (heap l.cx) l.out l.known;
  few_fields : l.fields ≤ l.place-index;
  few_kids : l.kids ≤ l.place-index;
}

abbrev pub invariant-spell_list-loop-index : goal.invariant-spell_list-loop-index
invariant-spell_list-loop-index g l = record {
  whole : (l.out ++ after l.space (drop l.index (kid_texts (name_text (g.N.Names.named l.names)) (heap l.cx) (list_kids l.list)))) ++ codes ")"
      ≡ l.fn.out ++ list_text (name_text (g.N.Names.named l.names)) (heap l.cx) l.list;
  begins : Begins l.fn.out l.out;
  known : AreSpelled (name_text (g.N.Names.named l.names)) (heap l.cx) l.out l.known;
}
