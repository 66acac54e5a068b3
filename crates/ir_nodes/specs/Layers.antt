-- What the code reads of a part, as a layer.
use Rattle.std.specs.Prelude.{◌≡◌, Bool, true, false, List, Option, map}
use Rattle.std.specs.Option.{option_map}
use Rattle.ir_core.specs.declared.handles.Part.{Part}
use Rattle.ir_core.specs.declared.handles.PartSort.{PartSort}
use Rattle.ir_core.specs.Parts.{sort_in}
use Rattle.ir_laws.specs.Heap.{Heap, Layer, OfNames, kid_names}
use Rattle.ir_nodes.specs.declared.layers.List.{List as ListRead}
use Rattle.ir_nodes.specs.declared.layers.List.TheVariants as list
use Rattle.ir_nodes.specs.declared.layers.Layer.{Layer as LayerRead}
use Rattle.ir_nodes.specs.declared.layers.Layer.TheVariants as layer
use Rattle.ir_nodes.specs.Fits.{fits_row, is_term, layer_sort}
use Rattle.ir_nodes.specs.Nodes.{empty_layer, node_layer, tys_layer, variables_layer, variances_layer}

abbrev pub list_seen : ListRead → Layer Part
list_seen (list.Types ts) = tys_layer ts.now
list_seen (list.Variables vs) = variables_layer vs.now
list_seen (list.Variances vs) = variances_layer vs.now
list_seen (list.Empty k) = empty_layer k

abbrev pub list_kids : ListRead → List Part
list_kids l = kid_names (list_seen l).kids

abbrev pub layer_seen : LayerRead → Layer Part
layer_seen (layer.Node n) = node_layer n.now
layer_seen (layer.List l) = list_seen l

-- a node that is a part's is a term's, and fits its row
abbrev pub FitsRow : LayerRead → Type 0
FitsRow (layer.Node n) = (is_term (layer_sort (node_layer n.now)) ≡ true) × (fits_row (node_layer n.now) ≡ true)
FitsRow (layer.List l) = Unit {0}

abbrev pub is_node : LayerRead → Bool
is_node (layer.Node n) = true
is_node (layer.List l) = false

-- ---- the layer of a part, and that over other kids

-- what the part is, where it is live
abbrev pub layer_at : Heap Part → Part → Option (Layer Part)
layer_at h p = option_map (λ s. s.layer) (h p)

-- the layer with these kids in place of its own
abbrev pub over_kids : Layer Part → List Part → Layer Part
over_kids l ps = record l { kids = OfNames ps }

-- the sorts of its kids
abbrev pub kid_sorts : Layer Part → List PartSort
kid_sorts l = map sort_in (kid_names l.kids)
