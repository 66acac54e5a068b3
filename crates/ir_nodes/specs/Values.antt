-- Values: parts, and nodes over parts that are no parts themselves.
use Rattle.std.specs.Prelude.{List, [], ◌∷◌, Option, Some, None}
use Rattle.ir_core.specs.declared.handles.BoundVarKinds.{BoundVarKinds}
use Rattle.ir_core.specs.declared.handles.Part.{Part}
use Rattle.ir_core.specs.declared.handles.Part.TheVariants as part
use Rattle.ir_core.specs.declared.signatures.FnSig.{FnSig}
use Rattle.ir_laws.specs.declared.words.Word.TheVariants.{FnPtrType, UnsafeBinderType}
use Rattle.ir_laws.specs.Heap.{Heap, names_in, tree_above, tree_of}
use Rattle.ir_laws.specs.Tree.{Term}
use Rattle.ir_nodes.specs.declared.nodes.Content.{Content}
use Rattle.ir_nodes.specs.declared.nodes.Content.TheVariants.{BoundOne, Opened, Signature}
use Rattle.ir_nodes.specs.declared.values.Value.{Value}
use Rattle.ir_nodes.specs.declared.values.Value.TheVariants as value
use Rattle.ir_nodes.specs.Plain.{IsPlain}
use Rattle.ir_nodes.specs.Nodes.{node_layer}
use Rattle.ir_nodes.specs.Views.{abi_word, safety_word, variadic_word}

-- the parts that a value is made of
abbrev pub value_names : Value → List Part
value_names (value.Part p) = p ∷ []
value_names (value.Node n) = names_in (node_layer n)

-- the tree of a value
abbrev pub value_tree : Heap Part → Value → Term
value_tree h (value.Part p) = tree_of h p
value_tree h (value.Node n) = tree_above h (node_layer n)

-- a node has a label that is no variable's
abbrev pub IsTold : Value → Type 0
IsTold (value.Part p) = Unit {0}
IsTold (value.Node n) = IsPlain (node_layer n).label

-- a signature under a binder, or opened
abbrev pub signature_content : FnSig → Option BoundVarKinds → Content
signature_content s None = Opened (safety_word s.safety) (abi_word s.abi) (variadic_word s.c_variadic) (part.Tys s.inputs_and_output)
signature_content s (Some vs) = Signature (safety_word s.safety) (abi_word s.abi) (variadic_word s.c_variadic) vs (part.Tys s.inputs_and_output)

abbrev pub signature_value : FnSig → Option BoundVarKinds → Value
signature_value s b = value.Node (record { word = FnPtrType; content = signature_content s b })

-- a part under a binder
abbrev pub binder_value : BoundVarKinds → Part → Value
binder_value vs p = value.Node (record { word = UnsafeBinderType; content = BoundOne vs p })
