-- What a node and a list are, as layers.
use Rattle.std.specs.Prelude.{List, [], ◌∷◌, Option, Some, None, map}
use Rattle.std.specs.Option.{option_map}
use Rattle.ir_core.specs.declared.ids.SolverDefId.{SolverDefId}
use Rattle.ir_core.specs.declared.handles.Ty.{Ty}
use Rattle.ir_core.specs.declared.handles.BoundVarKinds.{BoundVarKinds}
use Rattle.ir_core.specs.declared.handles.Part.{Part}
use Rattle.ir_core.specs.declared.handles.Part.TheVariants as part
use Rattle.ir_core.specs.declared.ids.BoundVar.{BoundVar}
use Rattle.ir_core.specs.declared.ids.DebruijnIndex.{DebruijnIndex}
use Rattle.ir_core.specs.declared.variables.BoundTyKind.{BoundTyKind}
use Rattle.ir_core.specs.declared.variables.BoundTyKind.TheVariants as bound_type
use Rattle.ir_core.specs.declared.variables.BoundRegionKind.{BoundRegionKind}
use Rattle.ir_core.specs.declared.variables.BoundRegionKind.TheVariants as bound_region
use Rattle.ir_core.specs.declared.variables.BoundVarKind.{BoundVarKind}
use Rattle.ir_core.specs.declared.variables.BoundVarKind.TheVariants as variable
use Rattle.ir_core.specs.declared.kinds.Variance.{Variance}
use Rattle.ir_core.specs.declared.kinds.Variance.TheVariants as variance
use Rattle.ir_laws.specs.declared.words.Word.{Word}
use Rattle.ir_laws.specs.declared.words.Word.TheVariants.{TypeList, ArgumentList, PatternList, ExistentialList, ClauseList, VariableList, VarianceList, AssumptionList}
use Rattle.ir_laws.specs.declared.labels.Keyword.{Keyword}
use Rattle.ir_laws.specs.declared.labels.Keyword.TheVariants.{Covariant, Invariant, Contravariant, Bivariant}
use Rattle.ir_laws.specs.declared.labels.Sort.TheVariants.{OfType, OfRegion, OfConstant}
use Rattle.ir_laws.specs.Tree as tree
use Rattle.ir_laws.specs.Heap.{OfNames, Layer}
use Rattle.ir_nodes.specs.declared.nodes.Field.{Field}
use Rattle.ir_nodes.specs.declared.nodes.Field.TheVariants as field
use Rattle.ir_nodes.specs.declared.nodes.Content.{Content}
use Rattle.ir_nodes.specs.declared.nodes.Content.TheVariants as content
use Rattle.ir_nodes.specs.declared.nodes.Kids.{Kids}
use Rattle.ir_nodes.specs.declared.nodes.Kids.TheVariants as kids
use Rattle.ir_nodes.specs.declared.nodes.Node.{Node}
use Rattle.ir_nodes.specs.declared.layers.EmptyList.{EmptyList}
use Rattle.ir_nodes.specs.declared.layers.EmptyList.TheVariants as empty

abbrev pub Fields : Type 0
Fields = List (tree.Field SolverDefId)

-- ---- variables

abbrev pub type_name : BoundTyKind → tree.KindName SolverDefId
type_name bound_type.Anon = tree.Nameless
type_name (bound_type.Param id) = tree.Called id

abbrev pub region_name : BoundRegionKind → tree.KindName SolverDefId
region_name bound_region.Anon = tree.Nameless
region_name (bound_region.Named id) = tree.Called id
region_name bound_region.ClosureEnv = tree.Environment

abbrev pub variable_seen : BoundVarKind → tree.Kind SolverDefId
variable_seen (variable.Ty k) = record { sort = OfType; name = type_name k }
variable_seen (variable.Region k) = record { sort = OfRegion; name = region_name k }
variable_seen variable.Const = record { sort = OfConstant; name = tree.Nameless }

abbrev pub variable_field : BoundVarKind → tree.Field SolverDefId
variable_field v = tree.OfKind (variable_seen v)

-- a bound variable as a leaf
abbrev pub variable_leaf : DebruijnIndex × BoundVar × BoundVarKind → tree.Term
variable_leaf v = tree.Var v.0.0 v.1.0 (variable_seen v.2)

-- ---- nodes

abbrev pub field_seen : Field → tree.Field SolverDefId
field_seen (field.Chosen k) = tree.Chosen k
field_seen (field.Number n) = tree.Number n
field_seen (field.OfKind v) = variable_field v

-- the fields, the binder and the kids of a node
abbrev pub fields_in : Content → List Field
fields_in content.Bare = []
fields_in (content.Number n) = field.Number n ∷ []
fields_in (content.Numbered n v) = field.Number n ∷ field.OfKind v ∷ []
fields_in (content.Placed i n v) = field.Number i ∷ field.Number n ∷ field.OfKind v ∷ []
fields_in (content.One a) = []
fields_in (content.Two a b) = []
fields_in (content.ChosenOne k a) = field.Chosen k ∷ []
fields_in (content.ChosenTwo k a b) = field.Chosen k ∷ []
fields_in (content.BoundOne vs a) = []
fields_in (content.Signature s c v vs a) = field.Chosen s ∷ field.Chosen c ∷ field.Chosen v ∷ []
fields_in (content.Opened s c v a) = field.Chosen s ∷ field.Chosen c ∷ field.Chosen v ∷ []

abbrev pub binder_in : Content → Option BoundVarKinds
binder_in content.Bare = None
binder_in (content.Number n) = None
binder_in (content.Numbered n v) = None
binder_in (content.Placed i n v) = None
binder_in (content.One a) = None
binder_in (content.Two a b) = None
binder_in (content.ChosenOne k a) = None
binder_in (content.ChosenTwo k a b) = None
binder_in (content.BoundOne vs a) = Some vs
binder_in (content.Signature s c v vs a) = Some vs
binder_in (content.Opened s c v a) = None

abbrev pub kids_of : Kids → List Part
kids_of kids.None = []
kids_of (kids.One a) = a ∷ []
kids_of (kids.Two a b) = a ∷ b ∷ []

abbrev pub kids_in : Content → List Part
kids_in content.Bare = []
kids_in (content.Number n) = []
kids_in (content.Numbered n v) = []
kids_in (content.Placed i n v) = []
kids_in (content.One a) = a ∷ []
kids_in (content.Two a b) = a ∷ b ∷ []
kids_in (content.ChosenOne k a) = a ∷ []
kids_in (content.ChosenTwo k a b) = a ∷ b ∷ []
kids_in (content.BoundOne vs a) = a ∷ []
kids_in (content.Signature s c v vs a) = a ∷ []
kids_in (content.Opened s c v a) = a ∷ []

-- a layer that binds nothing
abbrev pub layer : Word → Fields → List Part → Layer Part
layer w fs ps = record { label = record { word = w; fields = fs }; binder = None; kids = OfNames ps }

-- a layer of these fields, this binder and these kids
abbrev pub layer_of : Word → List Field → Option BoundVarKinds → List Part → Layer Part
layer_of w fs b ps = record { label = record { word = w; fields = map field_seen fs }; binder = option_map part.BoundVarKinds b; kids = OfNames ps }

-- what a node of the code says
abbrev pub node_layer : Node → Layer Part
node_layer n = layer_of n.word (fields_in n.content) (binder_in n.content) (kids_in n.content)

-- ---- lists

-- a list of types has them as kids
abbrev pub tys_kids : List Ty → List Part
tys_kids ts = map part.Ty ts

abbrev pub tys_layer : List Ty → Layer Part
tys_layer ts = layer TypeList [] (tys_kids ts)

-- lists of variables and of variances have them as fields
abbrev pub variables_layer : List BoundVarKind → Layer Part
variables_layer vs = layer VariableList (map variable_field vs) []

abbrev pub variance_word : Variance → Keyword
variance_word variance.Covariant = Covariant
variance_word variance.Invariant = Invariant
variance_word variance.Contravariant = Contravariant
variance_word variance.Bivariant = Bivariant

abbrev pub variance_field : Variance → tree.Field SolverDefId
variance_field v = tree.Chosen (variance_word v)

abbrev pub variances_layer : List Variance → Layer Part
variances_layer vs = layer VarianceList (map variance_field vs) []

-- the other lists have no members yet
abbrev pub empty_word : EmptyList → Word
empty_word empty.GenericArgs = ArgumentList
empty_word empty.PatList = PatternList
empty_word empty.BoundExistentialPredicates = ExistentialList
empty_word empty.Clauses = ClauseList
empty_word empty.RegionAssumptions = AssumptionList

abbrev pub empty_layer : EmptyList → Layer Part
empty_layer k = layer (empty_word k) [] []
