-- Two nodes that are equal are the same, and so are two with one layer.
use Rattle.std.proofs.Common.{◌≡◌, true, ◌&&◌, nat_eq, List, [], ◌∷◌, map, Option, Some, None, unwrap_or, refl, sym, ap, ap₂, ◌∙◌, true≢false, rules}
use Rattle.std.proofs.lemmas.Bool.{and_parts, eqb-true}
use Rattle.std.specs.Option.{option_map}
use denote.Enum.Bare.{same_true}
use Rattle.ir_core.specs.declared.handles.BoundVarKinds.{BoundVarKinds}
use Rattle.ir_core.specs.declared.handles.Ty.{Ty}
use Rattle.ir_core.specs.declared.handles.Part.{Part}
use Rattle.ir_core.specs.declared.handles.Part.TheVariants as part
use Rattle.ir_core.specs.declared.variables.BoundTyKind.{BoundTyKind}
use Rattle.ir_core.specs.declared.variables.BoundTyKind.TheVariants as bound_type
use Rattle.ir_core.specs.declared.variables.BoundRegionKind.{BoundRegionKind}
use Rattle.ir_core.specs.declared.variables.BoundRegionKind.TheVariants as bound_region
use Rattle.ir_core.specs.declared.variables.BoundVarKind.{BoundVarKind}
use Rattle.ir_core.specs.declared.variables.BoundVarKind.TheVariants as variable
use Rattle.ir_core.specs.declared.ids.SolverDefId.{SolverDefId}
use Rattle.ir_core.specs.contracts.handles.PartPartialEq.TheImpl as part_eq
use Rattle.ir_core.specs.contracts.handles.BoundVarKindsPartialEq.TheImpl as variables_eq
use Rattle.ir_core.specs.contracts.variables.BoundVarKindPartialEq.TheImpl as variable_eq
use Rattle.ir_laws.specs.declared.words.Word.{Word}
use Rattle.ir_laws.specs.declared.labels.Keyword.{Keyword}
use Rattle.ir_laws.specs.declared.labels.Sort.TheVariants.{OfType, OfRegion}
use Rattle.ir_laws.specs.contracts.words.Word.{the_type as word_type}
use Rattle.ir_laws.specs.contracts.words.WordPartialEq.TheImpl as word_eq
use Rattle.ir_laws.specs.contracts.labels.Keyword.{the_type as keyword_type}
use Rattle.ir_laws.specs.contracts.labels.KeywordPartialEq.TheImpl as keyword_eq
use Rattle.ir_laws.specs.Tree.{Called, Chosen, Environment, Field, Kind, KindName, Nameless, Number, OfKind}
use Rattle.ir_laws.specs.Heap.{Layer, kid_names}
use Rattle.ir_nodes.specs.declared.nodes.Field.{Field as NodeField}
use Rattle.ir_nodes.specs.declared.nodes.Field.TheVariants as field
use Rattle.ir_nodes.specs.declared.nodes.Content.{Content}
use Rattle.ir_nodes.specs.declared.nodes.Content.TheVariants as content
use Rattle.ir_nodes.specs.declared.nodes.Node.{Node}
use Rattle.ir_nodes.specs.contracts.nodes.ContentPartialEq.TheImpl as content_eq
use Rattle.ir_nodes.specs.contracts.nodes.NodePartialEq.TheImpl as node_eq
use Rattle.ir_nodes.specs.contracts.nodes.NodeEq.TheImpl.Laws.{laws-law}
use Rattle.ir_nodes.specs.Exact.{decides}
use Rattle.ir_core.specs.declared.kinds.Variance.{Variance}
use Rattle.ir_core.specs.declared.kinds.Variance.TheVariants as variance
use Rattle.ir_laws.specs.declared.labels.Keyword.TheVariants.{Covariant, Contravariant, Bivariant}
use Rattle.ir_laws.specs.declared.words.Word.TheVariants.{PatternList, ExistentialList, ClauseList, AssumptionList}
use Rattle.ir_nodes.specs.declared.layers.EmptyList.{EmptyList}
use Rattle.ir_nodes.specs.declared.layers.EmptyList.TheVariants as empty
use Rattle.ir_nodes.specs.contracts.layers.EmptyListPartialEq.TheImpl as empty_eq
use Rattle.ir_nodes.specs.Nodes.{binder_in, empty_layer, field_seen, fields_in, kids_in, node_layer, region_name, tys_layer, type_name, variable_field, variable_seen, variables_layer, variance_field, variances_layer}

pub exact_word : (x y : Word) → word_eq.ghosts.eq x y ≡ true → x ≡ y
exact_word x y e = same_true word_type tt x y e

exact_keyword : (x y : Keyword) → keyword_eq.ghosts.eq x y ≡ true → x ≡ y
exact_keyword x y e = same_true keyword_type tt x y e

exact_part : (x y : Part) → part_eq.ghosts.eq x y ≡ true → x ≡ y
exact_part = search rules

exact_variables : (x y : BoundVarKinds) → variables_eq.ghosts.eq x y ≡ true → x ≡ y
exact_variables = search rules

exact_variable : (x y : BoundVarKind) → variable_eq.ghosts.eq x y ≡ true → x ≡ y
exact_variable = search rules

exact_content : (x y : Content) → content_eq.ghosts.eq x y ≡ true → x ≡ y
exact_content content.Bare content.Bare e = refl
exact_content (content.Number a) (content.Number b) e = search rules
exact_content (content.Numbered n v) (content.Numbered m w) e = let both = and_parts (nat_eq n m) (variable_eq.ghosts.eq v w) e in ap₂ content.Numbered (eqb-true n m both.0) (exact_variable v w both.1)
exact_content (content.Placed i n v) (content.Placed j m w) e =
    let both = and_parts (nat_eq i j) (nat_eq n m && variable_eq.ghosts.eq v w) e in
    let rest = and_parts (nat_eq n m) (variable_eq.ghosts.eq v w) both.1 in
    (λ k. content.Placed (eqb-true i j both.0 k) (eqb-true n m rest.0 k) (exact_variable v w rest.1 k))
exact_content (content.One a) (content.One b) e = let s = exact_part a b e in cc
exact_content (content.Two a b) (content.Two c d) e = let both = and_parts (part_eq.ghosts.eq a c) (part_eq.ghosts.eq b d) e in ap₂ content.Two (exact_part a c both.0) (exact_part b d both.1)
exact_content (content.ChosenOne k a) (content.ChosenOne l b) e = let both = and_parts (keyword_eq.ghosts.eq k l) (part_eq.ghosts.eq a b) e in ap₂ content.ChosenOne (exact_keyword k l both.0) (exact_part a b both.1)
exact_content (content.ChosenTwo k a b) (content.ChosenTwo l c d) e =
    let both = and_parts (keyword_eq.ghosts.eq k l) _ e in
    let rest = and_parts (part_eq.ghosts.eq a c) (part_eq.ghosts.eq b d) both.1 in
    (λ i. content.ChosenTwo (exact_keyword k l both.0 i) (exact_part a c rest.0 i) (exact_part b d rest.1 i))
exact_content (content.BoundOne v a) (content.BoundOne w b) e = let both = and_parts (variables_eq.ghosts.eq v w) (part_eq.ghosts.eq a b) e in ap₂ content.BoundOne (exact_variables v w both.0) (exact_part a b both.1)
exact_content (content.Signature a b c v p) (content.Signature d f g w q) e =
    let x = and_parts (keyword_eq.ghosts.eq a d) _ e in
    let y = and_parts (keyword_eq.ghosts.eq b f) _ x.1 in
    let z = and_parts (keyword_eq.ghosts.eq c g) _ y.1 in
    let u = and_parts (variables_eq.ghosts.eq v w) (part_eq.ghosts.eq p q) z.1 in
    (λ i. content.Signature (exact_keyword a d x.0 i) (exact_keyword b f y.0 i) (exact_keyword c g z.0 i) (exact_variables v w u.0 i) (exact_part p q u.1 i))
exact_content (content.Opened a b c p) (content.Opened d f g q) e =
    let x = and_parts (keyword_eq.ghosts.eq a d) _ e in
    let y = and_parts (keyword_eq.ghosts.eq b f) _ x.1 in
    let z = and_parts (keyword_eq.ghosts.eq c g) (part_eq.ghosts.eq p q) y.1 in
    (λ i. content.Opened (exact_keyword a d x.0 i) (exact_keyword b f y.0 i) (exact_keyword c g z.0 i) (exact_part p q z.1 i))
exact_content _ _ e = absurd (true≢false (sym e))

exact_node : (x y : Node) → node_eq.ghosts.eq x y ≡ true → x ≡ y
exact_node x y e =
    let both = and_parts (word_eq.ghosts.eq x.word y.word) (content_eq.ghosts.eq x.content y.content) e in
    (λ i. record { word = exact_word x.word y.word both.0 i; content = exact_content x.content y.content both.1 i })

-- ---- a node is that of its layer

type_named : KindName SolverDefId → BoundTyKind
type_named (Called id) = bound_type.Param id
type_named n = bound_type.Anon

region_named : KindName SolverDefId → BoundRegionKind
region_named (Called id) = bound_region.Named id
region_named Environment = bound_region.ClosureEnv
region_named Nameless = bound_region.Anon

type_back : (k : BoundTyKind) → type_named (type_name k) ≡ k
unfolding type_named
type_back bound_type.Anon = refl
type_back (bound_type.Param id) = refl

region_back : (k : BoundRegionKind) → region_named (region_name k) ≡ k
unfolding region_named
region_back bound_region.Anon = refl
region_back (bound_region.Named id) = refl
region_back bound_region.ClosureEnv = refl

variable_in : Kind SolverDefId → BoundVarKind
variable_in k = elim (k.sort) [ OfType ↦ variable.Ty (type_named k.name) | OfRegion ↦ variable.Region (region_named k.name) | _ ↦ variable.Const ]

variable_back : (v : BoundVarKind) → variable_in (variable_seen v) ≡ v
unfolding variable_in
variable_back (variable.Ty k) = ap variable.Ty (type_back k)
variable_back (variable.Region k) = ap variable.Region (region_back k)
variable_back variable.Const = refl

pub variable_told : (x y : BoundVarKind) → variable_field x ≡ variable_field y → x ≡ y
variable_told x y e = let k : variable_seen x ≡ variable_seen y = cc in sym (variable_back x) ∙ ap variable_in k ∙ variable_back y

-- the code's field that a field is; those of a form that no node has are like none
field_of : Field SolverDefId → NodeField
field_of (Chosen k) = field.Chosen k
field_of (Number n) = field.Number n
field_of (OfKind k) = field.OfKind (variable_in k)
field_of f = field.Number 0

fields_back : (fs : List NodeField) → map field_of (map field_seen fs) ≡ fs
unfolding field_of
fields_back [] = refl
fields_back (field.Chosen k ∷ fs) = ap (λ gs. field.Chosen k ∷ gs) (fields_back fs)
fields_back (field.Number n ∷ fs) = ap (λ gs. field.Number n ∷ gs) (fields_back fs)
fields_back (field.OfKind v ∷ fs) = ap₂ (λ w gs. field.OfKind w ∷ gs) (variable_back v) (fields_back fs)

binder_of : Option Part → Option BoundVarKinds
binder_of (Some (part.BoundVarKinds v)) = Some v
binder_of o = None

binder_back : (o : Option BoundVarKinds) → binder_of (option_map part.BoundVarKinds o) ≡ o
unfolding binder_of
binder_back None = refl
binder_back (Some v) = refl

-- the content with these fields, this binder and these kids, if there is one
abbrev content_of : List NodeField → Option BoundVarKinds → List Part → Option Content
content_of [] None [] = Some content.Bare
content_of (field.Number n ∷ []) None [] = Some (content.Number n)
content_of (field.Number n ∷ field.OfKind v ∷ []) None [] = Some (content.Numbered n v)
content_of (field.Number i ∷ field.Number n ∷ field.OfKind v ∷ []) None [] = Some (content.Placed i n v)
content_of [] None (a ∷ []) = Some (content.One a)
content_of [] None (a ∷ b ∷ []) = Some (content.Two a b)
content_of (field.Chosen k ∷ []) None (a ∷ []) = Some (content.ChosenOne k a)
content_of (field.Chosen k ∷ []) None (a ∷ b ∷ []) = Some (content.ChosenTwo k a b)
content_of [] (Some vs) (a ∷ []) = Some (content.BoundOne vs a)
content_of (field.Chosen s ∷ field.Chosen c ∷ field.Chosen v ∷ []) (Some vs) (a ∷ []) = Some (content.Signature s c v vs a)
content_of (field.Chosen s ∷ field.Chosen c ∷ field.Chosen v ∷ []) None (a ∷ []) = Some (content.Opened s c v a)
content_of fs b ps = None

content_back : (c : Content) → content_of (fields_in c) (binder_in c) (kids_in c) ≡ Some c
content_back content.Bare = refl
content_back _ = refl

-- the node that a layer is
node_of : Layer Part → Node
node_of l = record { word = l.label.word; content = unwrap_or (content_of (map field_of l.label.fields) (binder_of l.binder) (kid_names l.kids)) content.Bare }

node_back : (n : Node) → node_of (node_layer n) ≡ n
unfolding node_of
node_back n = λ i. record { word = n.word; content = unwrap_or (((λ j. content_of (fields_back (fields_in n.content) j) (binder_back (binder_in n.content) j) (kids_in n.content)) ∙ content_back n.content) i) content.Bare }

pub node_told : (m n : Node) → node_layer m ≡ node_layer n → m ≡ n
node_told m n e = sym (node_back m) ∙ ap node_of e ∙ node_back n

pub nodes_decide : (x y : Node) → (node_eq.ghosts.eq x y ≡ true → node_layer x ≡ node_layer y) × (node_layer x ≡ node_layer y → node_eq.ghosts.eq x y ≡ true)
nodes_decide x y = (λ e. ap node_layer (exact_node x y e), λ e. (decides node_eq.ghosts.eq exact_node own x y).1 (node_told x y e))
  where
    own : (x : Node) → node_eq.ghosts.eq x x ≡ true
    own x = laws-law.refl x

-- ---- a list is that of its layer

map_told : {X Y : Type 0} (f : X → Y) → ((a b : X) → f a ≡ f b → a ≡ b) → (xs ys : List X) → map f xs ≡ map f ys → xs ≡ ys
map_told f one [] [] e = refl
map_told f one [] (y ∷ ys) e = absurd cc
map_told f one (x ∷ xs) [] e = absurd cc
map_told f one (x ∷ xs) (y ∷ ys) e =
    let a : f x ≡ f y = cc in
    let b : map f xs ≡ map f ys = cc in
    let c = one x y a in
    let d = map_told f one xs ys b in cc

pub types_told : (xs ys : List Ty) → tys_layer xs ≡ tys_layer ys → xs ≡ ys
types_told xs ys e = map_told part.Ty (λ a b w. cc w) xs ys (ap (λ (m : Layer Part). kid_names m.kids) e)

pub variables_told : (xs ys : List BoundVarKind) → variables_layer xs ≡ variables_layer ys → xs ≡ ys
variables_told xs ys e = map_told variable_field variable_told xs ys (ap (λ (m : Layer Part). m.label.fields) e)

variance_in : Field SolverDefId → Variance
variance_in (Chosen Covariant) = variance.Covariant
variance_in (Chosen Contravariant) = variance.Contravariant
variance_in (Chosen Bivariant) = variance.Bivariant
variance_in f = variance.Invariant

variance_back : (x : Variance) → variance_in (variance_field x) ≡ x
unfolding variance_in
variance_back variance.Covariant = refl
variance_back _ = refl

variance_told : (x y : Variance) → variance_field x ≡ variance_field y → x ≡ y
variance_told x y e = sym (variance_back x) ∙ ap variance_in e ∙ variance_back y

pub variances_told : (xs ys : List Variance) → variances_layer xs ≡ variances_layer ys → xs ≡ ys
variances_told xs ys e = map_told variance_field variance_told xs ys (ap (λ (m : Layer Part). m.label.fields) e)

-- ---- an empty list is that of its word

empty_in : Word → EmptyList
empty_in PatternList = empty.PatList
empty_in ExistentialList = empty.BoundExistentialPredicates
empty_in ClauseList = empty.Clauses
empty_in AssumptionList = empty.RegionAssumptions
empty_in w = empty.GenericArgs

empty_back : (k : EmptyList) → empty_in (empty_layer k).label.word ≡ k
unfolding empty_in
empty_back empty.GenericArgs = refl
empty_back _ = refl

exact_empty : (x y : EmptyList) → empty_eq.ghosts.eq x y ≡ true → x ≡ y
exact_empty = search rules

own_empty : (x : EmptyList) → empty_eq.ghosts.eq x x ≡ true
own_empty = search rules

pub empties_decide : (x y : EmptyList) → (empty_eq.ghosts.eq x y ≡ true → empty_layer x ≡ empty_layer y) × (empty_layer x ≡ empty_layer y → empty_eq.ghosts.eq x y ≡ true)
empties_decide x y = (λ e. ap empty_layer (exact_empty x y e), λ e. (decides empty_eq.ghosts.eq exact_empty own_empty x y).1 (sym (empty_back x) ∙ ap (λ (m : Layer Part). empty_in m.label.word) e ∙ empty_back y))
