-- Terms and items for the worked examples, and what is said of them.
use Rattle.std.proofs.Common.{ℕ, List, [], ◌∷◌, Option, Some, None, codes}
use Rattle.ir_core.specs.declared.ids.SolverDefId.{SolverDefId}
use Rattle.ir_laws.specs.declared.words.Word.TheVariants.{U8Type, ReferenceType, TupleType, UnsafeBinderType, FnPtrType, TraitClause, TypeList, ArgumentList, StaticRegion}
use Rattle.ir_laws.specs.declared.labels.Sort.{Sort}
use Rattle.ir_laws.specs.declared.labels.Sort.TheVariants.{OfType, OfRegion}
use Rattle.ir_laws.specs.declared.labels.Keyword.TheVariants.{Not, Safe, Rust, Fixed, Pos}
use Rattle.ir_laws.specs.declared.items.ItemKind.{ItemKind}
use Rattle.ir_laws.specs.declared.items.ItemKind.TheVariants.{TraitItem}
use Rattle.ir_laws.specs.Tree.{Text, Nameless, Called, Kind, Item, Chosen, Var, Param, Node, End, And, Term}
use Rattle.ir_laws.specs.Spelling.{spell}
use Rattle.ir_laws.specs.Start.{label, node, leaf, node_by}
use Rattle.ir_laws.specs.Id.{id_of_kind}
use Rattle.ir_laws.specs.Environment.{Environment, item_of, with_item, name_at}

-- ---- kinds and terms

abbrev pub kind : Sort → Kind SolverDefId
kind s = record { sort = s; name = Nameless }

abbrev pub kind_called : Sort → SolverDefId → Kind SolverDefId
kind_called s i = record { sort = s; name = Called i }

abbrev pub region : ℕ → ℕ → Term
region i n = Var i n (kind OfRegion)

abbrev pub type : ℕ → ℕ → Term
type i n = Var i n (kind OfType)

abbrev pub u8 : Term
u8 = leaf U8Type

abbrev pub static : Term
static = leaf StaticRegion

abbrev pub ref_of : Term → Term → Term
ref_of r t = node_by ReferenceType Not (r ∷ t ∷ [])

abbrev pub tuple : List Term → Term
tuple ts = node TupleType (node TypeList ts ∷ [])

abbrev pub unsafe_of : List (Kind SolverDefId) → Term → Term
unsafe_of ks t = Node (label UnsafeBinderType []) (Some ks) (And t End)

-- a safe function of the usual form
abbrev pub function : List (Kind SolverDefId) → List Term → Term
function ks ts = Node (label FnPtrType (Chosen Safe ∷ Chosen Rust ∷ Chosen Fixed ∷ [])) (Some ks) (And (node TypeList ts) End)

abbrev pub trait_of : List (Kind SolverDefId) → SolverDefId → List Term → Term
trait_of ks i ts = Node (label TraitClause (Chosen Pos ∷ Item i ∷ [])) (Some ks) (And (node ArgumentList ts) End)

abbrev pub parameter : Sort → SolverDefId → ℕ → ℕ → Term
parameter s i local index = Param (record { sort = s; parent = i; local = local; index = index })

-- ---- items

abbrev pub nothing_declared : Environment
nothing_declared = record { items = []; terms = [] }

abbrev pub with_declared : ItemKind → Text → List Sort → Option Term → List Term → Environment → Environment
with_declared k name own decl clauses env = with_item env (item_of {T = Term} env (record { kind = k; name = name; parent = None; own = own; decl = decl; clauses = clauses }) decl clauses)

abbrev pub with_child : ItemKind → Text → Text → List Sort → Environment → Environment
with_child k name parent own env = with_item env (item_of {T = Term} env (record { kind = k; name = name; parent = Some parent; own = own; decl = None; clauses = [] }) None [])

-- `trait Bar<'a, 'b>` and `trait Foo<'a>: for<'r> Bar<'a, 'r>`
abbrev pub bar : SolverDefId
bar = id_of_kind TraitItem 0

abbrev pub foo : SolverDefId
foo = id_of_kind TraitItem 1

abbrev pub bar_of_foo : Term
bar_of_foo = trait_of (kind OfRegion ∷ []) bar (parameter OfType foo 0 0 ∷ parameter OfRegion foo 0 1 ∷ region 0 0 ∷ [])

abbrev pub traits : Environment
traits = with_declared TraitItem (codes "Foo") (OfRegion ∷ []) None (bar_of_foo ∷ []) (with_declared TraitItem (codes "Bar") (OfRegion ∷ OfRegion ∷ []) None [] nothing_declared)

abbrev pub said : Environment → Term → Text
said env t = spell (name_at env) t
