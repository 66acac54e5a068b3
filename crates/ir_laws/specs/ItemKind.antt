-- The kinds of items, and how each is declared.
use Rattle.std.specs.Prelude.{ℕ, Bool, true, false, ◌||◌, List, [], ◌∷◌, codes}
use denote.Enum.Bare.{sameb}
use Rattle.ir_laws.specs.contracts.items.ItemKind.{the_type}
use Rattle.ir_laws.specs.declared.items.ItemKind.{ItemKind}
use Rattle.ir_laws.specs.declared.items.ItemKind.TheVariants.{StructItem, EnumItem, UnionItem, VariantItem, TraitItem, ImplItem, DeriveItem, FnItem, ConstItem, StaticItem, AliasItem, ClosureItem, CoroutineItem, OpaqueItem}

-- whether two kinds are the same
abbrev pub same_item_kind : ItemKind → ItemKind → Bool
same_item_kind = sameb the_type

-- whether a kind is among these
abbrev pub is_kind_among : List ItemKind → ItemKind → Bool
is_kind_among [] k = false
is_kind_among (l ∷ ls) k = same_item_kind l k || is_kind_among ls k

-- what the declared term of an item may be
pub data Declared : Type 0 where
  Nothing : Declared
  AType : Declared
  ATraitClause : Declared

-- how an item's arguments are counted: its own parameters; a Self and its own; its parent's and its own; none; its parent's
pub data Counting : Type 0 where
  Own : Counting
  SelfAndOwn : Counting
  ParentAndOwn : Counting
  NoArguments : Counting
  OfParent : Counting

-- A kind's word; whether its parent may be left out, and which kinds that may have; whether it may have parameters of its own; its declared term; and how its arguments are counted
pub record KindRow : Type 0 where
  pub text : List ℕ
  pub may_lack_parent : Bool
  pub parents : List ItemKind
  pub may_have_own : Bool
  pub declared : Declared
  pub counting : Counting

-- the table of item kinds
abbrev pub item_row : ItemKind → KindRow
item_row StructItem = record { text = codes "struct"; may_lack_parent = true; parents = []; may_have_own = true; declared = AType; counting = Own }
item_row EnumItem = record { text = codes "enum"; may_lack_parent = true; parents = []; may_have_own = true; declared = AType; counting = Own }
item_row UnionItem = record { text = codes "union"; may_lack_parent = true; parents = []; may_have_own = true; declared = AType; counting = Own }
item_row VariantItem = record { text = codes "variant"; may_lack_parent = false; parents = EnumItem ∷ []; may_have_own = false; declared = AType; counting = OfParent }
item_row TraitItem = record { text = codes "trait"; may_lack_parent = true; parents = []; may_have_own = true; declared = Nothing; counting = SelfAndOwn }
item_row ImplItem = record { text = codes "impl"; may_lack_parent = true; parents = []; may_have_own = true; declared = ATraitClause; counting = Own }
item_row DeriveItem = record { text = codes "derive"; may_lack_parent = true; parents = []; may_have_own = true; declared = ATraitClause; counting = Own }
item_row FnItem = record { text = codes "fn"; may_lack_parent = true; parents = TraitItem ∷ ImplItem ∷ []; may_have_own = true; declared = AType; counting = ParentAndOwn }
item_row ConstItem = record { text = codes "const"; may_lack_parent = true; parents = TraitItem ∷ ImplItem ∷ []; may_have_own = true; declared = AType; counting = ParentAndOwn }
item_row AliasItem = record { text = codes "alias"; may_lack_parent = true; parents = TraitItem ∷ ImplItem ∷ []; may_have_own = true; declared = AType; counting = ParentAndOwn }
item_row StaticItem = record { text = codes "static"; may_lack_parent = true; parents = []; may_have_own = false; declared = AType; counting = NoArguments }
item_row ClosureItem = record { text = codes "closure"; may_lack_parent = false; parents = FnItem ∷ ConstItem ∷ StaticItem ∷ EnumItem ∷ []; may_have_own = false; declared = Nothing; counting = OfParent }
item_row CoroutineItem = record { text = codes "coroutine"; may_lack_parent = false; parents = FnItem ∷ ConstItem ∷ StaticItem ∷ EnumItem ∷ []; may_have_own = false; declared = Nothing; counting = OfParent }
item_row OpaqueItem = record { text = codes "opaque"; may_lack_parent = false; parents = FnItem ∷ AliasItem ∷ []; may_have_own = false; declared = AType; counting = OfParent }

-- all kinds of items
abbrev pub item_kinds : List ItemKind
item_kinds = StructItem ∷ EnumItem ∷ UnionItem ∷ VariantItem ∷ TraitItem ∷ ImplItem ∷ DeriveItem ∷ FnItem ∷ ConstItem ∷ StaticItem ∷ AliasItem ∷ ClosureItem ∷ CoroutineItem ∷ OpaqueItem ∷ []
