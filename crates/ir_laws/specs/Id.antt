-- Ids of items: of each kind of item they count from 0.
use Rattle.std.specs.Prelude.{ℕ, Bool, ◌&&◌, nat_eq}
use Rattle.ir_core.specs.declared.ids.SolverDefId.{SolverDefId}
use Rattle.ir_core.specs.declared.ids.SolverDefId.TheVariants as id
use Rattle.ir_core.specs.declared.ids.AdtId.TheVariants as adt
use Rattle.ir_core.specs.declared.ids.Ctor.TheVariants as ctor
use Rattle.ir_laws.specs.declared.items.ItemKind.{ItemKind}
use Rattle.ir_laws.specs.declared.items.ItemKind.TheVariants.{StructItem, EnumItem, UnionItem, VariantItem, TraitItem, ImplItem, DeriveItem, FnItem, ConstItem, StaticItem, AliasItem, ClosureItem, CoroutineItem, OpaqueItem}

-- each kind of id has a number of its own
abbrev pub id_kind : SolverDefId → ℕ
id_kind (id.AdtId (adt.StructId s)) = 0
id_kind (id.AdtId (adt.EnumId e)) = 1
id_kind (id.AdtId (adt.UnionId u)) = 2
id_kind (id.EnumVariantId v) = 3
id_kind (id.TraitId t) = 4
id_kind (id.ImplId i) = 5
id_kind (id.BuiltinDeriveImplId i) = 6
id_kind (id.FunctionId f) = 7
id_kind (id.ConstId c) = 8
id_kind (id.StaticId s) = 9
id_kind (id.TypeAliasId a) = 10
id_kind (id.InternedClosureId c) = 11
id_kind (id.InternedCoroutineId c) = 12
id_kind (id.InternedOpaqueTyId o) = 13
id_kind (id.Ctor (ctor.Struct s)) = 14
id_kind (id.Ctor (ctor.Enum v)) = 15

-- which one of its kind it is
abbrev pub id_place : SolverDefId → ℕ
id_place (id.AdtId (adt.StructId s)) = s.0
id_place (id.AdtId (adt.EnumId e)) = e.0
id_place (id.AdtId (adt.UnionId u)) = u.0
id_place (id.EnumVariantId v) = v.0
id_place (id.TraitId t) = t.0
id_place (id.ImplId i) = i.0
id_place (id.BuiltinDeriveImplId i) = i.0
id_place (id.FunctionId f) = f.0
id_place (id.ConstId c) = c.0
id_place (id.StaticId s) = s.0
id_place (id.TypeAliasId a) = a.0
id_place (id.InternedClosureId c) = c.0
id_place (id.InternedCoroutineId c) = c.0
id_place (id.InternedOpaqueTyId o) = o.0
id_place (id.Ctor (ctor.Struct s)) = s.0
id_place (id.Ctor (ctor.Enum v)) = v.0

-- two ids are the same where kind and place are
abbrev pub same_id : SolverDefId → SolverDefId → Bool
same_id a b = nat_eq (id_kind a) (id_kind b) && nat_eq (id_place a) (id_place b)

-- the id of the item that is the n-th of its kind, counted from 0
abbrev pub id_of_kind : ItemKind → ℕ → SolverDefId
id_of_kind StructItem n = id.AdtId (adt.StructId (record { 0 = n }))
id_of_kind EnumItem n = id.AdtId (adt.EnumId (record { 0 = n }))
id_of_kind UnionItem n = id.AdtId (adt.UnionId (record { 0 = n }))
id_of_kind VariantItem n = id.EnumVariantId (record { 0 = n })
id_of_kind TraitItem n = id.TraitId (record { 0 = n })
id_of_kind ImplItem n = id.ImplId (record { 0 = n })
id_of_kind DeriveItem n = id.BuiltinDeriveImplId (record { 0 = n })
id_of_kind FnItem n = id.FunctionId (record { 0 = n })
id_of_kind ConstItem n = id.ConstId (record { 0 = n })
id_of_kind StaticItem n = id.StaticId (record { 0 = n })
id_of_kind AliasItem n = id.TypeAliasId (record { 0 = n })
id_of_kind ClosureItem n = id.InternedClosureId (record { 0 = n })
id_of_kind CoroutineItem n = id.InternedCoroutineId (record { 0 = n })
id_of_kind OpaqueItem n = id.InternedOpaqueTyId (record { 0 = n })
