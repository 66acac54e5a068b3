-- Parts: of which sort each is, and its number among the handles of that sort.
use Rattle.std.specs.Prelude.{ℕ, Bool}
use denote.Enum.Bare.{sameb}
use Rattle.ir_core.specs.declared.handles.Part.{Part}
use Rattle.ir_core.specs.declared.handles.Part.TheVariants as part
use Rattle.ir_core.specs.declared.handles.PartSort.{PartSort}
use Rattle.ir_core.specs.declared.handles.PartSort.TheVariants as sort
use Rattle.ir_core.specs.contracts.handles.PartSort.{the_type}

abbrev pub same_part_sort : PartSort → PartSort → Bool
same_part_sort = sameb the_type

abbrev pub sort_in : Part → PartSort
sort_in (part.Ty h) = sort.Ty
sort_in (part.Const h) = sort.Const
sort_in (part.Region h) = sort.Region
sort_in (part.Tys h) = sort.Tys
sort_in (part.GenericArgs h) = sort.GenericArgs
sort_in (part.PatList h) = sort.PatList
sort_in (part.BoundExistentialPredicates h) = sort.BoundExistentialPredicates
sort_in (part.Clauses h) = sort.Clauses
sort_in (part.RegionAssumptions h) = sort.RegionAssumptions
sort_in (part.BoundVarKinds h) = sort.BoundVarKinds
sort_in (part.VariancesOf h) = sort.VariancesOf

abbrev pub index_in : Part → ℕ
index_in (part.Ty h) = h.index
index_in (part.Const h) = h.index
index_in (part.Region h) = h.index
index_in (part.Tys h) = h.index
index_in (part.GenericArgs h) = h.index
index_in (part.PatList h) = h.index
index_in (part.BoundExistentialPredicates h) = h.index
index_in (part.Clauses h) = h.index
index_in (part.RegionAssumptions h) = h.index
index_in (part.BoundVarKinds h) = h.index
index_in (part.VariancesOf h) = h.index

-- the part of the sort and the number
abbrev pub part_at : PartSort → ℕ → Part
part_at sort.Ty i = part.Ty (record { index = i })
part_at sort.Const i = part.Const (record { index = i })
part_at sort.Region i = part.Region (record { index = i })
part_at sort.Tys i = part.Tys (record { index = i })
part_at sort.GenericArgs i = part.GenericArgs (record { index = i })
part_at sort.PatList i = part.PatList (record { index = i })
part_at sort.BoundExistentialPredicates i = part.BoundExistentialPredicates (record { index = i })
part_at sort.Clauses i = part.Clauses (record { index = i })
part_at sort.RegionAssumptions i = part.RegionAssumptions (record { index = i })
part_at sort.BoundVarKinds i = part.BoundVarKinds (record { index = i })
part_at sort.VariancesOf i = part.VariancesOf (record { index = i })
