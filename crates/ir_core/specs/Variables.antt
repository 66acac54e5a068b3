-- What a variable of a binder is, and what it is called.
use Rattle.std.specs.Prelude.{Option, None, Some}
use Rattle.ir_core.specs.declared.ids.SolverDefId.{SolverDefId}
use Rattle.ir_core.specs.declared.variables.BoundRegionKind.{BoundRegionKind}
use Rattle.ir_core.specs.declared.variables.BoundRegionKind.TheVariants.{Anon, Named, ClosureEnv}
use Rattle.ir_core.specs.declared.variables.BoundVarKind.{BoundVarKind}
use Rattle.ir_core.specs.declared.variables.BoundVarKind.TheVariants.{Ty, Region, Const}

-- the item that declares a region, where one does
abbrev pub region_name : BoundRegionKind → Option SolverDefId
region_name Anon = None
region_name (Named id) = Some id
region_name ClosureEnv = None

-- the variable is a type
abbrev pub IsTypeVariable : BoundVarKind → Type 0
IsTypeVariable (Ty kind) = Unit {0}
IsTypeVariable (Region kind) = ⊥
IsTypeVariable Const = ⊥

-- the variable is a region
abbrev pub IsRegionVariable : BoundVarKind → Type 0
IsRegionVariable (Ty kind) = ⊥
IsRegionVariable (Region kind) = Unit {0}
IsRegionVariable Const = ⊥
