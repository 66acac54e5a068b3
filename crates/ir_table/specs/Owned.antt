-- The tables, and which sorts each has.
use Rattle.std.specs.Prelude.{Bool, true, false, Some}
use Rattle.std.proofs.Common.{refl, arith}
use Rattle.std.proofs.lemmas.List.{length_push}
use Rattle.ir_core.specs.declared.handles.PartSort.{PartSort}
use Rattle.ir_core.specs.declared.handles.PartSort.TheVariants as sort
use Rattle.ir_nodes.specs.Fits.{is_term}
use Rattle.ir_table.specs.Tabled.{IsTable}

abbrev pub owns_nodes : PartSort → Bool
owns_nodes g = is_term (Some g)

pub nodes_table : IsTable owns_nodes (λ t. t.nodes) (λ t es. record t { nodes = es })
nodes_table = record {
  back = λ t. refl;
  own = λ t es. elim [ sort.Ty ↦ λ e. cc | _ ↦ λ e. cc ];
  other = λ t es. elim [ sort.Ty ↦ λ e. cc | _ ↦ λ e. cc ];
  count = λ t es s. omega (arith, length_push es s);
  few = λ t. omega arith;
}

abbrev pub owns_type_lists : PartSort → Bool
owns_type_lists sort.Tys = true
owns_type_lists _ = false

pub type_lists_table : IsTable owns_type_lists (λ t. t.type_lists) (λ t es. record t { type_lists = es })
type_lists_table = record {
  back = λ t. refl;
  own = λ t es. elim [ sort.Ty ↦ λ e. cc | _ ↦ λ e. cc ];
  other = λ t es. elim [ sort.Ty ↦ λ e. cc | _ ↦ λ e. cc ];
  count = λ t es s. omega (arith, length_push es s);
  few = λ t. omega arith;
}

abbrev pub owns_variable_lists : PartSort → Bool
owns_variable_lists sort.BoundVarKinds = true
owns_variable_lists _ = false

pub variable_lists_table : IsTable owns_variable_lists (λ t. t.variable_lists) (λ t es. record t { variable_lists = es })
variable_lists_table = record {
  back = λ t. refl;
  own = λ t es. elim [ sort.Ty ↦ λ e. cc | _ ↦ λ e. cc ];
  other = λ t es. elim [ sort.Ty ↦ λ e. cc | _ ↦ λ e. cc ];
  count = λ t es s. omega (arith, length_push es s);
  few = λ t. omega arith;
}

abbrev pub owns_variance_lists : PartSort → Bool
owns_variance_lists sort.VariancesOf = true
owns_variance_lists _ = false

pub variance_lists_table : IsTable owns_variance_lists (λ t. t.variance_lists) (λ t es. record t { variance_lists = es })
variance_lists_table = record {
  back = λ t. refl;
  own = λ t es. elim [ sort.Ty ↦ λ e. cc | _ ↦ λ e. cc ];
  other = λ t es. elim [ sort.Ty ↦ λ e. cc | _ ↦ λ e. cc ];
  count = λ t es s. omega (arith, length_push es s);
  few = λ t. omega arith;
}

-- the lists that have no members yet share a table
abbrev pub owns_empty_lists : PartSort → Bool
owns_empty_lists sort.GenericArgs = true
owns_empty_lists sort.PatList = true
owns_empty_lists sort.BoundExistentialPredicates = true
owns_empty_lists sort.Clauses = true
owns_empty_lists sort.RegionAssumptions = true
owns_empty_lists _ = false

pub empty_lists_table : IsTable owns_empty_lists (λ t. t.empty_lists) (λ t es. record t { empty_lists = es })
empty_lists_table = record {
  back = λ t. refl;
  own = λ t es. elim [ sort.Ty ↦ λ e. cc | _ ↦ λ e. cc ];
  other = λ t es. elim [ sort.Ty ↦ λ e. cc | _ ↦ λ e. cc ];
  count = λ t es s. omega (arith, length_push es s);
  few = λ t. omega arith;
}
