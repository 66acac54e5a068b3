use Rattle.std.proofs.Common.{◌++◌, take, drop, get_or, refl, sym, ap}
use Rattle.std.proofs.lemmas.List.FromFn.{fill_by_all}
use Rattle.ir_table.specs.Start.{leaves, name_leaves, named_compounds}
use Rattle.ir_table.proofs.start.default_any.Goals as goal

pub returns : goal.returns
returns c =
    let all = fill_by_all (λ k. get_or c.args.indices.now k 0) c.args.indices.now 36 0 c.told-indices (λ k within. refl) in
    ap (λ is. take 21 (name_leaves is leaves) ++ named_compounds c.args.compounds.unit c.args.compounds.static_str_ref c.args.compounds.mut_unit_ptr ++ drop 21 (name_leaves is leaves)) (sym all)
