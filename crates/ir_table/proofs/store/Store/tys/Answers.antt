use Rattle.ir_nodes.proofs.FitLemmas.{types_fit}
use Rattle.ir_table.proofs.store.Store.tys.Goals as goal

pub make_list-requires-clause-fits : goal.make_list-requires-clause-fits
make_list-requires-clause-fits c = types_fit c.args.items.now
