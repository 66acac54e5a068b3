use Rattle.ir_nodes.proofs.FitLemmas.{variances_fit}
use Rattle.ir_table.proofs.store.Store.variances.Goals as goal

pub make_list-requires-clause-fits : goal.make_list-requires-clause-fits
make_list-requires-clause-fits c = variances_fit c.args.items.now
