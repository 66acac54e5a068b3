use Rattle.ir_nodes.proofs.FitLemmas.{variables_fit}
use Rattle.ir_table.proofs.store.Store.variables.Goals as goal

pub make_list-requires-clause-fits : goal.make_list-requires-clause-fits
make_list-requires-clause-fits c = variables_fit c.args.items.now
