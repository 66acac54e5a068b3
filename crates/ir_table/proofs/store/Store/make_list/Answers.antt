use Rattle.ir_table.proofs.store.Store.make_list.Goals as goal

pub invariant_of-self : goal.invariant_of-self
invariant_of-self g c = assumption c.args.self.now
