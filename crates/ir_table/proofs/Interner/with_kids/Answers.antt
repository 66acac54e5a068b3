use Rattle.ir_table.specs.Interner.{state}
use Rattle.ir_table.proofs.RemakeLemmas.{remade_grows}
use Rattle.ir_table.proofs.StartLemmas.{named_later}
use Rattle.ir_table.proofs.Interner.with_kids.Goals as goal

pub invariant_of-self : goal.invariant_of-self
invariant_of-self c = record {
  start = named_later c.args.self.now.defaults (remade_grows (state c.args.self.now) _ c.args.part c.args.kids.now c.with_kids.result c.requires.part c.with_kids.ensures.answers) c.args.self.now.start;
}
