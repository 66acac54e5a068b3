use Rattle.ir_script.proofs.MakingLemmas.{step_grows, takes_as, takes_leaf, takes_term}
use Rattle.ir_script.proofs.LeafLemmas.{leaves_later}
use Rattle.ir_table.proofs.CallerLemmas.{on_ok}
use Rattle.ir_table.specs.Interner.{heap, state}
use Rattle.std.proofs.Common.{refl}
use Rattle.ir_script.proofs.builder.Builder.step.Goals as goal

pub returns-in_ok-push-in-Term-clause-takes : goal.returns-in_ok-push-in-Term-clause-takes
returns-in_ok-push-in-Term-clause-takes c = λ h g grows grown fits. takes_term h g _ _ _ _ _ c.in-Term.is c.args.cx.now.store.sound grows fits grown c.in_ok-push-in-Term.ensures.items refl refl refl

pub returns-in-Bind-clause-takes : goal.returns-in-Bind-clause-takes
returns-in-Bind-clause-takes c = takes_as _ _ _ _ _ _ _ c.in-Bind.is c.bind.ensures.takes

pub returns-in-List-clause-takes : goal.returns-in-List-clause-takes
returns-in-List-clause-takes c = takes_as _ _ _ _ _ _ _ c.in-List.is c.list.ensures.takes

pub returns-in-Bind-clause-leaves : goal.returns-in-Bind-clause-leaves
returns-in-Bind-clause-leaves c = on_ok c.bind.result (rw c.bind.ensures.leaves (leaves_later _ _ c.args.self.now.leaves (step_grows (state c.args.cx.now) (state c.bind.new.cx) _ _ _ _ _ c.in-Bind.is c.requires.next c.bind.ensures.takes) c.requires.leaves))

pub returns-in-List-clause-leaves : goal.returns-in-List-clause-leaves
returns-in-List-clause-leaves c = on_ok c.list.result (rw c.list.ensures.leaves (leaves_later _ _ c.args.self.now.leaves (step_grows (state c.args.cx.now) (state c.list.new.cx) _ _ _ _ _ c.in-List.is c.requires.next c.list.ensures.takes) c.requires.leaves))

pub returns-in_ok-push-in-Some-clause-takes : goal.returns-in_ok-push-in-Some-clause-takes
returns-in_ok-push-in-Some-clause-takes c = λ h g grows grown fits. takes_leaf h g _ _ _ _ c.in-Label.word c.in-Label.sort c.in-Some.part c.in-Label.is (c.in-Some.ensures (heap c.args.cx.now) c.requires.leaves) grown c.in_ok-push-in-Some.ensures.items refl refl refl

pub returns-in-None-clause-takes : goal.returns-in-None-clause-takes
returns-in-None-clause-takes c = takes_as _ _ _ _ _ _ _ c.in-Label.is c.label.ensures.takes
