use Rattle.std.proofs.Common.{◌∙◌}
use Rattle.ir_script.proofs.ScopeLemmas.{looked_up}
use Rattle.ir_script.proofs.scope.Scope.find.Goals as goal

pub returns : goal.returns
returns c = c.copied.ensures ∙ c.get.ensures.value ∙ looked_up c.args.name.now c.args.self.now.parts.entries
