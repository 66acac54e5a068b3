use Rattle.std.proofs.Common.{◌∙◌}
use Rattle.ir_script.proofs.SortLemmas.{sort_among}
use Rattle.ir_script.proofs.sorts.is_among.Goals as goal

pub returns : goal.returns
returns c = c.contains.ensures.value ∙ sort_among c.args.sorts.now c.args.sort
