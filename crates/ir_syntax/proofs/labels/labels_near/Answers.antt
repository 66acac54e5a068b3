use Rattle.ir_syntax.proofs.LabelLemmas.{bucket_is}
use Rattle.ir_syntax.proofs.labels.labels_near.Goals as goal

pub returns : goal.returns
returns c = bucket_is c.buckets.result.now _ _ _ c.buckets.ensures.rows c.bucket_of.ensures.number c.bucket_of.ensures.few
