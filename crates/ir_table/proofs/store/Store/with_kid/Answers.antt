use Rattle.std.proofs.Common.{refl, arith}
use Rattle.std.specs.Int.Bits.{or_zero_r}
use Rattle.ir_table.proofs.store.Store.with_kid.Goals as goal

pub returns-clause-kid : goal.returns-clause-kid
returns-clause-kid c = record {
  height = omega arith;
  size = omega arith;
  flags = rw (or_zero_r, ← c.cached-cached.ensures.flags) (c.union.ensures tt);
  outer = omega arith;
  index = refl;
  number = refl;
}
