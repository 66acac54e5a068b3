use Rattle.std.proofs.Common.{refl}
use Rattle.ir_table.proofs.PartLemmas.{entry_at, entry_some}
use Rattle.ir_table.proofs.store.Store.cached.Goals as goal

pub unwrap-requires : goal.unwrap-requires
unwrap-requires c = entry_some _ c.args.self.now.tables c.args.part c.entry.result c.entry.ensures.entry c.requires

pub returns : goal.returns
returns c =
    let at = entry_at _ c.args.self.now.tables c.args.part c.entry.result c.entry.ensures.entry c.unwrap.result c.unwrap.ensures c.requires in
    rw at.0 (record { height = refl; size = refl; flags = refl; outer = refl })
