use Rattle.std.proofs.Common.{◌∙◌, sym}
use Rattle.ir_laws.proofs.HeapLemmas.{height-tree_of, cached_size-tree_of, cached_flags-tree_of, cached_outer-tree_of}
use Rattle.ir_table.specs.Heaps.{heap_of}
use Rattle.ir_table.proofs.store.Store.told.Goals as goal

pub returns : goal.returns
returns c =
    let h = heap_of c.args.self.now.tables in
    let sound = c.args.self.now.sound in
    let kept = c.cached.ensures in record {
      height = kept.height ∙ sym (height-tree_of h sound c.args.part c.requires);
      size = kept.size ∙ cached_size-tree_of h sound c.args.part c.requires;
      flags = kept.flags ∙ cached_flags-tree_of h sound c.args.part c.requires;
      outer = kept.outer ∙ cached_outer-tree_of h sound c.args.part c.requires;
    }
