use Rattle.std.proofs.Common.{ap, ◌∙◌, [], ◌∷◌, ◌++◌}
use Rattle.std.proofs.lemmas.List.{map_push}
use Rattle.ir_table.specs.Info.{sketch}
use Rattle.ir_table.proofs.TableLemmas.{sketches, lookup_none}
use Rattle.indexmap.proofs.CallerLemmas.{insert_entry-new}
use Rattle.ir_table.proofs.table.Table.push.Goals as goal

pub returns-clause-ok : goal.returns-clause-ok
returns-clause-ok g c =
    ap (sketches g.K.Key.layer) (c.in_ok-insert.ensures.entries
    ∙ insert_entry-new g.K.PartialEq.eq c.self.inside.map c.args.key c.args.info
    (lookup_none g.K.Key.layer c.args.key (g.K.PartialEq.eq c.args.key) (g.met.K.Key.exact c.args.key) c.self.inside.map.entries (rw c.self.view_is c.requires)))
    ∙ map_push (λ e. sketch (g.K.Key.layer e.0) e.1) c.self.inside.map.entries (c.args.key, c.args.info)
    ∙ ap (λ es. es ++ sketch (g.K.Key.layer c.args.key) c.args.info ∷ []) c.self.view_is
