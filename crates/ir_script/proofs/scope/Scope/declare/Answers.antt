use Rattle.std.proofs.Common.{◌∙◌, ap, map, bytes_eq, Bor}
use Rattle.std.proofs.lemmas.List.{map_push}
use Rattle.indexmap.proofs.CallerLemmas.{insert_entry-new}
use Rattle.ir_core.specs.declared.handles.Part.{Part}
use Rattle.ir_laws.specs.Tree.{Text}
use Rattle.ir_script.specs.Scope.{Named}
use Rattle.ir_script.proofs.ScopeLemmas.{looked_up}
use Rattle.ir_script.proofs.scope.Scope.declare.Goals as goal

abbrev seen : Bor Text × Part → Named
seen e = (e.0.now, e.1)

pub returns-clause-ok : goal.returns-clause-ok
returns-clause-ok c =
    let absent = looked_up c.args.name.now c.args.self.now.parts.entries ∙ c.requires in
    ap (map seen) (c.in-Ok.ensures.entries ∙ insert_entry-new (λ a b. bytes_eq a.now b.now) c.args.self.now.parts c.args.name c.args.part absent)
    ∙ map_push seen c.args.self.now.parts.entries (c.args.name, c.args.part)
