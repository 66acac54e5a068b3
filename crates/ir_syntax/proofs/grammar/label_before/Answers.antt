use Rattle.std.proofs.Common.{◌≡◌, ◌∙◌, Bool, true, false, bytes_eq, find, option_map, rules, tests, ap}
use Rattle.std.proofs.lemmas.Iterator.{YieldsList-from_slice}
use Rattle.std.proofs.lemmas.Iterator.Consumers.{YieldsList-from_copied}
use Rattle.std.proofs.lemmas.Iterator.Search.{find_from_yields_List}
use Rattle.ir_laws.specs.Label.{row}
use Rattle.ir_syntax.specs.Grammar.{begins_with}
use Rattle.ir_laws.specs.declared.words.Word.{Word}
use Rattle.ir_syntax.proofs.LabelLemmas.{as_found, found_near}
use Rattle.ir_syntax.proofs.grammar.label_before.Goals as goal

pub returns : goal.returns
returns c =
    let near = c.labels_near.result.now in
    let p = λ (w : Word). elim (bytes_eq (row w).text c.args.text.now) as (λ b. Bool) [ true ↦ begins_with (row w).parts (option_map (λ text. text.now) c.args.next) | false ↦ false ] in
    let found : option_map (λ (w : Word). w) c.find.result ≡ find p near = find_from_yields_List p _ _ c.find.result c.find.ensures.ran (YieldsList-from_copied (YieldsList-from_slice near cc)) (λ x b q k. search (rules, tests)) in
    as_found c.find.result ∙ found ∙ ap (find p) c.labels_near.ensures ∙ found_near (λ w. begins_with (row w).parts (option_map (λ text. text.now) c.args.next)) c.args.text.now
