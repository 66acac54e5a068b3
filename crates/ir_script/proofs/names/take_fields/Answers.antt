use Rattle.std.proofs.Common.{◌≡◌, ◌-◌, length, drop, rules, sym, ap, ◌∙◌}
use Rattle.std.proofs.lemmas.List.{take_rest}
use Rattle.ir_laws.specs.Label.{row}
use Rattle.ir_script.specs.LookedUp.{field_sort}
use Rattle.ir_syntax.specs.Steps.{field_count}
use Rattle.ir_script.proofs.ResolveLemmas.{map_below, map_top}
use Rattle.ir_script.proofs.names.take_fields.Goals as goal

pub returns-clause-sort : goal.returns-clause-sort
returns-clause-sort c = λ st is.
    let cut : c.saturating_sub-rest.result ≡ length c.args.sorts.now.items - field_count (row c.args.word).parts = search rules in
    let rest = c.saturating_sub-rest.result in
    c.sort_of-sort.ensures _ (map_top field_sort st.fields c.args.sorts.now.items (field_count (row c.args.word).parts) rest is cut ∙ ap (drop rest) (sym c.deref.ensures.value) ∙ sym (take_rest c.deref.result.now rest))

pub returns-clause-rest : goal.returns-clause-rest
returns-clause-rest c = λ st is.
    let cut : c.saturating_sub-rest.result ≡ length c.args.sorts.now.items - field_count (row c.args.word).parts = search rules in
    map_below field_sort st.fields c.args.sorts.now.items (field_count (row c.args.word).parts) c.saturating_sub-rest.result is cut
    ∙ sym c.truncate.ensures.items
