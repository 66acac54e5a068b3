use Rattle.std.proofs.Common.{arith, rules}
use Rattle.std.proofs.lemmas.Grind.{common_steps}
use Rattle.std.proofs.lemmas.List.{append_assoc, drop-map, drop_more}
use Rattle.ir_core.specs.declared.variables.BoundTyKind.TheVariants as bound_ty
use Rattle.ir_core.specs.declared.variables.BoundVarKind.TheVariants as variable
use Rattle.ir_table.proofs.SpellingLemmas.{begins_append, begins_more, begins_trans, spaced-after_each}
use Rattle.ir_table.proofs.spelling.spell_variables.Goals as goal

pub loop-variable-init : goal.loop-variable-init
loop-variable-init g c = rw c.in_ok-append.ensures.ok (simp (spaced-after_each, append_assoc) (search (rules, begins_append)))

pub returns-in_err-spell_variable-clause-err : goal.returns-in_err-spell_variable-clause-err
returns-in_err-spell_variable-clause-err g c =
    grind (arith, common_steps, begins_trans c.args.out.now c.append-in-loop-variable.new.self c.spell_variable.new.out (rw c.in_ok-append-2.ensures.ok (begins_more _ _ _ c.loop-variable.invariant.begins)))

pub loop-variable-preserved : goal.loop-variable-preserved
loop-variable-preserved g c =
    let i = c.loop-variable.invariant in
    let next = drop_more c.args.variables.now c.loop-variable.variable-index (variable.Ty bound_ty.Anon) c.loop-variable-test.true in
    let whole = simp (drop-map, next, append_assoc) at i.whole in
    rw (c.in_ok-spell_variable.ensures.ok, c.in_ok-append-2.ensures.ok) (simp (append_assoc, drop-map) (search (rules, begins_more, whole, i.begins)))
