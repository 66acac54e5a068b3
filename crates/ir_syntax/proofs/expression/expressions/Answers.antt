use Rattle.std.proofs.Common.{◌≡◌, ◌-◌, true, Option, option_map, get_or, arith, refl, ap, sym, ◌∙◌}
use Rattle.ir_laws.specs.Expression.{Exprs, are_line_bytes}
use Rattle.ir_syntax.specs.Nesting.{stack_of}
use Rattle.ir_syntax.specs.Views.{exprs_in, items_of}
use Rattle.ir_syntax.specs.declared.expression.Exprs as list
use Rattle.ir_syntax.proofs.ExpressionLemmas.{IsReadFromWord-bytes, IsSeparated-byte, IsReadFrom-separator, expressions-lost, expressions-read}
use Rattle.ir_syntax.proofs.expression.expressions.Goals as goal

-- what is read, as it is seen
abbrev seen : Option list.Exprs → Option Exprs
seen o = option_map (λ es. exprs_in (items_of es)) o

pub returns-in-Some-clause-read : goal.returns-in-Some-clause-read
returns-in-Some-clause-read c =
    let readable : are_line_bytes c.args.line.now ≡ true = sym c.is_readable.ensures ∙ c.if-not-is_readable.false in
    let word = IsReadFromWord-bytes c.args.line.now _ _ _ _ c.loop-groups.invariant c.word_start-start.ensures.within c.word_start-start.ensures.word c.in_ok-put_word.ensures.read in
    expressions-read _ _ _ readable word c.if-start-eq0.true ∙ sym c.into_line.ensures ∙ ap seen c.in-Some.is

pub returns-in-None-clause-refusal : goal.returns-in-None-clause-refusal
returns-in-None-clause-refusal c = λ e.
    let readable : are_line_bytes c.args.line.now ≡ true = sym c.is_readable.ensures ∙ c.if-not-is_readable.false in
    let word = IsReadFromWord-bytes c.args.line.now _ _ _ _ c.loop-groups.invariant c.word_start-start.ensures.within c.word_start-start.ensures.word c.in_ok-put_word.ensures.read in
    expressions-read _ _ _ readable word c.if-start-eq0.true ∙ sym c.into_line.ensures ∙ ap seen c.in-None.is

pub returns-then-not-branch-clause-refusal : goal.returns-then-not-branch-clause-refusal
returns-then-not-branch-clause-refusal c = λ e.
    let readable : are_line_bytes c.args.line.now ≡ true = sym c.is_readable.ensures ∙ c.if-not-is_readable.false in
    let word = IsReadFromWord-bytes c.args.line.now _ _ _ _ c.loop-groups.invariant c.word_start-start.ensures.within c.word_start-start.ensures.word c.in_ok-put_word.ensures.read in
    let at = c.word_start-start.result - 1 in
    let separated = IsSeparated-byte c.args.line.now _ at (get_or c.args.line.now at 0) _ word (omega arith) (omega arith) refl (c.word_start-start.ensures.before (omega arith)) in
    expressions-lost _ at _ (stack_of c.put_separator.new.self) _ readable separated c.if-not-branch.true c.in_ok-put_separator.ensures.read

pub loop-groups-preserved : goal.loop-groups-preserved
loop-groups-preserved c =
    let word = IsReadFromWord-bytes c.args.line.now _ _ _ _ c.loop-groups.invariant c.word_start-start.ensures.within c.word_start-start.ensures.word c.in_ok-put_word.ensures.read in
    let at = c.word_start-start.result - 1 in
    let separated = IsSeparated-byte c.args.line.now _ at (get_or c.args.line.now at 0) _ word (omega arith) (omega arith) refl (c.word_start-start.ensures.before (omega arith)) in
    IsReadFrom-separator _ at _ _ _ separated (omega arith) c.if-not-branch.false c.in_ok-put_separator.ensures.read
