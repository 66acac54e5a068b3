use Rattle.std.proofs.Common.{◌≡◌, ◌∙◌, ◌++◌, ℕ, map, ap}
use Rattle.ir_core.specs.Flags.{bits_of}
use Rattle.ir_laws.specs.Tree.{Text}
use Rattle.ir_laws.specs.Answer.{flag_texts}
use Rattle.ir_laws.specs.Flag.{flag_words}
use Rattle.ir_table.specs.Spelled.{after_each}
use Rattle.ir_script.proofs.FlagsLemmas.{flag_step, no_flag_step, all_flags, names_of}
use Rattle.ir_script.proofs.flags.write_words.Goals as goal
use Rattle.ir_script.proofs.flags.write_words.Goals.{then-left-eq1+in_ok-append+in_ok-append-2, else-left-eq1}

pub loop-flag-init : goal.loop-flag-init
loop-flag-init c = ap (λ n. c.args.out.now ++ after_each (flag_texts n (map (λ f. f.name.now) c.flags-flag-items.result.now))) (c.bits-left.ensures tt)

pub loop-flag-preserved : goal.loop-flag-preserved
loop-flag-preserved c = elim c.if-left-eq1.branch [
  | then-left-eq1+in_ok-append+in_ok-append-2 w ↦
      flag_step (λ f. f.name.now) c.flags-flag-items.result.now c.loop-flag.flag-index c.loop-flag.left c.loop-flag-test.true _
      c.loop-flag.out w.append.new.self c.if-left-eq1.out w.as_bytes.result.now _ w.if-left-eq1.true w.in_ok-append.ensures.ok (w.as_bytes.ensures.value ∙ w.name.ensures) (w.out-is ∙ w.in_ok-append-2.ensures.ok) c.loop-flag.invariant
  | else-left-eq1 w ↦
      no_flag_step (λ f. f.name.now) c.flags-flag-items.result.now c.loop-flag.flag-index c.loop-flag.left c.loop-flag-test.true
      c.loop-flag.out c.if-left-eq1.out _ w.if-left-eq1.false w.out-is c.loop-flag.invariant
]

pub returns-clause-ok : goal.returns-clause-ok
returns-clause-ok c =
    let words : map (λ f. f.name.now) c.flags-flag-items.result.now ≡ flag_words =
    names_of (λ f. f.name.now) (λ f. bits_of f.value) c.flags-flag-items.result.now ∙ ap (map (λ (row : Text × ℕ). row.0)) (c.flags-flag-items.ensures tt) in
    all_flags (λ f. f.name.now) c.flags-flag-items.result.now c.loop-flag.flag-index c.loop-flag.left c.loop-flag.out _ c.loop-flag-test.false c.loop-flag.invariant
    ∙ ap (λ ws. c.args.out.now ++ after_each (flag_texts (bits_of c.args.flags) ws)) words
