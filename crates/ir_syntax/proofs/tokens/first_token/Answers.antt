use Rattle.std.proofs.Common.{◌≡◌, ◌∷◌, ◌-◌, ◌<◌, false, length, take, drop, get_or, rules, arith, sym, ap, ◌∙◌}
use Rattle.std.specs.List.{slice_range}
use Rattle.std.proofs.lemmas.Grind.{common_steps}
use Rattle.std.proofs.lemmas.Bool.Decides.{nat_tests}
use Rattle.ir_laws.specs.Expression.{Word, ends_word, is_space, tokens_of}
use Rattle.ir_syntax.proofs.TokenLemmas.{word_at}
use Rattle.ir_syntax.proofs.tokens.first_token.Goals as goal

pub returns-in_default-clause-first : goal.returns-in_default-clause-first
returns-in_default-clause-first c =
    let within : c.spaces-start.result < length c.args.text.now = omega arith in
    let byte : is_space (get_or c.args.text.now c.spaces-start.result 0) ≡ false = c.spaces-start.ensures.behind within in
    let word : ends_word (get_or c.args.text.now c.spaces-start.result 0) ≡ false = first_of (search rules, grind (arith, nat_tests)) in
    let rest : take (length c.args.text.now - c.word_end-end.result) (drop c.word_end-end.result c.args.text.now) ≡ drop c.word_end-end.result c.args.text.now = grind (arith, common_steps) in
    c.spaces-start.ensures.tokens ∙ word_at c.args.text.now c.spaces-start.result c.word_end-end.result (c.word_end-end.ensures.some within word) c.word_end-end.ensures.within c.word_end-end.ensures.word c.word_end-end.ensures.behind
    ∙ ap (λ bs. Word (slice_range c.args.text.now c.spaces-start.result c.word_end-end.result) ∷ tokens_of bs) (sym rest)
