use Rattle.std.proofs.Common.{◌≡◌, ℕ, drop, ◌+◌, ◌++◌, ◌∷◌, [], suc, refl, arith, ap, sym, ◌∙◌}
use Rattle.ir_laws.specs.Sorts.{kids_wanted, places}
use Rattle.ir_script.specs.Open.{kids_open, open_places}
use Rattle.ir_script.specs.Wanted.{bare, wanted_seen}
use Rattle.ir_script.proofs.PendingLemmas.{kids_other, open_kid, open_rest}
use Rattle.ir_script.proofs.sorts.open_kids.Goals as goal
use Rattle.ir_script.proofs.sorts.open_kids.Goals.{in-AKid+in-Ok, in_default}

pub loop-part-preserved : goal.loop-part-preserved
loop-part-preserved c = λ env.
    let parts = c.parts_of-part-items.result.now in
    let further = (places env (wanted_seen c.args.wanted) (bare c.args.word)).further in
    let rest = λ (i : ℕ). kids_wanted env [] (drop i parts) in
    elim c.match-part.branch [
      | in-AKid+in-Ok w ↦
          let one : c.loop-part.left ≡ suc c.match-part.left = omega (arith, w.left-is, c.if-left-eq0.false) in
          (λ i. open_places ((ap (λ v. v.items) w.pending-is ∙ w.in-Ok.ensures.items) i) ++ kids_open (rest (c.loop-part.part-index + 1)) further c.match-part.left)
          ∙ open_kid env parts c.loop-part.part-index _ _ further c.match-part.left c.loop-part.pending.items _ c.loop-part-test.true w.in-AKid.is (w.of_kid-wanted.ensures env) refl
          ∙ ap (λ n. open_places c.loop-part.pending.items ++ kids_open (rest c.loop-part.part-index) further n) (sym one)
          ∙ c.loop-part.invariant env
      | in_default w ↦
          (λ i. open_places (w.pending-is i).items ++ kids_open (kids_other env parts c.loop-part.part-index _ c.loop-part-test.true w.in_default.not-AKid i) further (w.left-is i))
          ∙ c.loop-part.invariant env
    ]

pub returns-in-Ok-push-clause-ok : goal.returns-in-Ok-push-clause-ok
returns-in-Ok-push-clause-ok c = λ env.
    let further = (places env (wanted_seen c.args.wanted) (bare c.args.word)).further in
    let pushed : c.push-then-left-gt0.new.self.items ≡ c.loop-part.pending.items ++ _ ∷ [] = c.in-Ok-push.ensures.items in
    ap open_places pushed ∙ open_rest env _ _ further c.loop-part.left c.loop-part.pending.items _ c.loop-part-test.false (c.further.ensures env c.args.word) (omega (arith, c.if-left-gt0.true)) ∙ c.loop-part.invariant env
