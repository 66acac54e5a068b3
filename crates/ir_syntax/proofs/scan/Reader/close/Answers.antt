use Rattle.std.proofs.Common.{◌≡◌, ◌≤◌, ◌∷◌, [], Option, Some, IfSome, List, length, reverse, subst, rules, arith, length-append, ap, sym, ◌∙◌}
use Rattle.std.specs.List.{list_all}
use Rattle.std.proofs.lemmas.Bool.{and_parts}
use Rattle.std.proofs.lemmas.List.Folds.{list_all-append}
use Rattle.std.proofs.lemmas.List.{length-reverse, reverse-append}
use Rattle.ir_laws.specs.Expression.{Closes, nested, with_token}
use Rattle.ir_syntax.specs.Frames.{KeepsEnd, ended, gives, is_kept, needs}
use Rattle.ir_syntax.specs.Reading.{HasRoom, continued}
use Rattle.ir_syntax.specs.Steps.{built}
use Rattle.ir_syntax.specs.declared.frames.Frame.{Frame}
use Rattle.ir_syntax.specs.declared.steps.Step.{Step}
use Rattle.ir_syntax.proofs.ReaderLemmas.{close-continued, close-none, no_group}
use Rattle.ir_syntax.proofs.RoomLemmas.{room-end, room-put}
use Rattle.ir_syntax.proofs.scan.Reader.close.Goals as goal

pub returns-in_default-clause-read : goal.returns-in_default-clause-read
returns-in_default-clause-read c =
    let st = built c.args.self.now.steps.items in
    λ ts. close-none c.args.self.now.frame (reverse c.args.self.now.outer.items) (nested ts) st (c.end.ensures.read st ∙ ap (λ o. ended o st) c.in_default.is)

pub returns-in_default-pop-clause-read : goal.returns-in_default-pop-clause-read
returns-in_default-pop-clause-read c =
    let none : c.args.self.now.outer.items ≡ [] = search rules in
    λ ts. ap (λ (fs : List Frame). continued (c.args.self.now.frame ∷ reverse fs) (with_token Closes (nested ts)) (built c.args.self.now.steps.items)) none ∙ no_group c.args.self.now.frame ts (built c.args.self.now.steps.items)

pub returns-clause-read : goal.returns-clause-read
returns-clause-read c =
    let fs = reverse c.pop.new.self.items in
    let few : length (c.in-Some-pop.outer ∷ fs) ≤ 256 = omega (arith, length-reverse c.pop.new.self.items, ap length c.in-Some-pop.ensures.items, length-append c.pop.new.self.items (c.in-Some-pop.outer ∷ []), c.requires.few) in
    λ ts.
    ap (λ (fs : List Frame). continued (c.args.self.now.frame ∷ fs) (with_token Closes (nested ts)) (built c.args.self.now.steps.items)) (ap reverse c.in-Some-pop.ensures.items ∙ reverse-append c.pop.new.self.items _)
    ∙ close-continued c.args.self.now.frame (c.in-Some-pop.outer ∷ fs) (nested ts) _ (built c.put.new.self.steps.items) few (c.end.ensures.read (built c.args.self.now.steps.items) ∙ ap (λ o. ended o (built c.args.self.now.steps.items)) c.in-Some.is ∙ ap Some (sym c.in_ok-put.ensures.put))
    ∙ ap (λ (fs : List Frame). continued (c.in-Some-pop.outer ∷ reverse fs) (nested ts) (built c.put.new.self.steps.items)) (sym c.in_ok-put.ensures.outer)

pub returns-clause-open : goal.returns-clause-open
returns-clause-open c =
    let f = c.args.self.now.frame in
    let st = built c.args.self.now.steps.items in
    let left = c.pop.new.self.items in
    let outer = c.in-Some-pop.outer in
    let was = c.in-Some-pop.ensures.items in
    let keeps = subst (λ (o : Option (Option Step)). IfSome o (KeepsEnd (needs f) (gives f))) c.in-Some.is c.end.ensures.kept in
    let kept = and_parts (list_all is_kept left) _ (sym (list_all-append is_kept left (outer ∷ [])) ∙ ap (list_all is_kept) (sym was) ∙ c.requires.outer) in
    let room = subst (λ (fs : List Frame). HasRoom (f ∷ fs) (length st.terms)) (ap reverse was ∙ reverse-append left (outer ∷ [])) c.requires.room in
    record {
      frame = (and_parts (is_kept outer) _ kept.1).0;
      outer = ap (list_all is_kept) c.in_ok-put.ensures.outer ∙ kept.0;
      few = omega (arith, ap length c.in_ok-put.ensures.outer, ap length was, length-append left (outer ∷ []), c.requires.few);
      steps = c.in_ok-put.ensures.ample (omega (arith, keeps.0, room.0)) keeps.2 c.requires.steps;
      room = subst (λ (fs : List Frame). HasRoom (outer ∷ reverse fs) (length (built c.put.new.self.steps.items).terms)) (sym c.in_ok-put.ensures.outer)
          (room-put (outer ∷ reverse left) c.in-Some.step st _ c.in_ok-put.ensures.put (room-end f (outer ∷ reverse left) (length st.terms) room c.in-Some.step keeps));
    }
