use Rattle.std.proofs.Common.{◌≤◌, ◌∷◌, true, Option, List, IfSome, length, reverse, subst, rules, arith, refl, ap, sym, ◌∙◌}
use Rattle.std.specs.List.{list_all}
use Rattle.std.proofs.lemmas.Bool.{and_from}
use Rattle.std.proofs.lemmas.List.Folds.{list_all-append}
use Rattle.std.proofs.lemmas.List.{length-reverse, reverse-append}
use Rattle.ir_laws.specs.Expression.{nested}
use Rattle.ir_syntax.specs.Frames.{KeepsGroup, enter, gives, is_kept, needs}
use Rattle.ir_syntax.specs.Reading.{HasRoom, continued}
use Rattle.ir_syntax.specs.Steps.{built}
use Rattle.ir_syntax.specs.declared.frames.Around.{Around}
use Rattle.ir_syntax.specs.declared.frames.Frame.{Frame}
use Rattle.ir_syntax.proofs.ReaderLemmas.{open-continued, open-deep}
use Rattle.ir_syntax.proofs.RoomLemmas.{room-group}
use Rattle.ir_syntax.proofs.scan.Reader.open.Goals as goal

pub returns-then-len-ge-MAX_DEPTH-clause-read : goal.returns-then-len-ge-MAX_DEPTH-clause-read
returns-then-len-ge-MAX_DEPTH-clause-read c =
    let deep : 256 ≤ length c.args.self.now.outer.items = first_of (search rules, grind arith) in
    λ ts. open-deep c.args.self.now.frame (reverse c.args.self.now.outer.items) (nested ts) (built c.args.self.now.steps.items) (rw (length-reverse c.args.self.now.outer.items) deep)

pub returns-clause-read : goal.returns-clause-read
returns-clause-read c = λ ts.
    open-continued c.args.self.now.frame (reverse c.args.self.now.outer.items) c.in-Some.around.inner c.in-Some.around.outer (nested ts) (built c.args.self.now.steps.items) (λ es next. c.in_ok-around.ensures.read es next (built c.args.self.now.steps.items) ∙ ap (λ o. enter o es next (built c.args.self.now.steps.items)) c.in-Some.is)
    ∙ ap (λ (fs : List Frame). continued (c.in-Some.around.inner ∷ fs) (nested ts) (built c.args.self.now.steps.items)) (sym (ap reverse c.in_ok-push.ensures.items ∙ reverse-append c.args.self.now.outer.items _))

pub returns-clause-open : goal.returns-clause-open
returns-clause-open c =
    let f = c.args.self.now.frame in
    let outer = c.args.self.now.outer.items in
    let around = c.in-Some.around in
    let keeps = subst (λ (o : Option Around). IfSome o (KeepsGroup (needs f) (gives f))) c.in-Some.is c.in_ok-around.ensures.kept in
    let room = room-group f (reverse outer) (length (built c.args.self.now.steps.items).terms) c.requires.room around keeps in
    record {
      frame = keeps.0;
      outer = ap (list_all is_kept) c.in_ok-push.ensures.items ∙ list_all-append is_kept outer _ ∙ and_from (list_all is_kept outer) _ c.requires.outer (and_from (is_kept around.outer) true keeps.1 refl);
      few = omega arith;
      steps = c.requires.steps;
      room = subst (λ (fs : List Frame). HasRoom (around.inner ∷ fs) (length (built c.args.self.now.steps.items).terms)) (sym (ap reverse c.in_ok-push.ensures.items ∙ reverse-append outer _)) room;
    }
