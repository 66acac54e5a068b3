use Rattle.std.proofs.Common.{◌∷◌, Option, List, IfSome, length, reverse, subst, arith, ap, sym, ◌∙◌}
use Rattle.std.specs.List.{list_all}
use Rattle.ir_syntax.specs.Frames.{KeepsWord, gives, is_kept, needs}
use Rattle.ir_syntax.specs.Reading.{HasRoom}
use Rattle.ir_syntax.specs.Steps.{built}
use Rattle.ir_syntax.specs.declared.frames.Frame.{Frame}
use Rattle.ir_syntax.specs.declared.frames.Taken.{Taken}
use Rattle.ir_syntax.proofs.RoomLemmas.{room-put, room-word}
use Rattle.ir_syntax.proofs.scan.Reader.take_word.Goals as goal

pub returns-clause-open : goal.returns-clause-open
returns-clause-open c =
    let f = c.args.self.now.frame in
    let st = built c.args.self.now.steps.items in
    let t = c.in-Some.taken in
    let keeps = subst (λ (o : Option Taken). IfSome o (KeepsWord (needs f) (gives f))) c.in-Some.is c.in_ok-taken.ensures.kept in
    let fs = t.frame ∷ reverse c.args.self.now.outer.items in
    record {
      frame = keeps.0;
      outer = ap (list_all is_kept) c.in_ok-put.ensures.outer ∙ c.requires.outer;
      few = omega (arith, ap length c.in_ok-put.ensures.outer, c.requires.few);
      steps = c.in_ok-put.ensures.ample (omega (arith, keeps.3)) keeps.4 c.requires.steps;
      room = subst (λ (outer : List Frame). HasRoom (t.frame ∷ reverse outer) (length (built c.put.new.self.steps.items).terms)) (sym c.in_ok-put.ensures.outer)
          (room-put fs t.step st _ c.in_ok-put.ensures.put (room-word f (reverse c.args.self.now.outer.items) (length st.terms) c.requires.room t keeps));
    }
