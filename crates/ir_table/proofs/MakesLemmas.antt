-- What calls that make trees answer together.
use Rattle.std.proofs.Common.{◌≡◌, List, [], ◌∷◌, ◌++◌, Result, Ok, Err, true, ◌⊎◌, inl, inr, ⊎_elim, refl, sym, ap, ◌∙◌, arith}
use Rattle.std.proofs.lemmas.Result.{on_ok_weaker}
use Rattle.ir_core.specs.declared.errors.TermError.{TermError}
use Rattle.ir_core.specs.declared.handles.Part.{Part}
use Rattle.ir_laws.specs.Heap.{Layer, Heap, IsLive, Grows, tree_of, tree_above}
use Rattle.ir_laws.specs.Held.{Stands, HoldsJust, Counts}
use Rattle.ir_laws.specs.Limits.{Limits, capped, is_within}
use Rattle.ir_laws.specs.Parts.{is_part, is_set}
use Rattle.ir_laws.specs.Tree.{Term}
use Rattle.ir_laws.proofs.HeapLemmas.{Grows-refl, Grows-trans}
use Rattle.ir_laws.proofs.PartSets.{no_part, part_is, part_here, part_of_cons, part_left, part_right, part_of_append, without, without_held, without_shorter}
use Rattle.ir_table.specs.State.{State, NewAnswers, Makes, fits}

-- a tree that stands in a heap stands in a later one
stands_on : (h k : Heap Part) (t : Term) → Grows h k → Stands h t → Stands k t
stands_on h k t grows s = (s.0, grows.live s.0 s.1, grows.tree s.0 s.1 ∙ s.2)

-- a call that answers a value
makes_value : {T : Type 0} (old new : State) (ts : List Term) (x : T) → Grows old.heap new.heap → ((p : Part) → IsLive new.heap p → IsLive old.heap p ⊎ (is_part ts (tree_of new.heap p) ≡ true))
    → ((t : Term) → is_part ts t ≡ true → Stands new.heap t) → new.limits ≡ old.limits → Makes old new ts (Ok x)
makes_value old new ts x grows only all limits = record {
  grows = grows;
  only = only;
  all = all;
  too_deep = λ q. absurd (cc q);
  too_many = λ q. absurd (cc q);
  causes = tt;
  limits = limits;
}

pub makes_none : (s : State) → Makes {T = Unit {0}} s s [] (Ok tt)
makes_none s = makes_value s s [] tt (Grows-refl s.heap) (λ p live. inl live) (λ t e. absurd (no_part t e)) refl

module _ {T : Type 0} {name : T → Part} (old new : State) (l : Layer Part) where
  pub makes_new : (r : Result T TermError) (t : Term) → Counts old.heap old.count → t ≡ tree_above old.heap l → NewAnswers name old new l r → Makes old new (t ∷ []) r
  makes_new (Ok x) t counted e a = makes_value old new (t ∷ []) x a.ok.grows
      (λ p now. ⊎_elim inl (λ same. inr (part_is t [] (tree_of new.heap p) (e ∙ sym a.ok.tree ∙ sym (ap (tree_of new.heap) same)))) (a.ok.only p now))
      (λ u m. ⊎_elim (λ here. (name x, a.ok.live, a.ok.tree ∙ sym e ∙ here)) (λ none. absurd (no_part u none)) (part_of_cons t [] u m))
      a.limits
  makes_new (Err x) t counted e a = rw a.err (record {
    grows = Grows-refl old.heap;
    only = λ p now. inl now;
    all = tt;
    too_deep = λ q. (t, part_here t [], ap (fits old) e ∙ a.too_deep q);
    too_many = λ q us covers.
        let full = a.too_many q in
        let rest = counted.least (without t us) (λ p here. without_held t us (tree_of old.heap p) (covers.held p here) (λ same. full.0 (p, here, sym same ∙ e))) in
        let less = without_shorter t us (covers.new t (part_here t [])) in
        omega arith;
    causes = a.causes;
    limits = refl;
  })

-- one call after another
pub makes_then : {T U : Type 0} (old mid new : State) (ts us : List Term) (x : T) (r : Result U TermError)
    → Makes old mid ts (Ok x) → Makes mid new us r → Makes old new (ts ++ us) r
makes_then {U = U} old mid new ts us x r a b = record {
  grows = Grows-trans old.heap mid.heap new.heap a.grows b.grows;
  only = λ p live. ⊎_elim
      (λ before. ⊎_elim inl (λ made. inr (part_left ts us (tree_of new.heap p) (ap (is_part ts) (b.grows.tree p before) ∙ made))) (a.only p before))
      (λ made. inr (part_right ts us (tree_of new.heap p) made))
      (b.only p live);
  all = on_ok_weaker r (λ rest t m. ⊎_elim (λ first. stands_on mid.heap new.heap t b.grows (a.all t first)) (rest t) (part_of_append ts us t m)) b.all;
  too_deep = λ q. let w = b.too_deep q in (w.0, part_right ts us w.0 w.1, ap (λ (l : Limits). is_within (capped l) w.0) (sym a.limits) ∙ w.2);
  too_many = λ q vs covers.
      let more = b.too_many q vs (record {
        held = λ p live. ⊎_elim
            (λ before. ap (is_part vs) (a.grows.tree p before) ∙ covers.held p before)
            (λ made. covers.new (tree_of mid.heap p) (part_left ts us (tree_of mid.heap p) made))
            (a.only p live);
        new = λ t m. covers.new t (part_right ts us t m);
      }) in
      let same = ap (λ (l : Limits). (capped l).nodes) a.limits in
      omega arith;
  causes = b.causes;
  limits = b.limits ∙ a.limits;
}

-- a refused call, as one that makes more trees and has another answer
pub makes_err : {T U : Type 0} (old new : State) (ts us : List Term) (e : TermError) → Makes {T = T} old new ts (Err e)
    → ((t : Term) → is_part ts t ≡ true → is_part us t ≡ true) → Makes {T = U} old new us (Err e)
makes_err {T = T} old new ts us e a more = record {
  grows = a.grows;
  only = λ p live. ⊎_elim inl (λ made. inr (more (tree_of new.heap p) made)) (a.only p live);
  all = tt;
  too_deep = λ q. let w = a.too_deep (cc) in (w.0, more w.0 w.1, w.2);
  too_many = λ q vs covers. a.too_many (cc) vs (record { held = covers.held; new = λ t m. covers.new t (more t m) });
  causes = a.causes;
  limits = a.limits;
}

-- the same trees in another order
pub makes_same : {T : Type 0} (old new : State) (ts us : List Term) (r : Result T TermError) → Makes old new ts r
    → ((t : Term) → is_part ts t ≡ true → is_part us t ≡ true) → ((t : Term) → is_part us t ≡ true → is_part ts t ≡ true) → Makes old new us r
makes_same old new ts us (Err e) a more back = makes_err old new ts us e a more
makes_same old new ts us (Ok x) a more back = makes_value old new us x a.grows (λ p live. ⊎_elim inl (λ made. inr (more (tree_of new.heap p) made)) (a.only p live)) (λ t m. a.all t (back t m)) a.limits

-- the same with another value
pub makes_ok : {T U : Type 0} (old new : State) (ts : List Term) (x : T) (y : U) → Makes old new ts (Ok x) → Makes old new ts (Ok y)
makes_ok old new ts x y a = makes_value old new ts y a.grows a.only a.all a.limits

-- what is held afterwards
pub makes_held : {T : Type 0} (old new : State) (ts held us : List Term) (x : T) → HoldsJust old.heap held → Makes old new ts (Ok x) → is_set us ≡ true
    → ((t : Term) → is_part us t ≡ true → (is_part held t ≡ true) ⊎ (is_part ts t ≡ true))
    → ((t : Term) → is_part held t ≡ true → is_part us t ≡ true) → ((t : Term) → is_part ts t ≡ true → is_part us t ≡ true) → HoldsJust new.heap us
makes_held old new ts held us x just a set either before made = record {
  set = set;
  stand = λ t m. ⊎_elim (λ there. stands_on old.heap new.heap t a.grows (just.stand t there)) (a.all t) (either t m);
  only = λ p live. ⊎_elim
      (λ there. before (tree_of new.heap p) (ap (is_part held) (a.grows.tree p there) ∙ just.only p there))
      (made (tree_of new.heap p))
      (a.only p live);
}
