-- Terms in their places, read from the last one on.
use Rattle.std.proofs.Common.{◌≡◌, ℕ, zero, suc, ◌+◌, ◌<◌, ◌≤◌, Bool, true, false, ◌&&◌, List, [], ◌∷◌, ◌++◌, length, get_or, set, take, drop, flat_map, replicate, reverse, take_all, append_assoc, Some, None, Option, refl, sym, ap, ◌∙◌, arith, is_some, option_map}
use Rattle.std.proofs.Math.Bool.{and-true, and_assoc}
use Rattle.std.proofs.lemmas.Grind.{flat_map-append, replicate_next}
use Rattle.std.proofs.lemmas.List.{append-nil, reverse-append, drop_all, drop_more, set_split, take_more}
use Rattle.ir_laws.specs.Environment.{Environment}
use Rattle.ir_laws.specs.Phrase.{Phrase}
use Rattle.ir_laws.specs.Same.{same_sort}
use Rattle.ir_laws.specs.Sorts.{Wanted, are_of_one_sort, kid_wanted, kids_wanted}
use Rattle.ir_laws.specs.declared.labels.KidForm.{KidForm}
use Rattle.ir_laws.specs.declared.labels.Part.{Part}
use Rattle.ir_laws.specs.declared.labels.Part.TheVariants.{Fixed, ForGroup, AField, AKid}
use Rattle.ir_laws.specs.declared.labels.Sort.{Sort}
use Rattle.ir_script.specs.Open.{is_like, kids_open, open_places, place_open, sort_behind, sort_open}
use Rattle.ir_script.specs.Operands.{are_alike}
use Rattle.ir_script.specs.Wanted.{wanted_seen}
use Rattle.ir_script.specs.declared.sorts.Pending.{Pending}
use Rattle.ir_script.specs.declared.sorts.Wanted as code

-- ---- runs of places

pub open_push : (xs : List Pending) (run : Pending) → open_places (xs ++ run ∷ []) ≡ open_places xs ++ replicate (suc run.more) (wanted_seen run.wanted)
open_push xs run = flat_map-append (λ (r : Pending). replicate (suc r.more) (wanted_seen r.wanted)) xs (run ∷ []) ∙ ap (λ ws. open_places xs ++ ws) (append-nil (replicate (suc run.more) (wanted_seen run.wanted)))

-- one place less
pub open_less : (xs : List Pending) (i : ℕ) (run less : Pending) → i + 1 ≡ length xs → run ≡ get_or xs i run → less.wanted ≡ run.wanted → suc less.more ≡ run.more → open_places xs ≡ open_places (set xs i less) ++ wanted_seen run.wanted ∷ []
open_less xs i run less last is same one =
    let whole : xs ≡ take i xs ++ run ∷ [] = sym (take_all (i + 1) xs (omega arith)) ∙ take_more xs i run (omega arith) ∙ ap (λ r. take i xs ++ r ∷ []) (sym is) in
    let others : set xs i less ≡ take i xs ++ less ∷ [] = set_split xs i less (omega arith) ∙ ap (λ ys. take i xs ++ less ∷ ys) (drop_all (suc i) xs (omega arith)) in
    let more : replicate (suc run.more) (wanted_seen run.wanted) ≡ replicate (suc less.more) (wanted_seen less.wanted) ++ wanted_seen run.wanted ∷ [] =
    (λ i. replicate (suc (sym one i)) (wanted_seen run.wanted)) ∙ rw_next less.more in
    ap open_places whole ∙ open_push (take i xs) run ∙ ap (λ ws. open_places (take i xs) ++ ws) more ∙ sym (append_assoc (open_places (take i xs)) (replicate (suc less.more) (wanted_seen less.wanted)) (wanted_seen run.wanted ∷ []))
    ∙ ap (λ ws. ws ++ wanted_seen run.wanted ∷ []) (sym (ap open_places others ∙ open_push (take i xs) less))
  where
    rw_next : (n : ℕ) → replicate (suc (suc n)) (wanted_seen run.wanted) ≡ replicate (suc n) (wanted_seen less.wanted) ++ wanted_seen run.wanted ∷ []
    rw_next n = let e : suc (suc n) ≡ suc n + 1 = omega arith in ap (λ m. replicate m (wanted_seen run.wanted)) e ∙ replicate_next (suc n) (wanted_seen run.wanted) ∙ ap (λ w. replicate (suc n) (wanted_seen w) ++ wanted_seen run.wanted ∷ []) (sym same)

all_further : (further : Wanted) (n : ℕ) → replicate n further ≡ kids_open [] further n
all_further further zero = refl
all_further further (suc n) = ap (λ ws. further ∷ ws) (all_further further n)

module _ (env : Environment) where
  -- the parts that are no kids open no place
  other : (part : Part) (parts : List Part) → ((form : KidForm) → part ≡ AKid form → ⊥) → kids_wanted env [] (part ∷ parts) ≡ kids_wanted env [] parts
  other (Fixed word) parts none = refl
  other ForGroup parts none = refl
  other (AField form) parts none = refl
  other (AKid form) parts none = absurd (none form refl)

  pub kids_other : (parts : List Part) (i : ℕ) (d : Part) → i < length parts → ((form : KidForm) → get_or parts i d ≡ AKid form → ⊥) → kids_wanted env [] (drop (i + 1) parts) ≡ kids_wanted env [] (drop i parts)
  kids_other parts i d h none = sym (ap (kids_wanted env []) (drop_more parts i d h) ∙ other (get_or parts i d) (drop (i + 1) parts) none)

  -- a part that is a kid opens one
  pub open_kid : (parts : List Part) (i : ℕ) (d : Part) (form : KidForm) (further : Wanted) (left : ℕ) (xs : List Pending) (run : Pending) → i < length parts → get_or parts i d ≡ AKid form → wanted_seen run.wanted ≡ kid_wanted env [] form → run.more ≡ 0
      → open_places (xs ++ run ∷ []) ++ kids_open (kids_wanted env [] (drop (i + 1) parts)) further left ≡ open_places xs ++ kids_open (kids_wanted env [] (drop i parts)) further (suc left)
  open_kid parts i d form further left xs run h is wanted one =
      let rest = kids_wanted env [] (drop (i + 1) parts) in
      let whole : kids_wanted env [] (drop i parts) ≡ kid_wanted env [] form ∷ rest = ap (kids_wanted env []) (drop_more parts i d h) ∙ ap (λ part. kids_wanted env [] (part ∷ drop (i + 1) parts)) is in
      ap (λ ws. ws ++ kids_open rest further left) (open_push xs run)
      ∙ (λ i. (open_places xs ++ replicate (suc (one i)) (wanted i)) ++ kids_open rest further left)
      ∙ append_assoc (open_places xs) (kid_wanted env [] form ∷ []) (kids_open rest further left)
      ∙ ap (λ ws. open_places xs ++ kids_open ws further (suc left)) (sym whole)

  -- the further kids open the rest
  pub open_rest : (parts : List Part) (i : ℕ) (further : Wanted) (left : ℕ) (xs : List Pending) (run : Pending) → length parts ≤ i → wanted_seen run.wanted ≡ further → suc run.more ≡ left
      → open_places (xs ++ run ∷ []) ≡ open_places xs ++ kids_open (kids_wanted env [] (drop i parts)) further left
  open_rest parts i further left xs run all wanted many =
      open_push xs run ∙ (λ i. open_places xs ++ replicate (many i) (wanted i)) ∙ ap (λ ws. open_places xs ++ ws) (all_further further left)
      ∙ ap (λ ps. open_places xs ++ kids_open (kids_wanted env [] ps) further left) (sym (drop_all i parts all))

-- ---- one more operand

both_alike : (ss : List (Option Sort)) (s t : Sort) → are_alike (ss ++ Some s ∷ [] ++ Some t ∷ []) ≡ (are_alike (ss ++ Some s ∷ []) && same_sort s t)
both_alike [] s t = and-true (same_sort s t)
both_alike (r ∷ []) s t = ap (λ b. are_of_one_sort r (Some s) && b) (and-true (same_sort s t)) ∙ ap (λ b. b && same_sort s t) (sym (and-true (are_of_one_sort r (Some s))))
both_alike (r ∷ u ∷ ss) s t = ap (λ b. are_of_one_sort r u && b) (both_alike (u ∷ ss) s t) ∙ sym (and_assoc (are_of_one_sort r u) (are_alike (u ∷ ss ++ Some s ∷ [])) (same_sort s t))

alike_more : (front : List (Option Sort)) (s : Sort) (first : Option Sort) → are_alike (front ++ Some s ∷ [] ++ sort_behind first) ≡ (are_alike (front ++ Some s ∷ []) && is_like s first)
alike_more front s None = ap are_alike (append-nil (front ++ Some s ∷ [])) ∙ sym (and-true (are_alike (front ++ Some s ∷ [])))
alike_more front s (Some t) = both_alike front s t

pub alike_with : (front : List (Option Sort)) (place : Option code.Wanted) (s : Sort) (first : Option Sort) (alike like : Bool) → is_some place ≡ false → alike ≡ true → like ≡ is_like s first
    → (are_alike (front ++ sort_open place s ++ sort_behind first) && alike) ≡ (are_alike (front ++ Some s ∷ []) && like)
alike_with front (Some w) s first alike like no_place on is = absurd (cc)
alike_with front None s first alike like no_place on is =
    ap (λ b. are_alike (front ++ Some s ∷ [] ++ sort_behind first) && b) on
    ∙ and-true (are_alike (front ++ Some s ∷ [] ++ sort_behind first))
    ∙ alike_more front s first ∙ ap (λ b. are_alike (front ++ Some s ∷ []) && b) (sym is)

-- ---- terms in places

module _ {A : Type 0} (f : Option Wanted → Phrase → List A) where
  -- what the terms give in their places, both lists with the last one first: the terms that no place wants are operands
  placed : List Wanted → List Phrase → List A
  placed ws [] = []
  placed [] (p ∷ ps) = placed [] ps ++ f None p
  placed (w ∷ ws) (p ∷ ps) = placed ws ps ++ f (Some w) p

  pub in_places : List Wanted → List Phrase → List A
  in_places ws ps = placed (reverse ws) (reverse ps)

  -- the terms of as many places
  abbrev pub one_each : List Wanted → List Phrase → List A
  one_each [] ps = []
  one_each (w ∷ ws) [] = []
  one_each (w ∷ ws) (p ∷ ps) = f (Some w) p ++ one_each ws ps

  pub in_none : (ws : List Wanted) → in_places ws [] ≡ []
  unfolding placed in_places
  in_none ws = refl

  -- the last term in the last place
  last_place : (ws : List Wanted) (w : Wanted) (ps : List Phrase) (p : Phrase) → in_places (ws ++ w ∷ []) (ps ++ p ∷ []) ≡ in_places ws ps ++ f (Some w) p
  unfolding placed in_places
  last_place ws w ps p = λ i. placed (reverse-append ws (w ∷ []) i) (reverse-append ps (p ∷ []) i)

  last_operand : (ps : List Phrase) (p : Phrase) → in_places [] (ps ++ p ∷ []) ≡ in_places [] ps ++ f None p
  unfolding placed in_places
  last_operand ps p = ap (placed []) (reverse-append ps (p ∷ []))

  pub in_last : (xs ys : List Pending) (place : Option code.Wanted) (ps : List Phrase) (p : Phrase) → open_places xs ≡ open_places ys ++ place_open place → (place ≡ None → ys ≡ [])
      → in_places (open_places xs) (ps ++ p ∷ []) ≡ in_places (open_places ys) ps ++ f (option_map wanted_seen place) p
  in_last xs ys (Some w) ps p is none = ap (λ ws. in_places ws (ps ++ p ∷ [])) is ∙ last_place (open_places ys) (wanted_seen w) ps p
  in_last xs ys None ps p is none =
      let empty = none refl in
      ap (λ ws. in_places ws (ps ++ p ∷ [])) (is ∙ append-nil (open_places ys) ∙ ap open_places empty) ∙ last_operand ps p ∙ ap (λ ys. in_places (open_places ys) ps ++ f None p) (sym empty)

  -- more terms in as many places more
  pub in_more : (ws vs : List Wanted) (ps qs : List Phrase) → length vs ≡ length qs → in_places (ws ++ vs) (ps ++ qs) ≡ in_places ws ps ++ one_each vs qs
  in_more ws [] ps [] same = (λ i. in_places (append-nil ws i) (append-nil ps i)) ∙ sym (append-nil (in_places ws ps))
  in_more ws [] ps (q ∷ qs) same = absurd (cc)
  in_more ws (v ∷ vs) ps [] same = absurd (cc)
  in_more ws (v ∷ vs) ps (q ∷ qs) same =
      (λ i. in_places (sym (append_assoc ws (v ∷ []) vs) i) (sym (append_assoc ps (q ∷ []) qs) i))
      ∙ in_more (ws ++ v ∷ []) vs (ps ++ q ∷ []) qs (omega (arith, same))
      ∙ ap (λ xs. xs ++ one_each vs qs) (last_place ws v ps q)
      ∙ append_assoc (in_places ws ps) (f (Some v) q) (one_each vs qs)

  -- at the end all are operands
  pub all_operands : (ps : List Phrase) → in_places [] ps ≡ flat_map (f None) ps
  all_operands ps = from [] ps ∙ ap (λ xs. xs ++ flat_map (f None) ps) (in_none [])
    where
      from : (ps qs : List Phrase) → in_places [] (ps ++ qs) ≡ in_places [] ps ++ flat_map (f None) qs
      from ps [] = ap (in_places []) (append-nil ps) ∙ sym (append-nil (in_places [] ps))
      from ps (q ∷ qs) =
          ap (in_places []) (sym (append_assoc ps (q ∷ []) qs)) ∙ from (ps ++ q ∷ []) qs
          ∙ ap (λ xs. xs ++ flat_map (f None) qs) (last_operand ps q)
          ∙ append_assoc (in_places [] ps) (f None q) (flat_map (f None) qs)
