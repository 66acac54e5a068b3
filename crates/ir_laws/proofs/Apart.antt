-- A reading under distinct levels is read back, so terms with one reading are one.
use Rattle.std.proofs.Common.{◌≡◌, ◌≢◌, ℕ, zero, suc, ◌+◌, ◌-◌, ◌<◌, ◌≤◌, List, [], ◌∷◌, length, get_or, Some, None, All, true, false, nat_lt, refl, sym, ap, ap₂, ◌∙◌, arith, ⊎_elim, lt-ltb, le-ltb, eq-eqb, ne_eqb}
use Rattle.std.specs.List.{AllPairs}
use Rattle.std.proofs.lemmas.Bool.{cases_lt}
use Rattle.std.proofs.lemmas.List.Elements.{All-get_or}
use Rattle.ir_core.specs.declared.ids.SolverDefId.{SolverDefId}
use Rattle.ir_laws.specs.Tree.{Kind, Var, Param, Node, End, And, Term, Terms}
use Rattle.ir_laws.specs.Reading.{Place, Level, Outside, Named, Nameds, Plus, Placed, outside, at_level, number_by, kind_by, look, Frame, Put, frame_var, read, reads, position_of}
use Rattle.ir_laws.specs.Laws.{level_frames, ReadsApart}
use Rattle.ir_laws.proofs.Frames.{wrap, within, past}

-- the position of an element of a list without repeats
position-get : (ls : List ℕ) (i : ℕ) → AllPairs (λ x y. x ≢ y) ls → i < length ls → position_of ls (get_or ls i 0) ≡ i
position-get [] i p h = absurd (omega arith)
position-get (l ∷ ls) zero p h = ap (λ b. elim b [ true ↦ 0 | false ↦ suc (position_of ls l) ]) (eq-eqb l l refl)
position-get (l ∷ ls) (suc i) p h =
    ap (λ b. elim b [ true ↦ 0 | false ↦ suc (position_of ls (get_or ls i 0)) ]) (ne_eqb l (get_or ls i 0) (p 0 (suc i) 0 (omega arith) h))
    ∙ ap suc (position-get ls i (λ a b d u v. p (suc a) (suc b) d (omega arith) (omega arith)) (omega arith))

look-in : (off : ℕ → Frame) (ls : List ℕ) (i : ℕ) → i < length ls → look off (level_frames ls) i ≡ Put (at_level (get_or ls i 0))
look-in off [] i h = absurd (omega arith)
look-in off (l ∷ ls) zero h = refl
look-in off (l ∷ ls) (suc i) h = look-in off ls i (omega arith)

look-past : (off : ℕ → Frame) (ls : List ℕ) (i : ℕ) → length ls ≤ i → look off (level_frames ls) i ≡ off (i - length ls)
look-past off [] i h = ap off (omega arith)
look-past off (l ∷ ls) zero h = absurd (omega arith)
look-past off (l ∷ ls) (suc i) h = look-past off ls i (omega arith) ∙ ap off (omega arith)

module _ (ls : List ℕ) (d out : ℕ) where
  -- the index of a place, under m binders of which e are inside
  abbrev index_in : ℕ → ℕ → Place → ℕ
  index_in m e (Level l) = elim (nat_lt l d) [ true ↦ e + position_of ls l | false ↦ m - 1 - l ]
  index_in m e (Outside k) = e + length ls + k - out

  abbrev mutual
    unread : ℕ → ℕ → Named → Term
    unread m e (Var p n k) = Var (index_in m e p) n k
    unread m e (Param p) = Param p
    unread m e (Node l None ts) = Node l None (unreads m e ts)
    unread m e (Node l (Some b) ts) = Node l (Some b) (unreads (suc m) (suc e) ts)

    unreads : ℕ → ℕ → Nameds → Terms
    unreads m e End = End
    unreads m e (And t ts) = And (unread m e t) (unreads m e ts)

  abbrev inner : ℕ → Frame
  inner l = Put (at_level l)

  abbrev off : ℕ → Frame
  off r = Put (outside (r + out))

  abbrev frames : ℕ → ℕ → List Frame
  frames m e = wrap inner m e (level_frames ls)

  from_place : (m e i n : ℕ) (k : Kind SolverDefId) (p : Placed) → look off (frames m e) i ≡ Put p → p.by ≡ Plus 0 → index_in m e p.place ≡ i → unread m e (frame_var (look off (frames m e) i) n k m) ≡ Var i n k
  from_place m e i n k p h b q =
      ap (λ f. unread m e (frame_var f n k m)) h
      ∙ ap (λ r. Var (index_in m e p.place) (number_by r n) (kind_by r k)) b
      ∙ ap₂ (λ i n. Var i n k) q (omega arith)

  module _ (below : All (λ l. l < d) ls) (apart : AllPairs (λ x y. x ≢ y) ls) where
    var_unread : (m e i n : ℕ) (k : Kind SolverDefId) → m ≡ d + e → unread m e (frame_var (look off (frames m e) i) n k m) ≡ Var i n k
    var_unread m e i n k h =
        ⊎_elim
        (λ l. from_place m e i n k (at_level (m - 1 - i)) (within off inner _ m e i (omega arith) l) refl (ap (λ b. elim b [ true ↦ e + position_of ls (m - 1 - i) | false ↦ m - 1 - (m - 1 - i) ]) (le-ltb (m - 1 - i) d (omega arith)) ∙ omega arith))
        (λ l.
        let p = past off inner (level_frames ls) m e i (i - e) (omega arith) (omega arith) in
        ⊎_elim
        (λ w. from_place m e i n k (at_level (get_or ls (i - e) 0)) (p ∙ look-in off ls (i - e) w) refl
        (ap (λ b. elim b [ true ↦ e + position_of ls (get_or ls (i - e) 0) | false ↦ m - 1 - get_or ls (i - e) 0 ]) (lt-ltb (get_or ls (i - e) 0) d (All-get_or (λ x. x < d) ls (i - e) 0 w below))
        ∙ ap (λ x. e + x) (position-get ls (i - e) apart w) ∙ omega arith))
        (λ w. from_place m e i n k (outside (i - e - length ls + out)) (p ∙ look-past off ls (i - e) w) refl (omega arith))
        (cases_lt (i - e) (length ls)))
        (cases_lt i e)

    mutual
      read_unread : (t : Term) (m e : ℕ) → m ≡ d + e → unread m e (read t (frames m e) None out m) ≡ t
      read_unread (Var i n k) m e h = var_unread m e i n k h
      read_unread (Param p) m e h = refl
      read_unread (Node l None ts) m e h = ap (Node l None) (reads_unread ts m e h)
      read_unread (Node l (Some b) ts) m e h = ap (Node l (Some b)) (reads_unread ts (suc m) (suc e) (omega arith))

      reads_unread : (ts : Terms) (m e : ℕ) → m ≡ d + e → unreads m e (reads ts (frames m e) None out m) ≡ ts
      reads_unread End m e h = refl
      reads_unread (And t ts) m e h = ap₂ And (read_unread t m e h) (reads_unread ts m e h)

pub reads_apart : ReadsApart
reads_apart ls d out a b below apart h = sym (read_unread ls d out below apart a d 0 (omega arith)) ∙ ap (unread ls d out d 0) h ∙ read_unread ls d out below apart b d 0 (omega arith)
