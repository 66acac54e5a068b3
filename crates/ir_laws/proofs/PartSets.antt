-- Sets of parts.
use Rattle.std.proofs.Common.{◌≡◌, suc, ◌<◌, ◌≤◌, Bool, true, false, not, List, [], ◌∷◌, ◌++◌, length, flat_map, ◌⊎◌, inl, inr, ⊎_elim, refl, sym, ap, ◌∙◌, true≢false, arith}
use Rattle.std.proofs.Math.Logic.{⊎_map, ⊎_swap}
use Rattle.std.specs.List.{list_all}
use Rattle.ir_laws.specs.Tree.{Term}
use Rattle.ir_laws.specs.Same.{same_term}
use Rattle.ir_laws.specs.Parts.{parts, is_part, is_set, with_part, with_each_part, with_parts_of}
use Rattle.std.proofs.lemmas.Bool.{and_parts, and_from}
use Rattle.ir_laws.proofs.SameTerm.{term_decides}

-- of two tests one after the other, either holds
either_holds : (x y : Bool) → elim x [ true ↦ true | false ↦ y ] ≡ true → (x ≡ true) ⊎ (y ≡ true)
either_holds true y e = inl refl
either_holds false y e = inr e

one_holds : (x y : Bool) → x ≡ true → elim x [ true ↦ true | false ↦ y ] ≡ true
one_holds true y e = refl
one_holds false y e = absurd (true≢false (sym e))

other_holds : (x y : Bool) → y ≡ true → elim x [ true ↦ true | false ↦ y ] ≡ true
other_holds true y e = refl
other_holds false y e = e

-- an empty list, and one that begins with u
pub no_part : (t : Term) → is_part [] t ≡ true → ⊥
no_part t e = true≢false (sym e)

pub part_is : (u : Term) (ts : List Term) (t : Term) → u ≡ t → is_part (u ∷ ts) t ≡ true
part_is u ts t e = one_holds (same_term u t) (is_part ts t) ((term_decides u t).1 e)

pub part_here : (t : Term) (ts : List Term) → is_part (t ∷ ts) t ≡ true
part_here t ts = part_is t ts t refl

pub part_further : (u : Term) (ts : List Term) (t : Term) → is_part ts t ≡ true → is_part (u ∷ ts) t ≡ true
part_further u ts t e = other_holds (same_term u t) (is_part ts t) e

pub part_of_cons : (u : Term) (ts : List Term) (t : Term) → is_part (u ∷ ts) t ≡ true → (u ≡ t) ⊎ (is_part ts t ≡ true)
part_of_cons u ts t e = ⊎_map (term_decides u t).0 (λ x. x) (either_holds (same_term u t) (is_part ts t) e)

-- two lists, one after the other
pub part_left : (xs ys : List Term) (t : Term) → is_part xs t ≡ true → is_part (xs ++ ys) t ≡ true
part_left [] ys t e = absurd (no_part t e)
part_left (x ∷ xs) ys t e = ⊎_elim (part_is x (xs ++ ys) t) (λ further. part_further x (xs ++ ys) t (part_left xs ys t further)) (part_of_cons x xs t e)

pub part_right : (xs ys : List Term) (t : Term) → is_part ys t ≡ true → is_part (xs ++ ys) t ≡ true
part_right [] ys t e = e
part_right (x ∷ xs) ys t e = part_further x (xs ++ ys) t (part_right xs ys t e)

pub part_of_append : (xs ys : List Term) (t : Term) → is_part (xs ++ ys) t ≡ true → (is_part xs t ≡ true) ⊎ (is_part ys t ≡ true)
part_of_append [] ys t e = inr e
part_of_append (x ∷ xs) ys t e = ⊎_elim
    (λ here. inl (part_is x xs t here))
    (λ further. ⊎_map (part_further x xs t) (λ right. right) (part_of_append xs ys t further))
    (part_of_cons x (xs ++ ys) t e)

-- a set with one more part
pub with_part_either : (held : List Term) (u t : Term) → is_part (with_part held u) t ≡ true → (is_part held t ≡ true) ⊎ (u ≡ t)
with_part_either held u t e = by (is_part held u) e
  where
    by : (b : Bool) → is_part (elim b [ true ↦ held | false ↦ u ∷ held ]) t ≡ true → (is_part held t ≡ true) ⊎ (u ≡ t)
    by true h = inl h
    by false h = ⊎_swap (part_of_cons u held t h)

pub with_part_held : (held : List Term) (u t : Term) → is_part held t ≡ true → is_part (with_part held u) t ≡ true
with_part_held held u t e = by (is_part held u)
  where
    by : (b : Bool) → is_part (elim b [ true ↦ held | false ↦ u ∷ held ]) t ≡ true
    by true = e
    by false = part_further u held t e

pub with_part_new : (held : List Term) (u : Term) → is_part (with_part held u) u ≡ true
with_part_new held u = by (is_part held u) refl
  where
    by : (b : Bool) → is_part held u ≡ b → is_part (elim b [ true ↦ held | false ↦ u ∷ held ]) u ≡ true
    by true e = e
    by false e = part_here u held

pub with_part_set : (held : List Term) (u : Term) → is_set held ≡ true → is_set (with_part held u) ≡ true
with_part_set held u set = by (is_part held u) refl
  where
    by : (b : Bool) → is_part held u ≡ b → is_set (elim b [ true ↦ held | false ↦ u ∷ held ]) ≡ true
    by true e = set
    by false e = and_from (not (is_part held u)) (is_set held) (ap not e) set

-- a set with more parts
pub with_each_held : (held ts : List Term) (t : Term) → is_part held t ≡ true → is_part (with_each_part held ts) t ≡ true
with_each_held held [] t e = e
with_each_held held (u ∷ ts) t e = with_each_held (with_part held u) ts t (with_part_held held u t e)

pub with_each_new : (held ts : List Term) (t : Term) → is_part ts t ≡ true → is_part (with_each_part held ts) t ≡ true
with_each_new held [] t e = absurd (no_part t e)
with_each_new held (u ∷ ts) t e = ⊎_elim
    (λ here. with_each_held (with_part held u) ts t (ap (is_part (with_part held u)) (sym here) ∙ with_part_new held u))
    (λ further. with_each_new (with_part held u) ts t further)
    (part_of_cons u ts t e)

pub with_each_either : (held ts : List Term) (t : Term) → is_part (with_each_part held ts) t ≡ true → (is_part held t ≡ true) ⊎ (is_part ts t ≡ true)
with_each_either held [] t e = inl e
with_each_either held (u ∷ ts) t e = ⊎_elim
    (λ first. ⊎_map (λ old. old) (part_is u ts t) (with_part_either held u t first))
    (λ further. inr (part_further u ts t further))
    (with_each_either (with_part held u) ts t e)

pub with_each_set : (held ts : List Term) → is_set held ≡ true → is_set (with_each_part held ts) ≡ true
with_each_set held [] set = set
with_each_set held (u ∷ ts) set = with_each_set (with_part held u) ts (with_part_set held u set)

-- a set with the parts of terms
pub with_parts_held : (held ts : List Term) (t : Term) → is_part held t ≡ true → is_part (with_parts_of held ts) t ≡ true
with_parts_held held [] t e = e
with_parts_held held (u ∷ ts) t e = with_parts_held (with_each_part held (parts u)) ts t (with_each_held held (parts u) t e)

pub with_parts_new : (held ts : List Term) (t : Term) → is_part (flat_map parts ts) t ≡ true → is_part (with_parts_of held ts) t ≡ true
with_parts_new held [] t e = absurd (no_part t e)
with_parts_new held (u ∷ ts) t e = ⊎_elim
    (λ here. with_parts_held (with_each_part held (parts u)) ts t (with_each_new held (parts u) t here))
    (λ further. with_parts_new (with_each_part held (parts u)) ts t further)
    (part_of_append (parts u) (flat_map parts ts) t e)

pub with_parts_either : (held ts : List Term) (t : Term) → is_part (with_parts_of held ts) t ≡ true → (is_part held t ≡ true) ⊎ (is_part (flat_map parts ts) t ≡ true)
with_parts_either held [] t e = inl e
with_parts_either held (u ∷ ts) t e = ⊎_elim
    (λ first. ⊎_map (λ old. old) (part_left (parts u) (flat_map parts ts) t) (with_each_either held (parts u) t first))
    (λ further. inr (part_right (parts u) (flat_map parts ts) t further))
    (with_parts_either (with_each_part held (parts u)) ts t e)

pub with_parts_set : (held ts : List Term) → is_set held ≡ true → is_set (with_parts_of held ts) ≡ true
with_parts_set held [] set = set
with_parts_set held (u ∷ ts) set = with_parts_set (with_each_part held (parts u)) ts (with_each_set held (parts u) set)

-- the members that are not u
abbrev pub without : Term → List Term → List Term
without u [] = []
without u (t ∷ ts) = elim (same_term u t) [ true ↦ without u ts | false ↦ t ∷ without u ts ]

module _ (u : Term) where
  pub without_held : (ts : List Term) (t : Term) → is_part ts t ≡ true → (u ≡ t → ⊥) → is_part (without u ts) t ≡ true
  without_held [] t e other = e
  without_held (x ∷ xs) t e other = by (same_term u x) refl (part_of_cons x xs t e) (λ further. without_held xs t further other)
    where
      by : (b : Bool) → same_term u x ≡ b → (x ≡ t) ⊎ (is_part xs t ≡ true) → (is_part xs t ≡ true → is_part (without u xs) t ≡ true)
          → is_part (elim b [ true ↦ without u xs | false ↦ x ∷ without u xs ]) t ≡ true
      by true same (inl here) rest = absurd (other ((term_decides u x).0 same ∙ here))
      by true same (inr further) rest = rest further
      by false same (inl here) rest = part_is x (without u xs) t here
      by false same (inr further) rest = part_further x (without u xs) t (rest further)

  pub without_only : (ts : List Term) (t : Term) → is_part (without u ts) t ≡ true → (is_part ts t ≡ true) × (u ≡ t → ⊥)
  without_only [] t e = absurd (no_part t e)
  without_only (x ∷ xs) t e = by (same_term u x) refl e (λ w. let r = without_only xs t w in (part_further x xs t r.0, r.1))
    where
      by : (b : Bool) → same_term u x ≡ b → is_part (elim b [ true ↦ without u xs | false ↦ x ∷ without u xs ]) t ≡ true
          → (is_part (without u xs) t ≡ true → (is_part (x ∷ xs) t ≡ true) × (u ≡ t → ⊥)) → (is_part (x ∷ xs) t ≡ true) × (u ≡ t → ⊥)
      by true same w rest = rest w
      by false same w rest = ⊎_elim
          (λ here. (part_is x xs t here, λ equal. true≢false (sym ((term_decides u x).1 (equal ∙ sym here)) ∙ same)))
          rest (part_of_cons x (without u xs) t w)

  pub without_set : (ts : List Term) → is_set ts ≡ true → is_set (without u ts) ≡ true
  without_set [] set = set
  without_set (x ∷ xs) set =
      let both = and_parts (not (is_part xs x)) (is_set xs) set in
      by (same_term u x) (absent (is_part (without u xs) x) refl both.0) (without_set xs both.1)
    where
      absent : (b : Bool) → is_part (without u xs) x ≡ b → not (is_part xs x) ≡ true → not b ≡ true
      absent true e lacks = sym (ap not (without_only xs x e).0) ∙ lacks
      absent false e lacks = refl

      by : (b : Bool) → not (is_part (without u xs) x) ≡ true → is_set (without u xs) ≡ true → is_set (elim b [ true ↦ without u xs | false ↦ x ∷ without u xs ]) ≡ true
      by true lacks rest = rest
      by false lacks rest = and_from (not (is_part (without u xs) x)) (is_set (without u xs)) lacks rest

  without_short : (ts : List Term) → length (without u ts) ≤ length ts
  without_short [] = omega arith
  without_short (x ∷ xs) = by (same_term u x) (without_short xs)
    where
      by : (b : Bool) → length (without u xs) ≤ length xs → length {A = Term} (elim b [ true ↦ without u xs | false ↦ x ∷ without u xs ]) ≤ suc (length xs)
      by true r = omega arith
      by false r = omega arith

  pub without_shorter : (ts : List Term) → is_part ts u ≡ true → length (without u ts) < length ts
  without_shorter [] e = absurd (no_part u e)
  without_shorter (x ∷ xs) e = by (same_term u x) refl (part_of_cons x xs u e) (without_short xs) (without_shorter xs)
    where
      by : (b : Bool) → same_term u x ≡ b → (x ≡ u) ⊎ (is_part xs u ≡ true) → length (without u xs) ≤ length xs
          → (is_part xs u ≡ true → length (without u xs) < length xs) → length {A = Term} (elim b [ true ↦ without u xs | false ↦ x ∷ without u xs ]) < suc (length xs)
      by true same w short rest = omega arith
      by false same (inl here) short rest = absurd (true≢false (sym ((term_decides u x).1 (sym here)) ∙ same))
      by false same (inr further) short rest = let r = rest further in omega arith

-- a set is no longer than a list that has all its members, and shorter where that has one more
pub no_longer : (ts us : List Term) → is_set ts ≡ true → ((t : Term) → is_part ts t ≡ true → is_part us t ≡ true) → length ts ≤ length us
no_longer [] us set all = omega arith
no_longer (t ∷ ts) us set all =
    let both = and_parts (not (is_part ts t)) (is_set ts) set in
    let less = without_shorter t us (all t (part_here t ts)) in
    let rest = no_longer ts (without t us) both.1 (λ x e. without_held t us x (all x (part_further t ts x e))
    (λ same. true≢false (sym both.0 ∙ ap not (ap (is_part ts) same ∙ e)))) in
    omega arith

pub shorter : (ts us : List Term) → is_set ts ≡ true → ((t : Term) → is_part ts t ≡ true → is_part us t ≡ true)
    → (u : Term) → is_part us u ≡ true → (is_part ts u ≡ true → ⊥) → length ts < length us
shorter ts us set all u has lacks =
    let less = without_shorter u us has in
    let rest = no_longer ts (without u us) set (λ t e. without_held u us t (all t e) (λ same. lacks (ap (is_part ts) same ∙ e))) in
    omega arith

-- only u is gone
pub without_one : (u : Term) (ts : List Term) → is_set ts ≡ true → length ts ≤ suc (length (without u ts))
without_one u ts set = no_longer ts (u ∷ without u ts) set (λ t e. by t e (same_term u t) refl)
  where
    by : (t : Term) → is_part ts t ≡ true → (b : Bool) → same_term u t ≡ b → is_part (u ∷ without u ts) t ≡ true
    by t e true same = part_is u (without u ts) t ((term_decides u t).0 same)
    by t e false same = part_further u (without u ts) t (without_held u ts t e (λ equal. true≢false (sym ((term_decides u t).1 equal) ∙ same)))

-- the members of a list that passes are in the set
pub by_test : (ts us : List Term) → list_all (is_part us) ts ≡ true → (t : Term) → is_part ts t ≡ true → is_part us t ≡ true
by_test [] us all t e = absurd (no_part t e)
by_test (x ∷ xs) us all t e =
    let both = and_parts (is_part us x) (list_all (is_part us) xs) all in
    ⊎_elim (λ here. ap (is_part us) (sym here) ∙ both.0) (by_test xs us both.1 t) (part_of_cons x xs t e)
