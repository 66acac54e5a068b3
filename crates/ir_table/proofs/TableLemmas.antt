-- What a look-up in a map's entries says of the list of pairs.
use Rattle.std.proofs.Common.{◌≡◌, ℕ, zero, suc, ◌<◌, Bool, true, false, List, [], ◌∷◌, ◌++◌, length, get_or, map, slice_get, position, Option, None, Some, IfSome, IfNone, is_some, ◌⊎◌, ⊎_elim, inl, inr, refl, sym, ap, ◌∙◌, true≢false, arith}
use Rattle.std.proofs.lemmas.List.{length-map, get_or-map}
use Rattle.std.proofs.lemmas.List.Quantifiers.{position-Some}
use Rattle.std.proofs.lemmas.Option.{slice_get-get_or, slice_get-map, none-some, same_Some}
use Rattle.std.proofs.lemmas.Map.Entries.{place_from_lookup}
use Rattle.std.proofs.lemmas.Map.{NonePasses, none_passes_from_lookup}
use Rattle.std.specs.Option.{option_map}
use Rattle.ir_core.specs.declared.handles.Part.{Part}
use Rattle.ir_laws.specs.Heap.{Layer, Sketch}
use Rattle.ir_table.specs.declared.info.CachedInfo.{CachedInfo}
use Rattle.ir_table.specs.Info.{sketch}
use Rattle.ir_table.specs.Table.{StandsAt, HasNone}
use Rattle.std.specs.Map.{keys_of, lookup}

module _ {K V : Type 0} (test : K → Bool) where
  -- a pair whose key passes stands at the index that was found
  found_at : (es : List (K × V)) (i : ℕ) → position test (keys_of es) ≡ Some i → (e : K × V) × (slice_get es i ≡ Some e) × (test e.0 ≡ true)
  found_at [] i p = absurd (none-some i p)
  found_at (e ∷ es) i p =
      let q = position-Some test (keys_of (e ∷ es)) i e.0 p in
      let n = length-map (e ∷ es) (λ (x : K × V). x.0) in
      let within : i < length (e ∷ es) = omega (arith, q.0) in (
        get_or (e ∷ es) i e,
        slice_get-get_or (e ∷ es) i e within,
        sym (ap test (get_or-map (λ (x : K × V). x.0) (e ∷ es) i e e.0 within)) ∙ q.1,
      )

  none_at : (es : List (K × V)) (i : ℕ) (e : K × V) → NonePasses test es → slice_get es i ≡ Some e → test e.0 ≡ false
  none_at [] i e none at = absurd (none-some e at)
  none_at (x ∷ xs) zero e none at = ap (λ (y : K × V). test y.0) (sym (same_Some x e at)) ∙ none.0
  none_at (x ∷ xs) (suc i) e none at = none_at xs i e none.1 at

-- the pair that goes last, and the others
pub slice_get_push : {X : Type 0} (xs : List X) (x : X) → slice_get (xs ++ x ∷ []) (length xs) ≡ Some x
slice_get_push [] x = refl
slice_get_push (y ∷ ys) x = slice_get_push ys x

pub slice_get_push_cases : {X : Type 0} (xs : List X) (x : X) (i : ℕ) → ((i ≡ length xs) × (slice_get (xs ++ x ∷ []) i ≡ Some x) × (slice_get xs i ≡ None)) ⊎ (slice_get (xs ++ x ∷ []) i ≡ slice_get xs i)
slice_get_push_cases [] x zero = inl (refl, refl, refl)
slice_get_push_cases [] x (suc i) = inr refl
slice_get_push_cases (y ∷ ys) x zero = inr refl
slice_get_push_cases (y ∷ ys) x (suc i) = ⊎_elim (λ w. inl (ap suc w.0, w.1, w.2)) (λ e. inr e) (slice_get_push_cases ys x i)

-- the nodes of pairs, by the layers of their keys
abbrev pub sketches : {K : Type 0} → (K → Layer Part) → List (K × CachedInfo) → List (Sketch Part)
sketches c es = map (λ e. sketch (c e.0) e.1) es

pub sketch_at : {K : Type 0} (c : K → Layer Part) (es : List (K × CachedInfo)) (i : ℕ) (o : Option (K × CachedInfo)) → slice_get es i ≡ o → slice_get (sketches c es) i ≡ option_map (λ e. sketch (c e.0) e.1) o
sketch_at {K = K} c es i o e = slice_get-map (λ (e : K × CachedInfo). sketch (c e.0) e.1) es i ∙ ap (option_map (λ (e : K × CachedInfo). sketch (c e.0) e.1)) e

-- A map whose test says of each key whether its layer is that of the key that is sought.
module _ {K : Type 0} (c : K → Layer Part) (key : K) (test : K → Bool) (exact : (k : K) → (test k ≡ true → c key ≡ c k) × (c key ≡ c k → test k ≡ true)) (es : List (K × CachedInfo)) where
  none : lookup test es ≡ None → HasNone (sketches c es) (c key)
  none n i s = by (slice_get es i) refl
    where
      by : (o : Option (K × CachedInfo)) → slice_get es i ≡ o → ⊥
      by None e = none-some s.0 (sym (sketch_at c es i None e) ∙ s.1)
      by (Some p) e =
          let layers = ap (λ (u : Sketch Part). u.layer) (same_Some (sketch (c p.0) p.1) s.0 (sym (sketch_at c es i (Some p) e) ∙ s.1)) ∙ s.2 in
          true≢false (sym ((exact p.0).1 (sym layers)) ∙ none_at test es i p (none_passes_from_lookup test es n) e)

  pub lookup_none : HasNone (sketches c es) (c key) → lookup test es ≡ None
  lookup_none lacks = by (lookup test es) refl
    where
      by : (o : Option CachedInfo) → lookup test es ≡ o → lookup test es ≡ None
      by None e = e
      by (Some v) e =
          let p = place_from_lookup test es v e in
          absurd (lacks p.0 (sketch (c p.1) v, sketch_at c es p.0 (Some (p.1, v)) p.2, sym ((exact p.1).0 p.3)))

  pub answers_found : (r : Option ℕ) → r ≡ position test (keys_of es) → IfSome r (StandsAt (sketches c es) (c key))
  answers_found None e = tt
  answers_found (Some i) e =
      let f = found_at test es i (sym e) in
      (sketch (c f.0.0) f.0.1, sketch_at c es i (Some f.0) f.1, sym ((exact f.0.0).0 f.2))

  pub answers_absent : (r : Option ℕ) → is_some r ≡ is_some (lookup test es) → IfNone r (HasNone (sketches c es) (c key))
  answers_absent (Some i) e = tt
  answers_absent None e = by (lookup test es) refl
    where
      by : (o : Option CachedInfo) → lookup test es ≡ o → HasNone (sketches c es) (c key)
      by None f = none f
      by (Some v) f = absurd (true≢false (sym (e ∙ ap is_some f)))
