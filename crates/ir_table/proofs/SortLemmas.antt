-- What `new` answers for one sort of parts: what its table's heap says of it is the record IsSort.
use Rattle.std.proofs.Common.{◌≡◌, ℕ, ◌+◌, ◌<◌, ◌≤◌, true, List, length, slice_get, Result, Ok, Err, Some, ◌⊎◌, inl, inr, refl, sym, ap, ◌∙◌, is_some, true≢false, arith}
use Rattle.std.proofs.lemmas.Option.{same_Some}
use Rattle.ir_core.specs.Flags.{bits_of}
use Rattle.ir_table.specs.Table.{StandsAt, HasNone}
use Rattle.ir_laws.specs.Heap.{Heap, Layer, Sketch, IsLive, are_names, IsNode, IsSound, Adds, Grows, tree_of, tree_above}
use Rattle.ir_laws.specs.Held.{Counts}
use Rattle.ir_laws.specs.Limits.{Limits, capped, is_within}
use Rattle.ir_laws.specs.Tree.{Term}
use Rattle.ir_core.specs.declared.errors.TermError.{TermError}
use Rattle.ir_core.specs.declared.handles.Part.{Part}
use Rattle.ir_table.specs.declared.above.Above.{Above}
use Rattle.ir_table.specs.declared.info.CachedInfo.{CachedInfo}
use Rattle.ir_table.specs.Above.{IsAbove, KeptAs, Forbids, is_low}
use Rattle.ir_table.specs.Info.{sketch}
use Rattle.ir_nodes.specs.Fits.{layer_fits}
use Rattle.ir_laws.proofs.HeapLemmas.{sound_after, extends, grows, interns_new, live_only, live_at, tree_of-node, tree_kept}
use Rattle.ir_laws.proofs.HeldLemmas.{counts_after}
use Rattle.ir_table.proofs.AboveLemmas.{fits_above, outer_kept}
use Rattle.ir_core.specs.declared.errors.TermError.TheVariants as error
use Rattle.ir_table.specs.State.{State, IsNew, IsLow, NewAnswers, capacity, fits}
use Rattle.ir_table.proofs.StateLemmas.{answers_err, answers_held, answers_ok, is_new}

-- `push k` is the state s with k last in the table es, which has the parts of l's sort by their places
pub record IsSort (name : ℕ → Part) (l : Layer Part) (es : List (Sketch Part)) (s : State) (push : Sketch Part → State) : Type 0 where
  pub adds : (k : Sketch Part) → k.layer ≡ l → Adds s.heap (push k).heap (name (length es)) k
  pub fresh : HasNone es l → (q : Part) (k : Sketch Part) → s.heap q ≡ Some k → k.layer ≡ l → ⊥
  pub at : (i : ℕ) (k : Sketch Part) → slice_get es i ≡ Some k → k.layer ≡ l → s.heap (name i) ≡ Some k
  pub count : (k : Sketch Part) → (push k).count ≡ s.count + 1
  pub limits : (k : Sketch Part) → (push k).limits ≡ s.limits

-- each node fits
abbrev pub AllFit : Heap Part → Type 0
AllFit h = (p : Part) (s : Sketch Part) → h p ≡ Some s → layer_fits s.layer ≡ true

-- what stands in the tables, and within which bounds
pub record IsKept (s : State) : Type 0 where
  pub sound : IsSound s.heap
  pub fits : AllFit s.heap
  pub counted : Counts s.heap s.count
  pub few : s.count ≤ capacity s
  pub low : IsLow s

-- a layer over live names that fits, where the tables were kept well
pub record IsReady (name : ℕ → Part) (l : Layer Part) (es : List (Sketch Part)) (s : State) (push : Sketch Part → State) : Type 0 where
  pub sort : IsSort name l es s push
  pub kept : IsKept s
  pub node : IsNode s.heap (IsLive s.heap) l
  pub plain : are_names l.kids ≡ true
  pub fit : layer_fits l ≡ true

-- what `new` answers there
module _ {name : ℕ → Part} {l : Layer Part} {es : List (Sketch Part)} {s : State} {push : Sketch Part → State} (ready : IsReady name l es s push) where
  open ready use {sort, kept, node, plain, fit}

  pub new_held : (i : ℕ) → StandsAt es l i → NewAnswers name s s l (Ok i)
  new_held i k =
      let at = sort.at i k.0 k.1 k.2 in
      let here = kept.low (name i) (live_at s.heap (name i) k.0 at) in
      let tree = tree_of-node s.heap kept.sound (name i) k.0 at ∙ ap (tree_above s.heap) k.2 in
      answers_held s kept.sound l node name i k.0 at k.2 (ap (fits s) (sym tree) ∙ here)

  module _ (absent : HasNone es l) where
    new_is : IsNew s l
    new_is = is_new s kept.sound l node (sort.fresh absent)

    pub new_memory : (s' : State) → s' ≡ s → (r : Result ℕ TermError) → r ≡ Err error.Memory → NewAnswers name s s' l r
    new_memory s' same r e = rw e (answers_err name s s' l error.Memory same tt (λ f. absurd (cc f)) (λ f. absurd (cc f)) (λ _ _. new_is))

    -- what was computed of the node
    module _ (a : Above) (is : IsAbove s.heap l a) where
      fits_is : fits s (tree_above s.heap l) ≡ is_low (capped s.limits) a
      fits_is = fits_above s l a kept.sound kept.low plain node.kids is

      forbidden : (e : TermError) → Forbids s a e → NewAnswers name s s l (Err e)
      forbidden error.TooDeep deep = answers_err name s s l error.TooDeep refl tt (λ _. fits_is ∙ deep) (λ f. absurd (cc f)) (λ f. absurd (cc f))
      forbidden error.TooMany full = answers_err name s s l error.TooMany refl tt (λ f. absurd (cc f)) (λ _. (new_is, fits_is ∙ full.0, full.1)) (λ f. absurd (cc f))
      forbidden _ f = absurd f

      -- the limits forbid it
      pub new_forbidden : (e : TermError) → Forbids s a e → (r : Result ℕ TermError) → r ≡ Err e → NewAnswers name s s l r
      new_forbidden e f r is = rw is (forbidden e f)

      module _ (room : s.count < capacity s) (low : is_low (capped s.limits) a ≡ true) (c : CachedInfo) (cached : KeptAs c a) where
        abbrev last : Part
        last = name (length es)

        abbrev pushed : State
        pushed = push (sketch l c)

        fits_here : fits s (tree_above s.heap l) ≡ true
        fits_here = fits_is ∙ low

        adds : Adds s.heap pushed.heap last (sketch l c)
        adds = sort.adds (sketch l c) refl

        pushed_sound : IsSound pushed.heap
        pushed_sound = sound_after s.heap pushed.heap kept.sound last (sketch l c) adds node
            (cached.height ∙ is.height) (cached.size ∙ is.size) (ap bits_of cached.flags ∙ is.flags) (outer_kept s l a c fits_here is cached) (sort.fresh absent)

        pub new_made : (s' : State) (i : ℕ) → s' ≡ pushed → i ≡ length es → NewAnswers name s s' l (Ok i)
        new_made s' i made at_end = rw (made, at_end) (answers_ok name s pushed l (length es)
            (interns_new s.heap kept.sound l node pushed.heap last (sketch l c) adds pushed_sound refl) (rw adds.before (sort.count (sketch l c))) fits_here (inr room) (sort.limits (sketch l c)))

        pushed_fits : AllFit pushed.heap
        pushed_fits q t e = elim (adds.others q) [
          | inl here ↦ rw (← same_Some (sketch l c) t (sym adds.after ∙ ap pushed.heap (sym here) ∙ e)) fit
          | inr old ↦ kept.fits q t (sym old ∙ e)
        ]

        pushed_grows : Grows s.heap pushed.heap
        pushed_grows = grows s.heap kept.sound pushed.heap (extends s.heap pushed.heap kept.sound last (sketch l c) adds)

        pushed_only : (q : Part) → IsLive pushed.heap q → IsLive s.heap q ⊎ (q ≡ last)
        pushed_only = live_only s.heap pushed.heap kept.sound last (sketch l c) adds

        pushed_counted : Counts pushed.heap (s.count + 1)
        pushed_counted = counts_after s.heap pushed.heap last pushed_sound pushed_grows
            (λ live. true≢false (sym live ∙ ap is_some adds.before)) (live_at pushed.heap last (sketch l c) adds.after) pushed_only s.count kept.counted

        fits_as : {t u : Term} → t ≡ u → fits pushed t ≡ fits s u
        fits_as e = λ i. is_within (capped (sort.limits (sketch l c) i)) (e i)

        pushed_low : IsLow pushed
        pushed_low q live = elim (pushed_only q live) [
          | inl old ↦ fits_as (pushed_grows.tree q old) ∙ kept.low q old
          | inr here ↦
              let tree = tree_of-node pushed.heap pushed_sound last (sketch l c) adds.after ∙ tree_kept s.heap pushed.heap kept.sound last (sketch l c) adds l node in
              fits_as (ap (tree_of pushed.heap) here ∙ tree) ∙ fits_here
        ]

        pub pushed_kept : IsKept pushed
        pushed_kept =
            let count = sort.count (sketch l c) in
            let same = ap (λ (g : Limits). (capped g).nodes) (sort.limits (sketch l c)) in
            record { sound = pushed_sound; fits = pushed_fits; counted = rw count pushed_counted; few = omega arith; low = pushed_low }
