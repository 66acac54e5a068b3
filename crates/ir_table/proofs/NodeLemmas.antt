-- What is computed of a node, step by step.
use Rattle.std.proofs.Common.{◌≡◌, ℕ, ◌+◌, ◌-◌, ◌≤◌, max, Bool, List, [], ◌∷◌, map, Option, None, is_some, if◌then◌else◌, inl, inr, refl, sym, ap, ◌∙◌, arith}
use Rattle.std.specs.Prelude.{bit_or}
use Rattle.std.specs.Int.Bits.{or_zero_r}
use Rattle.std.specs.Option.{option_map}
use Rattle.std.proofs.lemmas.Nat.Bits.{bit_at_or, same_from_bits}
use Rattle.ir_core.specs.Flags.{bits_of}
use Rattle.ir_core.specs.declared.flags.TypeFlags.{TypeFlags}
use Rattle.ir_core.specs.declared.handles.Part.{Part}
use Rattle.ir_core.specs.declared.ids.SolverDefId.{SolverDefId}
use Rattle.ir_core.specs.declared.variables.BoundVarKind.{BoundVarKind}
use Rattle.ir_laws.specs.Counts.{flags as flags_in, all_flags, binder_flag, outer as outer_in, outers}
use Rattle.ir_laws.specs.Heap.{Heap, OfNames, Layer, Each, IsLive, IsSound, forest, size_cap, kinds_among, kinds_at, tree_of, tree_above}
use Rattle.ir_laws.specs.Label.{row}
use Rattle.ir_laws.specs.Tree.{Label}
use Rattle.ir_laws.proofs.HeapLemmas.{flags_of_kids, outers_of_kids}
use Rattle.ir_table.specs.declared.above.Above.{Above}
use Rattle.ir_table.specs.Above.{tree_index, tree_number, alone, IsAbove, IsOwn, IsLeaf, WithKids, WithVariables}
use Rattle.ir_nodes.specs.Plain.{IsPlain, IsBare}
use Rattle.ir_nodes.specs.Nodes.{variable_seen, variable_field}

-- ---- flags

or_assoc : (a b c : ℕ) → bit_or (bit_or a b) c ≡ bit_or a (bit_or b c)
or_assoc a b c = same_from_bits (bit_or (bit_or a b) c) (bit_or a (bit_or b c)) (λ i. simp bit_at_or (omega arith))

-- ---- kids, one after another

pub with_none : (h : Heap Part) (a : Above) → WithKids h [] a a
with_none h a = record { height = omega arith; size = omega arith; flags = sym (or_zero_r (bits_of a.flags)); outer = omega arith; index = refl; number = refl }

pub with_then : (h : Heap Part) (p : Part) (ps : List Part) (a b c : Above) → WithKids h (p ∷ []) a b → WithKids h ps b c → WithKids h (p ∷ ps) a c
with_then h p ps a b c x y = record {
  height = omega arith;
  size = omega arith;
  flags = simp (y.flags, x.flags, or_zero_r, or_assoc);
  outer = omega arith;
  index = y.index ∙ x.index;
  number = y.number ∙ x.number;
}

-- ---- what the code's `begin` and `over` say

abbrev pub Begun : TypeFlags → Above → Type 0
Begun flags a = record { height : a.height ≡ 0; size : a.size ≡ 1; flags : a.flags ≡ flags; outer : a.outer ≡ 0; index : a.index ≡ 0; number : a.number ≡ 0 }

abbrev pub IsOver : Above → Bool → Above → Type 0
IsOver a binds b = record {
  height : b.height ≡ a.height + 1;
  size : b.size ≡ a.size;
  flags : b.flags ≡ a.flags;
  outer : b.outer ≡ (if binds then a.outer - 1 else a.outer);
  index : b.index ≡ a.index;
  number : b.number ≡ a.number;
}

-- ---- labels without variables and parameters

pub own_plain : (l : Label SolverDefId) → IsPlain l → (flags : TypeFlags) → bits_of flags ≡ (row l.word).flags → (a : Above) → Begun flags a → IsOwn l a
own_plain l plain flags same a begun = record {
  height = begun.height;
  size = omega arith;
  flags = simp (begun.flags, plain.leaf, or_zero_r, plain.flags) same;
  outer = rw plain.leaf begun.outer;
  index = rw plain.leaf begun.index;
  number = rw (plain.leaf, plain.number, tree_number) begun.number;
}

-- ---- lists without kids

pub leaf_above : (h : Heap Part) (l : Label SolverDefId) → IsPlain l → (row l.word).flags ≡ 0 → (a : Above) → IsLeaf a → IsAbove h (record { label = l; binder = None; kids = OfNames [] }) a
leaf_above h l plain none a leaf = record {
  height = leaf.height;
  size = omega arith;
  flags = simp (plain.leaf, or_zero_r, plain.flags, none) leaf.flags;
  outer = rw plain.leaf leaf.outer;
  index = rw plain.leaf leaf.index;
  number = rw (plain.leaf, plain.number, tree_number) leaf.number;
}

-- ---- the variables of a binder

pub kinds_of_fields : (vs : List BoundVarKind) → kinds_among (map variable_field vs) ≡ map variable_seen vs
kinds_of_fields [] = refl
kinds_of_fields (v ∷ vs) = ap (λ ks. variable_seen v ∷ ks) (kinds_of_fields vs)

pub no_variables : (h : Heap Part) (l : Layer Part) → l.binder ≡ None → (a : Above) → WithVariables h l a a
no_variables h l none a = record {
  height = refl;
  size = rw none (omega arith);
  flags = rw none (sym (or_zero_r (bits_of a.flags)));
  outer = refl;
  index = refl;
  number = refl;
}

-- ---- the whole node

abbrev pub bound_layer : Label SolverDefId → Option Part → List Part → Layer Part
bound_layer l o ps = record { label = l; binder = o; kids = OfNames ps }

module _ (h : Heap Part) (sound : IsSound h) where
  -- the tree of a bare layer, by the tree of its label alone
  record ByLabel (l : Label SolverDefId) (o : Option Part) (ps : List Part) : Type 0 where
    flags : flags_in (tree_above h (bound_layer l o ps)) ≡ bit_or (bit_or (flags_in (alone l)) (binder_flag (option_map (kinds_at h) o))) (all_flags (forest (tree_of h) ps))
    outer : outer_in (tree_above h (bound_layer l o ps)) ≡ (if is_some o then max (outer_in (alone l)) (outers (forest (tree_of h) ps)) - 1 else max (outer_in (alone l)) (outers (forest (tree_of h) ps)))
    index : tree_index (tree_above h (bound_layer l o ps)) ≡ tree_index (alone l)
    number : tree_number (tree_above h (bound_layer l o ps)) ≡ tree_number (alone l)

  by_label : (l : Label SolverDefId) (o : Option Part) (ps : List Part) → IsBare (bound_layer l o ps) → ByLabel l o ps
  by_label l None [] bare = record { flags = simp or_zero_r; outer = omega arith; index = refl; number = refl }
  by_label l o ps (inl none) = record { flags = simp (none, or_zero_r); outer = rw none (omega arith); index = rw none; number = rw none }
  by_label l o ps (inr w) = absurd cc

  -- what is computed of the label, its variables and its kids is that of the layer
  pub is_above : (l : Label SolverDefId) (o : Option Part) (ps : List Part) → Each (IsLive h) ps → IsBare (bound_layer l o ps) → (own bound all r : Above) (binds : Bool) → IsOwn l own → WithVariables h (bound_layer l o ps) own bound → WithKids h ps bound all
      → all.size ≤ size_cap → binds ≡ is_some o → IsOver all binds r → IsAbove h (bound_layer l o ps) r
  is_above l o ps live bare own bound all r binds is more kids capped same counted =
      let tree = by_label l o ps bare in
      let flags = flags_of_kids h sound (OfNames ps) live in
      let outer = outers_of_kids h sound (OfNames ps) live in
      let all_outer : all.outer ≡ max (outer_in (alone l)) (outers (forest (tree_of h) ps)) = omega arith in
      record {
        height = omega arith;
        size = omega arith;
        flags = rw (counted.flags, kids.flags, more.flags, is.flags, tree.flags, flags);
        outer = rw (counted.outer, same, all_outer, tree.outer);
        index = counted.index ∙ kids.index ∙ more.index ∙ is.index ∙ sym tree.index;
        number = counted.number ∙ kids.number ∙ more.number ∙ is.number ∙ sym tree.number;
      }
