use Rattle.std.proofs.Common.{◌≡◌, ◌∙◌, List, [], ◌∷◌, length, Some, ap, refl, sym, map, arith}
use Rattle.std.proofs.lemmas.List.{length-map}
use Rattle.std.specs.Int.Bits.{or_zero_r}
use Rattle.std.specs.Option.{option_map}
use Rattle.std.specs.Prelude.{bit_or}
use Rattle.ir_core.specs.Flags.{bits_of}
use Rattle.ir_core.specs.declared.flags.TypeFlags.{TypeFlags}
use Rattle.ir_core.specs.declared.handles.Part.TheVariants as part
use Rattle.ir_core.specs.declared.handles.PartSort.TheVariants as sort
use Rattle.ir_core.specs.declared.variables.BoundVarKind.{BoundVarKind}
use Rattle.ir_laws.specs.Counts.{binder_flag}
use Rattle.ir_laws.specs.Flag.{HAS_BINDER_VARS}
use Rattle.ir_laws.specs.Heap.{kinds_at}
use Rattle.ir_table.specs.Heaps.{heap_of}
use Rattle.ir_nodes.specs.Nodes.{node_layer, variable_seen}
use Rattle.ir_table.proofs.NodeLemmas.{no_variables}
use Rattle.ir_table.proofs.PartLemmas.{entry_within, kinds_in_list}
use Rattle.ir_table.proofs.store.Store.with_variables.Goals as goal
use Rattle.ir_table.proofs.store.Store.with_variables.Goals.{then-count-eq0, else-count-eq0}

pub returns-in_default-clause-variables : goal.returns-in_default-clause-variables
returns-in_default-clause-variables c = no_variables (heap_of c.args.self.now.tables) _ (ap (option_map part.BoundVarKinds) (sym c.binder.ensures ∙ c.in_default.is)) c.args.above

pub key-requires : goal.key-requires
key-requires c = let live = rw (sym c.binder.ensures ∙ c.in-Some.is) at c.requires in entry_within c.args.self.now.tables (part.BoundVarKinds c.in-Some.variables) sort.BoundVarKinds _ refl live.0 _ refl

-- an empty list of variables has no flag
flag : (vs : List BoundVarKind) (a b : TypeFlags) → (length vs ≡ 0 → b ≡ a) → ((length vs ≡ 0 → ⊥) → bits_of b ≡ bit_or (bits_of a) HAS_BINDER_VARS) → bits_of b ≡ bit_or (bits_of a) (binder_flag (Some (map variable_seen vs)))
flag [] a b none some = ap bits_of (none refl) ∙ sym (or_zero_r (bits_of a))
flag (v ∷ vs) a b none some = some (λ e. omega arith)

pub returns-clause-variables : goal.returns-clause-variables
returns-clause-variables c =
    let h = heap_of c.args.self.now.tables in
    let vs = c.as_slice-count.result.now in
    let bind : option_map (kinds_at h) (node_layer c.args.node.now).binder ≡ Some (map variable_seen vs) =
    rw (sym c.binder.ensures ∙ c.in-Some.is, kinds_in_list c.args.self.now.tables c.in-Some.variables c.key.result.now.items c.key.ensures, c.as_slice-count.ensures) in
    record {
      height = refl;
      size = rw bind (simp length-map (omega arith));
      flags = rw bind (flag vs c.args.above.flags c.if-count-eq0.flags
          (λ none. elim c.if-count-eq0.branch [ then-count-eq0 w ↦ w.flags-is | else-count-eq0 w ↦ absurd (w.if-count-eq0.false none) ])
          (λ some. elim c.if-count-eq0.branch [ then-count-eq0 w ↦ absurd (some w.if-count-eq0.true) | else-count-eq0 w ↦ ap bits_of w.flags-is ∙ w.union-flags.ensures tt ]));
      outer = refl;
      index = refl;
      number = refl;
    }
