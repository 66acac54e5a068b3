-- A store that was asked for a node, before and after the node is put in.
use Rattle.std.proofs.Common.{◌≡◌, true, [], ◌∷◌, ◌++◌, List, Bool, Result, Ok, Err}
use Rattle.std.specs.Result.{OnOk, OnErr}
use Rattle.ir_core.specs.declared.handles.Part.{Part}
use Rattle.ir_core.specs.declared.limit.Limits.{Limits as GivenLimits}
use Rattle.ir_laws.specs.Heap.{Layer, Sketch, Each, IsLive, names_in}
use Rattle.ir_core.specs.declared.handles.PartSort.{PartSort}
use Rattle.ir_table.specs.declared.store.Store.{Store}
use Rattle.ir_table.specs.declared.store.Tables.{Tables}
use Rattle.ir_nodes.specs.Fits.{layer_fits, layer_sort, part_by}
use Rattle.ir_table.specs.Heaps.{heap_of}
use Rattle.ir_table.specs.Interner.{state_of, stored}
use Rattle.ir_table.specs.Tabled.{IsTable, is_owned}
use Rattle.ir_table.proofs.PartLemmas.{fits_names, is_sort, node_ok}
use Rattle.ir_table.proofs.SortLemmas.{IsKept, IsReady}

-- a store is kept well
kept : (s : Store) → IsKept (stored s)
kept s = record { sound = s.sound; fits = s.fits; counted = s.counted; few = s.few; low = s.low }

pub ready : {owns : PartSort → Bool} {entries : Tables → List (Sketch Part)} {put : Tables → List (Sketch Part) → Tables} (table : IsTable owns entries put)
    (s : Store) (l : Layer Part) → Each (IsLive (heap_of s.tables)) (names_in l) → layer_fits l ≡ true → is_owned owns (layer_sort l) ≡ true
    → IsReady (part_by (layer_sort l)) l (entries s.tables) (stored s) (λ k. state_of (put s.tables (entries s.tables ++ k ∷ [])) s.limits)
ready table s l live fit owned = record {
  sort = is_sort table s.tables s.limits l owned;
  kept = kept s;
  node = node_ok s.tables s.fits l fit live;
  plain = fits_names l fit;
  fit = fit;
}

-- the tables after a push that may fail
pub after : {R E : Type 0} (limits : GivenLimits) (old made : Tables) → IsKept (state_of old limits) → IsKept (state_of made limits) → (r : Result R E) (new : Tables) → OnOk r (new ≡ made) → OnErr r (new ≡ old) → IsKept (state_of new limits)
after limits old made kept_old kept_made (Ok x) new ok err = rw ok kept_made
after limits old made kept_old kept_made (Err e) new ok err = rw err kept_old
