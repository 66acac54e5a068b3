-- What callers may rely on at any moment of an interner.
use Rattle.std.specs.Prelude.{◌≡◌, ◌↔◌, ◌≤◌, List, length, Result, IsOk}
use Rattle.ir_core.specs.declared.errors.TermError.{TermError}
use Rattle.ir_core.specs.declared.handles.Part.{Part}
use Rattle.ir_laws.specs.Heap.{Grows, Holds, IsLive, Layer, tree_of}
use Rattle.ir_laws.specs.Held.{HoldsJust}
use Rattle.ir_laws.specs.Tree.{Term}
use Rattle.ir_table.specs.declared.Interner.{Interner}
use Rattle.ir_table.specs.Interner.{heap, state}
use Rattle.ir_table.specs.State.{NewAnswers, width}

-- two live handles of one sort, which names parts, are equal exactly where their trees are
abbrev pub AreTold : {T : Type 0} → (T → Part) → Type 0
AreTold {T} name = (cx : Interner) (x y : T) → IsLive (heap cx) (name x) → IsLive (heap cx) (name y) → (x ≡ y) ↔ (tree_of (heap cx) (name x) ≡ tree_of (heap cx) (name y))

-- the same of parts of any sort
abbrev pub PartsAreTold : Type 0
PartsAreTold = AreTold {T = Part} (λ p. p)

-- the number of parts is the length of the set of trees that are held
abbrev pub PartsAreCounted : Type 0
PartsAreCounted = (cx : Interner) (ts : List Term) → HoldsJust (heap cx) ts → (state cx).count ≡ length ts

-- whatever a call answers that makes a handle of one sort, which names parts, older parts stay as they are
abbrev pub OnlyAdds : {T : Type 0} → (T → Part) → Type 0
OnlyAdds {T} name = (old new : Interner) (l : Layer Part) (r : Result T TermError) → NewAnswers name (state old) (state new) l r → Grows (heap old) (heap new)

-- a node that is held already, with at most eight items, is given, and no memory is wanted
abbrev pub AreGiven : {T : Type 0} → (T → Part) → Type 0
AreGiven {T} name = (old new : Interner) (l : Layer Part) (r : Result T TermError) → Holds (heap old) l → width l ≤ 8 → NewAnswers name (state old) (state new) l r → IsOk r
