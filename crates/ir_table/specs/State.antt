-- What a contract sees of an interner, and what a making call answers.
use Rattle.std.specs.Prelude.{◌≡◌, ℕ, ◌+◌, ◌<◌, ◌≤◌, ◌⊎◌, Bool, true, false, List, length, Result, Err, IfOk, IfErr, OnOk, OnErr, is_some, if◌then◌else◌}
use Rattle.ir_core.specs.declared.errors.TermError.{TermError}
use Rattle.ir_core.specs.declared.errors.TermError.TheVariants as error
use Rattle.ir_core.specs.declared.handles.Part.{Part}
use Rattle.ir_laws.specs.Heap.{Layer, Heap, kid_count, IsLive, Grows, Holds, Interns, tree_above, tree_of}
use Rattle.ir_laws.specs.Held.{Stands}
use Rattle.ir_laws.specs.Limits.{Limits, capped, is_within}
use Rattle.ir_laws.specs.Parts.{is_part}
use Rattle.ir_laws.specs.Tree.{Term}

-- the nodes by their names, how many there are, and the limits as they were given
pub record State : Type 0 where
  pub heap : Heap Part
  pub count : ℕ
  pub limits : Limits

-- how many parts there may be
abbrev pub capacity : State → ℕ
capacity s = (capped s.limits).nodes

-- the tree passes no limit
abbrev pub fits : State → Term → Bool
fits s t = is_within (capped s.limits) t

-- the node is in no table
abbrev pub IsNew : State → Layer Part → Type 0
IsNew s l = Holds s.heap l → ⊥

-- how many items a node keeps: those of a list, else its fields and its kids
abbrev pub width : Layer Part → ℕ
width l = length l.label.fields + kid_count l.kids

-- the refusals that a making call has
abbrev pub IsRefusal : TermError → Type 0
IsRefusal error.Escapes = ⊥
IsRefusal error.MissingVar = ⊥
IsRefusal e = Unit {0}

-- no tree passes a limit
abbrev pub IsLow : State → Type 0
IsLow s = (p : Part) → IsLive s.heap p → fits s (tree_of s.heap p) ≡ true

-- What a making call answers at a node of the layer; a handle stands for a part by `name`. It is too deep exactly where its tree passes a limit, and too many exactly where it isn't too deep nor held and the tables are full, unless memory is wanted. A held node takes no memory, unless it is a list of more than eight
pub record NewAnswers {T : Type 0} (name : T → Part) (old new : State) (l : Layer Part) (r : Result T TermError) : Type 0 where
  pub ok : IfOk r (λ t. Interns old.heap new.heap l (name t))
  pub count : IfOk r (λ t. new.count ≡ old.count + (if is_some (old.heap (name t)) then 0 else 1))
  pub low : OnOk r (fits old (tree_above old.heap l) ≡ true)
  pub room : OnOk r (Holds old.heap l ⊎ (old.count < capacity old))
  pub err : OnErr r (new ≡ old)
  pub too_deep : r ≡ Err error.TooDeep → fits old (tree_above old.heap l) ≡ false
  pub too_many : r ≡ Err error.TooMany → IsNew old l × (fits old (tree_above old.heap l) ≡ true) × (capacity old ≤ old.count)
  pub memory : r ≡ Err error.Memory → width l ≤ 8 → IsNew old l
  pub causes : IfErr r IsRefusal
  pub limits : new.limits ≡ old.limits

-- each tree that stands, and each of these trees, is in the list
pub record Covers (s : State) (made us : List Term) : Type 0 where
  pub held : (p : Part) → IsLive s.heap p → is_part us (tree_of s.heap p) ≡ true
  pub new : (t : Term) → is_part made t ≡ true → is_part us t ≡ true

-- What a call that makes these trees, perhaps all of them held already, answers. Whatever it answers, older parts stay as they are and only these trees come. It is too deep only where one of them is, and too many only where a list of all trees, the old ones and these, has more than there may be
pub record Makes {T : Type 0} (old new : State) (made : List Term) (r : Result T TermError) : Type 0 where
  pub grows : Grows old.heap new.heap
  pub only : (p : Part) → IsLive new.heap p → IsLive old.heap p ⊎ (is_part made (tree_of new.heap p) ≡ true)
  pub all : OnOk r ((t : Term) → is_part made t ≡ true → Stands new.heap t)
  pub too_deep : r ≡ Err error.TooDeep → (t : Term) × (is_part made t ≡ true) × (fits old t ≡ false)
  pub too_many : r ≡ Err error.TooMany → (us : List Term) → Covers old made us → capacity old < length us
  pub causes : IfErr r IsRefusal
  pub limits : new.limits ≡ old.limits
