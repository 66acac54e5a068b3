-- What a making call answers that reads the items of its list from an iterator.
use Rattle.std.specs.Prelude.{◌≡◌, List, Result, Ok, Err, Some, Option, ◌⊎◌, map}
use Rattle.std.specs.Iterator.{Drains, HoldsAlong, YieldsThen}
use Rattle.ir_core.specs.declared.errors.TermError.{TermError}
use Rattle.ir_core.specs.declared.errors.TermError.TheVariants as error
use Rattle.ir_core.specs.declared.handles.Part.{Part}
use Rattle.ir_laws.specs.Heap.{Layer, Each, IsLive, names_in}
use Rattle.ir_table.specs.declared.Interner.{Interner}
use Rattle.ir_table.specs.Interner.{heap, state}
use Rattle.ir_table.specs.State.{NewAnswers}

-- the call is refused with e before a list is looked for, and the tables are as they were
pub record Stops {T : Type 0} (old new : Interner) (e : TermError) (r : Result T TermError) : Type 0 where
  pub err : r ≡ Err e
  pub same : state new ≡ state old

module _ {X S : Type 0} (layer : List X → Layer Part) (cx : Interner) where
  -- the names in the items that may come are live
  abbrev pub GivesLive : (S → Option X → S → Type 0) → S → Type 0
  GivesLive steps s = HoldsAlong steps s (λ xs. Each (IsLive (heap cx)) (names_in (layer xs)))

  -- the same, where an item may be a refusal, at which the calls end
  abbrev pub GivesLiveOrErr : (S → Option (Result X TermError) → S → Type 0) → S → Type 0
  GivesLiveOrErr steps s = HoldsAlong steps s (λ rs. (xs : List X) → rs ≡ map Ok xs → Each (IsLive (heap cx)) (names_in (layer xs)))

module _ {T X S : Type 0} (name : T → Part) (layer : List X → Layer Part) (old new : Interner) where
  -- memory was wanted for the items, or the list of all items was looked for
  abbrev pub AnswersItems : (S → Option X → S → Type 0) → S → Result T TermError → Type 0
  AnswersItems steps s r = Stops old new error.Memory r ⊎ ((xs : List X) × Drains steps s xs × NewAnswers name (state old) (state new) (layer xs) r)

  -- the same, where the first refusal among the items is the answer
  abbrev pub AnswersItemsOrErr : (S → Option (Result X TermError) → S → Type 0) → S → Result T TermError → Type 0
  AnswersItemsOrErr steps s r = (Stops old new error.Memory r ⊎ ((xs : List X) × (e : TermError) × (t : S) × YieldsThen steps s (map Ok xs) (Some (Err e)) t × Stops old new e r))
      ⊎ ((xs : List X) × Drains steps s (map Ok xs) × NewAnswers name (state old) (state new) (layer xs) r)
