-- What a call on a source or a sink of bytes does to its bytes and to its count of faults.
use Rattle.std.specs.Prelude.{◌≡◌, ℕ, ◌+◌, ◌-◌, ◌^◌, ◌<◌, ◌≤◌, ◌⊎◌, ◌==◌, min, IsTrue, List, length, take, Option}
use Rattle.std.specs.List.{list_any}
use Rattle.std.specs.Io.KnownBytes.{prepend_known, append_known, IsAtEnd}

-- a count of faults after a call: it never falls, and it has a last value
pub record Counts (old new : ℕ) : Type 0 where
  pub kept : old ≤ new
  pub fits : new ≤ 2 ^ 64 - 1

-- the count of faults rose, or stands at its last value
abbrev pub Rose : ℕ → ℕ → Type 0
Rose old new = (old < new) ⊎ (new ≡ 2 ^ 64 - 1)

-- a read took n bytes: what was left before and after it, and the piece that it wrote into
pub record Reads (old new : Option (List ℕ)) (piece : List ℕ) (n : ℕ) : Type 0 where
  -- the piece has room for them
  pub fits : n ≤ length piece
  -- they are the first of what was left, and the first of the piece
  pub given : old ≡ prepend_known (take n piece) new
  -- it takes none into a piece with room only at the end
  pub ends : n ≡ 0 → 0 < length piece → IsAtEnd new

-- a write took n bytes: what the sink held before and after it, and the piece
pub record Writes (old new : Option (List ℕ)) (piece : List ℕ) (n : ℕ) : Type 0 where
  -- the piece has them
  pub fits : n ≤ length piece
  -- it takes at least one, where there is one
  pub moves : 0 < length piece → 0 < n
  -- the sink holds what it held and then the first n bytes of the piece
  pub taken : new ≡ append_known old (take n piece)

-- the sink holds what it held and then a front of the piece
abbrev pub HoldsFront : Option (List ℕ) → Option (List ℕ) → List ℕ → Type 0
HoldsFront old new piece = (n : ℕ) × (new ≡ append_known old (take n piece))

-- a sink in memory: the bytes that it holds, how many more it has room for, and how many of its writes failed
pub record SinkState : Type 0 where
  pub held : List ℕ
  pub room : ℕ
  pub faults : ℕ

-- a count after one more. It stands still at its last value
abbrev pub rises : ℕ → ℕ
rises n = min (n + 1) (2 ^ 64 - 1)

-- the call of this number is one of those that fail
abbrev pub FailsAt : List ℕ → ℕ → Type 0
FailsAt fails number = IsTrue (list_any (λ n. n == number) fails)

-- a source in memory that fails at given calls: the bytes that are left, how many a call gives at most, the numbers of the calls that fail, how many calls there were, and how many of them failed
pub record MemorySourceState : Type 0 where
  pub left : List ℕ
  pub piece : ℕ
  pub fails : List ℕ
  pub calls : ℕ
  pub faults : ℕ

-- a sink in memory that fails at given calls: the bytes that it holds, how many more it has room for, how many a call takes at most, the numbers of the calls that fail, how many calls there were, and how many of them failed
pub record MemorySinkState : Type 0 where
  pub held : List ℕ
  pub room : ℕ
  pub piece : ℕ
  pub fails : List ℕ
  pub calls : ℕ
  pub faults : ℕ

-- the sink has no room for the bytes, of which there is at least one
abbrev pub IsFullFor : MemorySinkState → List ℕ → Type 0
IsFullFor sink bytes = (sink.room ≡ 0) × (0 < length bytes)
