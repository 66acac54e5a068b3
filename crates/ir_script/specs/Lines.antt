-- One line of a script, by its places.
use Rattle.std.specs.Prelude.{◌≡◌, ℕ, ◌+◌, ◌<◌, ◌≤◌, [], ◌∷◌, length, drop}
use Rattle.std.specs.List.{slice_range}
use Rattle.ir_laws.specs.Tree.{Text}
use Rattle.ir_laws.specs.Expression.{lines_of}

-- the first line from a start on goes up to this end: to a byte 10, or to the script's end
pub record IsNextLine (script : Text) (start end : ℕ) : Type 0 where
  pub order : start ≤ end
  pub within : end ≤ length script
  pub ended : end < length script → lines_of (drop start script) ≡ slice_range script start end ∷ lines_of (drop (end + 1) script)
  pub last : end ≡ length script → start < end → lines_of (drop start script) ≡ slice_range script start end ∷ []
  pub none : start ≡ length script → lines_of (drop start script) ≡ []
