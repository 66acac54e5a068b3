-- Named trees and frames whose places stand inside of the binders passed.
use Rattle.std.specs.Prelude.{ℕ, suc, ◌<◌, List, [], ◌∷◌, Option, Some, None}
use Rattle.ir_core.specs.declared.ids.SolverDefId.{SolverDefId}
use Rattle.ir_laws.specs.Tree.{Kind, Var, Param, Node, End, And}
use Rattle.ir_laws.specs.Reading.{Place, Level, Outside, Named, Nameds, Placed, Closure, Frame, Put, Repl}

-- a level stands inside of m binders, the place of a binder further out anywhere
abbrev pub IsPlaceIn : Place → ℕ → Type 0
IsPlaceIn (Level l) m = l < m
IsPlaceIn (Outside k) m = Unit {0}

-- each variable's place stands inside of the m binders outside and those above the variable
abbrev mutual
  pub IsScoped : Named → ℕ → Type 0
  IsScoped (Var p n k) m = IsPlaceIn p m
  IsScoped (Param p) m = Unit {0}
  IsScoped (Node l None ts) m = AreScoped ts m
  IsScoped (Node l (Some b) ts) m = AreScoped ts (suc m)

  pub AreScoped : Nameds → ℕ → Type 0
  AreScoped End m = Unit {0}
  AreScoped (And t ts) m = IsScoped t m × AreScoped ts m

-- so do the places of these frames
abbrev pub ArePlaced : List Placed → ℕ → Type 0
ArePlaced [] d = Unit {0}
ArePlaced (p ∷ ps) d = IsPlaceIn p.place d × ArePlaced ps d

-- the place of a frame stands inside of d binders, or those of its answers do
abbrev pub IsFramed : Frame → ℕ → Type 0
IsFramed (Put p) d = IsPlaceIn p.place d
IsFramed (Repl answer) d = (n : ℕ) (k : Kind SolverDefId) → ArePlaced (answer n k).frames d

-- so does each frame
abbrev pub AreFramed : List Frame → ℕ → Type 0
AreFramed [] d = Unit {0}
AreFramed (f ∷ fs) d = IsFramed f d × AreFramed fs d

-- so does each closure
abbrev pub AreClosed : List Closure → ℕ → Type 0
AreClosed [] d = Unit {0}
AreClosed (c ∷ cs) d = ArePlaced c.frames d × AreClosed cs d

-- arguments, where they are given
abbrev pub AreAnswers : Option (List Closure) → ℕ → Type 0
AreAnswers None d = Unit {0}
AreAnswers (Some cs) d = AreClosed cs d
