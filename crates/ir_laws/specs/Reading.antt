-- Named reading: what a term says, with a place for each bound variable; and back.
use Rattle.std.specs.Prelude.{ℕ, zero, suc, ◌+◌, ◌-◌, true, false, List, [], ◌∷◌, Option, Some, None, nat_eq, slice_get}
use Rattle.ir_core.specs.declared.ids.SolverDefId.{SolverDefId}
use Rattle.ir_laws.specs.Tree.{Nameless, Kind, Parameter, Tree, Trees, Var, Param, Node, End, And, Term, Terms}

-- a place: a binder's level, counted from outside, or a binder outside of the whole
pub data Place : Type 0 where
  Level : (l : ℕ) → Place
  Outside : (k : ℕ) → Place

-- a tree whose variables have a place instead of an index
abbrev pub Named : Type 0
Named = Tree Place

-- named trees one after the other
abbrev pub Nameds : Type 0
Nameds = Trees Place

-- what becomes of a variable's number and kind: n is added to the number; or the number becomes its position in a list, and the kind its sort without name
pub data Renaming : Type 0 where
  Plus : (n : ℕ) → Renaming
  Anonymous : (numbers : List ℕ) → Renaming

-- where a number stands in a list, or the length
abbrev pub position_of : List ℕ → ℕ → ℕ
position_of [] n = 0
position_of (m ∷ ms) n = elim (nat_eq m n) [ true ↦ 0 | false ↦ suc (position_of ms n) ]

-- what becomes of a number
abbrev pub number_by : Renaming → ℕ → ℕ
number_by (Plus m) n = n + m
number_by (Anonymous ms) n = position_of ms n

-- the sort of a kind alone
abbrev pub without_name : Kind SolverDefId → Kind SolverDefId
without_name k = record { sort = k.sort; name = Nameless }

-- what becomes of a kind
abbrev pub kind_by : Renaming → Kind SolverDefId → Kind SolverDefId
kind_by (Plus m) k = k
kind_by (Anonymous ms) k = without_name k

-- a place, and what becomes of numbers and kinds there
pub record Placed : Type 0 where
  pub place : Place
  pub by : Renaming

-- the place of a binder inside of the whole
abbrev pub at_level : ℕ → Placed
at_level l = record { place = Level l; by = Plus 0 }

-- the place of a binder outside of the whole
abbrev pub outside : ℕ → Placed
outside k = record { place = Outside k; by = Plus 0 }

-- a term under frames that are places
pub record Closure : Type 0 where
  pub term : Term
  pub frames : List Placed

-- one binder that is passed: its variables have a place, or closures by number and kind
pub data Frame : Type 0 where
  Put : (at : Placed) → Frame
  Repl : (answer : ℕ → Kind SolverDefId → Closure) → Frame

-- the variable at a place, its number and kind renamed
abbrev pub put_var : Placed → ℕ → Kind SolverDefId → Named
put_var p n k = Var p.place (number_by p.by n) (kind_by p.by k)

-- what stands at an index, counted from the innermost; past the end, what is outside
abbrev pub look : {A : Type 0} → (ℕ → A) → List A → ℕ → A
look off [] i = off i
look off (a ∷ as') zero = a
look off (a ∷ as') (suc i) = look off as' i

-- the reading under frames that are all places
abbrev mutual
  pub read_under : Term → List Placed → ℕ → ℕ → Named
  read_under (Var i n k) ps out d = put_var (look (λ r. outside (r + out)) ps i) n k
  read_under (Param p) ps out d = Param p
  read_under (Node l None ts) ps out d = Node l None (reads_under ts ps out d)
  read_under (Node l (Some b) ts) ps out d = Node l (Some b) (reads_under ts (at_level d ∷ ps) out (suc d))

  pub reads_under : Terms → List Placed → ℕ → ℕ → Nameds
  reads_under End ps out d = End
  reads_under (And t ts) ps out d = And (read_under t ps out d) (reads_under ts ps out d)

-- a closure at d binders
abbrev pub read_closure : Closure → ℕ → Named
read_closure c d = read_under c.term c.frames 0 d

-- what a frame makes of a variable at d binders: a place gives the variable there, answers give their closure
abbrev pub frame_var : Frame → ℕ → Kind SolverDefId → ℕ → Named
frame_var (Put p) n k d = put_var p n k
frame_var (Repl answer) n k d = read_closure (answer n k) d

-- the closure of the parameter's index, or, past the end, the parameter
abbrev pub read_argument : Option Closure → Parameter → ℕ → Named
read_argument None p d = Param p
read_argument (Some c) p d = read_closure c d

-- where arguments are given, a parameter has the argument of its index
abbrev pub read_param : Option (List Closure) → Parameter → ℕ → Named
read_param None p d = Param p
read_param (Some cs) p d = read_argument (slice_get cs p.index) p d

-- the reading under frames (the innermost first), arguments where they are given, so many binders further out, at d binders
abbrev mutual
  pub read : Term → List Frame → Option (List Closure) → ℕ → ℕ → Named
  read (Var i n k) fs ps out d = frame_var (look (λ r. Put (outside (r + out))) fs i) n k d
  read (Param p) fs ps out d = read_param ps p d
  read (Node l None ts) fs ps out d = Node l None (reads ts fs ps out d)
  read (Node l (Some b) ts) fs ps out d = Node l (Some b) (reads ts (Put (at_level d) ∷ fs) ps out (suc d))

  pub reads : Terms → List Frame → Option (List Closure) → ℕ → ℕ → Nameds
  reads End fs ps out d = End
  reads (And t ts) fs ps out d = And (read t fs ps out d) (reads ts fs ps out d)

-- the reading of a term by itself
abbrev pub plain : Term → Named
plain t = read t [] None 0 0

-- the index of a place under m binders
abbrev pub index_of : Place → ℕ → ℕ
index_of (Level l) m = m - 1 - l
index_of (Outside k) m = m + k

-- the term whose variables have the indices of their places
abbrev mutual
  pub back : Named → ℕ → Term
  back (Var p n k) m = Var (index_of p m) n k
  back (Param p) m = Param p
  back (Node l None ts) m = Node l None (backs ts m)
  back (Node l (Some b) ts) m = Node l (Some b) (backs ts (suc m))

  pub backs : Nameds → ℕ → Terms
  backs End m = End
  backs (And t ts) m = And (back t m) (backs ts m)
