-- Each well scoped tree is the reading of a term.
use Rattle.std.proofs.Common.{◌≡◌, ℕ, suc, ◌+◌, ◌-◌, List, [], Some, None, refl, sym, ap, ap₂, ◌∙◌, arith}
use Rattle.ir_core.specs.declared.ids.SolverDefId.{SolverDefId}
use Rattle.ir_laws.specs.Tree.{Kind, Var, Param, Node, End, And}
use Rattle.ir_laws.specs.Reading.{Place, Level, Outside, Named, Nameds, Plus, Placed, outside, at_level, put_var, look, read_under, reads_under, index_of, back, backs}
use Rattle.ir_laws.specs.Scoping.{IsPlaceIn, IsScoped, AreScoped}
use Rattle.ir_laws.specs.Laws.{IsReading, IsTheOnlyTerm}
use Rattle.ir_laws.proofs.Frames.{wrap, within, past}
use Rattle.ir_laws.proofs.ShiftRead.{same_read, reads_back}

abbrev levels : ℕ → List Placed
levels m = wrap at_level m m []

at_place : (p : Place) (m : ℕ) → IsPlaceIn p m → look (λ r. outside (r + 0)) (levels m) (index_of p m) ≡ record { place = p; by = Plus 0 }
at_place (Level l) m h = within _ at_level [] m m (m - 1 - l) (omega arith) (omega arith) ∙ ap at_level (omega arith)
at_place (Outside k) m h = past _ at_level [] m m (m + k) k (omega arith) refl ∙ ap outside (omega arith)

var_read : (p : Place) (n : ℕ) (k : Kind SolverDefId) (m : ℕ) → IsPlaceIn p m → put_var (look (λ r. outside (r + 0)) (levels m) (index_of p m)) n k ≡ Var p n k
var_read p n k m h = ap (λ q. put_var q n k) (at_place p m h) ∙ ap (λ n. Var p n k) (omega arith)

mutual
  pub back_read : (t : Named) (m : ℕ) → IsScoped t m → read_under (back t m) (levels m) 0 m ≡ t
  back_read (Var p n k) m h = var_read p n k m h
  back_read (Param p) m h = refl
  back_read (Node l None ts) m h = ap (Node l None) (backs_read ts m h)
  back_read (Node l (Some b) ts) m h = ap (Node l (Some b)) (backs_read ts (suc m) h)

  pub backs_read : (ts : Nameds) (m : ℕ) → AreScoped ts m → reads_under (backs ts m) (levels m) 0 m ≡ ts
  backs_read End m h = refl
  backs_read (And t ts) m h = ap₂ And (back_read t m h.0) (backs_read ts m h.1)

pub is_reading : IsReading
is_reading t h = same_read (back t 0) [] 0 0 ∙ back_read t 0 h

pub is_the_only_term : IsTheOnlyTerm
is_the_only_term reading h = (is_reading reading h, λ t e. sym (reads_back t) ∙ ap (λ r. back r 0) e)
