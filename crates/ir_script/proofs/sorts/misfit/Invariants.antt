use Rattle.std.proofs.Common.{◌≤◌, List, length, take}
use Rattle.ir_core.specs.declared.handles.Part.{Part}
use Rattle.ir_laws.specs.Heap.{Heap}
use Rattle.ir_laws.specs.Phrase.{Phrase}
use Rattle.ir_script.specs.Resolved.{StandFor}
use Rattle.ir_script.specs.Scope.{AreTerms, Named, env_of}
use Rattle.ir_syntax.specs.Steps.{built}
use Rattle.ir_script.proofs.OpenLemmas.{AreOpen}
use Rattle.ir_script.proofs.sorts.misfit.Given as goal

abbrev pub invariant-loop-left : goal.invariant-loop-left
invariant-loop-left l = record {
  within : l.left ≤ length l.resolved;
  so_far : (h : Heap Part) (ns : List Named) (ps : List Phrase) → AreTerms h ns → (stand : StandFor (env_of h ns) ns l.resolved ps) → AreOpen h ns ps (built (take l.left stand.steps)).terms l.pending.items l.operands;
}

abbrev pub decreases-loop-left : goal.decreases-loop-left
decreases-loop-left l = l.left
