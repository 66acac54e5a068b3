use Rattle.std.proofs.Common.{◌≡◌, ℕ, List, ◌+◌, ◌-◌, ◌++◌, Some, length, min, take, drop, ◌∙◌, ap, arith, subst}
use Rattle.ir_core.specs.Streams.{Reads, MemorySourceState}
use Rattle.ir_core.proofs.StreamLemmas.{Reads-copied}
use Rattle.ir_core.proofs.faulty.MemorySourceSource.read.Goals as goal

pub returns-clause-reads : goal.returns-clause-reads
returns-clause-reads c =
    let at : ℕ = c.self.inside.at in
    let n : ℕ = c.min-taken.result in
    let items : List ℕ = c.self.inside.bytes.items in
    let len = c.self.inside.bytes.ok.0 in
    let is_least : n ≡ min c.self.inside.piece (min (length c.args.into.now) (length items - at)) = omega (arith, c.min-taken.ensures, c.min.ensures, c.len.ensures) in
    let span : at + n - at ≡ n = omega arith in
    let is_front : c.copy_from_slice.new.self ≡ take n (drop at items) =
    c.copy_from_slice.ensures.after ∙ ap (λ (k : ℕ). take k (drop at c.deref.result.now)) span ∙ ap (λ (l : List ℕ). take n (drop at l)) c.deref.ensures.value in
    let P : List ℕ → Type 0 = λ old. Reads (Some old) (Some (drop (at + n) items)) (c.copy_from_slice.new.self ++ drop n c.args.into.now) n in
    subst P (ap (λ (s : MemorySourceState). s.left) c.self.view_is) (Reads-copied items c.copy_from_slice.new.self c.args.into.now at n (omega arith) (λ none. omega arith) is_front)
