-- The words of a signature.
use Rattle.std.specs.Prelude.{ℕ, List, [], codes}
use Rattle.ir_core.specs.declared.signatures.Safety.{Safety}
use Rattle.ir_core.specs.declared.signatures.Safety.TheVariants.{Unsafe, Safe}

-- what stands before `fn` in a type
abbrev pub safety_prefix : Safety → List ℕ
safety_prefix Unsafe = codes "unsafe "
safety_prefix Safe = []
