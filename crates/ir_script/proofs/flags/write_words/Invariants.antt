use Rattle.std.proofs.Common.{◌≡◌, ◌++◌, drop, map}
use Rattle.ir_core.specs.Flags.{bits_of}
use Rattle.ir_laws.specs.Answer.{flag_texts}
use Rattle.ir_table.specs.Spelled.{after_each}
use Rattle.ir_script.proofs.flags.write_words.Given as goal

abbrev pub invariant-loop-flag : goal.invariant-loop-flag
invariant-loop-flag l =
    l.out ++ after_each (flag_texts l.left (drop l.flag-index (map (λ f. f.name.now) l.flag-items)))
    ≡ l.fn.out ++ after_each (flag_texts (bits_of l.fn.flags) (map (λ f. f.name.now) l.flag-items))
