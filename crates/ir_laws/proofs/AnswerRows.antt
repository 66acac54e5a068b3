-- The answer as a relation, valid scripts, and the start.
use Rattle.std.proofs.Common.{◌≡◌, [], refl}
use Rattle.std.specs.Prelude.{codes, length}
use Rattle.ir_laws.specs.Cause.{TooDeep, TooMany}
use Rattle.ir_laws.specs.Limits.{Limits, program_limits}
use Rattle.ir_laws.specs.Start.{start_parts}
use Rattle.ir_laws.specs.Parts.{with_parts_of}
use Rattle.ir_laws.specs.Answer.{Lines, Fault, IsAnswer, IsValid}

-- none of them stands twice
the_start_has_39_parts : (length start_parts ≡ 39) × (length (with_parts_of [] start_parts) ≡ 39)
the_start_has_39_parts = (refl, refl)

a_text_is_the_answer : IsAnswer program_limits (codes "print static\nprint u8") (Lines (codes "static\nu8\n"))
a_text_is_the_answer = refl

abbrev narrow : Limits
narrow = record { index = 65535; number = 65535; height = 3; nodes = 39; size = 1000000 }

-- of two causes of one stage either may be named
either_cause_is_an_answer : IsAnswer narrow (codes "print (tuple ((tuple ())))") (Fault 1 TooDeep) × IsAnswer narrow (codes "print (tuple ((tuple ())))") (Fault 1 TooMany)
either_cause_is_an_answer = ((refl, refl), (refl, refl))

a_valid_script : IsValid program_limits (codes "print u8\n\nprint (tuple (u8))")
a_valid_script = tt
