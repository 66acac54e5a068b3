use Rattle.std.proofs.Common.{◌≡◌, length, option_map}
use Rattle.ir_laws.specs.Expression.{tokens_of}
use Rattle.ir_syntax.specs.Commands.{terms_of}
use Rattle.ir_syntax.specs.Reading.{IsOpen, ahead}
use Rattle.ir_syntax.specs.Steps.{only}
use Rattle.ir_syntax.proofs.scan.Reader.read_terms.Given as goal

abbrev pub invariant-loop-token : goal.invariant-loop-token
invariant-loop-token l = record { open_so : IsOpen l.self; read : option_map only (terms_of l.count (tokens_of l.text)) ≡ ahead l.self (tokens_of l.rest) }

abbrev pub decreases-loop-token : goal.decreases-loop-token
decreases-loop-token l = length l.rest
