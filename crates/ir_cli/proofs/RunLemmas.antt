-- How a run is cut short, and what it leaves.
use Rattle.std.proofs.Common.{◌≡◌, ◌∙◌, Option, Some, None, subst}
use Rattle.ir_core.specs.Streams.{HoldsFront}
use Rattle.ir_laws.specs.Tree.{Text}
use Rattle.ir_cli.specs.Reading.{ReadsAll}
use Rattle.ir_laws.specs.Answer.{answer}
use Rattle.ir_laws.specs.Held.{HoldsJust}
use Rattle.ir_laws.specs.Limits.{program_limits}
use Rattle.ir_script.specs.Answered.{parts_left}
use Rattle.ir_table.specs.Interner.{heap, state}
use Rattle.ir_table.specs.declared.Interner.{Interner}
use Rattle.ir_cli.specs.Run.{HoldsTerms, IsCutShort, IsOutput}

-- where a front of what the script has a run write was written
pub cut_short : (left left' held held' : Option Text) (script bytes : Text) → ReadsAll left left' script → HoldsFront held held' bytes → IsOutput script bytes → IsCutShort left left' held held'
cut_short None left' held held' script bytes read front output = (bytes, front, tt)
cut_short (Some all) left' held held' script bytes read front output = (bytes, front, (read.1, subst (λ s. IsOutput s bytes) read.0 output))

-- what the interner holds, where the script was read
pub holds_terms : (left left' : Option Text) (script bytes : Text) (cx : Interner) → ReadsAll left left' script → bytes ≡ script → (state cx).limits ≡ program_limits
    → HoldsJust (heap cx) (parts_left (answer program_limits bytes)) → HoldsTerms left cx
holds_terms None left' script bytes cx read same given held = (given, tt)
holds_terms (Some all) left' script bytes cx read same given held = (given, subst (λ s. HoldsJust (heap cx) (parts_left (answer program_limits s))) (same ∙ read.0) held)
