-- What a run of the program without words leaves.
use Rattle.std.specs.Prelude.{◌≡◌, ◌≢◌, ◌⊎◌, ℕ, ◌≤◌, [], ◌∷◌, ◌++◌, length, Option, None, Some, IfSome, codes}
use Rattle.std.specs.Io.KnownBytes.{append_known}
use Rattle.ir_core.specs.Streams.{HoldsFront}
use Rattle.ir_laws.specs.Answer.{Allows, IsValid, Lines, answer}
use Rattle.ir_laws.specs.Held.{HoldsJust}
use Rattle.ir_laws.specs.Limits.{program_limits}
use Rattle.ir_laws.specs.Numeral.{numeral}
use Rattle.ir_laws.specs.Tree.{Text}
use Rattle.ir_script.specs.Answered.{AllowsFault, parts_left}
use Rattle.ir_script.specs.Causes.{name_seen}
use Rattle.ir_script.specs.declared.causes.Cause.TheVariants.{Memory}
use Rattle.ir_script.specs.declared.causes.ScriptError.{ScriptError}
use Rattle.ir_table.specs.Interner.{heap, state}
use Rattle.ir_table.specs.declared.Interner.{Interner}

-- the line that a fault writes
abbrev pub fault_text : ScriptError → Text
fault_text e = codes "error line " ++ numeral e.line ++ codes " " ++ name_seen e.cause ++ 10 ∷ []

-- Where the source told what was left: it was read to its end, and the sink holds what it held and then the text that the script answers under the program's limits
abbrev pub IsAnswered : (left left' : Option Text) (held held' : Option Text) → Type 0
IsAnswered left left' held held' =
    IfSome left (λ script. (left' ≡ Some []) × ((text : Text) × Allows (answer program_limits script) (Lines text) × (held' ≡ append_known held text)))

-- the same with the line of a fault that the script has
abbrev pub IsRefused : (left left' : Option Text) (held held' : Option Text) → Type 0
IsRefused left left' held held' =
    IfSome left (λ script. (left' ≡ Some []) × ((e : ScriptError) × AllowsFault (answer program_limits script) e × (e.cause ≢ Memory) × (held' ≡ append_known held (fault_text e))))

-- what the script has a run write: the text that it answers, or the line of a fault that it has
abbrev pub IsOutput : Text → Text → Type 0
IsOutput script bytes = Allows (answer program_limits script) (Lines bytes)
    ⊎ ((e : ScriptError) × AllowsFault (answer program_limits script) e × (e.cause ≢ Memory) × (bytes ≡ fault_text e))

-- the sink holds what it held, and then a front of the bytes that were to be written. Where the source told what was left, it was read to its end, and these bytes are what the script has a run write
abbrev pub IsCutShort : (left left' : Option Text) (held held' : Option Text) → Type 0
IsCutShort left left' held held' = (bytes : Text) × HoldsFront held held' bytes × IfSome left (λ script. (left' ≡ Some []) × IsOutput script bytes)

-- the interner has the program's limits. Where the source told what was left, it holds just the parts of the start and of the terms that the script's lines make
abbrev pub HoldsTerms : (left : Option Text) → Interner → Type 0
HoldsTerms left cx = ((state cx).limits ≡ program_limits) × IfSome left (λ script. HoldsJust (heap cx) (parts_left (answer program_limits script)))

-- the source tells a valid script of at most n bytes
abbrev pub HasValid : ℕ → (left : Option Text) → Type 0
HasValid n None = ⊥
HasValid n (Some script) = IsValid program_limits script × (length script ≤ n)
