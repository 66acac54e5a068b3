-- What a contract sees of causes.
use Rattle.std.specs.Prelude.{◌≡◌, ℕ, true, List, [], Option, Some, None, codes}
use Rattle.ir_core.specs.declared.errors.TermError.{TermError}
use Rattle.ir_core.specs.declared.errors.TermError.TheVariants as term
use Rattle.ir_laws.specs.Cause as spec
use Rattle.ir_laws.specs.Cause.{cause_text, is_cause_among}
use Rattle.ir_syntax.specs.declared.errors.ReadError.{ReadError}
use Rattle.ir_syntax.specs.declared.errors.ReadError.TheVariants as read
use Rattle.ir_script.specs.declared.causes.Cause.{Cause}
use Rattle.ir_script.specs.declared.causes.Cause.TheVariants.{Syntax, Unknown, Duplicate, Sort, EmptyOr, Arity, TooDeep, TooMany, Unlisted, Escapes, MissingVar, TooLarge, Memory}

-- want of memory is no cause of the definitions
abbrev pub cause_seen : Cause → Option spec.Cause
cause_seen Syntax = Some spec.Syntax
cause_seen Unknown = Some spec.Unknown
cause_seen Duplicate = Some spec.Duplicate
cause_seen Sort = Some spec.WrongSort
cause_seen EmptyOr = Some spec.EmptyOr
cause_seen Arity = Some spec.Arity
cause_seen TooDeep = Some spec.TooDeep
cause_seen TooMany = Some spec.TooMany
cause_seen Unlisted = Some spec.Unlisted
cause_seen Escapes = Some spec.Escapes
cause_seen MissingVar = Some spec.MissingVar
cause_seen TooLarge = Some spec.TooLarge
cause_seen Memory = None

abbrev pub text_seen : Option spec.Cause → List ℕ
text_seen (Some c) = cause_text c
text_seen None = codes "Memory"

-- the definitions' name of a cause; for want of memory a name of its own
abbrev pub name_seen : Cause → List ℕ
name_seen c = text_seen (cause_seen c)

abbrev pub IsAmong : List spec.Cause → Option spec.Cause → Type 0
IsAmong cs (Some c) = is_cause_among cs c ≡ true
IsAmong cs None = ⊥

-- the cause is one of the list, and is not want of memory
abbrev pub Says : Cause → List spec.Cause → Type 0
Says c cs = IsAmong cs (cause_seen c)

-- none exactly where the list is empty, else one of the list
abbrev pub Finds : Option Cause → List spec.Cause → Type 0
Finds None cs = cs ≡ []
Finds (Some c) cs = Says c cs

-- why a line is refused when a call on terms is
abbrev pub cause_of : TermError → Cause
cause_of term.TooDeep = TooDeep
cause_of term.TooMany = TooMany
cause_of term.Escapes = Escapes
cause_of term.MissingVar = MissingVar
cause_of term.Memory = Memory

-- why it is refused when it is not read
abbrev pub read_cause : ReadError → Cause
read_cause read.Syntax = Syntax
read_cause read.Memory = Memory
