-- What the lines of a script do together.
use Rattle.std.proofs.Common.{◌≡◌, ◌∙◌, ◌≤◌, ◌<◌, ℕ, suc, Bool, true, false, nat_le, List, [], ◌∷◌, ◌++◌, length, Option, Some, None, Ok, Err, refl, sym, ap, subst, ⊎_elim, true≢false, arith}
use Rattle.std.proofs.lemmas.Bool.Decides.{nat_tests}
use Rattle.ir_core.specs.declared.errors.TermError.{TermError}
use Rattle.ir_core.specs.declared.errors.TermError.TheVariants as error
use Rattle.ir_core.specs.declared.handles.Part.{Part}
use Rattle.ir_laws.specs.Answer.{Answer, State, Succeeds, Writes, Meets, Allows, Lines, Fault, answer, answer_lines, start}
use Rattle.ir_laws.specs.Cause as cause
use Rattle.ir_laws.specs.Expression.{lines_of}
use Rattle.ir_laws.specs.Form.{form_of}
use Rattle.ir_laws.specs.Heap.{Heap}
use Rattle.ir_laws.specs.Held.{HoldsJust}
use Rattle.ir_laws.specs.Limits.{Limits, capped}
use Rattle.ir_laws.specs.Start.{start_parts}
use Rattle.ir_laws.specs.Tree.{Text, Term}
use Rattle.ir_script.specs.declared.causes.Cause.{Cause}
use Rattle.ir_script.specs.declared.causes.Cause.TheVariants as code
use Rattle.ir_script.specs.declared.causes.ScriptError.{ScriptError}
use Rattle.ir_table.specs.Start.{IsStartRefusal}
use Rattle.ir_script.specs.Scope.{Named}
use Rattle.ir_script.specs.Causes.{IsAmong, cause_seen, cause_of}
use Rattle.ir_script.specs.Answered.{left_by, causes_met, written, left_after, AnswersForm, parts_left, AllowsCause, AllowsFault}

-- ---- lines

-- the answer is that of the lines from here on, after the text so far, the names that are declared, and the parts that are held
pub record Goes (limits : Limits) (whole : Answer) (lines : List Text) (n : ℕ) (text : Text) (h : Heap Part) (ns : List Named) : Type 0 where
  pub held : List Term
  pub is : whole ≡ answer_lines limits lines n (left_by h ns held) text
  pub just : HoldsJust h held

module _ (limits : Limits) (line : Text) (lines : List Text) (n : ℕ) (text : Text) (s : State) where
  -- the answer from a line on, by the line's causes
  from_line : List cause.Cause → Answer
  from_line cs = elim cs [
    | [] ↦ answer_lines limits lines (suc n) (left_after limits (form_of line) s) (text ++ written (form_of line) s)
    | c ∷ ds ↦ Meets n (c ∷ ds)
  ]

  clear_line : causes_met limits (form_of line) s ≡ [] → answer_lines limits (line ∷ lines) n s text ≡ answer_lines limits lines (suc n) (left_after limits (form_of line) s) (text ++ written (form_of line) s)
  unfolding from_line
  clear_line e = ap from_line e

  fault_line : (cs : List cause.Cause) (o : Option cause.Cause) → causes_met limits (form_of line) s ≡ cs → IsAmong cs o → answer_lines limits (line ∷ lines) n s text ≡ Meets n cs
  unfolding from_line
  fault_line [] None e h = absurd h
  fault_line [] (Some c) e h = absurd (true≢false (sym h))
  fault_line (c ∷ cs) o e h = ap from_line e

module _ {limits : Limits} {whole : Answer} {line : Text} {left lines : List Text} {n : ℕ} {old : Text} {h : Heap Part} {ns : List Named} (g : Goes limits whole left n old h ns) (next : left ≡ line ∷ lines) {given : Limits} (same : given ≡ limits) where
  begun : whole ≡ answer_lines limits (line ∷ lines) n (left_by h ns g.held) old
  begun = g.is ∙ ap (λ ls. answer_lines limits ls n (left_by h ns g.held) old) next

  pub next_line : {new : Text} {k : Heap Part} {ms : List Named} {m : ℕ} → AnswersForm given (form_of line) (left_by h ns g.held) old new k ms (Ok tt) → m ≡ suc n → Goes limits whole lines m new k ms
  next_line {new} {k} {ms} answered number =
      let a = subst (λ limits. AnswersForm limits (form_of line) (left_by h ns g.held) old new k ms (Ok tt)) same answered in
      let after = left_after limits (form_of line) (left_by h ns g.held) in
      let kept : after ≡ left_by k ms after.parts = (λ i. record { environment = a.names_are i; parts = after.parts }) in
      record {
        held = after.parts;
        is = begun ∙ clear_line limits line lines n old (left_by h ns g.held) a.clear ∙ (λ i. answer_lines limits lines (sym number i) (kept i) (sym a.text i));
        just = a.left;
      }

  pub fault_met : {new : Text} {k : Heap Part} {ms : List Named} {c : Cause} → AnswersForm given (form_of line) (left_by h ns g.held) old new k ms (Err c) → AllowsFault whole (record { line = n; cause = c })
  fault_met {c = c} a = ⊎_elim
      (λ none. subst (AllowsCause whole n) (sym none) tt)
      (says (cause_seen c))
      a.fault
    where
      says : (o : Option cause.Cause) → IsAmong (causes_met given (form_of line) (left_by h ns g.held)) o → AllowsCause whole n o
      says None among = tt
      says (Some d) among = subst (λ (w : Answer). Allows w (Fault n d))
          (sym (begun ∙ fault_line limits line lines n old (left_by h ns g.held) (causes_met given (form_of line) (left_by h ns g.held)) (Some d) (λ i. causes_met (sym same i) (form_of line) (left_by h ns g.held)) among)) (refl, among)

-- when no line is left, the text is the answer's, and so are the parts
module _ {limits : Limits} {whole : Answer} {lines : List Text} {n : ℕ} {text : Text} {h : Heap Part} {ns : List Named} (g : Goes limits whole lines n text h ns) (none : lines ≡ []) where
  is_written : whole ≡ Writes text (left_by h ns g.held)
  is_written = g.is ∙ ap (λ ls. answer_lines limits ls n (left_by h ns g.held) text) none

  pub end_text : Allows whole (Lines text)
  end_text = subst (λ (w : Answer). Allows w (Lines text)) (sym is_written) refl

  pub end_parts : HoldsJust h (parts_left whole)
  end_parts = subst (λ (w : Answer). HoldsJust h (parts_left w)) (sym is_written) g.just

-- ---- the start

module _ (limits : Limits) (script : Text) where
  by_room : (b : Bool) → nat_le (length start_parts) (capped limits).nodes ≡ b
      → answer limits script ≡ elim b [ true ↦ answer_lines (capped limits) (lines_of script) 1 start [] | false ↦ Meets 0 (cause.TooMany ∷ []) ]
  by_room b e = ap (λ c. elim c [ true ↦ answer_lines (capped limits) (lines_of script) 1 start [] | false ↦ Meets 0 (cause.TooMany ∷ []) ]) e

  -- at the start all lines are still to be taken
  pub at_start : {text : Text} {h : Heap Part} {ns : List Named} → 39 ≤ (capped limits).nodes → HoldsJust h start_parts → text ≡ [] → ns ≡ [] → Goes (capped limits) (answer limits script) (lines_of script) 1 text h ns
  at_start room just no_text no_names =
      let fits : nat_le 39 (capped limits).nodes ≡ true = grind (arith, nat_tests) in
      rw (no_text, no_names) (record { held = start_parts; is = by_room true fits; just = just })

  allowed : (e : TermError) → IsStartRefusal e → (e ≡ error.TooMany → (capped limits).nodes < 39) → AllowsCause (answer limits script) 0 (cause_seen (cause_of e))
  allowed error.TooMany refused many =
      let few = many refl in
      let full : nat_le 39 (capped limits).nodes ≡ false = grind (arith, nat_tests) in
      subst (λ (w : Answer). Allows w (Fault 0 cause.TooMany)) (sym (by_room false full)) (refl, refl)
  allowed error.Memory refused many = tt
  allowed error.TooDeep refused many = absurd refused
  allowed error.Escapes refused many = absurd refused
  allowed error.MissingVar refused many = absurd refused

  -- why there is no start
  pub start_fault : (e : TermError) (c : Cause) → IsStartRefusal e → (e ≡ error.TooMany → (capped limits).nodes < 39) → c ≡ cause_of e → AllowsFault (answer limits script) (record { line = 0; cause = c })
  start_fault e c refused many is = subst (λ c. AllowsCause (answer limits script) 0 (cause_seen c)) (sym is) (allowed e refused many)

-- a valid script is refused for want of memory alone
only_memory_left : (text : Text) (after : State) (line : ℕ) (c : Cause) → AllowsCause (Writes text after) line (cause_seen c) → c ≡ code.Memory
only_memory_left text after line code.Memory allowed = refl
only_memory_left text after line _ allowed = absurd allowed

pub only_memory : (a : Answer) (e : ScriptError) → Succeeds a → AllowsFault a e → e.cause ≡ code.Memory
only_memory (Writes text after) e valid allowed = only_memory_left text after e.line e.cause allowed
only_memory (Meets line causes) e valid allowed = absurd valid
