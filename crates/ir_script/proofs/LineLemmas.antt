-- How a script falls into lines.
use Rattle.std.proofs.Common.{◌≡◌, ℕ, ◌+◌, ◌-◌, ◌<◌, ◌≤◌, ◌||◌, Bool, true, false, length, get_or, take, drop, List, [], ◌∷◌, ◌++◌, refl, sym, ap, ◌∙◌, ◌⊎◌, inl, inr, arith, nat_eq}
use Rattle.std.specs.List.{slice_range, list_any}
use Rattle.std.proofs.lemmas.List.{length-drop, length-take, get_or-drop, drop_more, drop_all, append-nil}
use Rattle.std.proofs.lemmas.Bool.{cases_order, or_parts}
use Rattle.std.proofs.lemmas.Bool.Decides.{nat_tests}
use Rattle.std.proofs.lemmas.List.Folds.{drop_split, list_any_more}
use Rattle.ir_laws.specs.Tree.{Text}
use Rattle.ir_laws.specs.Expression.{lines_of, onto_first_line}
use Rattle.ir_script.specs.Lines.{IsNextLine}

abbrev is_line_end : ℕ → Bool
is_line_end b = nat_eq b 10

-- whether a byte 10 is among them
abbrev pub ends_line : Text → Bool
ends_line bs = list_any is_line_end bs

abbrev onto_lines : Bool → ℕ → List Text → List Text
onto_lines ends b lines = elim ends [ true ↦ [] ∷ lines | false ↦ onto_first_line b lines ]

-- bytes that end no line stand before the rest's first line
lines_of-ended : (line rest : Text) → ends_line line ≡ false → lines_of (line ++ 10 ∷ rest) ≡ line ∷ lines_of rest
lines_of-ended [] rest e = refl
lines_of-ended (b ∷ bs) rest e =
    let parts = or_parts (nat_eq b 10) (ends_line bs) e in
    ap (λ ends. onto_lines ends b (lines_of (bs ++ 10 ∷ rest))) parts.0 ∙ ap (onto_first_line b) (lines_of-ended bs rest parts.1)

lines_of-last : (b : ℕ) (bs : Text) → ends_line (b ∷ bs) ≡ false → lines_of (b ∷ bs) ≡ (b ∷ bs) ∷ []
lines_of-last b [] e = let parts = or_parts (nat_eq b 10) false e in ap (λ ends. onto_lines ends b []) parts.0
lines_of-last b (c ∷ cs) e =
    let parts = or_parts (nat_eq b 10) (ends_line (c ∷ cs)) e in
    ap (λ ends. onto_lines ends b (lines_of (c ∷ cs))) parts.0 ∙ ap (onto_first_line b) (lines_of-last c cs parts.1)

-- one more byte of a line
pub line_longer : (script : Text) (start end : ℕ) → start ≤ end → end < length script → (get_or script end 0 ≡ 10 → ⊥) → ends_line (slice_range script start end) ≡ false → ends_line (slice_range script start (end + 1)) ≡ false
line_longer script start end order within byte line =
    let rest : Text = drop start script in
    let here : end - start < length rest = rw length-drop (omega arith) in
    let more : end + 1 - start ≡ end - start + 1 = omega arith in
    let other : is_line_end (get_or script end 0) ≡ false = grind (arith, nat_tests) in
    let same : start + (end - start) ≡ end = omega arith in
    let next : is_line_end (get_or rest (end - start) 0) ≡ false = ap is_line_end (get_or-drop start script (end - start) 0 ∙ ap (λ k. get_or script k 0) same) ∙ other in
    ap (λ n. ends_line (take n rest)) more ∙ list_any_more is_line_end rest (end - start) 0 here
    ∙ ap (λ before. before || is_line_end (get_or rest (end - start) 0)) line ∙ next

lines_of-whole : (line : Text) → 0 < length line → ends_line line ≡ false → lines_of line ≡ line ∷ []
lines_of-whole [] some e = absurd (omega arith)
lines_of-whole (b ∷ bs) some e = lines_of-last b bs e

-- a line without a byte 10, up to one or to the script's end
pub IsNextLine-end : (script : Text) (start end : ℕ) → start ≤ end → end ≤ length script → ends_line (slice_range script start end) ≡ false → (end < length script → get_or script end 0 ≡ 10) → IsNextLine script start end
IsNextLine-end script start end order within line byte =
    let parts = drop_split script start end order in
    record {
      order = order;
      within = within;
      ended = λ before.
          let next : drop end script ≡ 10 ∷ drop (end + 1) script = drop_more script end 0 before ∙ ap (λ b. b ∷ drop (end + 1) script) (byte before) in
          ap lines_of (parts ∙ ap (λ rest. slice_range script start end ++ rest) next) ∙ lines_of-ended (slice_range script start end) (drop (end + 1) script) line;
      last = λ here some.
          let long : 0 < length (slice_range script start end) = simp (length-take, length-drop) (omega arith) in
          ap lines_of (parts ∙ ap (λ rest. slice_range script start end ++ rest) (drop_all end script (omega arith)) ∙ append-nil (slice_range script start end))
          ∙ lines_of-whole (slice_range script start end) long line;
      none = λ here. ap lines_of (drop_all start script (omega arith));
    }

-- the first line from a start within the script, and the lines behind it
pub lines_next : (script : Text) (start end : ℕ) → start < length script → IsNextLine script start end → lines_of (drop start script) ≡ slice_range script start end ∷ lines_of (drop (end + 1) script)
lines_next script start end within next = by (cases_order end (length script))
  where
    by : (end ≡ length script) ⊎ ((end < length script) ⊎ (length script < end)) → lines_of (drop start script) ≡ slice_range script start end ∷ lines_of (drop (end + 1) script)
    by (inl last) = next.last last (omega arith) ∙ ap (λ rest. slice_range script start end ∷ lines_of rest) (sym (drop_all (end + 1) script (omega arith)))
    by (inr (inl ended)) = next.ended ended
    by (inr (inr past)) = let w = next.within in absurd (omega arith)
