-- How a line goes on behind a token, and how deep its brackets nest.
use Rattle.std.proofs.Common.{◌≡◌, ℕ, suc, ◌+◌, ◌≤◌, ◌<◌, max, Bool, true, false, nat_le, length, reverse, List, [], ◌∷◌, ◌++◌, Option, Some, None, option_map, refl, sym, ap, ◌∙◌, arith}
use Rattle.std.proofs.lemmas.Bool.Decides.{nat_tests}
use Rattle.std.proofs.lemmas.Grind.{common_steps}
use Rattle.std.proofs.lemmas.List.{reverse-reverse}
use Rattle.ir_laws.specs.Expression.{Exprs, Group, NoExpr, ThenExpr, Unclosed, Token, Opens, Closes, with_token, nested, closed, depths, if_shallow}
use Rattle.ir_laws.specs.Phrase.{and_then}
use Rattle.ir_syntax.specs.Frames.{finish, terms_in}
use Rattle.ir_syntax.specs.Nesting.{nesting}
use Rattle.ir_syntax.specs.Reading.{resume, continues, continued, is_shallow, if_goes}
use Rattle.ir_syntax.specs.Steps.{Stack, only, step_on, steps_on}
use Rattle.ir_syntax.specs.declared.frames.Frame.{Frame}
use Rattle.ir_syntax.specs.declared.frames.Frame.TheVariants.{Terms}
use Rattle.ir_syntax.specs.declared.steps.Step.{Step}

-- one step more
pub steps_on-push : (st : Stack) (ss : List Step) (s : Step) → steps_on st (ss ++ s ∷ []) ≡ step_on (steps_on st ss) s
steps_on-push st [] s = refl
steps_on-push st (t ∷ ss) s = steps_on-push (step_on st t) ss s

and_then-none : {A B : Type 0} (o : Option A) → and_then {B = B} o (λ x. None) ≡ None
and_then-none o = grind (arith, common_steps)

pub and_then-some : {A : Type 0} (o : Option A) → and_then o (λ x. Some x) ≡ o
and_then-some o = grind (arith, common_steps)

pub and_then-assoc : {A B C : Type 0} (o : Option A) (f : A → Option B) (g : B → Option C) → and_then (and_then o f) g ≡ and_then o (λ x. and_then (f x) g)
and_then-assoc o f g = grind (arith, common_steps)

none-continued : (fs : List Frame) (u : Unclosed) (st : Stack) → continues fs u st ≡ None → continued fs u st ≡ None
none-continued fs u st e = ap (if_goes (is_shallow u)) e ∙ by (is_shallow u)
  where
    by : (b : Bool) → if_goes b None ≡ None
    by b = grind (arith, common_steps)

-- as many are open on the left as end on the right
unequal-none : (fs : List Frame) (ess : List Exprs) (st : Stack) → (length fs ≡ length ess → ⊥) → resume fs ess st ≡ None
unequal-none [] [] st differ = absurd (differ refl)
unequal-none [] (es ∷ ess) st differ = refl
unequal-none (f ∷ fs) [] st differ = refl
unequal-none (f ∷ fs) (es ∷ ess) st differ =
    elim (finish f es st) as (λ o. and_then o (resume fs ess) ≡ None) [ None ↦ refl | Some new ↦ unequal-none fs ess new (λ e. differ (ap suc e)) ]

module _ (f : Frame) (fs : List Frame) where
  -- ---- an opening bracket

  pub open-continued : (inner outer : Frame) (u : Unclosed) (st : Stack) → ((es next : Exprs) → finish f (ThenExpr (Group es) next) st ≡ and_then (finish inner es st) (finish outer next)) → continued (f ∷ fs) (with_token Opens u) st ≡ continued (inner ∷ outer ∷ fs) u st
  open-continued inner outer None st around = refl
  open-continued inner outer (Some []) st around = refl
  open-continued inner outer (Some (es ∷ [])) st around = sym (none-continued (inner ∷ outer ∷ fs) (Some (es ∷ [])) st (and_then-none (finish inner es st)))
  open-continued inner outer (Some (es ∷ next ∷ ess)) st around =
      let deep : max (max (suc (depths es)) (depths next) + length ess) (nesting ess) ≡ max (depths es + suc (length ess)) (max (depths next + length ess) (nesting ess)) = omega arith in
      (λ i. if_goes (nat_le (deep i) 256) ((ap (λ o. and_then o (resume fs ess)) (around es next) ∙ and_then-assoc (finish inner es st) (finish outer next) (resume fs ess)) i))

  -- a group too deep
  pub open-deep : (u : Unclosed) (st : Stack) → 256 ≤ length fs → continued (f ∷ fs) (with_token Opens u) st ≡ None
  open-deep None st deep = refl
  open-deep (Some []) st deep = refl
  open-deep (Some (es ∷ [])) st deep = refl
  open-deep (Some (es ∷ next ∷ ess)) st deep = by (nat_le 256 (length ess)) refl
    where
      by : (b : Bool) → nat_le 256 (length ess) ≡ b → continued (f ∷ fs) (Some (ThenExpr (Group es) next ∷ ess)) st ≡ None
      by true e =
          let long : 256 ≤ length ess = grind (arith, nat_tests) in
          let off : is_shallow (Some (ThenExpr (Group es) next ∷ ess)) ≡ false = grind (arith, nat_tests) in
          ap (λ b. if_goes b (resume (f ∷ fs) (ThenExpr (Group es) next ∷ ess) st)) off
      by false e =
          let short : length ess < 256 = grind (arith, nat_tests) in
          none-continued (f ∷ fs) (Some (ThenExpr (Group es) next ∷ ess)) st (unequal-none (f ∷ fs) (ThenExpr (Group es) next ∷ ess) st (λ same. omega arith))

  -- ---- a closing bracket

  pub close-none : (u : Unclosed) (st : Stack) → finish f NoExpr st ≡ None → continued (f ∷ fs) (with_token Closes u) st ≡ None
  close-none None st e = refl
  close-none (Some ess) st e = none-continued (f ∷ fs) (Some (NoExpr ∷ ess)) st (ap (λ o. and_then o (resume fs ess)) e)

  pub close-continued : (u : Unclosed) (old new : Stack) → length fs ≤ 256 → finish f NoExpr old ≡ Some new → continued (f ∷ fs) (with_token Closes u) old ≡ continued fs u new
  close-continued None old new few e = refl
  close-continued (Some ess) old new few e = by (nat_le (length ess) 256) refl
    where
      goes : resume (f ∷ fs) (NoExpr ∷ ess) old ≡ resume fs ess new
      goes = ap (λ o. and_then o (resume fs ess)) e

      by : (b : Bool) → nat_le (length ess) 256 ≡ b → continued (f ∷ fs) (Some (NoExpr ∷ ess)) old ≡ continued fs (Some ess) new
      by true t =
          let short : length ess ≤ 256 = grind (arith, nat_tests) in
          let deep : is_shallow (Some (NoExpr ∷ ess)) ≡ is_shallow (Some ess) = grind (arith, nat_tests) in
          (λ i. if_goes (deep i) (goes i))
      by false t =
          let long : 256 < length ess = grind (arith, nat_tests) in
          let none : resume fs ess new ≡ None = unequal-none fs ess new (λ same. omega arith) in
          none-continued (f ∷ fs) (Some (NoExpr ∷ ess)) old (goes ∙ none) ∙ sym (none-continued fs (Some ess) new none)

-- what stands to the right of a place is never nothing
pub filled : (ts : List Token) → nested ts ≡ Some [] → ⊥
filled [] e = cc
filled (t ∷ ts) e = by t (nested ts) e
  where
    by : (t : Token) (u : Unclosed) → with_token t u ≡ Some [] → ⊥
    by t u e = grind (arith, common_steps)

-- nothing is open that a bracket could close
pub no_group : (f : Frame) (ts : List Token) (st : Stack) → continued (f ∷ []) (nested (Closes ∷ ts)) st ≡ None
no_group f ts st = by (nested ts) (filled ts)
  where
    by : (u : Unclosed) → (u ≡ Some [] → ⊥) → continued (f ∷ []) (with_token Closes u) st ≡ None
    by None some = refl
    by (Some []) some = absurd (some refl)
    by (Some (es ∷ ess)) some = none-continued (f ∷ []) (Some (NoExpr ∷ es ∷ ess)) st (and_then-none (finish f NoExpr st))

-- ---- the whole line, and its end

pub line-continued : (n : ℕ) (u : Unclosed) → continued (Terms n ∷ []) u (only []) ≡ option_map only (and_then (if_shallow (closed u)) (terms_in n))
line-continued n None = refl
line-continued n (Some []) = refl
line-continued n (Some (es ∷ [])) =
    let deep : max (depths es + 0) 0 ≡ depths es = omega arith in
    (λ i. if_goes (nat_le (deep i) 256) (and_then-some (finish (Terms n) es (only [])) i)) ∙ by (nat_le (depths es) 256)
  where
    by : (b : Bool) → if_goes b (finish (Terms n) es (only [])) ≡ option_map only (and_then (elim b as (λ v. Option Exprs) [ true ↦ Some es | false ↦ None ]) (terms_in n))
    by b = grind (arith, common_steps)
line-continued n (Some (es ∷ next ∷ ess)) = none-continued (Terms n ∷ []) (Some (es ∷ next ∷ ess)) (only []) (and_then-none (finish (Terms n) es (only [])))

-- a bracket is open at the end
pub open-end : (o : Option Stack) (outer : List Frame) → (outer ≡ [] → ⊥) → and_then o (resume (reverse outer) []) ≡ None
open-end o outer some = by (reverse outer) (λ none. some (sym (reverse-reverse outer) ∙ ap reverse none))
  where
    by : (fs : List Frame) → (fs ≡ [] → ⊥) → and_then o (resume fs []) ≡ None
    by [] none = absurd (none refl)
    by (f ∷ fs) none = and_then-none o
