-- What each command is over its terms, and what a line answers by its stages.
use Rattle.std.proofs.Common.{◌≡◌, ◌∙◌, ◌⊎◌, suc, Bool, true, false, bytes_eq, codes, cond, nat_le, find, List, [], ◌∷◌, ◌++◌, length, map, Option, Some, None, Result, Ok, Err, refl, sym, ap, subst, inl, inr, ⊎_elim, arith}
use Rattle.std.specs.Prelude.{IfSome, IsSome}
use Rattle.std.proofs.lemmas.Bool.{and_from}
use Rattle.std.proofs.lemmas.Bool.Decides.{nat_tests}
use Rattle.std.proofs.lemmas.List.{append-nil}
use Rattle.std.proofs.Math.Bool.{and-true}
use Rattle.std.specs.List.{list_all}
use Rattle.std.specs.Option.{option_map}
use Rattle.ir_core.specs.declared.handles.Part.{Part}
use Rattle.ir_laws.specs.Answer as answer
use Rattle.ir_laws.specs.Answer.{start, yes_or_no, resolved, text_of_line, after_line, with_end}
use Rattle.ir_laws.specs.Cause as cause
use Rattle.ir_laws.specs.Cause.{is_cause_among}
use Rattle.ir_laws.specs.Causes.{earliest, form_causes, limit_causes, size_causes, tree_stages_if, unlisted_causes}
use Rattle.ir_laws.specs.Environment.{Environment, form_trees, tree_in, with_own}
use Rattle.ir_laws.specs.Expression.{Expr, Single, Group, expr_list, expressions}
use Rattle.ir_laws.specs.Form.{Form, Let, Print, Same, Flags, FormRow, form_of, form_of_exprs, forms, let_form, name_in, one_term, two_terms}
use Rattle.ir_laws.specs.Formed.{is_formed}
use Rattle.ir_laws.specs.Heap.{Each, Heap, tree_of}
use Rattle.ir_laws.specs.Held.{HoldsJust}
use Rattle.ir_laws.specs.Limits.{Limits, capped}
use Rattle.ir_laws.specs.LineTrees.{operands, made_trees, spelled_trees}
use Rattle.ir_laws.specs.Names.{if_so, name_causes, unless}
use Rattle.ir_laws.specs.Parts.{with_parts_of}
use Rattle.ir_laws.specs.Phrase.{Phrase, and_then, cons_if, each_of, phrase_of}
use Rattle.ir_laws.specs.Same.{same_term}
use Rattle.ir_laws.specs.Sorts.{sort_causes}
use Rattle.ir_laws.specs.Tree.{Text, Term}
use Rattle.ir_laws.proofs.FormedLemmas.{phrases_formed}
use Rattle.ir_laws.proofs.HeapLemmas.{tree_of-injective}
use Rattle.ir_laws.proofs.SameTerm.{term_decides}
use Rattle.ir_table.specs.declared.Interner.{Interner}
use Rattle.ir_table.specs.Interner.{heap}
use Rattle.ir_table.specs.State.{State}
use Rattle.ir_script.specs.declared.causes.Cause.{Cause}
use Rattle.ir_script.specs.declared.causes.Cause.TheVariants as fault
use Rattle.ir_syntax.specs.declared.commands.Asked.{Asked}
use Rattle.ir_syntax.specs.declared.commands.Asked.TheVariants as code
use Rattle.ir_script.specs.Answered.{AnswersForm, WritesLine, YesOrNo, causes_met, left_by}
use Rattle.ir_syntax.specs.Commands.{HasTerms, asked_count, asked_form, own_causes, wants_one_sort}
use Rattle.ir_syntax.specs.declared.errors.ReadError.{ReadError}
use Rattle.ir_syntax.specs.declared.errors.ReadError.TheVariants as read
use Rattle.ir_script.specs.Causes.{Says, cause_seen, read_cause}
use Rattle.ir_script.specs.Operands.{operand_unknowns}
use Rattle.ir_script.specs.Scope.{Named, IsTerm, env_of}
use Rattle.ir_script.specs.Staged.{AreOperands, MakesTerms, operand_causes, operand_sorts, operand_trees}
use Rattle.ir_syntax.specs.Steps.{Stack, built, only}
use Rattle.ir_syntax.specs.declared.steps.Step.{Step}
use Rattle.ir_script.proofs.StageLemmas.{all_passed, says_first, says_more}

-- ---- the terms of a form are of the grammar

abbrev terms_in : Form Phrase → List Phrase
terms_in (Let name p) = p ∷ []
terms_in (Print p) = p ∷ []
terms_in (Same p q) = p ∷ q ∷ []
terms_in (Flags p) = p ∷ []
terms_in form = []

abbrev MaybeFormed : Option (Form Phrase) → Type 0
MaybeFormed None = Unit {0}
MaybeFormed (Some form) = list_all is_formed (terms_in form) ≡ true

then_formed : {A : Type 0} (o : Option A) (f : A → Option (Form Phrase)) → ((x : A) → o ≡ Some x → MaybeFormed (f x)) → MaybeFormed (and_then o f)
then_formed None f formed = tt
then_formed (Some x) f formed = formed x refl

last_formed : (o : Option Phrase) → ((p : Phrase) → o ≡ Some p → is_formed p ≡ true) → (make : Phrase → Form Phrase) → ((p : Phrase) → is_formed p ≡ true → list_all is_formed (terms_in (make p)) ≡ true) → MaybeFormed (option_map make o)
last_formed None is make formed = tt
last_formed (Some p) is make formed = formed p (is p refl)

let_formed : (es : List Expr) → MaybeFormed (let_form es)
let_formed (n ∷ e ∷ []) = then_formed (name_in n) _ (λ name is. last_formed (phrase_of e) (phrases_formed e) (Let name) (λ p f. and_from _ true f refl))
let_formed _ = tt

one_formed : (make : Phrase → Form Phrase) → ((p : Phrase) → is_formed p ≡ true → list_all is_formed (terms_in (make p)) ≡ true) → (es : List Expr) → MaybeFormed (one_term make es)
one_formed make formed (e ∷ []) = last_formed (phrase_of e) (phrases_formed e) make formed
one_formed make formed _ = tt

same_formed : (es : List Expr) → MaybeFormed (two_terms Same es)
same_formed (d ∷ e ∷ []) = then_formed (phrase_of d) _ (λ p is. last_formed (phrase_of e) (phrases_formed e) (Same p) (λ q f. and_from _ _ (phrases_formed d p is) (and_from _ true f refl)))
same_formed _ = tt

found_formed : (rows : List FormRow) → Each (λ row. (es : List Expr) → MaybeFormed (row.read es)) rows → (text : Text) (es : List Expr) → MaybeFormed (and_then (find (λ row. bytes_eq row.text text) rows) (λ row. row.read es))
found_formed [] each text es = tt
found_formed (row ∷ rows) each text es = by (bytes_eq row.text text) (found_formed rows each.1 text es)
  where
    by : (b : Bool) → MaybeFormed (and_then (find (λ (row : FormRow). bytes_eq row.text text) rows) (λ row. row.read es)) → MaybeFormed (and_then (cond b (Some row) (find (λ (row : FormRow). bytes_eq row.text text) rows)) (λ row. row.read es))
    by true rest = each.0 es
    by false rest = rest

form_formed : (es : List Expr) → MaybeFormed (form_of_exprs es)
form_formed [] = refl
form_formed (Group items ∷ es) = tt
form_formed (Single text ∷ es) = found_formed forms (let_formed, (one_formed Print (λ p f. and_from _ true f refl), (same_formed, (one_formed Flags (λ p f. and_from _ true f refl), tt)))) text es

line_formed : (line : Text) → MaybeFormed (form_of line)
line_formed line = then_formed (expressions line) _ (λ es is. form_formed (expr_list es))

-- ---- each command over its terms

-- the form of what is asked, by its terms
record Takes (env : Environment) (a : Asked) (ps : List Phrase) (form : Form Phrase) : Type 0 where
  terms : terms_in form ≡ ps
  count : length ps ≡ asked_count a
  names : name_causes env form ≡ own_causes env a ++ operand_unknowns env ps
  sorts : sort_causes env (with_own env form) form ≡ operand_sorts env (wants_one_sort a) ps
  trees : form_trees (with_own env form) form ≡ and_then (each_of (tree_in env) ps) (asked_form a)

abbrev TakesIf : Environment → Asked → List Phrase → Option (Form Phrase) → Type 0
TakesIf env a ps None = Unit {0}
TakesIf env a ps (Some form) = Takes env a ps form

one_tree : (make : Term → Form Term) (f : List Term → Option (Form Term)) → ((t : Term) → Some (make t) ≡ f (t ∷ [])) → (o : Option Term) → option_map make o ≡ and_then (cons_if o (Some [])) f
one_tree make f is None = refl
one_tree make f is (Some t) = is t

two_trees : (make : Term → Term → Form Term) (f : List Term → Option (Form Term)) → ((t u : Term) → Some (make t u) ≡ f (t ∷ u ∷ [])) → (o r : Option Term) → and_then o (λ t. option_map (make t) r) ≡ and_then (cons_if o (cons_if r (Some []))) f
two_trees make f is None r = refl
two_trees make f is (Some t) None = refl
two_trees make f is (Some t) (Some u) = is t u

takes : (env : Environment) (a : Asked) (ps : List Phrase) → TakesIf env a ps (asked_form a ps)
takes env code.Blank [] = record { terms = refl; count = refl; names = refl; sorts = refl; trees = refl }
takes env (code.Let name) (p ∷ []) = record { terms = refl; count = refl; names = simp append-nil; sorts = simp append-nil; trees = one_tree (Let name.now) (asked_form (code.Let name)) (λ t. refl) (tree_in env p) }
takes env code.Print (p ∷ []) = record { terms = refl; count = refl; names = simp append-nil; sorts = simp append-nil; trees = one_tree Print (asked_form code.Print) (λ t. refl) (tree_in env p) }
takes env code.Same (p ∷ q ∷ []) = record { terms = refl; count = refl; names = simp append-nil; sorts = simp (append-nil, and-true); trees = two_trees Same (asked_form code.Same) (λ t u. refl) (tree_in env p) (tree_in env q) }
takes env code.Flags (p ∷ []) = record { terms = refl; count = refl; names = simp append-nil; sorts = simp append-nil; trees = one_tree Flags (asked_form code.Flags) (λ t. refl) (tree_in env p) }
takes env _ _ = tt

-- the same over trees: these are all that it makes, and it meets no cause of its own in the stage of variables
record Taken (limits : Limits) (env : Environment) (ts : List Term) (tree : Form Term) : Type 0 where
  operands_are : operands tree ≡ ts
  made : operands tree ++ made_trees limits env tree ≡ ts
  own : form_causes env tree ≡ []

abbrev IsTaken : Limits → Environment → List Term → Option (Form Term) → Type 0
IsTaken limits env ts None = ⊥
IsTaken limits env ts (Some tree) = Taken limits env ts tree

taken : (limits : Limits) (env : Environment) (a : Asked) (ts : List Term) → length ts ≡ asked_count a → IsTaken limits env ts (asked_form a ts)
taken limits env code.Blank [] e = record { operands_are = refl; made = refl; own = refl }
taken limits env (code.Let name) (t ∷ []) e = record { operands_are = refl; made = refl; own = refl }
taken limits env code.Print (t ∷ []) e = record { operands_are = refl; made = refl; own = refl }
taken limits env code.Same (t ∷ u ∷ []) e = record { operands_are = refl; made = refl; own = refl }
taken limits env code.Flags (t ∷ []) e = record { operands_are = refl; made = refl; own = refl }
taken limits env _ _ e = absurd (omega arith)

-- ---- a line that asks for something

some_is : {A : Type 0} (o : Option A) → IsSome o → (x : A) × (o ≡ Some x)
some_is None some = absurd (cc)
some_is (Some x) some = (x, refl)

module _ {form : Option (Form Phrase)} {a : Asked} {st : Stack} (has : HasTerms form a st) where
  terms_are : st.terms ≡ has.terms
  terms_are = ap (λ st. st.terms) has.built_is

  found : (f : Form Phrase) × (form ≡ Some f)
  found = some_is form has.some

  found_takes : (env : Environment) → Takes env a st.terms found.0
  found_takes env = subst (TakesIf env a st.terms) (ap (asked_form a) terms_are ∙ sym has.form_is ∙ found.1) (takes env a st.terms)

pub asked_count_is : {form : Option (Form Phrase)} {a : Asked} {st : Stack} → HasTerms form a st → length st.terms ≡ asked_count a
asked_count_is has = (found_takes has start.environment).count

pub asked_operands : (line : Text) {a : Asked} {st : Stack} → HasTerms (form_of line) a st → AreOperands st
asked_operands line has = record {
  alone = has.built_is ∙ ap only (sym (terms_are has));
  formed = ap (list_all is_formed) (sym (found_takes has start.environment).terms) ∙ subst MaybeFormed (found has).1 (line_formed line);
}

-- ---- what it meets and writes

-- a line that is not read has no form, or there is no memory
pub not_read : (form : Option (Form Phrase)) (e : ReadError) (c : Cause) → c ≡ read_cause e → (e ≡ read.Syntax → form ≡ None) → (c ≡ fault.Memory) ⊎ ((c ≡ fault.Syntax) × (form ≡ None))
not_read form read.Syntax c is none = inr (is, none refl)
not_read form read.Memory c is none = inl is

pub unread_met : (limits : Limits) (form : Option (Form Phrase)) (s : answer.State) (text : Text) (now : Heap Part) (names : List Named) (c : Cause) → (c ≡ fault.Memory) ⊎ ((c ≡ fault.Syntax) × (form ≡ None)) → AnswersForm limits form s text text now names (Err c)
unread_met limits form s text now names c why = record {
  clear = tt;
  text = tt;
  left = tt;
  names_are = tt;
  fault = ⊎_elim (λ is. inl (ap cause_seen is)) (λ is. inr (rw (is.0, is.1) refl)) why;
}

each_count : {A B : Type 0} (f : A → Option B) (xs : List A) (ys : List B) → each_of f xs ≡ Some ys → length ys ≡ length xs
each_count f [] ys e = let same : [] ≡ ys = cc in ap length (sym same)
each_count {B = B} f (x ∷ xs) ys e = by (f x) (each_of f xs) (each_count f xs) e
  where
    by : (o : Option B) (r : Option (List B)) → ((zs : List B) → r ≡ Some zs → length zs ≡ length xs) → cons_if o r ≡ Some ys → length ys ≡ suc (length xs)
    by None r more e = absurd (cc)
    by (Some y) None more e = absurd (cc)
    by (Some y) (Some zs) more e = let same : y ∷ zs ≡ ys = cc in sym (ap length same) ∙ ap suc (more zs refl)

module _ {form : Option (Form Phrase)} {a : Asked} {st : Stack} (has : HasTerms form a st) (old : State) (ns : List Named) (held : List Term) where
  abbrev env : Environment
  env = env_of old.heap ns

  abbrev limits : Limits
  limits = capped old.limits

  abbrev met : List cause.Cause
  met = causes_met limits form (left_by old.heap ns held)

  -- a name that is declared already
  pub own_met : own_causes env a ≡ if_so true cause.Duplicate → (text : Text) (now : Heap Part) (names : List Named) → AnswersForm limits form (left_by old.heap ns held) text text now names (Err fault.Duplicate)
  own_met own text now names = record {
    clear = tt;
    text = tt;
    left = tt;
    names_are = tt;
    fault = inr (subst (λ form. Says fault.Duplicate (causes_met limits form (left_by old.heap ns held))) (sym (found has).1)
        (says_first (name_causes env (found has).0) _ fault.Duplicate
        ((λ i. is_cause_among ((found_takes has env).names i) cause.Duplicate) ∙ (λ i. is_cause_among (own i ++ operand_unknowns env st.terms) cause.Duplicate))));
  }

  module _ (own : own_causes env a ≡ []) {alike : Bool} (alike_is : alike ≡ wants_one_sort a) where
    abbrev unknown : List cause.Cause
    unknown = operand_unknowns env st.terms

    abbrev unfit : List cause.Cause
    unfit = operand_sorts env alike st.terms

    by_trees : met ≡ earliest (unknown ∷ unfit ∷ tree_stages_if limits env held (and_then (each_of (tree_in env) st.terms) (asked_form a)))
    by_trees =
        let t = found_takes has env in
        ap (λ form. causes_met limits form (left_by old.heap ns held)) (found has).1 ∙ (λ i. earliest ((t.names ∙ ap (λ cs. cs ++ unknown) own) i ∷ (t.sorts ∙ ap (λ b. operand_sorts env b st.terms) (sym alike_is)) i ∷ tree_stages_if limits env held (t.trees i)))

    abbrev sizes : Option (Form Term) → List cause.Cause
    sizes None = []
    sizes (Some tree) = size_causes limits (spelled_trees env tree)

    by_stages : (ts : List Term) (o : Option (Form Term)) → IsTaken limits env ts o → tree_stages_if limits env held o ≡ limit_causes limits held ts ∷ unlisted_causes ts ∷ limit_causes limits held ts ∷ sizes o ∷ []
    by_stages ts None t = absurd t
    by_stages ts (Some tree) t = (λ i. limit_causes limits held (t.operands_are i) ∷ (unlisted_causes (t.operands_are i) ++ t.own i) ∷ limit_causes limits held (t.made i) ∷ size_causes limits (spelled_trees env tree) ∷ [])
        ∙ ap (λ cs. limit_causes limits held ts ∷ cs ∷ limit_causes limits held ts ∷ size_causes limits (spelled_trees env tree) ∷ []) (append-nil (unlisted_causes ts))

    taken_by : (ts : List Term) → each_of (tree_in env) st.terms ≡ Some ts → IsTaken limits env ts (asked_form a ts)
    taken_by ts e = taken limits env a ts (each_count (tree_in env) st.terms ts e ∙ asked_count_is has)

    -- what its terms meet
    operands_met : (c : Cause) → Says c (operand_causes limits alike st.terms (left_by old.heap ns held)) → Says c met
    operands_met c says = subst (Says c) (sym by_trees) (by (each_of (tree_in env) st.terms) refl says)
      where
        by : (o : Option (List Term)) → each_of (tree_in env) st.terms ≡ o → Says c (earliest (unknown ∷ unfit ∷ operand_trees limits held o)) → Says c (earliest (unknown ∷ unfit ∷ tree_stages_if limits env held (and_then o (asked_form a))))
        by None e says = says
        by (Some ts) e says = subst (λ stages. Says c (earliest (unknown ∷ unfit ∷ stages))) (sym (by_stages ts (asked_form a ts) (taken_by ts e)))
            (says_more (unknown ∷ unfit ∷ limit_causes limits held ts ∷ unlisted_causes ts ∷ []) (limit_causes limits held ts ∷ sizes (asked_form a ts) ∷ []) c says)

    pub terms_met : {new : State} {qs : List Part} {c : Cause} {text : Text} {now : Heap Part} {names : List Named} {r : Result Unit Cause} → MakesTerms alike st.terms ns held old new qs (Err c) → r ≡ Err c → AnswersForm limits form (left_by old.heap ns held) text text now names r
    terms_met {c = c} m is = rw is (record { clear = tt; text = tt; left = tt; names_are = tt; fault = ⊎_elim inl (λ says. inr (operands_met c says)) m.fault })

    module _ {new : State} {qs : List Part} (m : MakesTerms alike st.terms ns held old new qs (Ok tt)) (kept : new.limits ≡ old.limits) where
      abbrev ts : List Term
      ts = map (tree_of new.heap) qs

      -- what is left is the size of what it spells
      by_size : met ≡ earliest (sizes (asked_form a ts) ∷ [])
      by_size =
          let clear : earliest (unknown ∷ unfit ∷ operand_trees limits held (Some ts)) ≡ [] = ap (λ o. earliest (unknown ∷ unfit ∷ operand_trees limits held o)) (sym m.trees) ∙ m.clear in
          let known = all_passed unknown _ clear in
          let fits = all_passed unfit _ known.1 in
          let low = all_passed (limit_causes limits held ts) _ fits.1 in
          let listed = all_passed (unlisted_causes ts) _ low.1 in
          by_trees ∙ (λ i. earliest (unknown ∷ unfit ∷ tree_stages_if limits env held (and_then (m.trees i) (asked_form a))))
          ∙ ap (λ stages. earliest (unknown ∷ unfit ∷ stages)) (by_stages ts (asked_form a ts) (taken_by ts m.trees))
          ∙ (λ i. earliest (known.0 i ∷ fits.0 i ∷ low.0 i ∷ listed.0 i ∷ low.0 i ∷ sizes (asked_form a ts) ∷ []))

      module _ (before text : Text) (names : List Named) where
        abbrev Line : Result Unit Cause → Form Term → Type 0
        Line r tree = WritesLine (capped new.limits) (env_of new.heap ns) tree new.heap names before text r

        written_by : (o : Option (Form Term)) → asked_form a ts ≡ o → IsTaken limits env ts o → (r : Result Unit Cause) → IfSome o (Line r) → AnswersForm limits form (left_by old.heap ns held) before text new.heap names r
        written_by None is t r line = absurd t
        written_by (Some tree) is t r line = by r (subst (λ env. WritesLine limits env tree new.heap names before text r) (sym m.names_are) (subst (λ given. WritesLine (capped given) (env_of new.heap ns) tree new.heap names before text r) kept line))
          where
            tree_is : resolved env form ≡ Some tree
            tree_is = ap (resolved env) (found has).1 ∙ (found_takes has env).trees ∙ ap (λ o. and_then o (asked_form a)) m.trees ∙ is

            size_is : met ≡ earliest (size_causes limits (spelled_trees env tree) ∷ [])
            size_is = by_size ∙ ap (λ o. earliest (sizes o ∷ [])) is

            by : (r : Result Unit Cause) → WritesLine limits env tree new.heap names before text r → AnswersForm limits form (left_by old.heap ns held) before text new.heap names r
            by (Ok x) line = record {
              clear = size_is ∙ ap (λ cs. earliest (cs ∷ [])) line.small;
              text = line.text ∙ ap (λ w. before ++ w) (sym (ap (text_of_line (left_by old.heap ns held)) tree_is));
              left = subst (HoldsJust new.heap) (ap (with_parts_of held) (sym t.made) ∙ sym (ap (λ o. (after_line limits (left_by old.heap ns held) o).parts) tree_is)) m.left;
              names_are = ap (λ o. (after_line limits (left_by old.heap ns held) o).environment) tree_is ∙ line.names_are;
              fault = tt;
            }
            by (Err c) line = record { clear = tt; text = tt; left = tt; names_are = tt; fault = ⊎_elim inl (λ says. inr (subst (Says c) (sym size_is) (says_first _ [] c says))) line.fault }

        pub line_written : {seen : List Part} → seen ≡ qs → (r : Result Unit Cause) → IfSome (asked_form a (map (tree_of new.heap) seen)) (Line r) → AnswersForm limits form (left_by old.heap ns held) before text new.heap names r
        line_written same r line = written_by (asked_form a ts) refl (taken_by ts m.trees) r (subst (λ qs. IfSome (asked_form a (map (tree_of new.heap) qs)) (Line r)) same line)

-- ---- the line of `same`

yes_or_no_is : {A : Type 0} (t u : Term) (text : Text) → YesOrNo A text → (A → t ≡ u) → (t ≡ u → A) → text ≡ with_end (Some (yes_or_no (same_term t u)))
yes_or_no_is t u text (inl same) to from = same.1 ∙ ap (λ b. yes_or_no b ++ 10 ∷ []) (sym ((term_decides t u).1 (to same.0)))
yes_or_no_is t u text (inr other) to from = other.1 ∙ by (same_term t u) refl
  where
    by : (b : Bool) → same_term t u ≡ b → codes "no" ++ 10 ∷ [] ≡ yes_or_no b ++ 10 ∷ []
    by false e = refl
    by true e = absurd (other.0 (from ((term_decides t u).0 e)))

pub same_written : (cx : Interner) (limits : Limits) (ns : List Named) (before : Text) {a : Asked} {x y : Part} {parts : List Part} {line text : Text} → a ≡ code.Same → parts ≡ x ∷ (y ∷ []) → Each (IsTerm (heap cx)) parts → YesOrNo (x ≡ y) line → text ≡ before ++ line
    → IfSome (asked_form a (map (tree_of (heap cx)) parts)) (λ tree. WritesLine limits (env_of (heap cx) ns) tree (heap cx) ns before text (Ok tt))
same_written cx limits ns before {x = x} {y} {line = line} asked are terms says pushed =
    let both = subst (Each (IsTerm (heap cx))) are terms in
    rw (asked, are) (record {
      small = (let none : nat_le 0 limits.size ≡ true = grind (arith, nat_tests) in ap (λ b. unless b cause.TooLarge) none);
      text = pushed ∙ ap (λ w. before ++ w) (yes_or_no_is (tree_of (heap cx) x) (tree_of (heap cx) y) line says (ap (tree_of (heap cx))) (tree_of-injective (heap cx) cx.store.sound x y both.0.live both.1.0.live));
      names_are = refl;
      fault = tt;
    })
