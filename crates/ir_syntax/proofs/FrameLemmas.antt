-- What each frame makes of the next expression.
use Rattle.std.proofs.Common.{◌≡◌, ℕ, zero, suc, ◌+◌, ◌-◌, ◌<◌, ◌≤◌, Bool, true, false, ◌&&◌, ◌||◌, length, get_or, take, drop, List, [], ◌∷◌, ◌++◌, find, bytes_eq, Option, Some, None, option_map, IfSome, refl, sym, ap, ◌∙◌, subst, arith, append_assoc, add-one, length-append}
use Rattle.std.specs.List.{list_all}
use Rattle.std.proofs.lemmas.Grind.{common_steps}
use Rattle.std.proofs.lemmas.Bool.{and_from, and_parts}
use Rattle.std.proofs.lemmas.List.{append-nil, drop_all, drop_more, take_all, take_more}
use Rattle.std.proofs.Math.Bool.{or-false}
use Rattle.ir_laws.specs.Tree as tree
use Rattle.ir_laws.specs.Tree.{Text, Kind}
use Rattle.ir_laws.specs.Expression.{Expr, Exprs, Single, Group, NoExpr, ThenExpr}
use Rattle.ir_laws.specs.Formed.{kid_forms}
use Rattle.ir_laws.specs.Label.{row}
use Rattle.ir_laws.specs.Names.{field_forms}
use Rattle.ir_laws.specs.Parts.{has_for_group}
use Rattle.ir_laws.specs.Phrase.{Phrase, Phrases, Name, Labelled, NoPhrase, ThenPhrase, Fitted, phrase_list, phrase_of, phrases_of, phrases_in, bare_word, bare_or_name, no_parts, begins, written_word, fit, field_in, bind_of, kind_of, cons_if, or_else, and_then, labelled, list_phrase, cons_phrase, with_field, with_bind, with_kid}
use Rattle.ir_laws.specs.declared.labels.FieldForm.{FieldForm}
use Rattle.ir_laws.specs.declared.labels.KidForm.{KidForm}
use Rattle.ir_laws.specs.declared.labels.Part.{Part}
use Rattle.ir_laws.specs.declared.labels.Part.TheVariants.{Fixed, ForGroup, AField, AKid}
use Rattle.ir_laws.specs.declared.words.Word.{Word}
use Rattle.ir_laws.specs.Numeral.{name_of}
use Rattle.ir_laws.specs.Sorts.{is_word_among}
use Rattle.ir_laws.specs.Word.{label_words}
use Rattle.ir_laws.proofs.FormedLemmas.{find-passes, find-list_all}
use Rattle.ir_syntax.specs.Frames.{IsLeaf, KeepsWord, gives, needs, push_term, push_kind, push_field, push_group, IsNew, Reads, are_plain, is_in_place, is_kept, is_plain, label_start, list_word, terms_in, with_read, label_read, with_members, with_kinds, finish}
use Rattle.ir_syntax.specs.Grammar.{begins_with, is_built_field, kid_in, label_before}
use Rattle.ir_syntax.specs.Steps.{Stack, top, below, phrases, first_of, fields_taken, group_taken, kids_taken, kid_count, field_count, group_count, over_rest, step_on, with_terms}
use Rattle.ir_syntax.specs.declared.frames.Frame.{Frame}
use Rattle.ir_syntax.specs.declared.frames.Frame.TheVariants as code
use Rattle.ir_syntax.specs.declared.steps.Step.{Step}
use Rattle.ir_syntax.specs.declared.steps.Step.TheVariants as step
use Rattle.ir_syntax.proofs.FitLemmas.{fit-field, fit-kid, bind-none, kinds_in, cons-kind}

-- ---- the top of a stack

module _ {A : Type 0} where
  pub below_none : (xs : List A) → below 0 xs ≡ xs
  below_none xs = grind (arith, common_steps)

  pub top_none : (xs : List A) → top 0 xs ≡ []
  top_none xs = grind (arith, common_steps)

  module _ (n : ℕ) (xs : List A) (x : A) where
    left : length (xs ++ x ∷ []) - (n + 1) ≡ length xs - n
    left = omega (arith, length-append xs (x ∷ []))

    take_left : (m : ℕ) → m ≤ length xs → take m (xs ++ x ∷ []) ≡ take m xs
    take_left m h = grind (arith, common_steps)

    drop_left : (m : ℕ) → m ≤ length xs → drop m (xs ++ x ∷ []) ≡ drop m xs ++ x ∷ []
    drop_left m h = grind (arith, common_steps)

    pub below_more : below (n + 1) (xs ++ x ∷ []) ≡ below n xs
    below_more = ap (λ m. take m (xs ++ x ∷ [])) left ∙ take_left (length xs - n) (omega arith)

    pub top_more : top (n + 1) (xs ++ x ∷ []) ≡ top n xs ++ x ∷ []
    top_more = ap (λ m. drop m (xs ++ x ∷ [])) left ∙ drop_left (length xs - n) (omega arith)

pub phrases-list : (ps : Phrases) → phrases (phrase_list ps) ≡ ps
phrases-list NoPhrase = refl
phrases-list (ThenPhrase p ps) = ap (ThenPhrase p) (phrases-list ps)

-- ---- a label that is read so far, by what it takes

abbrev fitted : List (tree.Field Text) → Option (List (Kind Text)) → Phrases → Fitted
fitted fields bind kids = record { fields = fields; bind = bind; kids = kids }

read_by : Word → ℕ → ℕ → ℕ → Fitted → Stack → Stack
read_by w k f g r st = record {
  terms = below k st.terms ++ Labelled (record { word = w; fields = top f st.fields ++ r.fields }) (or_else (first_of (top g st.groups)) r.bind) (phrases (top k st.terms ++ phrase_list r.kids)) ∷ [];
  fields = below f st.fields;
  kinds = st.kinds;
  groups = below g st.groups;
}

module _ (w : Word) (k f g : ℕ) (r : Fitted) (st : Stack) where
  read-term : (p : Phrase) → read_by w (k + 1) f g r (push_term st p) ≡ read_by w k f g (fitted r.fields r.bind (ThenPhrase p r.kids)) st
  unfolding read_by
  read-term p =
      let over : List Phrase → List Phrase → Stack = λ low high. record { terms = low ++ Labelled (record { word = w; fields = top f st.fields ++ r.fields }) (or_else (first_of (top g st.groups)) r.bind) (phrases high) ∷ []; fields = below f st.fields; kinds = st.kinds; groups = below g st.groups } in
      (λ i. over (below_more k st.terms p i) (top_more k st.terms p i ++ phrase_list r.kids))
      ∙ ap (over (below k st.terms)) (append_assoc (top k st.terms) (p ∷ []) (phrase_list r.kids))

  read-field : (x : tree.Field Text) → read_by w k (f + 1) g r (push_field st x) ≡ read_by w k f g (fitted (x ∷ r.fields) r.bind r.kids) st
  unfolding read_by
  read-field x =
      let over : List (tree.Field Text) → List (tree.Field Text) → Stack = λ low high. record { terms = below k st.terms ++ Labelled (record { word = w; fields = high }) (or_else (first_of (top g st.groups)) r.bind) (phrases (top k st.terms ++ phrase_list r.kids)) ∷ []; fields = low; kinds = st.kinds; groups = below g st.groups } in
      (λ i. over (below_more f st.fields x i) (top_more f st.fields x i ++ r.fields))
      ∙ ap (over (below f st.fields)) (append_assoc (top f st.fields) (x ∷ []) r.fields)

  read-group : (b : List (Kind Text)) → read_by w k f 1 r (push_group st b) ≡ read_by w k f 0 (fitted r.fields (Some b) r.kids) st
  unfolding read_by
  read-group b =
      let over : List (List (Kind Text)) → Option (List (Kind Text)) → Stack = λ low bind. record { terms = below k st.terms ++ Labelled (record { word = w; fields = top f st.fields ++ r.fields }) bind (phrases (top k st.terms ++ phrase_list r.kids)) ∷ []; fields = below f st.fields; kinds = st.kinds; groups = low } in
      (λ i. over (below_more 0 st.groups b i) (or_else (first_of (top_more 0 st.groups b i)) r.bind))
      ∙ (λ i. over (below 0 st.groups) (or_else (first_of (top_none st.groups i ++ b ∷ [])) r.bind))
      ∙ (λ i. over (below 0 st.groups) (or_else (first_of (sym (top_none st.groups) i)) (Some b)))

field_forms-append : (ps qs : List Part) → field_forms (ps ++ qs) ≡ field_forms ps ++ field_forms qs
field_forms-append [] qs = refl
field_forms-append (Fixed word ∷ ps) qs = field_forms-append ps qs
field_forms-append (ForGroup ∷ ps) qs = field_forms-append ps qs
field_forms-append (AField form ∷ ps) qs = ap (λ forms. form ∷ forms) (field_forms-append ps qs)
field_forms-append (AKid form ∷ ps) qs = field_forms-append ps qs

kid_forms-append : (ps qs : List Part) → kid_forms (ps ++ qs) ≡ kid_forms ps ++ kid_forms qs
kid_forms-append [] qs = refl
kid_forms-append (Fixed word ∷ ps) qs = kid_forms-append ps qs
kid_forms-append (ForGroup ∷ ps) qs = kid_forms-append ps qs
kid_forms-append (AField form ∷ ps) qs = kid_forms-append ps qs
kid_forms-append (AKid form ∷ ps) qs = ap (λ forms. form ∷ forms) (kid_forms-append ps qs)

has-append : (ps qs : List Part) → has_for_group (ps ++ qs) ≡ (has_for_group ps || has_for_group qs)
has-append [] qs = refl
has-append (Fixed word ∷ ps) qs = has-append ps qs
has-append (ForGroup ∷ ps) qs = refl
has-append (AField form ∷ ps) qs = has-append ps qs
has-append (AKid form ∷ ps) qs = has-append ps qs

-- what one part more takes
module _ (ps : List Part) (part : Part) where
  fields-on : field_count (ps ++ part ∷ []) ≡ field_count ps + field_count (part ∷ [])
  fields-on = ap length (field_forms-append ps (part ∷ [])) ∙ length-append (field_forms ps) (field_forms (part ∷ []))

  kids-on : kid_count (ps ++ part ∷ []) ≡ kid_count ps + kid_count (part ∷ [])
  kids-on = ap length (kid_forms-append ps (part ∷ [])) ∙ length-append (kid_forms ps) (kid_forms (part ∷ []))

  groups-on : (had has : Bool) → has_for_group ps ≡ had → has_for_group (part ∷ []) ≡ has → group_count (ps ++ part ∷ []) ≡ elim (had || has) [ true ↦ 1 | false ↦ 0 ]
  groups-on had has was is = ap (λ b. elim b as (λ v. ℕ) [ true ↦ 1 | false ↦ 0 ]) (has-append ps (part ∷ []) ∙ (λ i. was i || is i))

same_group : (ps : List Part) (part : Part) → has_for_group (part ∷ []) ≡ false → group_count (ps ++ part ∷ []) ≡ group_count ps
same_group ps part no_group = groups-on ps part (has_for_group ps) false refl no_group ∙ ap (λ b. elim b as (λ v. ℕ) [ true ↦ 1 | false ↦ 0 ]) (or-false (has_for_group ps))

-- ---- the next expression

-- a kid, by the word of the list that it is
abbrev kid_by : Option Word → Expr → Option Phrase
kid_by None e = phrase_of e
kid_by (Some list) e = list_phrase list (phrases_in e)

module _ (e : Expr) where
  pub field-then : (form : FieldForm) → is_built_field form ≡ true → Reads (AField form) e (λ st. option_map (push_field st) (field_in form e))
  unfolding read_by
  field-then form built w before after es st new = ap (option_map (λ r. with_read w before r st)) (fit-field e es form after built) ∙ by (field_in form e) (fit es after)
    where
      kids : kid_count (before ++ AField form ∷ []) ≡ kid_count before
      kids = omega (arith, kids-on before (AField form))

      by : (o : Option (tree.Field Text)) (p : Option Fitted) → option_map (λ r. with_read w before r st) (with_field o p) ≡ and_then (option_map (push_field st) o) (λ new. option_map (λ r. with_read w (before ++ AField form ∷ []) r new) p)
      by None p = refl
      by (Some x) None = refl
      by (Some x) (Some r) = ap Some (sym ((λ i. read_by w (kids i) (fields-on before (AField form) i) (same_group before (AField form) refl i) r (push_field st x)) ∙ read-field w (kid_count before) (field_count before) (group_count before) r st x))

  kid-is : (form : KidForm) → kid_in form e ≡ kid_by (list_word form) e
  kid-is form = grind (arith, common_steps)

  pub kid-then : (form : KidForm) (o : Option Word) → o ≡ list_word form → Reads (AKid form) e (λ st. option_map (push_term st) (kid_by o e))
  unfolding read_by
  kid-then form list is w before after es st new = ap (option_map (λ r. with_read w before r st)) (fit-kid e es form after ∙ ap (λ o. with_kid o (fit es after)) (kid-is form ∙ ap (λ o. kid_by o e) (sym is))) ∙ by (kid_by list e) (fit es after)
    where
      fields : field_count (before ++ AKid form ∷ []) ≡ field_count before
      fields = omega (arith, fields-on before (AKid form))

      by : (o : Option Phrase) (p : Option Fitted) → option_map (λ r. with_read w before r st) (with_kid o p) ≡ and_then (option_map (push_term st) o) (λ new. option_map (λ r. with_read w (before ++ AKid form ∷ []) r new) p)
      by None p = refl
      by (Some x) None = refl
      by (Some x) (Some r) = ap Some (sym ((λ i. read_by w (kids-on before (AKid form) i) (fields i) (same_group before (AKid form) refl i) r (push_term st x)) ∙ read-term w (kid_count before) (field_count before) (group_count before) r st x))

  pub group-then : Reads ForGroup e (λ st. option_map (push_group st) (bind_of e))
  unfolding read_by
  group-then w before after es st new = by (bind_of e) (fit es after)
    where
      kids : kid_count (before ++ ForGroup ∷ []) ≡ kid_count before
      kids = omega (arith, kids-on before ForGroup)

      fields : field_count (before ++ ForGroup ∷ []) ≡ field_count before
      fields = omega (arith, fields-on before ForGroup)

      none : group_count before ≡ 0
      none = ap (λ b. elim b as (λ v. ℕ) [ true ↦ 1 | false ↦ 0 ]) new

      by : (o : Option (List (Kind Text))) (p : Option Fitted) → option_map (λ r. with_read w before r st) (with_bind o p) ≡ and_then (option_map (push_group st) o) (λ new. option_map (λ r. with_read w (before ++ ForGroup ∷ []) r new) p)
      by None p = refl
      by (Some x) None = refl
      by (Some x) (Some r) = ap Some (sym ((λ i. read_by w (kids i) (fields i) (groups-on before ForGroup false true new refl i) r (push_group st x)) ∙ read-group w (kid_count before) (field_count before) 0 r st x ∙ (λ i. read_by w (kid_count before) (field_count before) (sym none i) (fitted r.fields (Some x) r.kids) st)))

-- the same of a part that is this, and of what the code does
pub reads-by : (part is : Part) (e : Expr) (told read : Stack → Option Stack) → part ≡ is → Reads is e told → ((st : Stack) → told st ≡ read st) → Reads part e read
reads-by part is e told read same reads by = subst (λ (p : Part). Reads p e read) (sym same) (λ w before after es st new. reads w before after es st new ∙ ap (λ o. and_then o (label_read w (before ++ is ∷ []) after es)) (by st))

module _ (f : Frame) (e : Expr) (es : Exprs) (st : Stack) where
  pub terms-then : (n : ℕ) → f ≡ code.Terms n → (n ≡ 0 → ⊥) → finish f (ThenExpr e es) st ≡ and_then (option_map (push_term st) (phrase_of e)) (finish (code.Terms (n - 1)) es)
  terms-then zero is some = absurd (some refl)
  terms-then (suc n) is some =
      let less : n ≡ suc n - 1 = omega arith in
      ap (λ f. finish f (ThenExpr e es) st) is ∙ by (phrase_of e) (terms_in n es) ∙ ap (λ n. and_then (option_map (push_term st) (phrase_of e)) (finish (code.Terms n) es)) less
    where
      by : (o : Option Phrase) (p : Option (List Phrase)) → option_map (λ ps. with_terms (st.terms ++ ps) st) (cons_if o p) ≡ and_then (option_map (push_term st) o) (λ new. option_map (λ ps. with_terms (new.terms ++ ps) new) p)
      by None p = refl
      by (Some x) None = refl
      by (Some x) (Some ps) = ap (λ ts. Some (with_terms ts st)) (sym (append_assoc st.terms (x ∷ []) ps))

  pub list-then : (w : Word) (n more : ℕ) → f ≡ code.List w n → more ≡ n + 1 → finish f (ThenExpr e es) st ≡ and_then (option_map (push_term st) (phrase_of e)) (finish (code.List w more) es)
  list-then w n more is next = ap (λ f. finish f (ThenExpr e es) st) is ∙ by (phrase_of e) (phrases_of es) ∙ ap (λ n. and_then (option_map (push_term st) (phrase_of e)) (finish (code.List w n) es)) (sym next)
    where
      by : (o : Option Phrase) (p : Option Phrases) → option_map (λ ps. with_members w n ps st) (cons_phrase o p) ≡ and_then (option_map (push_term st) o) (λ new. option_map (λ ps. with_members w (n + 1) ps new) p)
      by None p = refl
      by (Some x) None = refl
      by (Some x) (Some ps) =
          let over : List Phrase → List Phrase → Option Stack = λ low high. Some (with_terms (low ++ Labelled (record { word = w; fields = [] }) None (phrases high) ∷ []) st) in
          sym ((λ i. over (below_more n st.terms x i) (top_more n st.terms x i ++ phrase_list ps)) ∙ ap (over (below n st.terms)) (append_assoc (top n st.terms) (x ∷ []) (phrase_list ps)))

pub variables-then : (text : Text) (es : Exprs) (st : Stack) (n : ℕ) → finish (code.Variables n) (ThenExpr (Single text) es) st ≡ and_then (option_map (push_kind st) (kind_of text)) (finish (code.Variables (n + 1)) es)
variables-then text es st n = ap (option_map (λ ks. with_kinds n ks st)) (cons-kind text es) ∙ by (kind_of text) (kinds_in es)
  where
    by : (o : Option (Kind Text)) (p : Option (List (Kind Text))) → option_map (λ ks. with_kinds n ks st) (cons_if o p) ≡ and_then (option_map (push_kind st) o) (λ new. option_map (λ ks. with_kinds (n + 1) ks new) p)
    by None p = refl
    by (Some x) None = refl
    by (Some x) (Some ks) =
        let over : List (Kind Text) → List (Kind Text) → Option Stack = λ low high. Some (record { terms = st.terms; fields = st.fields; kinds = low; groups = st.groups ++ high ∷ [] }) in
        sym ((λ i. over (below_more n st.kinds x i) (top_more n st.kinds x i ++ ks)) ∙ ap (over (below n st.kinds)) (append_assoc (top n st.kinds) (x ∷ []) ks))

-- a list of which nothing is read
pub list-begun : (w : Word) (inner : Exprs) (st : Stack) → option_map (push_term st) (list_phrase w (phrases_of inner)) ≡ finish (code.List w 0) inner st
list-begun w inner st = by (phrases_of inner)
  where
    by : (p : Option Phrases) → option_map (push_term st) (list_phrase w p) ≡ option_map (λ ps. with_members w 0 ps st) p
    by None = refl
    by (Some ps) =
        let over : List Phrase → Phrases → Option Stack = λ low kids. Some (with_terms (low ++ Labelled (record { word = w; fields = [] }) None kids ∷ []) st) in
        (λ i. over (sym (below_none st.terms) i) (sym (phrases-list ps) i)) ∙ (λ i. over (below 0 st.terms) (phrases (sym (top_none st.terms) i ++ phrase_list ps)))

-- ---- labels

-- a label of which nothing is read
label-fresh : (w : Word) (r : Fitted) (st : Stack) → with_read w [] r st ≡ push_term st (Labelled (record { word = w; fields = r.fields }) r.bind r.kids)
label-fresh w r st =
    (λ i. record { terms = below_none st.terms i ++ Labelled (record { word = w; fields = top_none st.fields i ++ r.fields }) (or_else (first_of (top_none st.groups i)) r.bind) (phrases (top_none st.terms i ++ phrase_list r.kids)) ∷ []; fields = below_none st.fields i; kinds = st.kinds; groups = below_none st.groups i })
    ∙ ap (λ kids. push_term st (Labelled (record { word = w; fields = r.fields }) r.bind kids)) (phrases-list r.kids)

-- a label that is whole
pub label-whole : (w : Word) (st : Stack) → with_read w (row w).parts (fitted [] None NoPhrase) st ≡ step_on st (step.Label w)
label-whole w st =
    let ps : List Part = (row w).parts in
    λ i. over_rest ps (Labelled (record { word = w; fields = append-nil (fields_taken ps st) i }) (bind-none (group_taken ps st) i) (phrases (append-nil (kids_taken ps st) i))) st

-- what is found among the labels' words
abbrev named_so : (Word → Bool) → Text → Word → Bool
named_so q text w = elim (bytes_eq (row w).text text) [ true ↦ q w | false ↦ false ]

passes : (q : Word → Bool) (text : Text) (w : Word) → Some w ≡ find (named_so q text) label_words → q w ≡ true
passes q text w is = by (bytes_eq (row w).text text) (q w) (subst (λ (o : Option Word). IfSome o (λ w. named_so q text w ≡ true)) (sym is) (find-passes (named_so q text) label_words))
  where
    by : (same b : Bool) → elim same as (λ v. Bool) [ true ↦ b | false ↦ false ] ≡ true → b ≡ true
    by same b h = grind (arith, common_steps)

-- a label that is written as its word alone
pub bare-step : (text : Text) (w : Word) (st : Stack) → Some w ≡ bare_word text → Some (step_on st (step.Label w)) ≡ option_map (push_term st) (bare_or_name text)
bare-step text w st is =
    ap Some (sym (label-whole w st) ∙ ap (λ ps. with_read w ps (fitted [] None NoPhrase) st) (none (row w).parts (passes (λ w. no_parts (row w).parts) text w is)) ∙ label-fresh w (fitted [] None NoPhrase) st)
    ∙ ap (λ o. option_map (push_term st) (elim o as (λ v. Option Phrase) [ Some w ↦ Some (Labelled (record { word = w; fields = [] }) None NoPhrase) | None ↦ option_map Name (name_of text) ])) is
  where
    none : (ps : List Part) → no_parts ps ≡ true → ps ≡ []
    none ps h = grind (arith, common_steps)

pub bare-leaf : (text : Text) (w : Word) → Some w ≡ bare_word text → IsLeaf 1 (step.Label w)
bare-leaf text w is = (no_kids (row w).parts (passes (λ w. no_parts (row w).parts) text w is), refl, subst (λ (o : Option Word). IfSome o (λ w. is_word_among label_words w ≡ true)) (sym is) (find-list_all (named_so (λ w. no_parts (row w).parts) text) (is_word_among label_words) label_words refl))
  where
    no_kids : (ps : List Part) → no_parts ps ≡ true → kid_count ps ≡ 0
    no_kids [] h = refl
    no_kids (p ∷ ps) h = cc

-- a step that is there leaves its frame
pub leaf-kept : (n m p : ℕ) (s : Step) (f : Frame) → is_kept f ≡ true → needs f ≤ n + p → gives f ≡ m → IsLeaf p s → KeepsWord n m (record { step = Some s; frame = f })
leaf-kept n m p s f kept needed given leaf = (kept, omega (arith, needed, leaf.1), given, leaf.0, leaf.2)

-- ---- a label that is open

-- one part more
module _ (w : Word) (at : ℕ) (part : Part) (ps : List Part) (are : ps ≡ (row w).parts) (there : (at < length ps) × ((d : Part) → part ≡ get_or ps at d)) where
  rest : drop at (row w).parts ≡ part ∷ drop (at + 1) (row w).parts
  rest = ap (drop at) (sym are) ∙ drop_more ps at part there.0 ∙ (λ i. sym (there.1 part) i ∷ drop (at + 1) (are i))

  more : take at (row w).parts ++ part ∷ [] ≡ take (at + 1) (row w).parts
  more = (λ i. take at (sym are i) ++ there.1 part i ∷ []) ∙ sym (take_more ps at part there.0) ∙ ap (take (at + 1)) are

  pub part-needs : needs (code.Label w (at + 1)) ≡ needs (code.Label w at) + kid_count (part ∷ [])
  part-needs = ap kid_count (sym more) ∙ kids-on (take at (row w).parts) part

  module _ (kept : is_kept (code.Label w at) ≡ true) where
    known : (is_word_among label_words w ≡ true) × (are_plain at (drop at (row w).parts) ≡ true)
    known = and_parts (is_word_among label_words w) _ kept

    parts : ((is_plain part && is_in_place at part) ≡ true) × (are_plain (suc at) (drop (at + 1) (row w).parts) ≡ true)
    parts = and_parts (is_plain part && is_in_place at part) _ (ap (are_plain at) (sym rest) ∙ known.1)

    pub part-plain : is_plain part ≡ true
    part-plain = (and_parts (is_plain part) (is_in_place at part) parts.0).0

    pub part-kept : is_kept (code.Label w (at + 1)) ≡ true
    part-kept = and_from (is_word_among label_words w) _ known.0 (ap (λ n. are_plain n (drop (at + 1) (row w).parts)) (add-one at) ∙ parts.1)

    new : IsNew part (take at (row w).parts)
    new = by at part (and_parts (is_plain part) (is_in_place at part) parts.0).1
      where
        by : (n : ℕ) (p : Part) → is_in_place n p ≡ true → IsNew p (take n (row w).parts)
        by n (Fixed word) h = tt
        by zero ForGroup h = refl
        by (suc n) ForGroup h = cc
        by n (AField form) h = tt
        by n (AKid form) h = tt

    pub label-then : (e : Expr) (read : Stack → Option Stack) → Reads part e read → (es : Exprs) (st : Stack) → finish (code.Label w at) (ThenExpr e es) st ≡ and_then (read st) (finish (code.Label w (at + 1)) es)
    label-then e read reads es st =
        ap (λ ps. label_read w (take at (row w).parts) ps (ThenExpr e es) st) rest ∙ reads w (take at (row w).parts) (drop (at + 1) (row w).parts) es st new
        ∙ ap (λ ps. and_then (read st) (label_read w ps (drop (at + 1) (row w).parts) es)) more

-- ---- the label of a group

abbrev pub next_of : Expr → Option Text
next_of (Single text) = Some text
next_of (Group es) = None

written-is : (text : Text) (e : Expr) (es : Exprs) → written_word text (ThenExpr e es) ≡ label_before text (next_of e)
written-is text e es = λ i. find (λ w. elim (bytes_eq (row w).text text) as (λ v. Bool) [ true ↦ by e (row w).parts i | false ↦ false ]) label_words
  where
    by : (e : Expr) (ps : List Part) → begins ps (ThenExpr e es) ≡ begins_with ps (next_of e)
    by e ps = grind (arith, common_steps)

abbrev pub label_on : Option Word → Exprs → Stack → Option Stack
label_on None es st = None
label_on (Some w) es st = finish (code.Label w 0) es st

pub named : (text : Text) (e : Expr) (es : Exprs) (st : Stack) (o : Option Word) → o ≡ label_before text (next_of e) → option_map (push_term st) (phrase_of (Group (ThenExpr (Single text) (ThenExpr e es)))) ≡ label_on o (ThenExpr e es) st
named text e es st o is = ap (λ o. option_map (push_term st) (elim o as (λ v. Option Phrase) [ Some w ↦ labelled w (fit (ThenExpr e es) (row w).parts) | None ↦ None ])) (written-is text e es ∙ sym is) ∙ by o
  where
    read : (w : Word) (p : Option Fitted) → option_map (push_term st) (labelled w p) ≡ option_map (λ r. with_read w [] r st) p
    read w None = refl
    read w (Some r) = ap Some (sym (label-fresh w r st))

    by : (o : Option Word) → option_map (push_term st) (elim o as (λ v. Option Phrase) [ Some w ↦ labelled w (fit (ThenExpr e es) (row w).parts) | None ↦ None ]) ≡ label_on o (ThenExpr e es) st
    by None = refl
    by (Some w) = read w (fit (ThenExpr e es) (row w).parts)

-- what follows a fixed word
skipped : (w : Word) (ps : List Part) (e : Expr) (es : Exprs) (st : Stack) → (label_start ps ≡ 0 → ⊥) → label_read w [] ps (ThenExpr e es) st ≡ label_read w (take (label_start ps) ps) (drop (label_start ps) ps) es st
skipped w [] e es st some = absurd (some refl)
skipped w (Fixed word ∷ ps) e es st some = refl
skipped w (ForGroup ∷ ps) e es st some = absurd (some refl)
skipped w (AField form ∷ ps) e es st some = absurd (some refl)
skipped w (AKid form ∷ ps) e es st some = absurd (some refl)

-- of each label no fixed word is left behind the first
labels-plain : list_all (λ w. is_kept (code.Label w (label_start (row w).parts))) label_words ≡ true
labels-plain = refl

label-plain : (text : Text) (next : Option Text) (w : Word) → Some w ≡ label_before text next → is_kept (code.Label w (label_start (row w).parts)) ≡ true
label-plain text next w is = subst (λ (o : Option Word). IfSome o (λ w. is_kept (code.Label w (label_start (row w).parts)) ≡ true)) (sym is) (find-list_all (named_so (λ w. begins_with (row w).parts next) text) (λ w. is_kept (code.Label w (label_start (row w).parts))) label_words labels-plain)

-- before a group no label has a fixed word
pub group-kept : (text : Text) (w : Word) → Some w ≡ label_before text None → is_kept (code.Label w 0) ≡ true
group-kept text w is = ap (λ n. is_kept (code.Label w n)) (sym (by (row w).parts (passes (λ w. begins_with (row w).parts None) text w is))) ∙ label-plain text None w is
  where
    by : (ps : List Part) → begins_with ps None ≡ true → label_start ps ≡ 0
    by ps h = grind (arith, common_steps)

-- before its kids a label has none
start-needs : (ps : List Part) → kid_count (take (label_start ps) ps) ≡ 0
start-needs [] = refl
start-needs (Fixed word ∷ ps) = refl
start-needs (ForGroup ∷ ps) = refl
start-needs (AField form ∷ ps) = refl
start-needs (AKid form ∷ ps) = refl

-- a group that begins with two words
module _ (first text : Text) (w : Word) (is : Some w ≡ label_before first (Some text)) (start : ℕ) (ps : List Part) (at : start ≡ label_start ps) (are : ps ≡ (row w).parts) where
  pub second-kept : is_kept (code.Label w start) ≡ true
  second-kept = ap (λ n. is_kept (code.Label w n)) (at ∙ ap label_start are) ∙ label-plain first (Some text) w is

  pub second-needs : needs (code.Label w start) ≡ 0
  second-needs = ap (λ n. needs (code.Label w n)) (at ∙ ap label_start are) ∙ start-needs (row w).parts

  pub second-fixed : (start ≡ 0 → ⊥) → (es : Exprs) (st : Stack) → option_map (push_term st) (phrase_of (Group (ThenExpr (Single first) (ThenExpr (Single text) es)))) ≡ finish (code.Label w start) es st
  second-fixed some es st =
      let here = at ∙ ap label_start are in
      named first (Single text) es st (Some w) is ∙ skipped w (row w).parts (Single text) es st (λ none. some (here ∙ none))
      ∙ ap (λ n. finish (code.Label w n) es st) (sym here)

-- a label of which a part is left does not end
pub label-open : (f : Frame) (w : Word) (at : ℕ) (st : Stack) → f ≡ code.Label w at → at < length (row w).parts → finish f NoExpr st ≡ None
label-open f w at st is within = ap (λ f. finish f NoExpr st) is ∙ ap (λ ps. label_read w (take at (row w).parts) ps NoExpr st) (drop_more (row w).parts at ForGroup within)

-- one whose parts are all read does
pub label-ended : (f : Frame) (w : Word) (at : ℕ) (st : Stack) → f ≡ code.Label w at → length (row w).parts ≤ at → finish f NoExpr st ≡ Some (step_on st (step.Label w))
label-ended f w at st is past =
    ap (λ f. finish f NoExpr st) is ∙ (λ i. label_read w (take_all at (row w).parts past i) (drop_all at (row w).parts past i) NoExpr st) ∙ ap Some (label-whole w st)
