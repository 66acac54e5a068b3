-- The second stage: names that aren't declared, and names declared twice.
use Rattle.std.specs.Prelude.{ℕ, Bool, true, false, ◌&&◌, ◌||◌, not, List, [], ◌∷◌, ◌++◌, flat_map, Option, Some, None, nat_eq, bytes_eq}
use Rattle.ir_laws.specs.Tree.{Text, Nameless, Environment as EnvName, Called, Kind, Field, Item, OfKind}
use Rattle.ir_laws.specs.Cause.{Cause, Unknown, Duplicate}
use Rattle.ir_laws.specs.declared.labels.FieldForm.{FieldForm}
use Rattle.ir_laws.specs.declared.labels.FieldForm.TheVariants.{IdOf}
use Rattle.ir_laws.specs.declared.labels.Part.{Part}
use Rattle.ir_laws.specs.declared.labels.Part.TheVariants.{Fixed, ForGroup, AField, AKid}
use Rattle.ir_laws.specs.Label.{row}
use Rattle.ir_laws.specs.Phrase.{Phrase, Phrases, Name, Labelled, NoPhrase, ThenPhrase}
use Rattle.ir_laws.specs.Form.{Replacement, Form, Blank, Declare, Let, Print, Same, Flags, Open, Subst, Shift, Renumber, Anon, Super, Elab}
use Rattle.ir_laws.specs.Environment.{Environment, is_known}

-- the forms of a label's fields
abbrev pub field_forms : List Part → List FieldForm
field_forms [] = []
field_forms (Fixed word ∷ parts) = field_forms parts
field_forms (ForGroup ∷ parts) = field_forms parts
field_forms (AField form ∷ parts) = form ∷ field_forms parts
field_forms (AKid form ∷ parts) = field_forms parts

-- what each field gives by its form
abbrev pub by_form : {A N : Type 0} → (FieldForm → Field N → List A) → List FieldForm → List (Field N) → List A
by_form f [] fields = []
by_form f (form ∷ forms) [] = []
by_form f (form ∷ forms) (field ∷ fields) = f form field ++ by_form f forms fields

-- a name that an earlier line must have declared
abbrev pub is_earlier : Environment → Option Text → Text → Bool
is_earlier env None name = is_known env name
is_earlier env (Some own) name = is_known env name && not (bytes_eq own name)

-- a name where an id alone is kept: an item's own name may stand there too
abbrev pub is_earlier_or_own : Environment → Option Text → Text → Bool
is_earlier_or_own env None name = is_known env name
is_earlier_or_own env (Some own) name = is_known env name || bytes_eq own name

-- the cause, unless the test holds
abbrev pub unless : Bool → Cause → List Cause
unless true c = []
unless false c = c ∷ []

-- the cause, if the test holds
abbrev pub if_so : Bool → Cause → List Cause
if_so b c = unless (not b) c

-- the cause of a kind whose name isn't declared
abbrev pub unknown_kind : Environment → Option Text → Kind Text → List Cause
unknown_kind env own k = elim (k.name) [ Nameless ↦ [] | EnvName ↦ [] | Called name ↦ unless (is_earlier_or_own env own name) Unknown ]

-- the cause of a field whose name isn't declared
abbrev pub unknown_field : Environment → Option Text → FieldForm → Field Text → List Cause
unknown_field env own (IdOf place) (Item name) = unless (is_earlier_or_own env own name) Unknown
unknown_field env own form (Item name) = unless (is_earlier env own name) Unknown
unknown_field env own form (OfKind k) = unknown_kind env own k
unknown_field env own form field = []

-- the causes of a variable list
abbrev pub unknown_bind : Environment → Option Text → Option (List (Kind Text)) → List Cause
unknown_bind env own None = []
unknown_bind env own (Some ks) = flat_map (unknown_kind env own) ks

-- the names of a phrase that aren't declared
abbrev mutual
  pub unknown_in : Environment → Option Text → Phrase → List Cause
  unknown_in env own (Name name) = unless (is_earlier env own name) Unknown
  unknown_in env own (Labelled l b ps) = by_form (unknown_field env own) (field_forms (row l.word).parts) l.fields ++ unknown_bind env own b ++ unknown_each env own ps

  pub unknown_each : Environment → Option Text → Phrases → List Cause
  unknown_each env own NoPhrase = []
  unknown_each env own (ThenPhrase p ps) = unknown_in env own p ++ unknown_each env own ps

-- the causes of a part that may be left out
abbrev pub unknown_maybe : {A : Type 0} → (A → List Cause) → Option A → List Cause
unknown_maybe f None = []
unknown_maybe f (Some x) = f x

-- the causes of some terms
abbrev pub unknown_list : Environment → Option Text → List Phrase → List Cause
unknown_list env own = flat_map (unknown_in env own)

-- whether this number has a replacement
abbrev pub has_replacement : {T : Type 0} → List (Replacement T) → ℕ → Bool
has_replacement [] n = false
has_replacement (r ∷ rs) n = nat_eq r.number n || has_replacement rs n

-- two replacements of one variable
abbrev pub is_replaced_twice : {T : Type 0} → List (Replacement T) → Bool
is_replaced_twice [] = false
is_replaced_twice (r ∷ rs) = has_replacement rs r.number || is_replaced_twice rs

-- stage 2: Unknown for a name that isn't declared, Duplicate for one that is declared again or a number with two replacements
abbrev pub name_causes : Environment → Form Phrase → List Cause
name_causes env Blank = []
name_causes env (Declare d) = if_so (is_known env d.name) Duplicate ++ unknown_maybe (λ name. unless (is_earlier env (Some d.name) name) Unknown) d.parent ++ unknown_maybe (unknown_in env (Some d.name)) d.decl ++ unknown_list env (Some d.name) d.clauses
name_causes env (Let name p) = if_so (is_known env name) Duplicate ++ unknown_in env None p
name_causes env (Print p) = unknown_in env None p
name_causes env (Same p q) = unknown_in env None p ++ unknown_in env None q
name_causes env (Flags p) = unknown_in env None p
name_causes env (Open p rs) = if_so (is_replaced_twice rs) Duplicate ++ unknown_in env None p ++ flat_map (λ r. unknown_in env None r.term) rs
name_causes env (Subst item ps) = unless (is_known env item) Unknown ++ unknown_list env None ps
name_causes env (Shift n p) = unknown_in env None p
name_causes env (Renumber n p) = unknown_in env None p
name_causes env (Anon p) = unknown_in env None p
name_causes env (Super p q) = unknown_in env None p ++ unknown_in env None q
name_causes env (Elab ps) = unknown_list env None ps
