-- How a label is fitted part by part, and a group kind by kind.
use Rattle.std.proofs.Common.{◌≡◌, ◌∷◌, true, List, Option, Some, None, refl, sym}
use Rattle.ir_laws.specs.declared.labels.FieldForm.{FieldForm}
use Rattle.ir_laws.specs.declared.labels.FieldForm.TheVariants.{OneWordOf, ItemOf, AliasOfTrait, IdOf, ANumber, AVariableKind, ARegionKind, AMemory}
use Rattle.ir_laws.specs.declared.labels.KidForm.{KidForm}
use Rattle.ir_laws.specs.declared.labels.KidForm.TheVariants.{OneOf, TypeOrConstant, ListOf, ArgumentsOf}
use Rattle.ir_laws.specs.declared.labels.Part.{Part}
use Rattle.ir_laws.specs.declared.labels.Part.TheVariants.{AField, AKid}
use Rattle.ir_laws.specs.Tree.{Text, Kind}
use Rattle.ir_laws.specs.Expression.{Expr, Exprs, Single, ThenExpr}
use Rattle.ir_laws.specs.Phrase.{fit, field_in, with_field, with_kid, or_else, kind_of, cons_if, words_of, each_of, and_then}
use Rattle.ir_syntax.specs.Grammar.{is_built_field, kid_in}

pub fit-field : (e : Expr) (es : Exprs) (form : FieldForm) (parts : List Part) → is_built_field form ≡ true → fit (ThenExpr e es) (AField form ∷ parts) ≡ with_field (field_in form e) (fit es parts)
fit-field e es (OneWordOf choice) parts h = refl
fit-field e es (ItemOf place) parts h = refl
fit-field e es AliasOfTrait parts h = refl
fit-field e es (IdOf place) parts h = refl
fit-field e es ANumber parts h = refl
fit-field e es AVariableKind parts h = refl
fit-field e es ARegionKind parts h = refl
fit-field e es AMemory parts h = cc

pub fit-kid : (e : Expr) (es : Exprs) (form : KidForm) (parts : List Part) → fit (ThenExpr e es) (AKid form ∷ parts) ≡ with_kid (kid_in form e) (fit es parts)
fit-kid e es (OneOf sort) parts = refl
fit-kid e es TypeOrConstant parts = refl
fit-kid e es (ListOf list sort if_empty) parts = refl
fit-kid e es (ArgumentsOf count) parts = refl

pub bind-none : (b : Option (List (Kind Text))) → or_else b None ≡ b
bind-none None = refl
bind-none (Some k) = refl

-- the kinds that expressions are, where each is one
abbrev pub kinds_in : Exprs → Option (List (Kind Text))
kinds_in es = and_then (words_of es) (each_of kind_of)

cons_if-none : (k : Option (Kind Text)) → cons_if k None ≡ None
cons_if-none None = refl
cons_if-none (Some k) = refl

pub cons-kind : (text : Text) (es : Exprs) → kinds_in (ThenExpr (Single text) es) ≡ cons_if (kind_of text) (kinds_in es)
cons-kind text es = by (words_of es)
  where
    by : (o : Option (List Text)) → and_then (cons_if (Some text) o) (each_of kind_of) ≡ cons_if (kind_of text) (and_then o (each_of kind_of))
    by None = sym (cons_if-none (kind_of text))
    by (Some ws) = refl
