-- What the commands make of terms, each row named by what it shows. Terms are written out, and their spelling is compared.
use Rattle.std.proofs.Common.{◌≡◌, [], ◌∷◌, map, refl}
use Rattle.std.specs.Prelude.{codes}
use Rattle.ir_laws.specs.declared.labels.Sort.TheVariants.{OfType, OfRegion}
use Rattle.ir_laws.specs.Tree.{Term}
use Rattle.ir_laws.specs.Cause.{WrongSort, Arity, Unlisted, Escapes, MissingVar}
use Rattle.ir_laws.specs.CommandReading.{open_reading, subst_reading, shift_reading, renumber_reading, term_of}
use Rattle.ir_laws.specs.Form.{Open, Super, Elab}
use Rattle.ir_laws.specs.Causes.{form_causes, unlisted_causes}
use Rattle.ir_laws.specs.Elaboration.{anonymous_form, super_term, elaborated}
use Rattle.ir_laws.proofs.Samples.{kind, kind_called, region, type, u8, static, ref_of, tuple, unsafe_of, function, trait_of, parameter, nothing_declared, bar, foo, bar_of_foo, traits, said}

-- ---- open

a_replacement_keeps_its_free_variable : said nothing_declared (term_of (open_reading (unsafe_of (kind OfRegion ∷ []) (unsafe_of [] (ref_of (region 1 0) u8))) (record { number = 0; term = region 0 5 } ∷ []))) ≡ codes "(unsafe (for) (ref not (var 1 5 r) u8))"
a_replacement_keeps_its_free_variable = refl

only_the_opened_binder_is_replaced : said nothing_declared (term_of (open_reading (unsafe_of (kind OfType ∷ []) (tuple (type 0 0 ∷ unsafe_of (kind OfType ∷ []) (tuple (type 1 0 ∷ type 0 0 ∷ [])) ∷ []))) (record { number = 0; term = type 0 3 } ∷ []))) ≡ codes "(tuple ((var 0 3 t) (unsafe (for t) (tuple ((var 1 3 t) (var 0 0 t))))))"
only_the_opened_binder_is_replaced = refl

an_opened_signature_has_no_group : said nothing_declared (term_of (open_reading (function (kind OfRegion ∷ []) (ref_of (region 0 0) u8 ∷ u8 ∷ [])) (record { number = 0; term = static } ∷ []))) ≡ codes "(fnptr safe Rust fixed ((ref not static u8) u8))"
an_opened_signature_has_no_group = refl

a_used_variable_needs_a_replacement : form_causes nothing_declared (Open (unsafe_of (kind OfRegion ∷ []) (ref_of (region 0 0) u8)) []) ≡ MissingVar ∷ []
a_used_variable_needs_a_replacement = refl

an_unused_variable_needs_none : form_causes nothing_declared (Open (unsafe_of (kind OfRegion ∷ kind OfRegion ∷ []) u8) (record { number = 1; term = static } ∷ [])) ≡ []
an_unused_variable_needs_none = refl

a_replacement_is_of_a_listed_number : form_causes nothing_declared (Open (unsafe_of [] u8) (record { number = 0; term = static } ∷ [])) ≡ Unlisted ∷ []
a_replacement_is_of_a_listed_number = refl

a_replacement_has_the_listed_sort : form_causes nothing_declared (Open (unsafe_of (kind OfRegion ∷ []) u8) (record { number = 0; term = u8 } ∷ [])) ≡ WrongSort ∷ []
a_replacement_has_the_listed_sort = refl

a_replacement_stands_under_no_binder : form_causes nothing_declared (Open (unsafe_of (kind OfRegion ∷ []) u8) (record { number = 0; term = region 1 0 } ∷ [])) ≡ Escapes ∷ []
a_replacement_stands_under_no_binder = refl

an_opened_binder_is_closed : form_causes nothing_declared (Open (unsafe_of (kind OfRegion ∷ []) (ref_of (region 1 0) u8)) []) ≡ Escapes ∷ []
an_opened_binder_is_closed = refl

a_number_must_be_listed : unlisted_causes (unsafe_of (kind OfRegion ∷ []) (ref_of (region 0 1) u8) ∷ []) ≡ Unlisted ∷ []
a_number_must_be_listed = refl

a_kind_must_be_the_listed_one : unlisted_causes (unsafe_of (kind OfType ∷ []) (ref_of (region 0 0) u8) ∷ []) ≡ Unlisted ∷ []
a_kind_must_be_the_listed_one = refl

-- ---- subst, shift, renumber and anon

parameters_are_given : said traits (term_of (subst_reading (ref_of (parameter OfRegion foo 0 1) (unsafe_of [] (parameter OfType foo 0 0))) (type 0 7 ∷ static ∷ []))) ≡ codes "(ref not static (unsafe (for) (var 1 7 t)))"
parameters_are_given = refl

a_parameter_has_an_argument : form_causes traits (Super bar_of_foo (trait_of [] foo (u8 ∷ []))) ≡ Arity ∷ []
a_parameter_has_an_argument = refl

an_argument_has_the_parameters_sort : form_causes traits (Super bar_of_foo (trait_of [] foo (u8 ∷ u8 ∷ []))) ≡ WrongSort ∷ []
an_argument_has_the_parameters_sort = refl

shift_moves_free_variables : said nothing_declared (term_of (shift_reading 2 (tuple (type 0 0 ∷ unsafe_of (kind OfType ∷ []) (tuple (type 0 0 ∷ type 1 0 ∷ [])) ∷ [])))) ≡ codes "(tuple ((var 2 0 t) (unsafe (for t) (tuple ((var 0 0 t) (var 3 0 t))))))"
shift_moves_free_variables = refl

renumber_raises_the_outermost_numbers : said nothing_declared (term_of (renumber_reading 2 (tuple (type 0 1 ∷ type 1 1 ∷ unsafe_of (kind OfType ∷ []) (tuple (type 0 0 ∷ type 1 0 ∷ [])) ∷ [])))) ≡ codes "(tuple ((var 0 3 t) (var 1 1 t) (unsafe (for t) (tuple ((var 0 0 t) (var 1 2 t))))))"
renumber_raises_the_outermost_numbers = refl

anon_lists_what_is_used_without_names : said traits (anonymous_form (unsafe_of (kind_called OfRegion foo ∷ kind_called OfRegion bar ∷ kind OfType ∷ []) (ref_of (parameter OfRegion foo 0 1) (tuple (ref_of (region 0 1) u8 ∷ type 0 2 ∷ ref_of (region 0 0) u8 ∷ []))))) ≡ codes "(unsafe (for r t r) (ref not (early Foo 0 1) (tuple ((ref not (var 0 0 r) u8) (var 0 1 t) (ref not (var 0 2 r) u8)))))"
anon_lists_what_is_used_without_names = refl

anon_is_its_own_form : anonymous_form (anonymous_form (unsafe_of (kind_called OfRegion foo ∷ kind OfType ∷ []) (tuple (type 0 1 ∷ [])))) ≡ unsafe_of (kind OfType ∷ []) (tuple (type 0 0 ∷ []))
anon_is_its_own_form = refl

-- ---- super and elab

abbrev foo_of_u8 : Term
foo_of_u8 = trait_of (kind OfRegion ∷ []) foo (u8 ∷ region 0 0 ∷ [])

super_lists_the_traits_variables_first : said traits (super_term bar_of_foo foo_of_u8) ≡ codes "(trait (for r r) pos Bar (u8 (var 0 0 r) (var 0 1 r)))"
super_lists_the_traits_variables_first = refl

elab_lists_each_clause_once : map (said traits) (elaborated traits (foo_of_u8 ∷ foo_of_u8 ∷ [])) ≡ codes "(trait (for r) pos Foo (u8 (var 0 0 r)))" ∷ codes "(trait (for r r) pos Bar (u8 (var 0 0 r) (var 0 1 r)))" ∷ []
elab_lists_each_clause_once = refl

elab_meets_no_cause : form_causes traits (Elab (foo_of_u8 ∷ [])) ≡ []
elab_meets_no_cause = refl
