-- Readings and measures of terms, each row named by what it shows. All hold by computation.
use Rattle.std.proofs.Common.{◌≡◌, ℕ, [], ◌∷◌, Some, None, map, refl, true, false}
use Rattle.std.specs.Prelude.{codes}
use Rattle.ir_laws.specs.declared.labels.Sort.TheVariants.{OfType, OfRegion}
use Rattle.ir_laws.specs.declared.words.Word.TheVariants.{TupleType, TypeList, UnsafeBinderType, ByteTree, CanonicalVariable}
use Rattle.ir_laws.specs.Tree.{Memory, Number, OfKind, Var, Node, End, And, Term}
use Rattle.ir_laws.specs.Same.{same_term}
use Rattle.ir_laws.specs.Reading.{Level, Outside, Place, Named, Anonymous, Put, read, plain, back}
use Rattle.ir_laws.specs.Counts.{height, size, outer, used}
use Rattle.ir_laws.specs.Answer.{flags_text}
use Rattle.ir_laws.specs.DeBruijn.{replaced}
use Rattle.ir_laws.specs.CommandReading.{under_no_frame}
use Rattle.ir_laws.specs.Start.{label}
use Rattle.ir_laws.proofs.Samples.{kind, region, type, u8, ref_of, tuple, unsafe_of, function, parameter, nothing_declared, foo, said}

-- for<'a> fn(&'a u8, for<'b> unsafe (&'b u8, &'a u8, an outer one, a parameter))
abbrev sample : Term
sample = function (kind OfRegion ∷ []) (ref_of (region 0 0) u8 ∷ unsafe_of (kind OfRegion ∷ []) (tuple (ref_of (region 0 0) u8 ∷ ref_of (region 1 0) u8 ∷ type 2 5 ∷ parameter OfType foo 0 1 ∷ [])) ∷ [])

sample_is_spelled : said nothing_declared sample ≡ codes "(fnptr (for r) safe Rust fixed ((ref not (var 0 0 r) u8) (unsafe (for r) (tuple ((ref not (var 0 0 r) u8) (ref not (var 1 0 r) u8) (var 2 5 t) (tparam ? 0 1))))))"
sample_is_spelled = refl

a_reading_gives_the_term_back : back (plain sample) 0 ≡ sample
a_reading_gives_the_term_back = refl

sample_has_measures : (height sample ≡ 7) × (size sample ≡ 18) × (outer sample ≡ 1)
sample_has_measures = (refl, refl, refl)

flags_are_those_of_all_nodes : flags_text sample ≡ codes "outer 1 HAS_TY_PARAM HAS_RE_BOUND HAS_TY_BOUND HAS_BINDER_VARS"
flags_are_those_of_all_nodes = refl

-- levels count from outside, and what is bound outside of the whole counts from there
abbrev placed : Place → ℕ → Named
placed p n = Var p n (kind OfType)

abbrev named_pair : Named → Named → Named
named_pair a b = Node (label TupleType []) None (And (Node (label TypeList []) None (And a (And b End))) End)

places_are_levels : plain (unsafe_of (kind OfType ∷ []) (tuple (type 1 2 ∷ unsafe_of [] (tuple (type 0 0 ∷ type 1 1 ∷ [])) ∷ []))) ≡ Node (label UnsafeBinderType []) (Some (kind OfType ∷ [])) (And (named_pair (placed (Outside 0) 2) (Node (label UnsafeBinderType []) (Some []) (And (named_pair (placed (Level 1) 0) (placed (Level 0) 1)) End))) End)
places_are_levels = refl

variables_are_used_in_order : map (λ v. v.number) (used (unsafe_of [] (tuple (type 0 4 ∷ type 1 9 ∷ unsafe_of [] (type 1 2) ∷ type 0 4 ∷ type 0 0 ∷ [])))) ≡ 4 ∷ 2 ∷ 0 ∷ []
variables_are_used_in_order = refl

a_frame_renames_and_an_argument_is_moved : back (read (tuple (type 0 5 ∷ unsafe_of [] (parameter OfType foo 0 1) ∷ [])) (Put (record { place = Outside 2; by = Anonymous (9 ∷ 5 ∷ []) }) ∷ []) (Some (under_no_frame u8 ∷ under_no_frame (type 0 3) ∷ [])) 0 0) 0 ≡ tuple (type 2 1 ∷ unsafe_of [] (type 1 3) ∷ [])
a_frame_renames_and_an_argument_is_moved = refl

answers_are_moved_under_binders : replaced 0 (λ n k. tuple (type 0 n ∷ [])) (tuple (type 0 1 ∷ unsafe_of [] (tuple (type 0 2 ∷ type 1 3 ∷ [])) ∷ [])) ≡ tuple (tuple (type 0 1 ∷ []) ∷ unsafe_of [] (tuple (type 0 2 ∷ tuple (type 1 3 ∷ []) ∷ [])) ∷ [])
answers_are_moved_under_binders = refl

-- a value's bytes count, and 8 for each address with its bytes
abbrev bytes : Term
bytes = Node (label ByteTree (Memory (10 ∷ 255 ∷ []) (record { address = 3; bytes = 0 ∷ [] } ∷ record { address = 18446744073709551615; bytes = [] } ∷ []) ∷ [])) None End

bytes_have_size : (size bytes ≡ 20) × (said nothing_declared bytes ≡ codes "(bytes 0aff 3 00 18446744073709551615 -)")
bytes_have_size = (refl, refl)

-- a canonical variable is bound nowhere in the term
abbrev canonical : Term
canonical = Node (label CanonicalVariable (Number 1 ∷ OfKind (kind OfRegion) ∷ [])) None End

a_canonical_variable_is_a_leaf : (said nothing_declared canonical ≡ codes "(var * 1 r)") × (flags_text canonical ≡ codes "outer 0 HAS_RE_BOUND HAS_CANONICAL_BOUND")
a_canonical_variable_is_a_leaf = (refl, refl)

trees_are_compared_and_not_spellings : (same_term sample sample ≡ true) × (same_term (type 0 1) (type 0 2) ≡ false) × (same_term (unsafe_of [] u8) (unsafe_of (kind OfType ∷ []) u8) ≡ false)
trees_are_compared_and_not_spellings = (refl, refl, refl)
