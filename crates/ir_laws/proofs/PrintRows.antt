-- Scripts of the forms and labels built so far, each named by what it shows: the text and how many parts are held after it, or the line and the causes that may be named.
use Rattle.std.proofs.Common.{◌≡◌, ℕ, [], ◌∷◌, refl}
use Rattle.std.specs.Prelude.{codes}
use Rattle.ir_laws.specs.Cause.{Syntax, Unknown, Duplicate, WrongSort, TooDeep, TooMany, TooLarge}
use Rattle.ir_laws.specs.Limits.{Limits, program_limits}
use Rattle.ir_laws.proofs.Said.{Wrote, Refused, said, said_within}

-- the program's limits, with other ones for height, nodes and size
abbrev with_limits : ℕ → ℕ → ℕ → Limits
with_limits height nodes size = record { index = program_limits.index; number = program_limits.number; height = height; nodes = nodes; size = size }

a_term_is_spelled : said (codes "print (ref not static u8)") ≡ Wrote (codes "(ref not static u8)\n") 40
a_term_is_spelled = refl

plain_labels_are_spelled : said (codes "print bool\nprint u8\nprint static\nprint erased\nprint (tuple ())\nprint (ref mut erased bool)") ≡ Wrote (codes "bool\nu8\nstatic\nerased\n(tuple ())\n(ref mut erased bool)\n") 40
plain_labels_are_spelled = refl

no_line_writes_nothing : said (codes "") ≡ Wrote (codes "") 39
no_line_writes_nothing = refl

blank_lines_write_nothing : said (codes "\n  \n\n   ") ≡ Wrote (codes "") 39
blank_lines_write_nothing = refl

spaces_are_set_by_the_spelling : said (codes "print ( tuple  ( ) )") ≡ Wrote (codes "(tuple ())\n") 39
spaces_are_set_by_the_spelling = refl

brackets_need_no_spaces : said (codes "print(tuple(u8(tuple())))") ≡ Wrote (codes "(tuple (u8 (tuple ())))\n") 41
brackets_need_no_spaces = refl

a_part_is_held_once : said (codes "print (tuple (u8 u8))\nprint (tuple (u8 u8))\nprint (tuple ((tuple (u8 u8)) (tuple (u8 u8))))") ≡ Wrote (codes "(tuple (u8 u8))\n(tuple (u8 u8))\n(tuple ((tuple (u8 u8)) (tuple (u8 u8))))\n") 43
a_part_is_held_once = refl

-- ---- the grammar

brackets_must_close : said (codes "print (tuple (X") ≡ Refused 1 (Syntax ∷ [])
brackets_must_close = refl

brackets_must_open : said (codes "print u8)") ≡ Refused 1 (Syntax ∷ [])
brackets_must_open = refl

a_tab_is_no_blank : said (codes "\t") ≡ Refused 1 (Syntax ∷ [])
a_tab_is_no_blank = refl

print_has_one_term : said (codes "print") ≡ Refused 1 (Syntax ∷ [])
print_has_one_term = refl

print_has_no_second_term : said (codes "\nprint u8 u8") ≡ Refused 2 (Syntax ∷ [])
print_has_no_second_term = refl

a_bare_label_has_no_brackets : said (codes "print (u8)") ≡ Refused 1 (Syntax ∷ [])
a_bare_label_has_no_brackets = refl

a_label_with_parts_is_not_bare : said (codes "print tuple") ≡ Refused 1 (Syntax ∷ [])
a_label_with_parts_is_not_bare = refl

a_keyword_is_one_of_its_place : said (codes "print (ref safe static u8)") ≡ Refused 1 (Syntax ∷ [])
a_keyword_is_one_of_its_place = refl

an_unknown_label_is_no_term : said (codes "print u8\nprint (box u8)") ≡ Refused 2 (Syntax ∷ [])
an_unknown_label_is_no_term = refl

an_unknown_label_is_no_member : said (codes "print (tuple (u8 u12))") ≡ Refused 1 (Syntax ∷ [])
an_unknown_label_is_no_member = refl

an_unknown_form_is_no_line : said (codes "close u8") ≡ Refused 1 (Syntax ∷ [])
an_unknown_form_is_no_line = refl

-- ---- names and sorts

a_name_must_be_known : said (codes "print X") ≡ Refused 1 (Unknown ∷ [])
a_name_must_be_known = refl

a_name_within_must_be_known : said (codes "print (tuple (u8 X))") ≡ Refused 1 (Unknown ∷ [])
a_name_within_must_be_known = refl

a_member_is_a_type : said (codes "print (tuple (static))") ≡ Refused 1 (WrongSort ∷ [])
a_member_is_a_type = refl

a_kid_has_the_sort_of_its_place : said (codes "print (ref not u8 static)") ≡ Refused 1 (WrongSort ∷ [])
a_kid_has_the_sort_of_its_place = refl

names_come_before_sorts : said (codes "print (tuple (static X))") ≡ Refused 1 (Unknown ∷ [])
names_come_before_sorts = refl

the_first_line_is_named : said (codes "print (tuple (static))\nprint X") ≡ Refused 1 (WrongSort ∷ [])
the_first_line_is_named = refl

-- ---- `let` and `same`

names_stand_for_terms : said (codes "let A (tuple (u8 u8))\nlet B (tuple (u8 u8))\nsame A B\nsame A (tuple (u8))") ≡ Wrote (codes "yes\nno\n") 43
names_stand_for_terms = refl

a_name_is_declared_once : said (codes "let A u8\nlet A X") ≡ Refused 2 (Unknown ∷ Duplicate ∷ [])
a_name_is_declared_once = refl

same_wants_one_sort : said (codes "same u8 static") ≡ Refused 1 (WrongSort ∷ [])
same_wants_one_sort = refl

-- ---- `flags`

flags_are_those_of_the_term : said (codes "flags u8\nflags erased\nflags (ref not static u8)") ≡ Wrote (codes "outer 0\nouter 0 HAS_RE_ERASED\nouter 0 HAS_FREE_REGIONS\n") 40
flags_are_those_of_the_term = refl

-- ---- limits

the_start_does_not_fit : said_within (with_limits 512 38 1000000) (codes "print (tuple (u8))") ≡ Refused 0 (TooMany ∷ [])
the_start_does_not_fit = refl

the_table_has_room_for_39 : said_within (with_limits 512 39 1000000) (codes "print (tuple (u8))") ≡ Refused 1 (TooMany ∷ [])
the_table_has_room_for_39 = refl

the_table_has_room_for_40 : said_within (with_limits 512 40 1000000) (codes "print (tuple (u8))") ≡ Refused 1 (TooMany ∷ [])
the_table_has_room_for_40 = refl

the_table_has_room_for_41 : said_within (with_limits 512 41 1000000) (codes "print (tuple (u8))") ≡ Wrote (codes "(tuple (u8))\n") 41
the_table_has_room_for_41 = refl

a_full_table_prints_what_it_holds : said_within (with_limits 512 39 1000000) (codes "print u8\nprint (tuple ())\nprint erased") ≡ Wrote (codes "u8\n(tuple ())\nerased\n") 39
a_full_table_prints_what_it_holds = refl

a_height_may_reach_its_limit : said_within (with_limits 4 1000000 1000000) (codes "print (tuple ((tuple ())))") ≡ Wrote (codes "(tuple ((tuple ())))\n") 41
a_height_may_reach_its_limit = refl

a_height_may_not_pass_its_limit : said_within (with_limits 3 1000000 1000000) (codes "print (tuple ((tuple ())))") ≡ Refused 1 (TooDeep ∷ [])
a_height_may_not_pass_its_limit = refl

a_height_limit_is_at_least_3 : said_within (with_limits 0 1000000 1000000) (codes "print (tuple (u8))") ≡ Wrote (codes "(tuple (u8))\n") 41
a_height_limit_is_at_least_3 = refl

a_size_may_reach_its_limit : said_within (with_limits 512 1000000 4) (codes "print (tuple (u8 u8))") ≡ Wrote (codes "(tuple (u8 u8))\n") 41
a_size_may_reach_its_limit = refl

no_term_is_too_large : said_within (with_limits 512 1000000 3) (codes "print (tuple (u8 u8))") ≡ Refused 1 (TooLarge ∷ [])
no_term_is_too_large = refl

depth_and_room_are_of_one_stage : said_within (with_limits 3 39 1000000) (codes "print (tuple ((tuple ())))") ≡ Refused 1 (TooDeep ∷ TooMany ∷ [])
depth_and_room_are_of_one_stage = refl
