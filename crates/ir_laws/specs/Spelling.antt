-- The spelling of a term, by the names of the items.
use Rattle.std.specs.Prelude.{ℕ, ◌+◌, ◌/◌, ◌%◌, true, false, List, [], ◌∷◌, ◌++◌, map, flat_map, Option, Some, None, nat_lt, codes}
use Rattle.ir_core.specs.declared.ids.SolverDefId.{SolverDefId}
use Rattle.ir_laws.specs.declared.words.Word.TheVariants.{BoundVariable}
use Rattle.ir_laws.specs.Keyword.{keyword_text, fixed_text}
use Rattle.ir_laws.specs.Numeral.{numeral}
use Rattle.ir_laws.specs.declared.labels.Sort.{Sort}
use Rattle.ir_laws.specs.declared.labels.Sort.TheVariants.{OfType, OfRegion, OfConstant, OfPattern, OfPredicate, OfBytes, OfExistential, OfList}
use Rattle.ir_laws.specs.Tree.{Text, Nameless, Environment, Called, Kind, Mapped, Field, Number, Item, Chosen, OfKind, Memory, Label, Var, Param, Node, End, And, Term, Terms}
use Rattle.ir_laws.specs.Same.{same_sort}
use Rattle.ir_laws.specs.Counts.{parameter_word, sort_of_label}
use Rattle.ir_laws.specs.declared.labels.Part.{Part}
use Rattle.ir_laws.specs.declared.labels.Part.TheVariants.{Fixed, ForGroup, AField, AKid}
use Rattle.ir_laws.specs.Label.{row}

-- the texts with one space between two neighbours
abbrev pub spaced : List Text → Text
spaced [] = []
spaced (t ∷ []) = t
spaced (t ∷ u ∷ ts) = t ++ codes " " ++ spaced (u ∷ ts)

-- the texts in brackets, with no space after `(` or before `)`
abbrev pub in_brackets : List Text → Text
in_brackets ts = codes "(" ++ spaced ts ++ codes ")"

-- the digit `0` to `9`, `a` to `f` of a number below 16
abbrev pub hex_glyph : ℕ → ℕ
hex_glyph d = elim (nat_lt d 10) [ true ↦ 48 + d | false ↦ 87 + d ]

-- `-` for no bytes, or two digits for each byte
abbrev pub hex : Text → Text
hex [] = codes "-"
hex bytes = flat_map (λ b. hex_glyph (b / 16) ∷ hex_glyph (b % 16) ∷ []) bytes

-- the letter of a variable kind
abbrev pub sort_letter : Sort → Text
sort_letter OfType = codes "t"
sort_letter OfRegion = codes "r"
sort_letter OfConstant = codes "c"
sort_letter OfPattern = codes "c"
sort_letter OfPredicate = codes "c"
sort_letter OfBytes = codes "c"
sort_letter OfExistential = codes "c"
sort_letter OfList = codes "c"

-- `t`, `r` or `c`, with `:` and the name where there is one, or `env`
abbrev pub kind_text : (SolverDefId → Text) → Kind SolverDefId → Text
kind_text name k = elim (k.name) [
  | Nameless ↦ sort_letter k.sort
  | Environment ↦ codes "env"
  | Called n ↦ sort_letter k.sort ++ codes ":" ++ name n
]

-- an address and its bytes
abbrev pub mapped_texts : Mapped → List Text
mapped_texts m = numeral m.address ∷ hex m.bytes ∷ []

-- a field as it is written; an item by its name
abbrev pub field_text : (SolverDefId → Text) → Field SolverDefId → Text
field_text name (Number n) = numeral n
field_text name (Item i) = name i
field_text name (Chosen w) = keyword_text w
field_text name (OfKind k) = kind_text name k
field_text name (Memory bytes mapped) = spaced (hex bytes ∷ flat_map mapped_texts mapped)

-- `(for K*)`
abbrev pub bind_text : (SolverDefId → Text) → List (Kind SolverDefId) → Text
bind_text name ks = in_brackets (codes "for" ∷ map (kind_text name) ks)

-- The texts of the parts in the table's order: fields and kids are taken one after the other, and the `for` group is left out of a node without `bind`
abbrev pub part_texts : List Part → List Text → Option Text → List Text → List Text
part_texts [] fields bind kids = []
part_texts (Fixed word ∷ parts) fields bind kids = fixed_text word ∷ part_texts parts fields bind kids
part_texts (ForGroup ∷ parts) fields None kids = part_texts parts fields None kids
part_texts (ForGroup ∷ parts) fields (Some group) kids = group ∷ part_texts parts fields (Some group) kids
part_texts (AField form ∷ parts) [] bind kids = []
part_texts (AField form ∷ parts) (field ∷ fields) bind kids = field ∷ part_texts parts fields bind kids
part_texts (AKid form ∷ parts) fields bind [] = []
part_texts (AKid form ∷ parts) fields bind (kid ∷ kids) = kid ∷ part_texts parts fields bind kids

-- the `for` group, where the node has a `bind`
abbrev pub bind_texts : (SolverDefId → Text) → Option (List (Kind SolverDefId)) → Option Text
bind_texts name None = None
bind_texts name (Some ks) = Some (bind_text name ks)

-- a bare word, or the word and its parts in brackets
abbrev pub word_text : Text → List Part → List Text → Option Text → List Text → Text
word_text word [] fields bind kids = word
word_text word parts fields bind kids = in_brackets (word ∷ part_texts parts fields bind kids)

-- a list has its members in brackets
abbrev pub label_text : (SolverDefId → Text) → Label SolverDefId → Option (List (Kind SolverDefId)) → List Text → Text
label_text name l bind kids = elim (same_sort (sort_of_label l) OfList) [
  | true ↦ in_brackets kids
  | false ↦ word_text (row l.word).text (row l.word).parts (map (field_text name) l.fields) (bind_texts name bind) kids
]

-- the spelling of a term: that of its label over those of its kids
abbrev mutual
  pub spell : (SolverDefId → Text) → Term → Text
  spell name (Var i n k) = label_text name (record { word = BoundVariable; fields = Number i ∷ Number n ∷ OfKind k ∷ [] }) None []
  spell name (Param p) = label_text name (record { word = parameter_word p.sort; fields = Item p.parent ∷ Number p.local ∷ Number p.index ∷ [] }) None []
  spell name (Node l b ts) = label_text name l b (spell_each name ts)

  pub spell_each : (SolverDefId → Text) → Terms → List Text
  spell_each name End = []
  spell_each name (And t ts) = spell name t ∷ spell_each name ts
