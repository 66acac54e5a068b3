-- Places that are open while steps are read from the last one on, and what the terms in them are.
use Rattle.std.specs.Prelude.{ℕ, zero, suc, Bool, true, List, [], ◌∷◌, ◌++◌, flat_map, replicate, Option, Some, None}
use Rattle.ir_laws.specs.Cause.{Cause, WrongSort}
use Rattle.ir_laws.specs.Counts.{sort_of_label}
use Rattle.ir_laws.specs.Environment.{Environment}
use Rattle.ir_laws.specs.Label.{row}
use Rattle.ir_laws.specs.Names.{unless}
use Rattle.ir_laws.specs.Same.{same_sort}
use Rattle.ir_laws.specs.Sorts.{Wanted, length_misfits, places, suits}
use Rattle.ir_laws.specs.declared.labels.Sort.{Sort}
use Rattle.ir_laws.specs.declared.words.Word.{Word}
use Rattle.ir_nodes.specs.Fits.{part_sort}
use Rattle.ir_syntax.specs.Steps.{kid_count}
use Rattle.ir_script.specs.Wanted.{bare, wanted_seen}
use Rattle.ir_script.specs.declared.resolved.Resolved.{Resolved}
use Rattle.ir_script.specs.declared.resolved.Resolved.TheVariants as seen
use Rattle.ir_script.specs.declared.sorts.Pending.{Pending}
use Rattle.ir_script.specs.declared.sorts.Wanted as code

-- what the open places want, from left to right
abbrev pub open_places : List Pending → List Wanted
open_places = flat_map (λ run. replicate (suc run.more) (wanted_seen run.wanted))

-- a place, or none
abbrev pub place_open : Option code.Wanted → List Wanted
place_open None = []
place_open (Some wanted) = wanted_seen wanted ∷ []

-- the places of so many kids: the first ones, and all further ones
abbrev pub kids_open : List Wanted → Wanted → ℕ → List Wanted
kids_open ws further zero = []
kids_open [] further (suc n) = further ∷ kids_open [] further n
kids_open (w ∷ ws) further (suc n) = w ∷ kids_open ws further n

-- the sort of the term that a step makes
abbrev pub sort_made : Resolved → Option Sort
sort_made (seen.Term q) = Some (part_sort q)
sort_made (seen.Label w sort) = Some sort
sort_made (seen.List w n) = Some (sort_of_label (bare w))
sort_made step = None

-- the word of a label and how many kids it takes
abbrev pub kids_made : Resolved → Option (Word × ℕ)
kids_made (seen.Label w sort) = Some (w, kid_count (row w).parts)
kids_made (seen.List w n) = Some (w, n)
kids_made step = None

-- the places of its kids
abbrev pub places_made : Environment → Wanted → Option (Word × ℕ) → List Wanted
places_made env wanted None = []
places_made env wanted (Some (word, n)) = kids_open (places env wanted (bare word)).first (places env wanted (bare word)).further n

-- the causes of a term by itself: its sort, and its length as a list
abbrev pub length_made : Wanted → Option (Word × ℕ) → List Cause
length_made wanted None = []
length_made wanted (Some (word, n)) = length_misfits wanted n

abbrev pub own_misfits : Wanted → Word → Sort → Option (Word × ℕ) → List Cause
own_misfits wanted word sort kids = unless (suits wanted word sort) WrongSort ++ length_made wanted kids

-- the sort of an operand, if no place wants the term
abbrev pub sort_open : Option code.Wanted → Sort → List (Option Sort)
sort_open None sort = Some sort ∷ []
sort_open (Some wanted) sort = []

-- the sort of the first of the operands that are behind, if there is one
abbrev pub sort_behind : Option Sort → List (Option Sort)
sort_behind None = []
sort_behind (Some sort) = Some sort ∷ []

-- the other sort is the same, if there is another
abbrev pub is_like : Sort → Option Sort → Bool
is_like s None = true
is_like s (Some t) = same_sort s t
