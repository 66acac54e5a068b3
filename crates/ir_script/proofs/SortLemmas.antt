-- Sorts among a few.
use Rattle.std.proofs.Common.{◌≡◌, List, [], ◌∷◌, refl}
use Rattle.std.specs.List.{list_any}
use Rattle.ir_laws.specs.declared.labels.Sort.{Sort}
use Rattle.ir_laws.specs.Same.{same_sort}
use Rattle.ir_laws.specs.Sorts.{is_sort_among}

pub sort_among : (sorts : List Sort) (s : Sort) → list_any (λ t. same_sort t s) sorts ≡ is_sort_among sorts s
sort_among [] s = refl
sort_among (t ∷ sorts) s = rw (sort_among sorts s)
