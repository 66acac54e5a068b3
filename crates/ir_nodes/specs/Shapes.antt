-- The shapes of nodes: of which variants the fields are, whether a node binds, and how many kids it has.
use Rattle.std.specs.Prelude.{ℕ, zero, suc, Bool, true, false, List, [], ◌∷◌}
use Rattle.ir_nodes.specs.declared.nodes.Field.{Field}
use Rattle.ir_nodes.specs.declared.nodes.Field.TheVariants as field

-- of which variant a field is
pub data Look : Type 0 where
  Chosen : Look
  Number : Look
  OfKind : Look
  -- no field of a node is so: an item, or bytes
  Other : Look

abbrev pub look : Field → Look
look (field.Chosen k) = Chosen
look (field.Number n) = Number
look (field.OfKind v) = OfKind

-- some content has fields of these variants, a binder or none, and so many kids
abbrev pub is_shape : List Look → Bool → ℕ → Bool
is_shape [] false zero = true
is_shape [] false (suc zero) = true
is_shape [] false (suc (suc zero)) = true
is_shape [] true (suc zero) = true
is_shape (Number ∷ []) false zero = true
is_shape (Number ∷ OfKind ∷ []) false zero = true
is_shape (Number ∷ Number ∷ OfKind ∷ []) false zero = true
is_shape (Chosen ∷ []) false (suc zero) = true
is_shape (Chosen ∷ []) false (suc (suc zero)) = true
is_shape (Chosen ∷ Chosen ∷ Chosen ∷ []) true (suc zero) = true
is_shape (Chosen ∷ Chosen ∷ Chosen ∷ []) false (suc zero) = true
is_shape looks binds kids = false
