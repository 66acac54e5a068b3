-- The tests on words, ids, kinds, fields and labels tell equality.
use Rattle.std.proofs.Common.{◌≡◌, ℕ, true, List, [], ◌∷◌, Option, Some, None, Decides, nat_eq, slice_get, option_map, refl, sym, ap, ap₂, ◌∙◌, true≢false}
use Rattle.std.proofs.lemmas.Bool.{eqb-true, eq-eqb}
use Rattle.std.proofs.lemmas.Bool.Decides.{Decides-eqb, Decides-and, Decides-like}
use Rattle.std.proofs.lemmas.Slice.Eq.{bytes_eq-Decides}
use Rattle.std.proofs.lemmas.Option.{same_Some}
use Rattle.ir_core.specs.declared.ids.SolverDefId.{SolverDefId}
use Rattle.ir_core.specs.declared.ids.SolverDefId.TheVariants as id
use Rattle.ir_core.specs.declared.ids.AdtId.TheVariants as adt
use Rattle.ir_core.specs.declared.ids.Ctor.TheVariants as ctor
use Rattle.ir_laws.specs.contracts.labels.Keyword.{the_type as keyword_type}
use Rattle.ir_laws.specs.contracts.labels.Sort.{the_type as sort_type}
use Rattle.ir_laws.specs.contracts.words.Word.{the_type as word_type}
use Rattle.ir_laws.specs.declared.words.Word.{Word}
use Rattle.ir_laws.specs.declared.labels.Keyword.{Keyword}
use Rattle.ir_laws.specs.declared.labels.Sort.{Sort}
use Rattle.ir_laws.specs.Word.{same_word}
use Rattle.ir_laws.specs.Keyword.{same_keyword}
use Rattle.ir_laws.specs.Id.{id_kind, id_place, same_id}
use Rattle.ir_laws.specs.Tree.{KindName, Nameless, Environment, Called, Kind, Mapped, Field, Number, Item, Chosen, OfKind, Memory, Label, Parameter}
use Rattle.ir_laws.specs.Same.{same_sort, same_list, same_kind_name, same_kind, same_mapped, same_field, same_label, same_bind, same_parameter}
use Rattle.ir_laws.proofs.Telling.{decides_by, bare_decides, and_then_decides, list_decides}

pub word_decides : (a b : Word) → Decides (same_word a b) (a ≡ b)
word_decides = bare_decides word_type tt

pub keyword_decides : (a b : Keyword) → Decides (same_keyword a b) (a ≡ b)
keyword_decides = bare_decides keyword_type tt

pub sort_decides : (a b : Sort) → Decides (same_sort a b) (a ≡ b)
sort_decides = bare_decides sort_type tt

-- ---- ids

-- the ids of each kind by their places
abbrev id_makers : List (ℕ → SolverDefId)
id_makers = (λ n. id.AdtId (adt.StructId (record { 0 = n }))) ∷ (λ n. id.AdtId (adt.EnumId (record { 0 = n }))) ∷ (λ n. id.AdtId (adt.UnionId (record { 0 = n }))) ∷ (λ n. id.EnumVariantId (record { 0 = n })) ∷ (λ n. id.TraitId (record { 0 = n })) ∷ (λ n. id.ImplId (record { 0 = n })) ∷ (λ n. id.BuiltinDeriveImplId (record { 0 = n })) ∷ (λ n. id.FunctionId (record { 0 = n })) ∷ (λ n. id.ConstId (record { 0 = n })) ∷ (λ n. id.StaticId (record { 0 = n })) ∷ (λ n. id.TypeAliasId (record { 0 = n })) ∷ (λ n. id.InternedClosureId (record { 0 = n })) ∷ (λ n. id.InternedCoroutineId (record { 0 = n })) ∷ (λ n. id.InternedOpaqueTyId (record { 0 = n })) ∷ (λ n. id.Ctor (ctor.Struct (record { 0 = n }))) ∷ (λ n. id.Ctor (ctor.Enum (record { 0 = n }))) ∷ []

abbrev id_with : ℕ → ℕ → Option SolverDefId
id_with kind place = option_map (λ make. make place) (slice_get id_makers kind)

id_at_its_place : (a : SolverDefId) → id_with (id_kind a) (id_place a) ≡ Some a
id_at_its_place (id.AdtId (adt.StructId s)) = refl
id_at_its_place (id.AdtId (adt.EnumId e)) = refl
id_at_its_place (id.AdtId (adt.UnionId u)) = refl
id_at_its_place (id.EnumVariantId v) = refl
id_at_its_place (id.TraitId t) = refl
id_at_its_place (id.ImplId i) = refl
id_at_its_place (id.BuiltinDeriveImplId i) = refl
id_at_its_place (id.FunctionId f) = refl
id_at_its_place (id.ConstId c) = refl
id_at_its_place (id.StaticId s) = refl
id_at_its_place (id.TypeAliasId a) = refl
id_at_its_place (id.InternedClosureId c) = refl
id_at_its_place (id.InternedCoroutineId c) = refl
id_at_its_place (id.InternedOpaqueTyId o) = refl
id_at_its_place (id.Ctor (ctor.Struct s)) = refl
id_at_its_place (id.Ctor (ctor.Enum v)) = refl

pub id_decides : (a b : SolverDefId) → Decides (same_id a b) (a ≡ b)
id_decides a b = Decides-like (same_id a b)
    (λ h. same_Some a b (sym (id_at_its_place a) ∙ ap₂ id_with h.0 h.1 ∙ id_at_its_place b))
    (λ e. (ap id_kind e, ap id_place e))
    (Decides-and (nat_eq (id_kind a) (id_kind b)) (nat_eq (id_place a) (id_place b)) (Decides-eqb (id_kind a) (id_kind b)) (Decides-eqb (id_place a) (id_place b)))

-- ---- kinds

name_exact : (a b : KindName SolverDefId) → same_kind_name a b ≡ true → a ≡ b
name_exact Nameless Nameless e = refl
name_exact Environment Environment e = refl
name_exact (Called a) (Called b) e = ap Called ((id_decides a b).0 e)
name_exact _ _ e = absurd (true≢false (sym e))

name_itself : (a : KindName SolverDefId) → same_kind_name a a ≡ true
name_itself Nameless = refl
name_itself Environment = refl
name_itself (Called a) = (id_decides a a).1 refl

pub name_decides : (a b : KindName SolverDefId) → Decides (same_kind_name a b) (a ≡ b)
name_decides = decides_by same_kind_name name_exact name_itself

pub kind_decides : (a b : Kind SolverDefId) → Decides (same_kind a b) (a ≡ b)
kind_decides a b = Decides-like (same_kind a b)
    (λ h. ap₂ (λ s n. record { sort = s; name = n }) h.0 h.1)
    (λ e. (ap (λ k. k.sort) e, ap (λ k. k.name) e))
    (Decides-and (same_sort a.sort b.sort) (same_kind_name a.name b.name) (sort_decides a.sort b.sort) (name_decides a.name b.name))

-- ---- fields

pub mapped_decides : (a b : Mapped) → Decides (same_mapped a b) (a ≡ b)
mapped_decides a b = Decides-like (same_mapped a b)
    (λ h. ap₂ (λ n bs. record { address = n; bytes = bs }) h.0 h.1)
    (λ e. (ap (λ m. m.address) e, ap (λ m. m.bytes) e))
    (Decides-and (nat_eq a.address b.address) _ (Decides-eqb a.address b.address) (bytes_eq-Decides a.bytes b.bytes))

memory_decides : (a b : List ℕ) (as' bs : List Mapped) → Decides (same_field (Memory a as') (Memory b bs)) ((a ≡ b) × (as' ≡ bs))
memory_decides a b as' bs = Decides-and _ (same_list same_mapped as' bs) (bytes_eq-Decides a b) (list_decides same_mapped mapped_decides as' bs)

field_exact : (a b : Field SolverDefId) → same_field a b ≡ true → a ≡ b
field_exact (Number a) (Number b) e = ap Number (eqb-true a b e)
field_exact (Item a) (Item b) e = ap Item ((id_decides a b).0 e)
field_exact (Chosen a) (Chosen b) e = ap Chosen ((keyword_decides a b).0 e)
field_exact (OfKind a) (OfKind b) e = ap OfKind ((kind_decides a b).0 e)
field_exact (Memory a as') (Memory b bs) e = let both = (memory_decides a b as' bs).0 e in ap₂ Memory both.0 both.1
field_exact _ _ e = absurd (true≢false (sym e))

field_itself : (a : Field SolverDefId) → same_field a a ≡ true
field_itself (Number a) = eq-eqb a a refl
field_itself (Item a) = (id_decides a a).1 refl
field_itself (Chosen a) = (keyword_decides a a).1 refl
field_itself (OfKind a) = (kind_decides a a).1 refl
field_itself (Memory a as') = (memory_decides a a as' as').1 (refl, refl)

pub field_decides : (a b : Field SolverDefId) → Decides (same_field a b) (a ≡ b)
field_decides = decides_by same_field field_exact field_itself

-- ---- labels, lists of kinds and parameters

pub label_decides : (a b : Label SolverDefId) → Decides (same_label a b) (a ≡ b)
label_decides a b = Decides-like (same_label a b)
    (λ h. ap₂ (λ w fs. record { word = w; fields = fs }) h.0 h.1)
    (λ e. (ap (λ l. l.word) e, ap (λ l. l.fields) e))
    (and_then_decides (same_word a.word b.word) (same_list same_field a.fields b.fields) (word_decides a.word b.word) (list_decides same_field field_decides a.fields b.fields))

bind_exact : (a b : Option (List (Kind SolverDefId))) → same_bind a b ≡ true → a ≡ b
bind_exact None None e = refl
bind_exact (Some a) (Some b) e = ap Some ((list_decides same_kind kind_decides a b).0 e)
bind_exact _ _ e = absurd (true≢false (sym e))

bind_itself : (a : Option (List (Kind SolverDefId))) → same_bind a a ≡ true
bind_itself None = refl
bind_itself (Some a) = (list_decides same_kind kind_decides a a).1 refl

pub bind_decides : (a b : Option (List (Kind SolverDefId))) → Decides (same_bind a b) (a ≡ b)
bind_decides = decides_by same_bind bind_exact bind_itself

pub parameter_decides : (a b : Parameter) → Decides (same_parameter a b) (a ≡ b)
parameter_decides a b = Decides-like (same_parameter a b)
    (λ h. ap₂ (λ s p. record { sort = s; parent = p; local = a.local; index = a.index }) h.0.0.0 h.0.0.1 ∙ ap₂ (λ l i. record { sort = b.sort; parent = b.parent; local = l; index = i }) h.0.1 h.1)
    (λ e. (((ap (λ p. p.sort) e, ap (λ p. p.parent) e), ap (λ p. p.local) e), ap (λ p. p.index) e))
    (Decides-and _ (nat_eq a.index b.index) (Decides-and _ (nat_eq a.local b.local) (Decides-and (same_sort a.sort b.sort) (same_id a.parent b.parent) (sort_decides a.sort b.sort) (id_decides a.parent b.parent)) (Decides-eqb a.local b.local)) (Decides-eqb a.index b.index))
