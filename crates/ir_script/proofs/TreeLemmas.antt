-- The trees of labels.
use Rattle.std.proofs.Common.{◌≡◌, ◌∙◌, ℕ, Bool, true, false, ◌&&◌, ◌||◌, not, List, [], ◌∷◌, Option, Some, None, inl, refl, sym, ap, true≢false}
use Rattle.std.specs.Option.{option_map}
use Rattle.std.specs.List.{list_all}
use Rattle.std.proofs.lemmas.Bool.{and_parts}
use Rattle.ir_core.specs.declared.ids.SolverDefId.{SolverDefId}
use Rattle.ir_laws.specs.declared.words.Word.{Word}
use Rattle.ir_laws.specs.declared.words.Word.TheVariants.{BoundVariable, TypeParameter, RegionParameter, ConstantParameter}
use Rattle.ir_laws.specs.declared.labels.Sort.TheVariants.{OfType, OfRegion, OfConstant}
use Rattle.ir_laws.specs.declared.labels.FieldForm.TheVariants.{ANumber, AVariableKind}
use Rattle.ir_laws.specs.Tree.{Text, Kind, Field, Number, Item, Chosen, OfKind, Memory, Label, Node, End, Term, Terms}
use Rattle.ir_laws.specs.Word.{same_word, label_words}
use Rattle.ir_laws.specs.Label.{row}
use Rattle.ir_laws.specs.Names.{field_forms}
use Rattle.ir_laws.specs.Phrase.{Phrases, Labelled, and_then, each_of}
use Rattle.ir_laws.specs.Environment.{Environment, tree_in, trees_of, tree_made, variable_of, parameter_of, field_meant, bind_in}
use Rattle.ir_laws.specs.Formed.{field_fits, fields_fit}
use Rattle.ir_laws.specs.Heap.{leaf_by, plant}
use Rattle.ir_laws.proofs.FormedLemmas.{number_fits}
use Rattle.ir_laws.proofs.PlantLemmas.{made_planted}

-- ---- the table's rules

-- a label of the word has a node: it is no bound variable and no parameter
abbrev pub is_node_word : Word → Bool
is_node_word w = not (same_word w BoundVariable) && not (same_word w TypeParameter) && not (same_word w RegionParameter) && not (same_word w ConstantParameter)

-- a word of the grammar is one of these, or that of a bound variable
abbrev pub is_known : Word → Bool
is_known w = is_node_word w || same_word w BoundVariable

pub words_are_known : list_all is_known label_words ≡ true
words_are_known = refl

-- ---- the fields of a bound variable

module _ {N : Type 0} where
  a_kind : (f : Field N) → field_fits AVariableKind f ≡ true → (k : Kind N) × (f ≡ OfKind k)
  a_kind (OfKind k) h = (k, refl)
  a_kind (Number n) h = absurd (true≢false (sym h))
  a_kind (Item name) h = absurd (true≢false (sym h))
  a_kind (Chosen word) h = absurd (true≢false (sym h))
  a_kind (Memory bytes mapped) h = absurd (true≢false (sym h))

  abbrev pub IsVariable : List (Field N) → Type 0
  IsVariable fs = (i : ℕ) × (n : ℕ) × (k : Kind N) × (fs ≡ Number i ∷ Number n ∷ OfKind k ∷ [])

  three : (x y z : Field N) → (i : ℕ) × (x ≡ Number i) → (n : ℕ) × (y ≡ Number n) → (k : Kind N) × (z ≡ OfKind k) → IsVariable (x ∷ y ∷ z ∷ [])
  three x y z a b c = (a.0, b.0, c.0, (λ i. a.1 i ∷ b.1 i ∷ c.1 i ∷ []))

  pub variable_fields : (fs : List (Field N)) → fields_fit (ANumber ∷ ANumber ∷ AVariableKind ∷ []) fs ≡ true → IsVariable fs
  variable_fields [] h = absurd (true≢false (sym h))
  variable_fields (x ∷ []) h = absurd (true≢false (sym (and_parts (field_fits ANumber x) false h).1))
  variable_fields (x ∷ y ∷ []) h =
      let first = and_parts (field_fits ANumber x) (field_fits ANumber y && false) h in
      absurd (true≢false (sym (and_parts (field_fits ANumber y) false first.1).1))
  variable_fields (x ∷ y ∷ z ∷ []) h =
      let first = and_parts (field_fits ANumber x) (field_fits ANumber y && (field_fits AVariableKind z && true)) h in
      let second = and_parts (field_fits ANumber y) (field_fits AVariableKind z && true) first.1 in
      three x y z (number_fits x first.0) (number_fits y second.0) (a_kind z (and_parts (field_fits AVariableKind z) true second.1).0)
  variable_fields (x ∷ y ∷ z ∷ f ∷ fs) h =
      let first = and_parts (field_fits ANumber x) (field_fits ANumber y && (field_fits AVariableKind z && false)) h in
      let second = and_parts (field_fits ANumber y) (field_fits AVariableKind z && false) first.1 in
      absurd (true≢false (sym (and_parts (field_fits AVariableKind z) false second.1).1))

-- the fields of such a label
pub variable_row : {N : Type 0} (w : Word) (fs : List (Field N)) → w ≡ BoundVariable → fields_fit (field_forms (row w).parts) fs ≡ true → IsVariable fs
variable_row w fs word fits = variable_fields fs (sym (ap (λ v. fields_fit (field_forms (row v).parts) fs) word) ∙ fits)

-- ---- what a label makes

-- a node
made_node : (a b c d : Bool) (v x y z n : Option Term) → (not a && not b && not c && not d) ≡ true
    → elim a [ true ↦ v | false ↦ elim b [ true ↦ x | false ↦ elim c [ true ↦ y | false ↦ elim d [ true ↦ z | false ↦ n ] ] ] ] ≡ n
made_node false false false false v x y z n h = refl
made_node true b c d v x y z n h = absurd (true≢false (sym h))
made_node false true c d v x y z n h = absurd (true≢false (sym h))
made_node false false true d v x y z n h = absurd (true≢false (sym h))
made_node false false false true v x y z n h = absurd (true≢false (sym h))

no_leaf : (a b c d : Bool) (fs : List (Field SolverDefId)) → (not a && not b && not c && not d) ≡ true → leaf_by a b c d fs ≡ None
no_leaf false false false false fs h = refl
no_leaf true b c d fs h = absurd (true≢false (sym h))
no_leaf false true c d fs h = absurd (true≢false (sym h))
no_leaf false false true d fs h = absurd (true≢false (sym h))
no_leaf false false false true fs h = absurd (true≢false (sym h))

pub node_made : (l : Label SolverDefId) (b : Option (List (Kind SolverDefId))) (ts : Terms) → is_node_word l.word ≡ true → tree_made l b ts ≡ Some (plant (record { label = l; bind = b }) ts)
node_made l b ts h =
    let made = made_node (same_word l.word BoundVariable) (same_word l.word TypeParameter) (same_word l.word RegionParameter) (same_word l.word ConstantParameter)
    (variable_of l.fields) (parameter_of OfType l.fields) (parameter_of OfRegion l.fields) (parameter_of OfConstant l.fields) (Some (Node l b ts)) h in
    let none = no_leaf (same_word l.word BoundVariable) (same_word l.word TypeParameter) (same_word l.word RegionParameter) (same_word l.word ConstantParameter) l.fields h in
    made ∙ ap Some (made_planted l b ts (Node l b ts) made (inl none))

-- a bound variable
pub variable_made : (l : Label SolverDefId) (b : Option (List (Kind SolverDefId))) (ts : Terms) → l.word ≡ BoundVariable → IsVariable l.fields → b ≡ None → ts ≡ End → tree_made l b ts ≡ Some (plant (record { label = l; bind = b }) ts)
variable_made l b ts word fields none no_kids =
    let own : Label SolverDefId = record { word = BoundVariable; fields = Number fields.0 ∷ Number fields.1 ∷ OfKind fields.2 ∷ [] } in
    let same : l ≡ own = (λ i. record { word = word i; fields = fields.3 i }) in
    (λ i. tree_made (same i) (none i) (no_kids i)) ∙ sym (λ i. Some (plant (record { label = same i; bind = none i }) (no_kids i)))

-- the tree of a label, where names are looked up and kids have trees
pub label_tree : (env : Environment) (l : Label Text) (b : Option (List (Kind Text))) (ps : Phrases) (fs : List (Field SolverDefId)) (c : Option (List (Kind SolverDefId))) (ts : Terms) (t : Term)
    → each_of (field_meant env) l.fields ≡ Some fs → bind_in env b ≡ Some c → trees_of env ps ≡ Some ts → tree_made (record { word = l.word; fields = fs }) c ts ≡ Some t → tree_in env (Labelled l b ps) ≡ Some t
label_tree env l b ps fs c ts t fields bind kids made =
    (λ i. and_then (option_map (λ gs. let m : Label SolverDefId = record { word = l.word; fields = gs } in m) (fields i)) (λ label. and_then (bind i) (λ d. and_then (kids i) (tree_made label d)))) ∙ made
