-- Where the grammar, the names and the sorts have met no cause, the resolved steps fit, and grow the trees of the phrases.
use Rattle.std.proofs.Common.{◌≡◌, ◌∙◌, ℕ, Bool, true, false, ◌&&◌, not, List, [], ◌∷◌, ◌++◌, map, Option, Some, None, is_some, option_map, unwrap_or, inl, inr, refl, sym, ap, subst, true≢false}
use Rattle.std.specs.List.{list_all}
use Rattle.std.proofs.lemmas.Bool.{and_from, and_parts, false≢true, or_cases}
use Rattle.std.proofs.lemmas.List.{map_push}
use Rattle.std.proofs.lemmas.Option.{same_Some}
use Rattle.ir_core.specs.Parts.{same_part_sort}
use Rattle.ir_core.specs.declared.handles.Part.{Part}
use Rattle.ir_core.specs.declared.handles.PartSort.{PartSort}
use Rattle.ir_core.specs.declared.handles.PartSort.TheVariants as handle
use Rattle.ir_core.specs.declared.ids.SolverDefId.{SolverDefId}
use Rattle.ir_core.specs.declared.variables.BoundVarKind.{BoundVarKind}
use Rattle.ir_core.specs.declared.variables.BoundVarKind.TheVariants as kind
use Rattle.ir_laws.specs.Cause.{WrongSort}
use Rattle.ir_laws.specs.Counts.{sort_of, sort_of_fields, sort_of_label}
use Rattle.ir_laws.specs.Environment.{Environment, bind_in, cons_term, field_meant, id_of, kind_in, term_named, tree_in, tree_made, trees_of}
use Rattle.ir_laws.specs.Formed.{bind_fits, field_fits, fields_fit, is_formed, is_keyword_among, is_list_formed, kid_forms, kids_formed}
use Rattle.ir_laws.specs.Heap.{Each, Heap, forest, tree_of}
use Rattle.ir_laws.specs.Keyword.{choice_words}
use Rattle.ir_laws.specs.Label.{LabelSort, Always, ByKind, row}
use Rattle.ir_laws.specs.Names.{field_forms}
use Rattle.ir_laws.specs.Parts.{has_for_group}
use Rattle.ir_laws.specs.Phrase.{Phrase, Name, Labelled, cons_if, each_of}
use Rattle.ir_laws.specs.Same.{same_sort}
use Rattle.ir_laws.specs.Sorts.{Members, OfSorts, an_argument, each_misfits, fields_counted, is_sort_among, is_word_among, kid_wanted, misfits, operand, sort_of_phrase, term_misfits}
use Rattle.ir_laws.specs.Tree.{Text, KindName, Nameless, Environment as EnvName, Called, Kind, Field, Number, Chosen, OfKind, Term}
use Rattle.ir_laws.specs.Word.{label_words, same_word}
use Rattle.ir_laws.specs.declared.labels.FieldForm.{FieldForm}
use Rattle.ir_laws.specs.declared.labels.FieldForm.TheVariants.{OneWordOf, ANumber, AVariableKind}
use Rattle.ir_laws.specs.declared.labels.KidForm.{KidForm}
use Rattle.ir_laws.specs.declared.labels.KidForm.TheVariants.{OneOf, TypeOrConstant, ListOf, ArgumentsOf}
use Rattle.ir_laws.specs.declared.labels.Part.{Part as RowPart}
use Rattle.ir_laws.specs.declared.labels.Sort.{Sort}
use Rattle.ir_laws.specs.declared.labels.Sort.TheVariants.{OfType, OfRegion, OfConstant}
use Rattle.ir_laws.specs.declared.words.Word.{Word}
use Rattle.ir_laws.specs.declared.words.Word.TheVariants.{BoundVariable, TypeList}
use Rattle.ir_laws.proofs.SameParts.{sort_decides, word_decides}
use Rattle.ir_nodes.specs.Fits.{are_of_forms, handle_sort, is_of, is_of_form, is_wanted, list_sort, term_sort}
use Rattle.ir_nodes.specs.Nodes as table
use Rattle.ir_nodes.specs.Nodes.{Fields, variable_seen}
use Rattle.ir_nodes.specs.declared.nodes.Field.{Field as NodeField}
use Rattle.ir_nodes.specs.declared.nodes.Field.TheVariants as node
use Rattle.ir_script.specs.Grove.{AllFit, Fits, Grove, LabelFits, Root, are_wanted, bare, grove, grove_on, grown, label_root, list_root, own_group, own_kids, own_label}
use Rattle.ir_script.specs.Making.{Pairs}
use Rattle.ir_script.specs.Operands.{operand_misfits}
use Rattle.ir_syntax.specs.Grammar.{field_seen, kind_seen}
use Rattle.ir_script.specs.Resolved.{AreResolved, IsResolved, StandFor}
use Rattle.ir_script.specs.Scope.{AreTerms, Named, env_of, operand_sorts}
use Rattle.ir_syntax.specs.Steps.{Stack, below, field_count, first_of, group_count, group_taken, kid_count, kids_taken, label_over, label_taken, list_of, only, phrases, step_on, steps_on, top}
use Rattle.ir_script.specs.declared.resolved.Resolved.{Resolved}
use Rattle.ir_script.specs.declared.resolved.Resolved.TheVariants as seen
use Rattle.ir_syntax.specs.declared.fields.Field.TheVariants as own_field
use Rattle.ir_syntax.specs.declared.steps.Step.{Step}
use Rattle.ir_syntax.specs.declared.steps.Step.TheVariants as code
use Rattle.ir_script.proofs.GoodLemmas.{Good, among_passes, both_empty, built_lists, formed_is, forms_wanted, good_kids, kids_fit, last_good, list_is, lists_are_types, unless_empty}
use Rattle.ir_script.proofs.MakingLemmas.{below_seen, pairs_below, pairs_push, pairs_top, top_seen}
use Rattle.ir_table.proofs.CallerLemmas.{same_fits}
use Rattle.ir_script.proofs.ScopeLemmas.{named_is_term, term_is}
use Rattle.ir_script.proofs.StepLemmas.{held_before}
use Rattle.ir_script.proofs.TreeLemmas.{is_known, is_node_word, label_tree, node_made, variable_made, variable_row, words_are_known}

-- a label is a term's, by its word or by the kind that is its last field
abbrev ends_by_kind : List FieldForm → Bool
ends_by_kind (AVariableKind ∷ []) = true
ends_by_kind (ANumber ∷ forms) = ends_by_kind forms
ends_by_kind forms = false

abbrev is_term_word : Word → Bool
is_term_word w = elim ((row w).sort) [ Always s ↦ is_some (term_sort s) | ByKind ↦ ends_by_kind (field_forms (row w).parts) ]

words_are_terms : list_all is_term_word label_words ≡ true
words_are_terms = refl

-- ---- sorts of handles

only_sort : (s t : Sort) → is_sort_among (t ∷ []) s ≡ true → t ≡ s
only_sort s t among = elim (or_cases (same_sort t s) false among) [ inl same ↦ (sort_decides t s).0 same | inr none ↦ absurd (false≢true none) ]

-- a handle of a sort that is wanted
wanted_one : (g : PartSort) (sort : Sort) → handle_sort g ≡ sort → is_some (term_sort sort) ≡ true → is_of g (term_sort sort) ≡ true
wanted_one g sort is some = subst (λ s. is_of g (term_sort s) ≡ true) is (by g (ap (λ s. is_some (term_sort s)) is ∙ some))
  where
    by : (g : PartSort) → is_some (term_sort (handle_sort g)) ≡ true → is_of g (term_sort (handle_sort g)) ≡ true
    by handle.Ty e = refl
    by handle.Const e = refl
    by handle.Region e = refl
    by _ e = absurd (false≢true e)

wanted_either : (g : PartSort) → is_sort_among (OfType ∷ OfConstant ∷ []) (handle_sort g) ≡ true → is_wanted TypeOrConstant g ≡ true
wanted_either handle.Ty e = refl
wanted_either handle.Const e = refl
wanted_either _ e = absurd (false≢true e)

-- the handle that a term of the sort has
sort_back : (s : Sort) → is_some (term_sort s) ≡ true → handle_sort (unwrap_or (term_sort s) handle.Ty) ≡ s
sort_back OfType e = refl
sort_back OfRegion e = refl
sort_back OfConstant e = refl
sort_back _ e = absurd (false≢true e)

module _ (h : Heap Part) (ns : List Named) (named : AreTerms h ns) where
  abbrev env : Environment
  env = env_of h ns

  -- ---- what steps stand for, and what they grow

  -- the tree is the phrase's, and its handle has the phrase's sort
  pub record IsMeant (p : Phrase) (r : Root) : Type 0 where
    pub tree : tree_in env p ≡ Some r.tree
    pub sort : sort_of_phrase env p ≡ Some (handle_sort r.sort)
    pub types : is_list_formed TypeList p ≡ true → r.sort ≡ handle.Tys

  -- the field with its name looked up
  abbrev IsField : Field Text → NodeField → Type 0
  IsField (Chosen k) (node.Chosen l) = k ≡ l
  IsField (Number n) (node.Number m) = n ≡ m
  IsField (OfKind k) (node.OfKind v) = kind_in env k ≡ Some (variable_seen v)
  IsField f g = ⊥

  abbrev IsKind : Kind Text → Kind SolverDefId → Type 0
  IsKind k j = kind_in env k ≡ Some j

  abbrev IsBind : List (Kind Text) → List (Kind SolverDefId) → Type 0
  IsBind ks js = each_of (kind_in env) ks ≡ Some js

  pub record Means (st : Stack) (g : Grove) : Type 0 where
    pub terms : Pairs IsMeant st.terms g.roots
    pub own : List NodeField
    pub own_are : map table.field_seen own ≡ g.fields
    pub fields : Pairs IsField st.fields own
    pub kinds : Pairs IsKind st.kinds g.kinds
    pub groups : Pairs IsBind st.groups g.groups

  kinds_meant : (ks : List (Kind Text)) (js : List (Kind SolverDefId)) → Pairs IsKind ks js → each_of (kind_in env) ks ≡ Some js
  kinds_meant [] [] ps = refl
  kinds_meant [] (j ∷ js) ps = absurd ps
  kinds_meant (k ∷ ks) [] ps = absurd ps
  kinds_meant (k ∷ ks) (j ∷ js) ps = (λ i. cons_if (ps.0 i) (kinds_meant ks js ps.1 i))

  abbrev IsKindOf : Option (Kind SolverDefId) → NodeField → Type 0
  IsKindOf o (node.OfKind v) = o ≡ Some (variable_seen v)
  IsKindOf o g = ⊥

  field_is : (f : _) (g : NodeField) → field_meant env (field_seen f) ≡ Some (table.field_seen g) → IsField (field_seen f) g
  field_is (own_field.Chosen k) (node.Chosen l) e = cc
  field_is (own_field.Chosen k) (node.Number m) e = absurd cc
  field_is (own_field.Chosen k) (node.OfKind v) e = absurd cc
  field_is (own_field.Number n) (node.Chosen l) e = absurd cc
  field_is (own_field.Number n) (node.Number m) e = cc
  field_is (own_field.Number n) (node.OfKind v) e = absurd cc
  field_is (own_field.OfKind k) g e = by (kind_in env (kind_seen k)) g e
    where
      by : (o : Option (Kind SolverDefId)) (g : NodeField) → option_map OfKind o ≡ Some (table.field_seen g) → IsKindOf o g
      by None g e = absurd cc
      by (Some j) (node.Chosen l) e = absurd cc
      by (Some j) (node.Number m) e = absurd cc
      by (Some j) (node.OfKind v) e = cc

  field_is_meant : (f : Field Text) (g : NodeField) → IsField f g → field_meant env f ≡ Some (table.field_seen g)
  field_is_meant (Chosen k) (node.Chosen l) is = ap (λ k. Some (Chosen k)) is
  field_is_meant (Number n) (node.Number m) is = ap (λ n. Some (Number n)) is
  field_is_meant (OfKind k) (node.OfKind v) is = ap (option_map OfKind) is
  field_is_meant f g is = absurd is

  fields_meant : (fs : List (Field Text)) (gs : List NodeField) → Pairs IsField fs gs → each_of (field_meant env) fs ≡ Some (map table.field_seen gs)
  fields_meant [] [] ps = refl
  fields_meant [] (g ∷ gs) ps = absurd ps
  fields_meant (f ∷ fs) [] ps = absurd ps
  fields_meant (f ∷ fs) (g ∷ gs) ps = (λ i. cons_if (field_is_meant f g ps.0 i) (fields_meant fs gs ps.1 i))

  field_alike : (form : FieldForm) (f : Field Text) (g : NodeField) → IsField f g → field_fits form f ≡ is_of_form form g
  field_alike (OneWordOf choice) (Chosen k) (node.Chosen l) is = ap (is_keyword_among (choice_words choice)) is
  field_alike form (Chosen k) (node.Chosen l) is = refl
  field_alike form (Number n) (node.Number m) is = refl
  field_alike form (OfKind k) (node.OfKind v) is = refl
  field_alike form f g is = absurd is

  fields_alike : (forms : List FieldForm) (fs : List (Field Text)) (gs : List NodeField) → Pairs IsField fs gs → fields_fit forms fs ≡ are_of_forms forms gs
  fields_alike [] [] [] ps = refl
  fields_alike (form ∷ forms) [] [] ps = refl
  fields_alike forms [] (g ∷ gs) ps = absurd ps
  fields_alike forms (f ∷ fs) [] ps = absurd ps
  fields_alike [] (f ∷ fs) (g ∷ gs) ps = refl
  fields_alike (form ∷ forms) (f ∷ fs) (g ∷ gs) ps = (λ i. field_alike form f g ps.0 i && fields_alike forms fs gs ps.1 i)

  kind_sort : (k : Kind Text) (j : Kind SolverDefId) → kind_in env k ≡ Some j → k.sort ≡ j.sort
  kind_sort k j is = by k.name is
    where
      by : (n : KindName Text) → elim n [ Nameless ↦ Some (record { sort = k.sort; name = Nameless }) | EnvName ↦ Some (record { sort = k.sort; name = EnvName }) | Called name ↦ option_map (λ id. record { sort = k.sort; name = Called id }) (id_of env name) ] ≡ Some j → k.sort ≡ j.sort
      by Nameless e = ap (λ j. j.sort) (same_Some _ j e)
      by EnvName e = ap (λ j. j.sort) (same_Some _ j e)
      by (Called name) e = absurd cc

  sorts_alike : (fs : List (Field Text)) (gs : List NodeField) → Pairs IsField fs gs → sort_of_fields fs ≡ sort_of_fields (map table.field_seen gs)
  sorts_alike [] [] ps = refl
  sorts_alike [] (g ∷ gs) ps = absurd ps
  sorts_alike (f ∷ fs) [] ps = absurd ps
  sorts_alike (Chosen k ∷ fs) (node.Chosen l ∷ gs) ps = sorts_alike fs gs ps.1
  sorts_alike (Number n ∷ fs) (node.Number m ∷ gs) ps = sorts_alike fs gs ps.1
  sorts_alike (OfKind k ∷ fs) (node.OfKind v ∷ gs) ps = kind_sort k (variable_seen v) ps.0
  sorts_alike (f ∷ fs) (g ∷ gs) ps = absurd ps.0

  -- ---- a label

  -- the sort of a term of the grammar is one that handles have
  term_word : (w : Word) (gs : List NodeField) → is_word_among label_words w ≡ true → are_of_forms (field_forms (row w).parts) gs ≡ true → is_some (term_sort (sort_of_label (record { word = w; fields = map table.field_seen gs }))) ≡ true
  term_word w gs among fits = by ((row w).sort) (among_passes is_term_word label_words w words_are_terms among)
    where
      kind_term : (v : BoundVarKind) → is_some (term_sort (variable_seen v).sort) ≡ true
      kind_term (kind.Ty k) = refl
      kind_term (kind.Region k) = refl
      kind_term kind.Const = refl

      last_kind : (forms : List FieldForm) (gs : List NodeField) → ends_by_kind forms ≡ true → are_of_forms forms gs ≡ true → is_some (term_sort (sort_of_fields (map table.field_seen gs))) ≡ true
      last_kind (AVariableKind ∷ []) (node.OfKind v ∷ []) ends e = kind_term v
      last_kind (AVariableKind ∷ []) gs ends e = absurd (false≢true e)
      last_kind (ANumber ∷ forms) (node.Number n ∷ gs) ends e = last_kind forms gs ends e
      last_kind (ANumber ∷ forms) gs ends e = absurd (false≢true e)
      last_kind forms gs ends e = absurd (false≢true ends)

      by : (s : LabelSort) → elim s [ Always s ↦ is_some (term_sort s) | ByKind ↦ ends_by_kind (field_forms (row w).parts) ] ≡ true → is_some (term_sort (elim s [ Always s ↦ s | ByKind ↦ sort_of_fields (map table.field_seen gs) ])) ≡ true
      by (Always s) e = e
      by ByKind e = last_kind (field_forms (row w).parts) gs e fits

  -- a kid that has no fault in its place has a handle of the sort that is wanted there
  pub sort_of_kid : (sorts : List Sort) (p : Phrase) (r : Root) → misfits env (OfSorts sorts) p ≡ [] → IsMeant p r → is_sort_among sorts (handle_sort r.sort) ≡ true
  sort_of_kid sorts (Name name) r fits is = by (term_named env name) fits is.sort
    where
      by : (o : Option Term) → term_misfits (OfSorts sorts) o ≡ [] → elim o [ Some t ↦ Some (sort_of t) | None ↦ None ] ≡ Some (handle_sort r.sort) → is_sort_among sorts (handle_sort r.sort) ≡ true
      by None fits e = absurd cc
      by (Some t) fits e = ap (is_sort_among sorts) (sym (same_Some (sort_of t) (handle_sort r.sort) e)) ∙ unless_empty _ WrongSort fits
  sort_of_kid sorts (Labelled l b ps) r fits is =
      ap (is_sort_among sorts) (sym (same_Some (sort_of_label l) (handle_sort r.sort) is.sort))
      ∙ unless_empty _ WrongSort (both_empty _ _ (both_empty _ _ (both_empty _ _ (both_empty _ _ fits).0).0).0).0

  kids_wanted_are : (fields : List (Field Text)) (forms : List KidForm) (ps : List Phrase) (rs : List Root) → lists_are_types forms ≡ true → kids_formed forms (phrases ps) ≡ true → each_misfits env (map (kid_wanted env fields) forms) an_argument (phrases ps) ≡ []
      → Pairs IsMeant ps rs → are_wanted forms (map (λ r. r.sort) rs) ≡ true
  kids_wanted_are fields [] [] [] types formed fits is = refl
  kids_wanted_are fields forms [] (r ∷ rs) types formed fits is = absurd is
  kids_wanted_are fields forms (p ∷ ps) [] types formed fits is = absurd is
  kids_wanted_are fields (OneOf sort ∷ forms) (p ∷ ps) (r ∷ rs) types formed fits is =
      let f = and_parts _ _ formed in
      let m = both_empty _ _ fits in
      let t = and_parts (is_some (term_sort sort)) _ types in
      and_from _ _ (wanted_one r.sort sort (sym (only_sort (handle_sort r.sort) sort (sort_of_kid (sort ∷ []) p r m.0 is.0))) t.0) (kids_wanted_are fields forms ps rs t.1 f.1 m.1 is.1)
  kids_wanted_are fields (TypeOrConstant ∷ forms) (p ∷ ps) (r ∷ rs) types formed fits is =
      let f = and_parts _ _ formed in
      let m = both_empty _ _ fits in
      and_from _ _ (wanted_either r.sort (sort_of_kid (OfType ∷ OfConstant ∷ []) p r m.0 is.0)) (kids_wanted_are fields forms ps rs types f.1 m.1 is.1)
  kids_wanted_are fields (ListOf list sort empty ∷ forms) (p ∷ ps) (r ∷ rs) types formed fits is =
      let f = and_parts _ _ formed in
      let m = both_empty _ _ fits in
      let t = and_parts (same_word list TypeList && same_sort sort OfType) _ types in
      let word = (word_decides list TypeList).0 (and_parts (same_word list TypeList) (same_sort sort OfType) t.0).0 in
      let tys = is.0.types (subst (λ w. is_list_formed w p ≡ true) word f.0) in
      and_from _ _ (λ i. is_of (tys i) (list_sort (word i))) (kids_wanted_are fields forms ps rs t.1 f.1 m.1 is.1)
  kids_wanted_are fields (ArgumentsOf count ∷ forms) (p ∷ ps) (r ∷ rs) types formed fits is = absurd (false≢true types)
  kids_wanted_are fields [] (p ∷ ps) (r ∷ rs) types formed fits is = absurd (false≢true formed)
  kids_wanted_are fields (OneOf sort ∷ forms) [] [] types formed fits is = absurd (false≢true formed)
  kids_wanted_are fields (TypeOrConstant ∷ forms) [] [] types formed fits is = absurd (false≢true formed)
  kids_wanted_are fields (ListOf list sort empty ∷ forms) [] [] types formed fits is = absurd (false≢true formed)
  kids_wanted_are fields (ArgumentsOf count ∷ forms) [] [] types formed fits is = absurd (false≢true formed)

  members_are_types : (ps : List Phrase) (rs : List Root) → each_misfits env [] (OfSorts (OfType ∷ [])) (phrases ps) ≡ [] → Pairs IsMeant ps rs → list_all (λ r. same_part_sort r.sort handle.Ty) rs ≡ true
  members_are_types [] [] fits is = refl
  members_are_types [] (r ∷ rs) fits is = absurd is
  members_are_types (p ∷ ps) [] fits is = absurd is
  members_are_types (p ∷ ps) (r ∷ rs) fits is =
      let m = both_empty _ _ fits in
      and_from _ _ (wanted_one r.sort OfType (sym (only_sort (handle_sort r.sort) OfType (sort_of_kid (OfType ∷ []) p r m.0 is.0))) refl) (members_are_types ps rs m.1 is.1)

  -- the trees of kids
  trees_meant : (ps : List Phrase) (rs : List Root) → Pairs IsMeant ps rs → trees_of env (phrases ps) ≡ Some (forest (λ r. r.tree) rs)
  trees_meant [] [] is = refl
  trees_meant [] (r ∷ rs) is = absurd is
  trees_meant (p ∷ ps) [] is = absurd is
  trees_meant (p ∷ ps) (r ∷ rs) is = (λ i. cons_term (is.0.tree i) (trees_meant ps rs is.1 i))

  bind_meant : (kss : List (List (Kind Text))) (jss : List (List (Kind SolverDefId))) → Pairs IsBind kss jss → bind_in env (first_of kss) ≡ Some (first_of jss)
  bind_meant [] [] is = refl
  bind_meant [] (js ∷ jss) is = absurd is
  bind_meant (ks ∷ kss) [] is = absurd is
  bind_meant (ks ∷ kss) (js ∷ jss) is = ap (option_map Some) is.0

  bind_alike : (parts : List RowPart) (kss : List (List (Kind Text))) (jss : List (List (Kind SolverDefId))) → Pairs IsBind kss jss → bind_fits parts (first_of kss) ≡ bind_fits parts (first_of jss)
  bind_alike parts [] [] is = refl
  bind_alike parts [] (js ∷ jss) is = absurd is
  bind_alike parts (ks ∷ kss) [] is = absurd is
  bind_alike parts (ks ∷ kss) (js ∷ jss) is = refl

  module _ (w : Word) (st : Stack) (g : Grove) (is : Means st g) (among : is_word_among label_words w ≡ true) where
    abbrev parts : List RowPart
    parts = (row w).parts

    own_code : List NodeField
    own_code = top (field_count parts) is.own

    own_code_is : map table.field_seen own_code ≡ (own_label w g).fields
    unfolding own_code
    own_code_is = top_seen table.field_seen (field_count parts) is.own g.fields is.own_are

    own_pairs : Pairs IsField (label_taken w st).fields own_code
    unfolding own_code
    own_pairs = pairs_top IsField (field_count parts) st.fields is.own is.fields

    kid_pairs : Pairs IsMeant (kids_taken parts st) (own_kids w g)
    kid_pairs = pairs_top IsMeant (kid_count parts) st.terms g.roots is.terms

    bind_pairs : Pairs IsBind (top (group_count parts) st.groups) (top (group_count parts) g.groups)
    bind_pairs = pairs_top IsBind (group_count parts) st.groups g.groups is.groups

    -- a label with the fields, the group and the kids of its row, of the sorts that these want
    label_fits : (sorts : List Sort) → is_formed (label_over w st) ≡ true → misfits env (OfSorts sorts) (label_over w st) ≡ [] → LabelFits w g
    label_fits sorts formed fits =
        let f = formed_is env (label_taken w st) (group_taken parts st) (phrases (kids_taken parts st)) formed in
        let code_fits : are_of_forms (field_forms parts) own_code ≡ true = sym (fields_alike (field_forms parts) (label_taken w st).fields own_code own_pairs) ∙ f.fields in
        let counted = fields_counted env (label_taken w st) in
        record {
          word = among;
          fields = ap (fields_fit (field_forms parts)) (sym own_code_is) ∙ same_fits (field_forms parts) own_code ∙ code_fits;
          bind = sym (bind_alike parts (top (group_count parts) st.groups) (top (group_count parts) g.groups) bind_pairs) ∙ f.bind;
          kids = kids_wanted_are counted (kid_forms parts) (kids_taken parts st) (own_kids w g) (among_passes (λ w. lists_are_types (kid_forms (row w).parts)) label_words w built_lists among) f.kids
              (subst (λ ws. each_misfits env ws an_argument (phrases (kids_taken parts st)) ≡ []) (forms_wanted env counted parts) (kids_fit env (OfSorts sorts) (label_taken w st) (group_taken parts st) (phrases (kids_taken parts st)) fits)) kid_pairs;
          sort = ap (λ (fs : Fields). is_some (term_sort (sort_of_label (record { word = w; fields = fs })))) (sym own_code_is) ∙ term_word w own_code among code_fits;
        }

    label_made : LabelFits w g → tree_made (own_label w g) (own_group w g) (forest (λ r. r.tree) (own_kids w g)) ≡ Some (label_root w g).tree
    label_made fits = elim (or_cases (is_node_word w) (same_word w BoundVariable) (among_passes is_known label_words w words_are_known among)) [
      | inl is_node ↦ node_made (own_label w g) (own_group w g) (forest (λ r. r.tree) (own_kids w g)) is_node
      | inr variable ↦
          let bound = (word_decides w BoundVariable).0 variable in
          let none = no_bind (row w).parts (own_group w g) (ap (λ v. not (has_for_group (row v).parts)) bound) fits.bind in
          let kids = no_kids (own_kids w g) (sym (ap (λ v. are_wanted (kid_forms (row v).parts) (map (λ r. r.sort) (own_kids w g))) bound) ∙ fits.kids) in
          variable_made (own_label w g) (own_group w g) (forest (λ r. r.tree) (own_kids w g)) bound (variable_row w (own_label w g).fields bound fits.fields) none (ap (forest (λ r. r.tree)) kids)
    ]
      where
        no_kids : (rs : List Root) → are_wanted [] (map (λ r. r.sort) rs) ≡ true → rs ≡ []
        no_kids [] e = refl
        no_kids (r ∷ rs) e = absurd (false≢true e)

        no_bind : (row : List RowPart) (b : Option (List (Kind SolverDefId))) → not (has_for_group row) ≡ true → bind_fits row b ≡ true → b ≡ None
        no_bind row None none fits = refl
        no_bind row (Some ks) none fits = by (has_for_group row) none fits
          where
            by : (has : Bool) → not has ≡ true → has ≡ true → Some ks ≡ None
            by true n h = absurd (false≢true n)
            by false n h = absurd (false≢true h)

    label_meant : LabelFits w g → IsMeant (label_over w st) (label_root w g)
    label_meant fits =
        let same : sort_of_label (label_taken w st) ≡ sort_of_label (own_label w g) = ap (λ s. elim ((row w).sort) [ Always t ↦ t | ByKind ↦ s ]) (sorts_alike (label_taken w st).fields own_code own_pairs ∙ ap sort_of_fields own_code_is) in
        record {
          tree = label_tree env (label_taken w st) (group_taken parts st) (phrases (kids_taken parts st)) (own_label w g).fields (own_group w g) (forest (λ r. r.tree) (own_kids w g)) (label_root w g).tree
              (fields_meant (label_taken w st).fields own_code own_pairs ∙ ap Some own_code_is) (bind_meant (top (group_count parts) st.groups) (top (group_count parts) g.groups) bind_pairs) (trees_meant (kids_taken parts st) (own_kids w g) kid_pairs) (label_made fits);
          sort = ap Some (same ∙ sym (sort_back (sort_of_label (own_label w g)) fits.sort));
          types = λ list. absurd (true≢false (sym among ∙ ap (is_word_among label_words) (list_is env (label_taken w st) (group_taken parts st) (phrases (kids_taken parts st)) list).word));
        }

    label_means : LabelFits w g → (sort : Sort) → Means (step_on st (code.Label w)) (grown h g (seen.Label w sort))
    label_means fits sort = record {
      terms = pairs_push IsMeant _ _ (label_over w st) (label_root w g) (pairs_below IsMeant (kid_count parts) st.terms g.roots is.terms) (label_meant fits);
      own = below (field_count parts) is.own;
      own_are = below_seen table.field_seen (field_count parts) is.own g.fields is.own_are;
      fields = pairs_below IsField (field_count parts) st.fields is.own is.fields;
      kinds = is.kinds;
      groups = pairs_below IsBind (group_count parts) st.groups g.groups is.groups;
    }

  -- ---- a list

  list_means : (w : Word) (n : ℕ) (st : Stack) (g : Grove) → Means st g → is_word_among label_words w ≡ false → (Good env) (list_of w (top n st.terms))
      → Fits h g (seen.List w n) × Means (step_on st (code.List w n)) (grown h g (seen.List w n))
  list_means w n st g is other (inl (sorts, formed, fits)) = absurd (true≢false (sym (formed_is env (record { word = w; fields = [] }) None (phrases (top n st.terms)) formed).word ∙ other))
  list_means w n st g is other (inr (if_empty, formed, fits)) =
      let members = pairs_top IsMeant n st.terms g.roots is.terms in
      let word = (list_is env (record { word = w; fields = [] }) None (phrases (top n st.terms)) formed).word in
      let own = list_root (top n g.roots) in (
        members_are_types (top n st.terms) (top n g.roots) (kids_fit env (Members OfType if_empty) (record { word = w; fields = [] }) None (phrases (top n st.terms)) fits) members,
        record {
          terms = pairs_push IsMeant _ _ (list_of w (top n st.terms)) own (pairs_below IsMeant n st.terms g.roots is.terms) (record {
            tree = ap (λ v. tree_in env (list_of v (top n st.terms))) word
                ∙ label_tree env (record { word = TypeList; fields = [] }) None (phrases (top n st.terms)) [] None (forest (λ r. r.tree) (top n g.roots)) own.tree refl refl (trees_meant (top n st.terms) (top n g.roots) members)
                (node_made (record { word = TypeList; fields = [] }) None (forest (λ r. r.tree) (top n g.roots)) refl);
            sort = ap (λ v. sort_of_phrase env (list_of v (top n st.terms))) word;
            types = λ list. refl;
          });
          own = is.own;
          own_are = is.own_are;
          fields = is.fields;
          kinds = is.kinds;
          groups = is.groups;
        },
      )

  -- ---- steps

  step_means : (st : Stack) (g : Grove) (s : Step) (r : Resolved) → Means st g → IsResolved env ns st s r → Each (Good env) (step_on st s).terms → Fits h g r × Means (step_on st s) (grown h g r)
  step_means st g (code.Name name) (seen.Term q) is found good =
      let t = named_is_term h ns name.now q named found in
      let term : term_named env name.now ≡ Some (tree_of h q) = term_is h ns name.now ∙ ap (option_map (tree_of h)) found in (
        t.live,
        record {
          terms = pairs_push IsMeant st.terms g.roots (Name name.now) _ is.terms (record {
            tree = term;
            sort = ap (λ o. elim o as (λ o. Option Sort) [ Some t ↦ Some (sort_of t) | None ↦ None ]) term ∙ ap Some t.sort;
            types = λ list. absurd (false≢true list);
          });
          own = is.own;
          own_are = is.own_are;
          fields = is.fields;
          kinds = is.kinds;
          groups = is.groups;
        },
      )
  step_means st g (code.Field f) (seen.Field x) is meant good = (
    tt,
    record {
      terms = is.terms;
      own = is.own ++ x ∷ [];
      own_are = map_push table.field_seen is.own x ∙ ap (λ fs. fs ++ table.field_seen x ∷ []) is.own_are;
      fields = pairs_push IsField st.fields is.own (field_seen f) x is.fields (field_is f x meant);
      kinds = is.kinds;
      groups = is.groups;
    },
  )
  step_means st g (code.Variable k) (seen.Variable v) is meant good =
      (tt, record { terms = is.terms; own = is.own; own_are = is.own_are; fields = is.fields; kinds = pairs_push IsKind st.kinds g.kinds (kind_seen k) (variable_seen v) is.kinds meant; groups = is.groups })
  step_means st g (code.Bind n) (seen.Bind m) is same good = subst (λ k. Fits h g (seen.Bind k) × Means (step_on st (code.Bind n)) (grown h g (seen.Bind k))) same (
    tt,
    record {
      terms = is.terms;
      own = is.own;
      own_are = is.own_are;
      fields = is.fields;
      kinds = pairs_below IsKind n st.kinds g.kinds is.kinds;
      groups = pairs_push IsBind st.groups g.groups (top n st.kinds) (top n g.kinds) is.groups (kinds_meant (top n st.kinds) (top n g.kinds) (pairs_top IsKind n st.kinds g.kinds is.kinds));
    },
  )
  step_means st g (code.Label w) (seen.Label v sort) is same good =
      let among = same.2.1 in
      elim (last_good env (below (kid_count (row w).parts) st.terms) (label_over w st) good) [
        | inl (sorts, formed, fits) ↦
            let fits_row = label_fits w st g is among sorts formed fits in
            subst (λ u. Fits h g (seen.Label u sort) × Means (step_on st (code.Label w)) (grown h g (seen.Label u sort))) same.0 (fits_row, label_means w st g is among fits_row sort)
        | inr (if_empty, formed, fits) ↦ absurd (true≢false (sym among ∙ ap (is_word_among label_words) (list_is env (label_taken w st) (group_taken (row w).parts st) (phrases (kids_taken (row w).parts st)) formed).word))
      ]
  step_means st g (code.List w n) (seen.List v m) is same good =
      let own = list_means w n st g is same.2.1 (last_good env (below n st.terms) (list_of w (top n st.terms)) good) in
      subst (λ u. Fits h g (seen.List u m) × Means (step_on st (code.List w n)) (grown h g (seen.List u m))) same.0
      (subst (λ k. Fits h g (seen.List w k) × Means (step_on st (code.List w n)) (grown h g (seen.List w k))) same.1 own)
  step_means st g s r is meant good = absurd meant

  steps_mean : (st : Stack) (g : Grove) (steps : List Step) (rs : List Resolved) → Means st g → AreResolved env ns st steps rs → Each (Good env) (steps_on st steps).terms → AllFit h g rs × Means (steps_on st steps) (grove_on h g rs)
  steps_mean st g [] [] is all good = (tt, is)
  steps_mean st g [] (r ∷ rs) is all good = absurd all
  steps_mean st g (s ∷ steps) [] is all good = absurd all
  steps_mean st g (s ∷ steps) (r ∷ rs) is all good =
      let one = step_means st g s r is all.0 (held_before (Good env) (good_kids env) steps (step_on st s) good) in
      let rest = steps_mean (step_on st s) (grown h g r) steps rs one.1 all.1 good in
      ((one.0, rest.0), rest.1)

  -- ---- operands

  -- The resolved steps of operands without a fault fit, and grow their trees
  pub record OperandsGrow (rs : List Resolved) (ps : List Phrase) : Type 0 where
    pub fits : AllFit h bare rs
    pub roots : Pairs IsMeant ps (grove h rs).roots
    pub groups : (grove h rs).groups ≡ []

  pub operands_grow : (rs : List Resolved) (ps : List Phrase) → StandFor env ns rs ps → list_all is_formed ps ≡ true → operand_misfits env ps ≡ [] → OperandsGrow rs ps
  operands_grow rs ps stand formed fits =
      let empty : Means (only []) bare = record { terms = tt; own = []; own_are = refl; fields = tt; kinds = tt; groups = tt } in
      let all = steps_mean (only []) bare stand.steps rs empty stand.resolved (subst (λ (st : Stack). Each (Good env) st.terms) (sym stand.built_is) (operands_good ps formed fits)) in
      let means : Means (only ps) (grove h rs) = subst (λ st. Means st (grove h rs)) stand.built_is all.1 in
      record { fits = all.0; roots = means.terms; groups = none (grove h rs).groups means.groups }
    where
      operands_good : (ps : List Phrase) → list_all is_formed ps ≡ true → operand_misfits env ps ≡ [] → Each (Good env) ps
      operands_good [] formed fits = tt
      operands_good (p ∷ ps) formed fits =
          let f = and_parts (is_formed p) (list_all is_formed ps) formed in
          let m = both_empty (misfits env operand p) (operand_misfits env ps) fits in
          (inl (operand_sorts, f.0, m.0), operands_good ps f.1 m.1)

      none : (gs : List (List (Kind SolverDefId))) → Pairs IsBind [] gs → gs ≡ []
      none [] ps = refl
      none (g ∷ gs) ps = absurd ps
