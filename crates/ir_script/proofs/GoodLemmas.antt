-- Phrases that have no fault in their places: what their labels are, and that their kids have none.
use Rattle.std.proofs.Common.{◌≡◌, ◌⊎◌, Bool, true, false, ◌&&◌, List, [], ◌∷◌, ◌++◌, map, Option, is_some, inl, inr, refl, ap, subst, true≢false}
use Rattle.std.specs.List.{list_all}
use Rattle.std.proofs.lemmas.Bool.{and_parts, false≢true, or_cases}
use Rattle.ir_laws.specs.Cause.{Cause}
use Rattle.ir_laws.specs.Environment.{Environment}
use Rattle.ir_laws.specs.Formed.{all_formed, bind_fits, fields_fit, has_no_fields, is_formed, is_list_formed, kid_forms, kids_formed}
use Rattle.ir_laws.specs.Heap.{Each}
use Rattle.ir_laws.specs.Label.{empty_cause, row}
use Rattle.ir_laws.specs.Names.{field_forms, unless}
use Rattle.ir_laws.specs.Phrase.{Phrase, Phrases, Labelled, NoPhrase, ThenPhrase, phrase_list}
use Rattle.ir_laws.specs.Same.{same_sort}
use Rattle.ir_laws.specs.Sorts.{Wanted, Members, OfSorts, an_argument, each_misfits, fields_counted, has_some, is_word_among, kid_wanted, kids_wanted, misfits, places}
use Rattle.ir_laws.specs.Tree.{Text, Kind, Field, Label}
use Rattle.ir_laws.specs.Word.{label_words, same_word}
use Rattle.ir_laws.specs.declared.labels.KidForm.{KidForm}
use Rattle.ir_laws.specs.declared.labels.KidForm.TheVariants.{OneOf, TypeOrConstant, ListOf, ArgumentsOf}
use Rattle.ir_laws.specs.declared.labels.Part.{Part as RowPart}
use Rattle.ir_laws.specs.declared.labels.Part.TheVariants.{Fixed, ForGroup, AField, AKid}
use Rattle.ir_laws.specs.declared.labels.Sort.{Sort}
use Rattle.ir_laws.specs.declared.labels.Sort.TheVariants.{OfType, OfConstant}
use Rattle.ir_laws.specs.declared.words.Word.{Word}
use Rattle.ir_laws.specs.declared.words.Word.TheVariants.{TypeList}
use Rattle.ir_laws.proofs.SameParts.{sort_decides, word_decides}
use Rattle.ir_nodes.specs.Fits.{term_sort}

-- ---- lists of causes that are empty

pub both_empty : (cs ds : List Cause) → cs ++ ds ≡ [] → (cs ≡ []) × (ds ≡ [])
both_empty [] ds h = (refl, h)
both_empty (c ∷ cs) ds h = absurd (true≢false (ap has_some h))

pub unless_empty : (b : Bool) (c : Cause) → unless b c ≡ [] → b ≡ true
unless_empty true c h = refl
unless_empty false c h = absurd (true≢false (ap has_some h))

-- ---- the table's rules, each by a test over all words that the grammar knows

-- what all words of a list pass, a word among them passes
pub among_passes : (test : Word → Bool) (words : List Word) (w : Word) → list_all test words ≡ true → is_word_among words w ≡ true → test w ≡ true
among_passes test [] w all among = absurd (false≢true among)
among_passes test (v ∷ vs) w all among =
    let parts = and_parts (test v) (list_all test vs) all in
    elim (or_cases (same_word v w) (is_word_among vs w) among) [
      | inl same ↦ subst (λ x. test x ≡ true) ((word_decides v w).0 same) parts.0
      | inr further ↦ among_passes test vs w parts.1 further
    ]

-- each list that is a kid is one of types, and no other kid is a list
abbrev pub lists_are_types : List KidForm → Bool
lists_are_types [] = true
lists_are_types (OneOf sort ∷ forms) = is_some (term_sort sort) && lists_are_types forms
lists_are_types (TypeOrConstant ∷ forms) = lists_are_types forms
lists_are_types (ListOf list sort empty ∷ forms) = (same_word list TypeList && same_sort sort OfType) && lists_are_types forms
lists_are_types (ArgumentsOf count ∷ forms) = false

pub built_lists : list_all (λ w. lists_are_types (kid_forms (row w).parts)) label_words ≡ true
built_lists = refl

module _ (env : Environment) where
  -- ---- phrases in their places

  -- A term that has no fault where one of these sorts is wanted, or a list of types that has none
  abbrev pub Good : Phrase → Type 0
  Good p = ((sorts : List Sort) × (is_formed p ≡ true) × (misfits env (OfSorts sorts) p ≡ [])) ⊎ ((if_empty : Option Cause) × (is_list_formed TypeList p ≡ true) × (misfits env (Members OfType if_empty) p ≡ []))

  -- what no cause of a label says
  pub kids_fit : (wanted : Wanted) (l : Label Text) (b : Option (List (Kind Text))) (ps : Phrases) → misfits env wanted (Labelled l b ps) ≡ [] → each_misfits env (places env wanted l).first (places env wanted l).further ps ≡ []
  kids_fit wanted l b ps fits = (both_empty _ _ fits).1

  pub forms_wanted : (fields : List (Field Text)) (parts : List RowPart) → kids_wanted env fields parts ≡ map (kid_wanted env fields) (kid_forms parts)
  forms_wanted fields [] = refl
  forms_wanted fields (Fixed word ∷ parts) = forms_wanted fields parts
  forms_wanted fields (ForGroup ∷ parts) = forms_wanted fields parts
  forms_wanted fields (AField form ∷ parts) = forms_wanted fields parts
  forms_wanted fields (AKid form ∷ parts) = ap (λ ws. kid_wanted env fields form ∷ ws) (forms_wanted fields parts)

  -- what a formed label is, part by part
  pub record FormedIs (l : Label Text) (b : Option (List (Kind Text))) (ps : Phrases) : Type 0 where
    pub word : is_word_among label_words l.word ≡ true
    pub fields : fields_fit (field_forms (row l.word).parts) l.fields ≡ true
    pub bind : bind_fits (row l.word).parts b ≡ true
    pub kids : kids_formed (kid_forms (row l.word).parts) ps ≡ true

  pub formed_is : (l : Label Text) (b : Option (List (Kind Text))) (ps : Phrases) → is_formed (Labelled l b ps) ≡ true → FormedIs l b ps
  formed_is l b ps formed =
      let kids = and_parts _ (kids_formed (kid_forms (row l.word).parts) ps) formed in
      let bind = and_parts _ (bind_fits (row l.word).parts b) kids.0 in
      let word = and_parts (is_word_among label_words l.word) _ bind.0 in
      record { word = word.0; fields = word.1; bind = bind.1; kids = kids.1 }

  pub record ListIs (l : Label Text) (b : Option (List (Kind Text))) (ps : Phrases) : Type 0 where
    pub word : l.word ≡ TypeList
    pub members : all_formed ps ≡ true

  pub list_is : (l : Label Text) (b : Option (List (Kind Text))) (ps : Phrases) → is_list_formed TypeList (Labelled l b ps) ≡ true → ListIs l b ps
  list_is l b ps formed =
      let members = and_parts _ (all_formed ps) formed in
      let bind = and_parts _ (bind_fits [] b) members.0 in
      let word = and_parts (same_word l.word TypeList) (has_no_fields l.fields) bind.0 in
      record { word = (word_decides l.word TypeList).0 word.0; members = members.1 }

  kids_good : (fields : List (Field Text)) (forms : List KidForm) (ps : Phrases) → lists_are_types forms ≡ true → kids_formed forms ps ≡ true → each_misfits env (map (kid_wanted env fields) forms) an_argument ps ≡ [] → Each Good (phrase_list ps)
  kids_good fields [] NoPhrase types formed fits = tt
  kids_good fields (OneOf sort ∷ forms) (ThenPhrase p ps) types formed fits =
      let f = and_parts _ _ formed in
      let m = both_empty _ _ fits in
      (inl (sort ∷ [], f.0, m.0), kids_good fields forms ps (and_parts (is_some (term_sort sort)) _ types).1 f.1 m.1)
  kids_good fields (TypeOrConstant ∷ forms) (ThenPhrase p ps) types formed fits =
      let f = and_parts _ _ formed in
      let m = both_empty _ _ fits in
      (inl (OfType ∷ OfConstant ∷ [], f.0, m.0), kids_good fields forms ps types f.1 m.1)
  kids_good fields (ListOf list sort empty ∷ forms) (ThenPhrase p ps) types formed fits =
      let f = and_parts _ _ formed in
      let m = both_empty _ _ fits in
      let t = and_parts (same_word list TypeList && same_sort sort OfType) _ types in
      let s = and_parts (same_word list TypeList) (same_sort sort OfType) t.0 in
      let word = (word_decides list TypeList).0 s.0 in
      let of = (sort_decides sort OfType).0 s.1 in
      (inr (empty_cause empty, subst (λ w. is_list_formed w p ≡ true) word f.0, subst (λ o. misfits env (Members o (empty_cause empty)) p ≡ []) of m.0), kids_good fields forms ps t.1 f.1 m.1)
  kids_good fields (ArgumentsOf count ∷ forms) (ThenPhrase p ps) types formed fits = absurd (false≢true types)
  kids_good fields forms ps types formed fits = absurd (false≢true formed)

  members_good : (ps : Phrases) → all_formed ps ≡ true → each_misfits env [] (OfSorts (OfType ∷ [])) ps ≡ [] → Each Good (phrase_list ps)
  members_good NoPhrase formed fits = tt
  members_good (ThenPhrase p ps) formed fits =
      let f = and_parts (is_formed p) (all_formed ps) formed in
      let m = both_empty _ _ fits in
      (inl (OfType ∷ [], f.0, m.0), members_good ps f.1 m.1)

  pub good_kids : (l : Label Text) (b : Option (List (Kind Text))) (ps : Phrases) → Good (Labelled l b ps) → Each Good (phrase_list ps)
  good_kids l b ps (inl (sorts, formed, fits)) =
      let is = formed_is l b ps formed in
      let fields = fields_counted env l in
      kids_good fields (kid_forms (row l.word).parts) ps (among_passes (λ w. lists_are_types (kid_forms (row w).parts)) label_words l.word built_lists is.word) is.kids
      (subst (λ ws. each_misfits env ws an_argument ps ≡ []) (forms_wanted fields (row l.word).parts) (kids_fit (OfSorts sorts) l b ps fits))
  good_kids l b ps (inr (if_empty, formed, fits)) = members_good ps (list_is l b ps formed).members (kids_fit (Members OfType if_empty) l b ps fits)

  -- the last of the phrases
  pub last_good : (ps : List Phrase) (p : Phrase) → Each Good (ps ++ p ∷ []) → Good p
  last_good [] p good = good.0
  last_good (q ∷ ps) p good = last_good ps p good.1
