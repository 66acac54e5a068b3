-- The names of a scope: how they are looked up, and that they keep their terms while a heap grows.
use Rattle.std.proofs.Common.{◌≡◌, ◌∙◌, ℕ, Bool, true, false, cond, List, [], ◌∷◌, ◌++◌, map, find, bytes_eq, Option, Some, None, is_some, Bor, refl, sym, ap, subst}
use Rattle.std.proofs.lemmas.Bool.Decides.{same_from_decides}
use Rattle.std.proofs.lemmas.List.{map_push}
use Rattle.std.proofs.lemmas.Slice.Eq.{bytes_eq-Decides}
use Rattle.std.specs.Map.{lookup}
use Rattle.std.specs.Option.{option_map}
use Rattle.ir_core.specs.declared.handles.Part.{Part}
use Rattle.ir_laws.specs.Counts.{sort_of}
use Rattle.ir_laws.specs.Cause.{Duplicate}
use Rattle.ir_laws.specs.Environment.{is_here, is_known, term_named, with_term}
use Rattle.ir_laws.specs.Heap.{Heap, Grows, tree_of}
use Rattle.ir_laws.specs.Names.{if_so}
use Rattle.ir_laws.specs.Tree.{Text}
use Rattle.ir_script.specs.Scope.{Named, part_named, term_in, env_of, IsTerm, AreTerms}

-- ---- a look-up by bytes

turned : (a b : Text) → bytes_eq a b ≡ bytes_eq b a
turned a b =
    let d = bytes_eq-Decides a b in
    let e = bytes_eq-Decides b a in
    same_from_decides (bytes_eq a b) (bytes_eq b a) d ((λ h. sym (e.0 h)), (λ h. e.1 (sym h)))

-- a look-up in the entries is one in the names
pub looked_up : (name : Text) (es : List (Bor Text × Part)) → lookup (λ k. bytes_eq name k.now) es ≡ part_named (map (λ e. (e.0.now, e.1)) es) name
looked_up name [] = refl
looked_up name (e ∷ es) =
    ap (λ b. cond b (Some e.1) (lookup (λ k. bytes_eq name k.now) es)) (turned name e.0.now)
    ∙ by (bytes_eq e.0.now name) (looked_up name es)
  where
    by : (b : Bool) → lookup (λ k. bytes_eq name k.now) es ≡ part_named (map (λ e. (e.0.now, e.1)) es) name
        → cond b (Some e.1) (lookup (λ k. bytes_eq name k.now) es) ≡ option_map (λ (n : Named). n.1) (cond b (Some (e.0.now, e.1)) (find (λ (n : Named). bytes_eq n.0 name) (map (λ e. (e.0.now, e.1)) es)))
    by true h = refl
    by false h = h

-- ---- what a name means

-- the term of a name is the tree of its part
pub term_is : (h : Heap Part) (ns : List Named) (name : Text) → term_named (env_of h ns) name ≡ option_map (tree_of h) (part_named ns name)
term_is h [] name = refl
term_is h (n ∷ ns) name = by (bytes_eq n.0 name) (term_is h ns name)
  where
    by : (b : Bool) → term_named (env_of h ns) name ≡ option_map (tree_of h) (part_named ns name)
        → option_map (λ t. t.term) (cond b (Some (term_in h n)) (find (λ t. bytes_eq t.name name) (map (term_in h) ns))) ≡ option_map (tree_of h) (option_map (λ (n : Named). n.1) (cond b (Some n) (find (λ (n : Named). bytes_eq n.0 name) ns)))
    by true e = refl
    by false e = e

-- a name is known where a part has it
pub known_is : (h : Heap Part) (ns : List Named) (name : Text) → is_known (env_of h ns) name ≡ is_some (part_named ns name)
known_is h ns name = ap is_here (term_is h ns name) ∙ by (part_named ns name)
  where
    by : (o : Option Part) → is_here (option_map (tree_of h) o) ≡ is_some o
    by None = refl
    by (Some q) = refl

-- a name that is not declared again has no part
pub new_name : (h : Heap Part) (ns : List Named) (name : Text) → if_so (is_known (env_of h ns) name) Duplicate ≡ [] → part_named ns name ≡ None
new_name h ns name new = by (part_named ns name) (ap (λ b. if_so b Duplicate) (sym (known_is h ns name)) ∙ new)
  where
    by : (o : Option Part) → if_so (is_some o) Duplicate ≡ [] → o ≡ None
    by None e = refl
    by (Some q) e = absurd (cc)

-- a name's part is one of a term
pub named_is_term : (h : Heap Part) (ns : List Named) (name : Text) (q : Part) → AreTerms h ns → part_named ns name ≡ Some q → IsTerm h q
named_is_term h [] name q terms e = absurd cc
named_is_term h (n ∷ ns) name q terms e = by (bytes_eq n.0 name) e (named_is_term h ns name q terms.1)
  where
    by : (b : Bool) → option_map (λ (n : Named). n.1) (cond b (Some n) (find (λ (n : Named). bytes_eq n.0 name) ns)) ≡ Some q → (part_named ns name ≡ Some q → IsTerm h q) → IsTerm h q
    by true f rest = let same : n.1 ≡ q = cc in subst (IsTerm h) same terms.0
    by false f rest = rest f

-- ---- a heap that grows

module _ (h k : Heap Part) (grows : Grows h k) where
  pub later : (q : Part) → IsTerm h q → IsTerm k q
  later q t =
      let same = grows.tree q t.live in
      record {
        live = grows.live q t.live;
        sort = ap sort_of same ∙ t.sort;
        kind = t.kind;
      }

  pub terms_later : (ns : List Named) → AreTerms h ns → AreTerms k ns
  terms_later [] terms = terms
  terms_later (n ∷ ns) terms = (later n.1 terms.0, terms_later ns terms.1)

  pub env_later : (ns : List Named) → AreTerms h ns → env_of k ns ≡ env_of h ns
  env_later ns terms = ap (λ ts. record { items = []; terms = ts }) (same ns terms)
    where
      same : (ns : List Named) → AreTerms h ns → map (term_in k) ns ≡ map (term_in h) ns
      same [] terms = refl
      same (n ∷ ns) terms = (λ i. (record { name = n.0; term = grows.tree n.1 terms.0.live i }) ∷ same ns terms.1 i)

-- one more name
pub terms_push : (h : Heap Part) (ns : List Named) (n : Named) → AreTerms h ns → IsTerm h n.1 → AreTerms h (ns ++ n ∷ [])
terms_push h [] n terms one = (one, tt)
terms_push h (m ∷ ns) n terms one = (terms.0, terms_push h ns n terms.1 one)

pub env_push : (h : Heap Part) (ns : List Named) (name : Text) (q : Part) → env_of h (ns ++ (name, q) ∷ []) ≡ with_term (env_of h ns) name (tree_of h q)
env_push h ns name q = ap (λ ts. record { items = []; terms = ts }) (map_push (term_in h) ns (name, q))
