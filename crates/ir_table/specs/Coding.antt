-- Kids as a list of inline nodes and a list of names, so that a proof tells them apart.
use Rattle.std.specs.Prelude.{◌≡◌, List, [], ◌∷◌, refl}
use Rattle.std.proofs.Common.{ap}
use Rattle.std.specs.Coded.{Coded, code_by, coded×, coded_list}
use Rattle.ir_core.specs.declared.handles.Part.{Part}
use Rattle.ir_laws.specs.Heap.{Inline, Kids, OfNames, Inlined}

abbrev pub apart : Kids Part → List (Inline Part) × List Part
apart (OfNames ps) = ([], ps)
apart (Inlined i ks) = let r = apart ks in (i ∷ r.0, r.1)

abbrev pub together : List (Inline Part) → List Part → Kids Part
together [] ps = OfNames ps
together (i ∷ is) ps = Inlined i (together is ps)

pub again : (ks : Kids Part) → together (apart ks).0 (apart ks).1 ≡ ks
again (OfNames ps) = refl
again (Inlined i ks) = ap (Inlined i) (again ks)

abbrev pub kids_code : Coded (Inline Part) → Coded Part → Coded (Kids Part)
kids_code inline name = code_by (List (Inline Part) × List Part) (coded× (coded_list inline) (coded_list name)) apart (λ p. together p.0 p.1) again
