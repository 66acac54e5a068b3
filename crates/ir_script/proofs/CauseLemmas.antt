-- Causes that stay among more of them.
use Rattle.std.proofs.Common.{◌≡◌, Bool, true, false, ◌||◌, List, [], ◌∷◌, ◌++◌, Option, Some, None, is_some, refl}
use Rattle.ir_laws.specs.Cause as spec
use Rattle.ir_laws.specs.Cause.{same_cause, is_cause_among}
use Rattle.ir_script.specs.declared.causes.Cause.{Cause}
use Rattle.ir_script.specs.Causes.{cause_seen, IsAmong, Says, Finds}

or_more : (b x y : Bool) → (x ≡ true → y ≡ true) → (b || x) ≡ true → (b || y) ≡ true
or_more true x y f h = refl
or_more false x y f h = f h

pub among_left : (cs ds : List spec.Cause) (c : spec.Cause) → is_cause_among cs c ≡ true → is_cause_among (cs ++ ds) c ≡ true
among_left [] ds c h = cc
among_left (d ∷ cs) ds c h = or_more (same_cause d c) (is_cause_among cs c) (is_cause_among (cs ++ ds) c) (among_left cs ds c) h

or_last : (b x : Bool) → x ≡ true → (b || x) ≡ true
or_last true x h = refl
or_last false x h = h

pub among_right : (cs ds : List spec.Cause) (c : spec.Cause) → is_cause_among ds c ≡ true → is_cause_among (cs ++ ds) c ≡ true
among_right [] ds c h = h
among_right (d ∷ cs) ds c h = or_last (same_cause d c) (is_cause_among (cs ++ ds) c) (among_right cs ds c h)

is_among_left : (cs ds : List spec.Cause) (o : Option spec.Cause) → IsAmong cs o → IsAmong (cs ++ ds) o
is_among_left cs ds (Some c) h = among_left cs ds c h
is_among_left cs ds None h = absurd h

pub says_left : (cs ds : List spec.Cause) (c : Cause) → Says c cs → Says c (cs ++ ds)
says_left cs ds c h = is_among_left cs ds (cause_seen c) h

pub says_right : (cs ds : List spec.Cause) (c : Cause) → Says c ds → Says c (cs ++ ds)
says_right cs ds c h = by (cause_seen c) h
  where
    by : (o : Option spec.Cause) → IsAmong ds o → IsAmong (cs ++ ds) o
    by (Some c) h = among_right cs ds c h
    by None h = absurd h

-- what is found first is found of the whole
pub found_left : (cs ds : List spec.Cause) (found : Option Cause) → is_some found ≡ true → Finds found cs → Finds found (cs ++ ds)
found_left cs ds (Some c) some h = says_left cs ds c h
found_left cs ds None some h = absurd (cc)

pub found_none : (cs : List spec.Cause) (found : Option Cause) → is_some found ≡ false → Finds found cs → cs ≡ []
found_none cs (Some c) none h = absurd (cc)
found_none cs None none h = h
