-- What a source gave in several reads.
use Rattle.std.proofs.Common.{◌≡◌, ◌∙◌, ℕ, ◌+◌, ◌≤◌, List, ◌++◌, length, Option, None, Some, ap, arith, length-append, append_assoc, refl, sym}
use Rattle.std.specs.Io.KnownBytes.{prepend_known}
use Rattle.ir_cli.specs.Reading.{GivesAtMost}

-- bytes in front of bytes
prepend-prepend : (xs ys : List ℕ) (o : Option (List ℕ)) → prepend_known xs (prepend_known ys o) ≡ prepend_known (xs ++ ys) o
prepend-prepend xs ys None = refl
prepend-prepend xs ys (Some zs) = ap Some (sym (append_assoc xs ys zs))

-- a source that gave these bytes, and then at most m more
pub gives_more : (m n : ℕ) (items : List ℕ) (a b c : Option (List ℕ)) → length items + m ≤ n → a ≡ prepend_known items b → GivesAtMost m b c → GivesAtMost n a c
gives_more m n items a b c fits first more =
    let count = more.1 in
    (items ++ more.0, omega (arith, length-append items more.0), first ∙ ap (prepend_known items) more.2 ∙ prepend-prepend items more.0 c)
