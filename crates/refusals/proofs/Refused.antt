-- A refusal has a number, and 0 is none. No two have the same, so what is told says which result it was.
--   number-some, told-err    0 is told where nothing is refused, and only there
--   number-only, told-only, verdict-only    two that tell the same number are the same
use Rattle.std.proofs.Common.{◌≡◌, ◌≢◌, ℕ, Bool, true, false, cond, eqb, Result, Ok, Err, refl, arith, ap, sym, ◌∙◌}
use Rattle.refusals.specs.declared.Refusal.{Refusal}
use Rattle.refusals.specs.declared.Refusal.TheVariants as reasons
use Rattle.refusals.specs.Numbers.{number_of, number_told, told_by, verdict_told}

pub number-some : (r : Refusal) → number_of r ≢ 0
number-some reasons.FewWords e = omega arith
number-some reasons.Size e = omega arith
number-some reasons.Length e = omega arith
number-some reasons.Coefficient e = omega arith
number-some reasons.Kind e = omega arith
number-some reasons.Limit e = omega arith
number-some reasons.ShortRoom e = omega arith
number-some reasons.BlankRow e = omega arith
number-some reasons.FewTimeWords e = omega arith
number-some reasons.TimeSize e = omega arith
number-some reasons.TimeLength e = omega arith
number-some reasons.Vertex e = omega arith
number-some reasons.StrictWord e = omega arith
number-some reasons.RowLength e = omega arith
number-some reasons.ShortTimeRoom e = omega arith
number-some reasons.ByteCount e = omega arith
number-some reasons.Edition e = omega arith
number-some reasons.BodyCount e = omega arith
number-some reasons.ShortHead e = omega arith
number-some reasons.BodyPlace e = omega arith
number-some reasons.BodyTotal e = omega arith
number-some reasons.ShortFileRoom e = omega arith
number-some reasons.NoVariable e = omega arith
number-some reasons.NoLimit e = omega arith
number-some reasons.OnAlready e = omega arith
number-some reasons.OffAlready e = omega arith
number-some reasons.TraceLength e = omega arith
number-some reasons.Token e = omega arith

pub told-err : {A : Type 0} {r : Refusal} (x : Result A Refusal) → x ≡ Err r → told_by x ≢ 0
told-err {r = r} x e z = number-some r (ap told_by (sym e) ∙ z)

-- the refusal of a number, where there is one
abbrev refusal-of : ℕ → Refusal
refusal-of n =
    cond (eqb n 1) reasons.FewWords (
    cond (eqb n 2) reasons.Size (
    cond (eqb n 3) reasons.Length (
    cond (eqb n 4) reasons.Coefficient (
    cond (eqb n 5) reasons.Kind (
    cond (eqb n 6) reasons.Limit (
    cond (eqb n 7) reasons.ShortRoom (
    cond (eqb n 10) reasons.BlankRow (
    cond (eqb n 11) reasons.FewTimeWords (
    cond (eqb n 12) reasons.TimeSize (
    cond (eqb n 13) reasons.TimeLength (
    cond (eqb n 14) reasons.Vertex (
    cond (eqb n 15) reasons.StrictWord (
    cond (eqb n 16) reasons.RowLength (
    cond (eqb n 17) reasons.ShortTimeRoom (
    cond (eqb n 30) reasons.ByteCount (
    cond (eqb n 31) reasons.Edition (
    cond (eqb n 32) reasons.BodyCount (
    cond (eqb n 33) reasons.ShortHead (
    cond (eqb n 34) reasons.BodyPlace (
    cond (eqb n 35) reasons.BodyTotal (
    cond (eqb n 36) reasons.ShortFileRoom (
    cond (eqb n 41) reasons.NoVariable (
    cond (eqb n 42) reasons.NoLimit (
    cond (eqb n 43) reasons.OnAlready (
    cond (eqb n 44) reasons.OffAlready (
    cond (eqb n 51) reasons.TraceLength (
    reasons.Token)))))))))))))))))))))))))))

refusal-read : (r : Refusal) → refusal-of (number_of r) ≡ r
refusal-read reasons.FewWords = refl
refusal-read reasons.Size = refl
refusal-read reasons.Length = refl
refusal-read reasons.Coefficient = refl
refusal-read reasons.Kind = refl
refusal-read reasons.Limit = refl
refusal-read reasons.ShortRoom = refl
refusal-read reasons.BlankRow = refl
refusal-read reasons.FewTimeWords = refl
refusal-read reasons.TimeSize = refl
refusal-read reasons.TimeLength = refl
refusal-read reasons.Vertex = refl
refusal-read reasons.StrictWord = refl
refusal-read reasons.RowLength = refl
refusal-read reasons.ShortTimeRoom = refl
refusal-read reasons.ByteCount = refl
refusal-read reasons.Edition = refl
refusal-read reasons.BodyCount = refl
refusal-read reasons.ShortHead = refl
refusal-read reasons.BodyPlace = refl
refusal-read reasons.BodyTotal = refl
refusal-read reasons.ShortFileRoom = refl
refusal-read reasons.NoVariable = refl
refusal-read reasons.NoLimit = refl
refusal-read reasons.OnAlready = refl
refusal-read reasons.OffAlready = refl
refusal-read reasons.TraceLength = refl
refusal-read reasons.Token = refl

pub number-only : (r s : Refusal) → number_of r ≡ number_of s → r ≡ s
number-only r s e = sym (refusal-read r) ∙ ap refusal-of e ∙ refusal-read s

pub told-only : (a b : Result Unit Refusal) → number_told a ≡ number_told b → a ≡ b
told-only (Ok _) (Ok _) e = refl
told-only (Ok _) (Err s) e = absurd (number-some s (sym e))
told-only (Err r) (Ok _) e = absurd (number-some r e)
told-only (Err r) (Err s) e = ap Err (number-only r s e)

-- the verdict of a number
abbrev verdict-of : ℕ → Result Bool Refusal
verdict-of n = cond (eqb n 8) (Ok true) (cond (eqb n 9) (Ok false) (Err (refusal-of n)))

refused-read : (r : Refusal) → verdict-of (number_of r) ≡ Err r
refused-read reasons.FewWords = refl
refused-read reasons.Size = refl
refused-read reasons.Length = refl
refused-read reasons.Coefficient = refl
refused-read reasons.Kind = refl
refused-read reasons.Limit = refl
refused-read reasons.ShortRoom = refl
refused-read reasons.BlankRow = refl
refused-read reasons.FewTimeWords = refl
refused-read reasons.TimeSize = refl
refused-read reasons.TimeLength = refl
refused-read reasons.Vertex = refl
refused-read reasons.StrictWord = refl
refused-read reasons.RowLength = refl
refused-read reasons.ShortTimeRoom = refl
refused-read reasons.ByteCount = refl
refused-read reasons.Edition = refl
refused-read reasons.BodyCount = refl
refused-read reasons.ShortHead = refl
refused-read reasons.BodyPlace = refl
refused-read reasons.BodyTotal = refl
refused-read reasons.ShortFileRoom = refl
refused-read reasons.NoVariable = refl
refused-read reasons.NoLimit = refl
refused-read reasons.OnAlready = refl
refused-read reasons.OffAlready = refl
refused-read reasons.TraceLength = refl
refused-read reasons.Token = refl

verdict-read : (v : Result Bool Refusal) → verdict-of (verdict_told v) ≡ v
verdict-read (Ok true) = refl
verdict-read (Ok false) = refl
verdict-read (Err r) = refused-read r

pub verdict-only : (a b : Result Bool Refusal) → verdict_told a ≡ verdict_told b → a ≡ b
verdict-only a b e = sym (verdict-read a) ∙ ap verdict-of e ∙ verdict-read b
