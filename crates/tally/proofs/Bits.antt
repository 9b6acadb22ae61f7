-- A `bool` as a number.
use Rattle.std.proofs.Common.{◌≡◌, ◌≤◌, ℕ, Bool, true, false, refl, arith}
use mathlib.Core.Bool.{cond}
use mir.Val.{bool_byte}

pub byte-cond : (b : Bool) → bool_byte b ≡ cond b 1 0
byte-cond true = refl
byte-cond false = refl

pub byte-most : {n : ℕ} (b : Bool) → n ≡ bool_byte b → n ≤ 1
byte-most true e = omega (arith, e)
byte-most false e = omega (arith, e)
