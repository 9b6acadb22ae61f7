-- A token as a number, by its value and its digits.
--   short-long, short-read               too long; and by its value, whose digits it is or not
--   long-refused                         too long, no number can stand there
use mathlib.Core.Bool.{Bool, true, false, not, ◌&&◌}
use mathlib.Core.List.{List}
use mathlib.Core.Option.{Option, none, some}
use mathlib.Core.Path.{◌≡◌, refl, sym, ◌∙◌, ap}
use Prim.Native.Nat.{ℕ, zero, suc, ◌≤◌, ◌<◌}
use native.Mathlib.Decide.{dec_lt}
use native.Mathlib.Omega.{arith}
use borrow.Author.Tests.{le-ltb, lt-ltb}
use lib.Dec.{eqb}
use lib.IntN.{nat_abs, negsuc, pos, ℤ}
use lib.ListN.{length}
use Rattle.whole.specs.Numbers.{eq_z}
use Rattle.whole.proofs.Tells.{tells-false, tells-within}
use Rattle.rules.specs.Sizes.{largest_coefficient, largest_limit}
use Rattle.rules.specs.Program.Text.{digits, reading}
use Rattle.rules.proofs.Program.Numbers.{digits-short}
use Rattle.rules.specs.Exchange.Reader.{Bytes, Spot, admitted, all_zero, coefficient, fits, limit, numeral, same_bytes}
use Rattle.rules.specs.Exchange.Reader.{with_sign}
use Rattle.rules.proofs.Exchange.Reader.Openings.{numeral-some}
use Rattle.std.specs.Prelude.{Some, None}
use Rattle.std.specs.Bool.{then_some}
use Rattle.tokens.specs.Numeral.{numeral_of, short_numeral}

module _ (w : List ℕ) where
  pub short-long : 5 < length w → short_numeral w ≡ None
  unfolding short_numeral
  short-long h = rw (lt-ltb 5 (length w) h) refl

  module _ (h : length w ≤ 5) (value : ℕ) (e : value ≡ reading 0 w) where
    short-some : same_bytes (digits value) w ≡ true → short_numeral w ≡ Some value
    unfolding short_numeral numeral numeral_of
    short-some q =
        let same : same_bytes (digits (reading 0 w)) w ≡ true = sym (ap (λ k. same_bytes (digits k) w) e) ∙ q in
        rw (le-ltb 5 (length w) h, same) (ap Some (sym e))

    short_none : same_bytes (digits value) w ≡ false → short_numeral w ≡ None
    unfolding short_numeral numeral numeral_of
    short_none q =
        let other : same_bytes (digits (reading 0 w)) w ≡ false = sym (ap (λ k. same_bytes (digits k) w) e) ∙ q in
        rw (le-ltb 5 (length w) h, other) refl

    pub short-read : {b : Bool} → b ≡ same_bytes (digits value) w → then_some b value ≡ short_numeral w
    short-read {b = true} q = sym (short-some (sym q))
    short-read {b = false} q = sym (short_none (sym q))

-- ---- a token of more than five bytes is no number that fits

far-out : (c : Spot) (z : ℤ) → 100000 ≤ nat_abs z → fits c z ≡ false
unfolding fits
far-out (coefficient P row) z h =
    ap (λ b. b && not (eqb (suc (length row)) P.n && (all_zero row && eq_z z (pos 0))))
    (tells-false (tells-within largest_coefficient z) (λ w. omega (arith, w.within)))
far-out (limit P k strict) z h = tells-false (tells-within largest_limit z) (λ w. omega (arith, w.within))

admitted-not : (c : Spot) (ts : List Bytes) (z : ℤ) → fits c z ≡ false → admitted c ts (some z) ≡ none
unfolding admitted
admitted-not c ts z e = rw e refl

pub long-refused : (c : Spot) (ts : List Bytes) (below : Bool) (w : List ℕ) → 5 < length w →
    admitted c ts (with_sign below (numeral w)) ≡ none
unfolding admitted with_sign
long-refused c ts below w h = go below (numeral w) refl
  where
    large : (k : ℕ) → numeral w ≡ some k → 100000 ≤ k
    large k e = by (dec_lt k 100000)
      where
        by : Dec (k < 100000) → 100000 ≤ k
        by (no n) = omega arith
        by (yes l) = let o : ⊥ = omega (arith, digits-short 4 k l, ap length (numeral-some w k e)) in absurd o

    go : (b : Bool) (o : Option ℕ) → numeral w ≡ o → admitted c ts (with_sign b o) ≡ none
    go true none e = refl
    go false none e = refl
    go false (some k) e = admitted-not c ts (pos k) (far-out c (pos k) (large k e))
    go true (some zero) e = refl
    go true (some (suc k)) e = admitted-not c ts (negsuc k) (far-out c (negsuc k) (large (suc k) e))
