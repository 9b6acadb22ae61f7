-- Pairs as numbers.
--   key-plus             a sum of pairs
--   near-plus            one row more
--   near_within          how large the number of a pair is
--   size-near            a row's own length
--   key-less, key-low    the order of the numbers is that of the pairs
--   turned_up            minus what is not above 0
--   plain-key, small-key the parts of a time
use mathlib.Core.Path.{◌≡◌, refl, ◌∙◌, ap}
use mathlib.Core.Bool.{Bool, true, false}
use mathlib.Core.List.{List, [], ◌∷◌}
use Prim.Native.Nat.{ℕ, ◌+◌, ◌*◌, ◌≤◌, ◌<◌, ◌/◌, ◌%◌}
use native.Mathlib.Omega.{arith}
use lib.IntN.{ℤ, pos, nat_abs, neg_ℤ, ◌+ℤ◌, ◌-ℤ◌, ◌*ℤ◌}
use lib.Signed.{lt_z, ◌≤ℤ◌, ◌<ℤ◌}
use Rattle.whole.specs.Numbers.{Within}
use Rattle.whole.specs.Values.{pairs, Le}
use Rattle.whole.proofs.Values.Mixed.{mixed-le, mixed-lt}
use Rattle.whole.proofs.Ring.Nonneg.{of_le, slk, ◌⊞◌}
use Rattle.whole.proofs.Numbers.Order.{false→le, lt→true, le→false}
use Rattle.whole.proofs.Ring.Reify.{reify}
use Rattle.whole.proofs.Numbers.Sizes.{abs_neg, within-+, within-*, within-le, within-neg, within-hi, within-lo}
use Rattle.whole.proofs.Ring.Tools.{le-at, lt_at, ring-at}
use Rattle.rules.specs.Sizes.{largest_length}
use Rattle.rules.specs.Problem.{m_of}
use Rattle.rules.specs.Times.Words.{AcceptedTimes, time_edges}
use Rattle.rules.proofs.Times.Refused.{strict-within}
use Rattle.lengths.specs.Lengths.{unit, key_of, Near}

pub key-plus : (p q : ℤ × ℤ) → key_of (pairs.plus p q) ≡ key_of p +ℤ key_of q
key-plus p q = one p.0 p.1 q.0 q.1
  where
    one : (a b c d : ℤ) →
        pos 65536 *ℤ (a +ℤ c) +ℤ pos 1 *ℤ (b +ℤ d) ≡ (pos 65536 *ℤ a +ℤ pos 1 *ℤ b) +ℤ (pos 65536 *ℤ c +ℤ pos 1 *ℤ d)
    one a b c d = ring-at (a ∷ b ∷ c ∷ d ∷ []) (search reify depth 30) refl

pub near_le : {p : ℤ × ℤ} {i j : ℕ} → Near p i → i ≤ j → Near p j
near_le n h = record { plain = within-le n.plain (omega arith); small = within-le n.small h }

pub near-plus : {p q : ℤ × ℤ} {i j : ℕ} → Near p i → Near q j → Near (pairs.plus p q) (i + j)
near-plus n m = record {
  plain = within-le (within-+ n.plain m.plain) (omega arith);
  small = within-+ n.small m.small;
}

pub near_within : {p : ℤ × ℤ} {i : ℕ} → Near p i → Within (key_of p) ((unit * largest_length + 1) * i)
near_within {p} {i} n =
    within-le
    (within-+ (within-* {a = pos 65536} {m = 65536} unit-within n.plain)
    (within-* {a = pos 1} {m = 1} one-within n.small))
    (omega arith)
  where
    unit-within : Within (pos 65536) 65536
    unit-within = record { within = omega arith }

    one-within : Within (pos 1) 1
    one-within = record { within = omega arith }

pub size-near : {ws : List ℤ} {room : ℕ} → AcceptedTimes ws room → (i : ℕ) → i < m_of ws → Near
    ((time_edges ws).size i) 1
size-near A i h = record {
  plain = within-le (A.lengths i h) (omega arith);
  small = within-neg (strict-within A i h);
}

-- small parts below half a unit
pub key-less : (p q : ℤ × ℤ) → Within p.1 32767 → Within q.1 32767 → lt_z (key_of p) (key_of q) ≡ pairs.less p q
key-less p q h k = go (pairs.less p q) refl
  where
    one-pos : pos 0 <ℤ pos 1
    one-pos = record { lt = tt }

    unit-pos : pos 0 ≤ℤ pos 65536
    unit-pos = record { le = tt }

    apart : (a b : ℤ) → a ≤ℤ pos 32767 → neg_ℤ (pos 32767) ≤ℤ b → (pos 1 *ℤ (a -ℤ b)) <ℤ pos 65536
    apart a b x y = lt_at (a ∷ b ∷ []) (of_le x ⊞ of_le y) (search reify depth 30) slk

    near : (a b : ℤ) → a ≤ℤ pos 32767 → neg_ℤ (pos 32767) ≤ℤ b → (pos 1 *ℤ (a -ℤ b)) ≤ℤ pos 65536
    near a b x y = le-at (a ∷ b ∷ []) (of_le x ⊞ of_le y) (search reify depth 30) slk

    go : (b : Bool) → pairs.less p q ≡ b → lt_z (key_of p) (key_of q) ≡ b
    go true e =
        lt→true {a = key_of p} {b = key_of q}
        (mixed-lt (pos 1) (pos unit) one-pos p q unit-pos (apart p.1 q.1 (within-hi h) (within-lo k)) e)
    go false e =
        le→false {a = key_of q} {b = key_of p}
        (mixed-le (pos 1) (pos unit) one-pos q p unit-pos (near q.1 p.1 (within-hi k) (within-lo h)) e)

-- not above 0
pub key-low : (p : ℤ × ℤ) → Within p.1 32767 → Le pairs p pairs.nil → key_of p ≤ℤ pos 0
key-low p h l = false→le {a = key_of p} {b = pos 0} (key-less pairs.nil p (record { within = omega arith }) h ∙ l)

-- ---- times

pub turned_up : (z : ℤ) → z ≤ℤ pos 0 → pos 0 ≤ℤ neg_ℤ z
turned_up z h = le-at (z ∷ []) (of_le h) (search reify depth 30) slk

-- minus p minutes and q small amounts
turned : (p q : ℤ) → key_of (neg_ℤ p, neg_ℤ q) ≡ neg_ℤ (pos 65536 *ℤ p +ℤ q)
turned p q = ring-at (p ∷ q ∷ []) (search reify depth 30) refl

key-size : (p q : ℕ) → nat_abs (key_of (neg_ℤ (pos p), neg_ℤ (pos q))) ≡ 65536 * p + q
key-size p q = ap nat_abs (turned (pos p) (pos q)) ∙ abs_neg (pos 65536 *ℤ pos p +ℤ pos q) ∙ refl

pub plain-key : (p q : ℕ) → q < unit → nat_abs (key_of (neg_ℤ (pos p), neg_ℤ (pos q))) / unit ≡ p
plain-key p q h = ap (λ z. z / unit) (key-size p q) ∙ omega arith

pub small-key : (p q : ℕ) → q < unit → nat_abs (key_of (neg_ℤ (pos p), neg_ℤ (pos q))) % unit ≡ q
small-key p q h = ap (λ z. z % unit) (key-size p q) ∙ omega arith
