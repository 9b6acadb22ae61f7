-- What the number 8 of the checker of evidence about time rows means.
--   times-mean       times: with small parts within K, every positive fraction up to 1 / (2K + 1), put for the small
--                    amount, makes of the pairs times that meet every row, a strict one strictly
--   cycle-means      a cycle: no fractions meet every row
use mathlib.Core.List.{List, [], ◌∷◌}
use Prim.Native.Nat.{ℕ, ◌<◌}
use native.Mathlib.Omega.{arith}
use lib.Dec.{le→leb}
use lib.IntN.{neg_ℤ, pos, ℤ, ◌*ℤ◌, ◌+ℤ◌, ◌-ℤ◌}
use lib.Signed.{◌<ℤ◌, ◌≤ℤ◌}
use Rattle.whole.proofs.Numbers.Sizes.{within-hi, within-lo}
use Rattle.whole.proofs.Ring.Nonneg.{of_le, of_lt, slk, ◌⊞◌, ◌⊠◌}
use Rattle.whole.proofs.Ring.Reify.{reify}
use Rattle.whole.proofs.Ring.Tools.{le-at}
use Rattle.whole.proofs.Values.Mixed.{mixed-le}
use Rattle.whole.specs.Numbers.{Within}
use Rattle.whole.specs.Values.{mixed}
use Rattle.rules.proofs.Times.Means.{cycle-no-fractions, row_read}
use Rattle.rules.proofs.Times.Refused.{accepted-ends, strict-is}
use Rattle.rules.specs.Problem.{n_of}
use Rattle.rules.specs.Times.Answer.{MeetsRows, NoFractions, time_in}
use Rattle.rules.specs.Times.Words.{AcceptedTimes, length_word, strict_word, time_edges}
use Rattle.rules.specs.Times.Check.{CycleShown, TimesShown, apart_by, rows_named}

-- the difference of two mixed pairs, and a row's length less its small amount
as-mixed : (e k p q r t c s : ℤ) → (k *ℤ (p -ℤ r) +ℤ e *ℤ (q -ℤ t)) ≤ℤ (k *ℤ c +ℤ e *ℤ neg_ℤ s) →
    ((k *ℤ p +ℤ e *ℤ q) -ℤ (k *ℤ r +ℤ e *ℤ t)) ≤ℤ ((k *ℤ c) -ℤ e *ℤ s)
as-mixed e k p q r t c s h =
    le-at (e ∷ k ∷ p ∷ q ∷ r ∷ t ∷ c ∷ s ∷ []) (of_le h) (search reify depth 30 fits 20000) slk

-- small parts within K differ by at most 2K, a row's own included
near : (e k K q t s : ℤ) → pos 0 <ℤ e → q ≤ℤ K → neg_ℤ K ≤ℤ t → s ≤ℤ pos 1 → (e *ℤ ((K +ℤ K) +ℤ pos 1)) ≤ℤ k →
    (e *ℤ ((q -ℤ t) -ℤ neg_ℤ s)) ≤ℤ k
near e k K q t s p a b c m =
    le-at (e ∷ k ∷ K ∷ q ∷ t ∷ s ∷ [])
    (of_le m ⊞ of_lt p ⊠ of_le a ⊞ of_le a ⊞ of_lt p ⊠ of_le b ⊞ of_le b ⊞ of_lt p ⊠ of_le c ⊞ of_le c)
    (search reify depth 30 fits 20000) slk

k-least : (e k K : ℤ) → pos 0 <ℤ e → pos 0 ≤ℤ K → (e *ℤ ((K +ℤ K) +ℤ pos 1)) ≤ℤ k → pos 0 ≤ℤ k
k-least e k K p a m =
    le-at (e ∷ k ∷ K ∷ []) (of_le m ⊞ of_lt p ⊠ of_le a ⊞ of_lt p ⊠ of_le a ⊞ of_le a ⊞ of_le a ⊞ of_lt p)
    (search reify depth 30 fits 20000) slk

module _ {ws : List ℤ} {room : ℕ} (A : AcceptedTimes ws room) (a : List ℤ) where
  pub times-mean : TimesShown ws a → (K : ℕ) → ((v : ℕ) → v < n_of ws → Within (time_in ws a v).1 K) →
      (e k : ℤ) → pos 0 <ℤ e → (e *ℤ ((pos K +ℤ pos K) +ℤ pos 1)) ≤ℤ k → MeetsRows ws k
      (λ v. mixed e k (time_in ws a v))
  times-mean S K small e k p m i h =
      row_read e (strict_word ws i) _ (k *ℤ length_word ws i) p (strict-is A i h)
      (as-mixed e k x.0 x.1 y.0 y.1 (length_word ws i) (strict_word ws i)
      (mixed-le e k p (apart_by ws a i) ((time_edges ws).size i)
      (k-least e k (pos K) p (record { le = le→leb 0 K (omega arith) }) m)
      (near e k (pos K) x.1 y.1 (strict_word ws i) p
      (within-hi (small ((time_edges ws).tail i) ((accepted-ends A).tail-in i h)))
      (within-lo (small ((time_edges ws).head i) ((accepted-ends A).head_in i h))) (A.strict-most i h) m)
      (S.met i h)))
    where
      x : ℤ × ℤ
      x = time_in ws a ((time_edges ws).tail i)

      y : ℤ × ℤ
      y = time_in ws a ((time_edges ws).head i)

  pub cycle-means : CycleShown ws a → NoFractions ws
  cycle-means C = cycle-no-fractions A (rows_named a) C.bad
