-- A loop that goes up from 0 follows the search `lowest`, turn by turn; and two searches that agree below k.
--   lowest_start, lowest-more, lowest-here    nothing yet, nothing here, found here
--   lowest-same
use mathlib.Core.Option.{Option, none, some}
use mathlib.Core.Path.{◌≡◌, refl, ap₂}
use Prim.Native.Nat.{ℕ, zero, suc, ◌+◌, ◌<◌}
use native.Mathlib.Numerals.{add-one}
use native.Mathlib.Omega.{arith}
use Rattle.whole.proofs.Lists.Below.{lowest-none, lowest-is}
use Rattle.whole.specs.Below.{lowest}

module _ {A : Type 0} (f : ℕ → Option A) where
  pub lowest_start : lowest 0 f ≡ none
  unfolding lowest
  lowest_start = refl

  pub lowest-more : (k : ℕ) → lowest k f ≡ none → f k ≡ none → lowest (k + 1) f ≡ none
  unfolding lowest
  lowest-more k e h = rw (add-one, lowest, e) h

  pub lowest-here : (e k : ℕ) (a : A) → k < e → lowest k f ≡ none → f k ≡ some a → lowest e f ≡ some a
  lowest-here e k a h n q = lowest-is e k f a h q (lowest-none k f n)

  pub lowest-same : (g : ℕ → Option A) (k : ℕ) → ((v : ℕ) → v < k → f v ≡ g v) → lowest k f ≡ lowest k g
  unfolding lowest
  lowest-same g zero h = refl
  lowest-same g (suc k) h = ap₂ join (lowest-same g k (λ v l. h v (omega arith))) (h k (omega arith))
    where
      join : Option A → Option A → Option A
      join o b = elim o [ none ↦ b | some a ↦ some a ]
