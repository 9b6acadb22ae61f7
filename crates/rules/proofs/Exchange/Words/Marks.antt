-- Rows one behind the other, and the bits of a kind that is made of the marks of two limits.
--   flatten-length, flatten-each, flatten-at   rows one behind the other
--   kind-bits, limit-back, word-fine          a kind, and the limits that it tells of
use mathlib.Core.Bool.{Bool, true, false, cond}
use mathlib.Core.List.{List, [], ◌∷◌, ◌++◌, flatten}
use mathlib.Core.Logic.{◌≢◌}
use mathlib.Core.Option.{Option, none, some}
use mathlib.Core.Path.{◌≡◌, refl, ◌∙◌, ap, ap₂}
use Prim.Native.Nat.{ℕ, zero, suc, ◌+◌, ◌*◌, ◌≤◌, ◌<◌}
use native.Mathlib.Omega.{arith}
use lib.IntN.{ℤ, pos, nat_abs}
use lib.ListN.{length, get_or, length-append, get_or-append}
use lib.Seq.{get_or-append-add}
use Rattle.whole.specs.Numbers.{eq_z}
use Rattle.whole.proofs.Bools.{true-false}
use Rattle.whole.proofs.Tells.{tells-eq_z, tells-within}
use Rattle.rules.specs.Limit.{Limit, bit, has_lower, has_upper, present, strict_lower, strict_upper}
use Rattle.rules.specs.Refusal.{FineLimit}
use Rattle.rules.specs.Sizes.{largest_limit}
use Rattle.rules.specs.Exchange.Reader.{all_zero, marks, plain_number}
use Rattle.rules.proofs.Exchange.Reader.Rows.{Each, FineNumber, FineRow, FineSlot}
use Rattle.rules.proofs.Exchange.Words.Tables.{each-then}

-- ---- rows one behind the other

module _ (n : ℕ) where
  pub flatten-length : (rows : List (List ℤ)) → Each (FineRow n) rows → length (flatten rows) ≡ length rows * n
  unfolding flatten
  flatten-length [] f = omega arith
  flatten-length (r ∷ rows) f =
      length-append r (flatten rows) ∙ ap₂ (λ x y. x + y) f.0.width (flatten-length rows f.1)
      ∙ (let z : n + length rows * n ≡ suc (length rows) * n = omega arith in z)

  pub flatten-each : (rows : List (List ℤ)) → Each (FineRow n) rows → Each FineNumber (flatten rows)
  unfolding flatten
  flatten-each [] f = tt
  flatten-each (r ∷ rows) f = each-then FineNumber r (flatten rows) f.0.each (flatten-each rows f.1)

  pub flatten-at : (rows : List (List ℤ)) → Each (FineRow n) rows → (i j : ℕ) → i < length rows → j < n →
      get_or (flatten rows) (i * n + j) (pos 0) ≡ get_or (get_or rows i []) j (pos 0)
  unfolding flatten
  flatten-at [] f i j h l = let o : ⊥ = omega arith in absurd o
  flatten-at (r ∷ rows) f zero j h l =
      ap (λ k. get_or (r ++ flatten rows) k (pos 0)) (let z : 0 * n + j ≡ j = omega arith in z)
      ∙ get_or-append r (flatten rows) (pos 0) j (omega (arith, f.0.width))
  flatten-at (r ∷ rows) f (suc i) j h l =
      ap (λ k. get_or (r ++ flatten rows) k (pos 0))
      (let z : suc i * n + j ≡ length r + (i * n + j) = omega (arith, f.0.width) in z)
      ∙ get_or-append-add r (flatten rows) (i * n + j) (pos 0)
      ∙ flatten-at rows f.1 i j (omega arith) l

-- a row that is not blank has a coefficient other than 0
pub zero-some : (l : List ℤ) → all_zero l ≡ false → (j : ℕ) × (j < length l) × (get_or l j (pos 0) ≢ pos 0)
unfolding all_zero
zero-some [] e = true-false refl e
zero-some (z ∷ l) e = go (eq_z z (pos 0)) refl (zero-some l)
  where
    go : (b : Bool) → eq_z z (pos 0) ≡ b → (all_zero l ≡ false → (j : ℕ) × (j < length l) ×
        (get_or l j (pos 0) ≢ pos 0)) →
        (j : ℕ) × (j < suc (length l)) × (get_or (z ∷ l) j (pos 0) ≢ pos 0)
    go true q rest = let w = rest (rw q at e) in (suc w.0, omega (arith, w.1), w.2)
    go false q rest = (0, omega arith, (tells-eq_z z (pos 0)).if-false q)

-- ---- the bits of a kind that is made of marks

pub is_some : Option Limit → Bool
is_some none = false
is_some (some l) = true

pub strict_of : Option Limit → Bool
strict_of none = false
strict_of (some l) = l.strict

pub record Bits (z : ℤ) (a b : Option Limit) : Type 0 where
  pub has-lower : has_lower z ≡ is_some a
  pub strict-lower : strict_lower z ≡ strict_of a
  pub has-upper : has_upper z ≡ is_some b
  pub strict-upper : strict_upper z ≡ strict_of b
  pub most : nat_abs z ≤ 15

pub kind-bits : (a b : Option Limit) → Bits (pos (marks a + 2 * marks b)) a b
unfolding bit marks is_some strict_of
kind-bits none none =
    record { has-lower = refl; strict-lower = refl; has-upper = refl; strict-upper = refl; most = omega arith }
kind-bits none (some u) = go u.strict refl
  where
    go : (t : Bool) → u.strict ≡ t → Bits (pos (0 + 2 * (1 + cond u.strict 4 0))) none (some u)
    go true e = rw e
        (record { has-lower = refl; strict-lower = refl; has-upper = refl; strict-upper = refl; most = omega arith })
    go false e = rw e
        (record { has-lower = refl; strict-lower = refl; has-upper = refl; strict-upper = refl; most = omega arith })
kind-bits (some l) none = go l.strict refl
  where
    go : (s : Bool) → l.strict ≡ s → Bits (pos (1 + cond l.strict 4 0 + 2 * 0)) (some l) none
    go true e = rw e
        (record { has-lower = refl; strict-lower = refl; has-upper = refl; strict-upper = refl; most = omega arith })
    go false e = rw e
        (record { has-lower = refl; strict-lower = refl; has-upper = refl; strict-upper = refl; most = omega arith })
kind-bits (some l) (some u) = go l.strict u.strict refl refl
  where
    go : (s t : Bool) → l.strict ≡ s → u.strict ≡ t →
        Bits (pos (1 + cond l.strict 4 0 + 2 * (1 + cond u.strict 4 0))) (some l) (some u)
    go true true e f = rw (e, f)
        (record { has-lower = refl; strict-lower = refl; has-upper = refl; strict-upper = refl; most = omega arith })
    go true false e f = rw (e, f)
        (record { has-lower = refl; strict-lower = refl; has-upper = refl; strict-upper = refl; most = omega arith })
    go false true e f = rw (e, f)
        (record { has-lower = refl; strict-lower = refl; has-upper = refl; strict-upper = refl; most = omega arith })
    go false false e f = rw (e, f)
        (record { has-lower = refl; strict-lower = refl; has-upper = refl; strict-upper = refl; most = omega arith })

-- a limit by its bits and its word
pub limit-back : (a : Option Limit) (b s : Bool) (z : ℤ) → b ≡ is_some a → s ≡ strict_of a → z ≡ plain_number a →
    present b (record { plain = z; strict = s }) ≡ a
unfolding is_some strict_of plain_number present
limit-back none b s z e f g = rw e refl
limit-back (some l) b s z e f g = rw (e, f, g) refl

pub word-fine : (a : Option Limit) (b : Bool) (z : ℤ) → FineSlot a → b ≡ is_some a → z ≡ plain_number a → FineLimit b z
unfolding is_some plain_number
word-fine none b z f e g = rw e g
word-fine (some l) b z f e g = rw (e, g) ((tells-within largest_limit l.plain).if-true f)

pub limit-marked : (a : Option Limit) (b s : Bool) → b ≡ is_some a → s ≡ strict_of a → s ≡ true → b ≡ true
unfolding is_some strict_of
limit-marked none b s e f t = true-false t f
limit-marked (some l) b s e f t = e

pub slots-fine : (l : List (Option Limit)) (k : ℕ) → Each FineSlot l → FineSlot (get_or l k none)
slots-fine [] zero f = tt
slots-fine [] (suc k) f = tt
slots-fine (a ∷ l) zero f = f.0
slots-fine (a ∷ l) (suc k) f = slots-fine l k f.1
