-- Numbers as text.
--   digits-one, digits_more      how the digits of a number come about, with no fuel
--   by_digits                    what holds of one digit, and of one digit more, holds of all digits
--   reading-last, reading-digits  one digit more is read; the digits of a number read back
--   decimal-reads                what `decimal` writes reads back: `number` of specs/Program/Text
--   decimal-only                 so two numbers of one text are equal
--   decimal-below, decimal-above  a number's text, by its sign
--   digits-short, decimal-short  how many bytes a number takes; one of 64 bits takes at most 20
use mathlib.Core.Path.{◌≡◌, refl, sym, ◌∙◌, ap}
use mathlib.Core.List.{List, [], ◌∷◌, ◌++◌}
use Prim.Native.Nat.{ℕ, zero, suc, ◌+◌, ◌-◌, ◌*◌, ◌/◌, ◌%◌, ◌^◌, ◌≤◌, ◌<◌}
use native.Mathlib.Omega.{arith}
use native.Mathlib.Nat.{pow-suc}
use native.Mathlib.Decide.{dec_lt}
use borrow.Author.Tests.{lt-ltb, le-ltb, ne_eqb}
use lib.IntN.{ℤ, pos, negsuc, neg_ℤ, nat_abs}
use lib.Signed.{◌<ℤ◌, ◌≤ℤ◌}
use lib.ListN.{length, get_or, length-append}
use lib.Dec.{ltb→lt}
use mir.Syntax.{w64}
use mir.Val.{SFits}
use Rattle.rules.specs.Sizes.{most_decimal}
use Rattle.rules.specs.Program.Text.{digit, digits_turns, digits, decimal, number, reading}

-- ---- the digits, with no fuel

turns-one : (k n : ℕ) → n < 10 → digits_turns k n ≡ digit n ∷ []
unfolding digits_turns
turns-one zero n h = refl
turns-one (suc k) n h = rw (lt-ltb n 10 h, digits_turns) refl

turns_more : (k n : ℕ) → 10 ≤ n → digits_turns (suc k) n ≡ digits_turns k (n / 10) ++ (digit (n % 10) ∷ [])
unfolding digits_turns
turns_more k n h = rw (le-ltb n 10 h, digits_turns) refl

-- fuel of the number's size or more makes no difference
turns-enough : (k j n : ℕ) → n ≤ k → n ≤ j → digits_turns k n ≡ digits_turns j n
turns-enough zero j n h l = turns-one 0 n (omega arith) ∙ sym (turns-one j n (omega arith))
turns-enough (suc k) zero n h l = turns-one (suc k) n (omega arith) ∙ sym (turns-one 0 n (omega arith))
turns-enough (suc k) (suc j) n h l = go (dec_lt n 10) (turns-enough k j (n / 10))
  where
    go :
        Dec (n < 10) → (n / 10 ≤ k → n / 10 ≤ j → digits_turns k (n / 10) ≡ digits_turns j (n / 10))
        → digits_turns (suc k) n ≡ digits_turns (suc j) n
    go (yes s) rest = turns-one (suc k) n s ∙ sym (turns-one (suc j) n s)
    go (no s) rest =
        turns_more k n (omega arith)
        ∙ ap (λ (t : List ℕ). t ++ (digit (n % 10) ∷ [])) (rest (omega arith) (omega arith))
        ∙ sym (turns_more j n (omega arith))

pub digits-one : (n : ℕ) → n < 10 → digits n ≡ digit n ∷ []
unfolding digits
digits-one n h = turns-one n n h

pub digits_more : (n : ℕ) → 10 ≤ n → digits n ≡ digits (n / 10) ++ (digit (n % 10) ∷ [])
unfolding digits
digits_more zero h = absurd (omega arith)
digits_more (suc n) h =
    turns_more n (suc n) h
    ∙ ap (λ (t : List ℕ). t ++ (digit (suc n % 10) ∷ []))
    (turns-enough n (suc n / 10) (suc n / 10) (omega arith) (omega arith))

-- what holds of one digit, and of a text with one digit more, holds of the digits of every number
module _ (P : ℕ → List ℕ → Type 0) (one : (n : ℕ) → n < 10 → P n (digit n ∷ []))
    (more : (n : ℕ) (t : List ℕ) → P (n / 10) t → P n (t ++ (digit (n % 10) ∷ []))) where
  by-turns : (k n : ℕ) → n ≤ k → P n (digits n)
  by-turns zero n h = rw (digits-one n (omega arith)) (one n (omega arith))
  by-turns (suc k) n h = elim (dec_lt n 10) [
    | yes s ↦ rw (digits-one n s) (one n s)
    | no s ↦ rw (digits_more n (omega arith)) (more n (digits (n / 10)) (by-turns k (n / 10) (omega arith)))
  ]

  pub by_digits : (n : ℕ) → P n (digits n)
  by_digits n = by-turns n n (omega arith)

-- ---- the reader

pub reading-last : (n : ℕ) (s : List ℕ) (d : ℕ) → reading n (s ++ (d ∷ [])) ≡ 10 * reading n s + (d - 48)
unfolding reading
reading-last n [] d = refl
reading-last n (c ∷ s) d = reading-last (10 * n + (c - 48)) s d

pub reading-digits : (n : ℕ) → reading 0 (digits n) ≡ n
unfolding reading
reading-digits =
    by_digits (λ n t. reading 0 t ≡ n) (λ n h. omega arith)
    (λ n t h. rw (reading-last 0 t (digit (n % 10)), h) (omega arith))

first-kept : (s : List ℕ) (d : ℕ) → 48 ≤ get_or s 0 0 → 48 ≤ get_or (s ++ (d ∷ [])) 0 0
first-kept [] d h = absurd (omega arith)
first-kept (c ∷ s) d h = h

first-digit : (n : ℕ) → 48 ≤ get_or (digits n) 0 0
first-digit = by_digits (λ n t. 48 ≤ get_or t 0 0) (λ n h. omega arith) (λ n t h. first-kept t (digit (n % 10)) h)

pub decimal-reads : (z : ℤ) → number (decimal z) ≡ z
unfolding decimal number
decimal-reads (pos n) =
    rw (ne_eqb (get_or (digits n) 0 0) 45 (λ e. omega (arith, first-digit n))) (ap pos (reading-digits n))
decimal-reads (negsuc k) = ap (λ n. neg_ℤ (pos n)) (reading-digits (suc k))

pub decimal-only : (x z : ℤ) → decimal x ≡ decimal z → x ≡ z
decimal-only x z e = sym (decimal-reads x) ∙ ap number e ∙ decimal-reads z

-- ---- by the sign

pub decimal-below : (z : ℤ) → z <ℤ pos 0 → decimal z ≡ 45 ∷ digits (nat_abs z)
unfolding decimal
decimal-below (pos n) h = absurd (omega (arith, ltb→lt n 0 h.lt))
decimal-below (negsuc k) h = refl

pub decimal-above : (z : ℤ) → pos 0 ≤ℤ z → decimal z ≡ digits (nat_abs z)
unfolding decimal
decimal-above (pos n) h = refl
decimal-above (negsuc k) h = absurd h.le

-- ---- lengths

pub digits-short : (k n : ℕ) → n < 10 ^ suc k → length (digits n) ≤ suc k
digits-short zero n h = rw (digits-one n h) (omega arith)
digits-short (suc k) n h = elim (dec_lt n 10) [
  | yes s ↦ rw (digits-one n s) (omega arith)
  | no s ↦
      let r = digits-short k (n / 10) (omega (arith, pow-suc 10 (suc k))) in
      rw (digits_more n (omega arith), length-append) (omega arith)
]

pub decimal-short : (z : ℤ) → SFits w64 z → length (decimal z) ≤ most_decimal
unfolding decimal
decimal-short (pos n) f = omega (arith, digits-short 18 n (omega arith))
decimal-short (negsuc k) f = omega (arith, digits-short 18 (suc k) (omega arith))
