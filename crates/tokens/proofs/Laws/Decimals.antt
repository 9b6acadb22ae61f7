-- Bytes compared with the digits of a number, the last-of one first.
--   decimal-none                no byte is left
--   decimal-one, decimal-more   the last-of digit, and those before it
--   value-more, most-more       the value of one byte more, and how large it is
use Rattle.std.proofs.Common.{◌≡◌, refl, sym, ◌∙◌, ap, subst, arith, Bool, true, false, ◌&&◌, List, [], ◌∷◌, ◌++◌, ℕ}
use Rattle.std.proofs.Common.{zero, suc, ◌+◌, ◌-◌, ◌*◌, ◌/◌, ◌%◌, ◌≤◌, ◌<◌, eqb, get_or, length, take, add-one}
use native.Mathlib.Decide.{dec_lt}
use borrow.Author.Tests.{ne_eqb}
use Rattle.std.proofs.Math.Seq.{take-length, take-suc}
use Rattle.rules.specs.Program.Text.{digit, digits, reading}
use Rattle.rules.proofs.Program.Numbers.{digits_more, digits-one, reading-last}
use Rattle.rules.specs.Exchange.Reader.{same_bytes}

and_none : (b : Bool) → (b && false) ≡ false
and_none true = refl
and_none false = refl

and-all : (b : Bool) → (b && true) ≡ b
and-all true = refl
and-all false = refl

and_assoc : (a b c : Bool) → (a && (b && c)) ≡ ((a && b) && c)
and_assoc true b c = refl
and_assoc false b c = refl

none_more : (s : List ℕ) (b : ℕ) → same_bytes [] (s ++ (b ∷ [])) ≡ false
unfolding same_bytes
none_more [] b = refl
none_more (c ∷ s) b = refl

more-none : (v : List ℕ) (a : ℕ) → same_bytes (v ++ (a ∷ [])) [] ≡ false
unfolding same_bytes
more-none [] a = refl
more-none (c ∷ v) a = refl

same-last : (v s : List ℕ) (a b : ℕ) → same_bytes (v ++ (a ∷ [])) (s ++ (b ∷ [])) ≡ (same_bytes v s && eqb a b)
unfolding same_bytes
same-last [] [] a b = and-all (eqb a b)
same-last [] (c ∷ s) a b = ap (λ x. eqb a c && x) (none_more s b) ∙ and_none (eqb a c)
same-last (c ∷ v) [] a b = ap (λ x. eqb c b && x) (more-none v a) ∙ and_none (eqb c b)
same-last (c ∷ v) (d ∷ s) a b =
    ap (λ x. eqb c d && x) (same-last v s a b) ∙ and_assoc (eqb c d) (same_bytes v s) (eqb a b)

module _ (k : ℕ) where
  decimal-single : (s : List ℕ) (b : ℕ) → k < 10 →
      same_bytes (digits k) (s ++ (b ∷ [])) ≡ (same_bytes [] s && eqb (digit k) b)
  decimal-single s b h = ap (λ v. same_bytes v (s ++ (b ∷ []))) (digits-one k h) ∙ same-last [] s (digit k) b

  decimal-last : (s : List ℕ) (b : ℕ) → 10 ≤ k →
      same_bytes (digits k) (s ++ (b ∷ [])) ≡ (same_bytes (digits (k / 10)) s && eqb (digit (k % 10)) b)
  decimal-last s b h =
      ap (λ v. same_bytes v (s ++ (b ∷ []))) (digits_more k h) ∙ same-last (digits (k / 10)) s (digit (k % 10)) b

  none_left : same_bytes (digits k) [] ≡ false
  none_left = go (dec_lt k 10)
    where
      go : Dec (k < 10) → same_bytes (digits k) [] ≡ false
      go (yes h) = ap (λ v. same_bytes v []) (digits-one k h) ∙ more-none [] (digit k)
      go (no h) = ap (λ v. same_bytes v []) (digits_more k (omega arith)) ∙ more-none (digits (k / 10)) (digit (k % 10))

-- ---- a token by its last-of byte, and those before it

abbrev pub front : List ℕ → List ℕ
front w = take (length w - 1) w

abbrev pub last-of : List ℕ → ℕ
last-of w = get_or w (length w - 1) 0

split_last : (w : List ℕ) → 0 < length w → w ≡ front w ++ (last-of w ∷ [])
split_last w h =
    sym (take-length w)
    ∙ ap (λ k. take k w) (let z : length w ≡ suc (length w - 1) = omega arith in z)
    ∙ take-suc w (length w - 1) 0 (omega arith)

pub decimal-none : (k : ℕ) (w : List ℕ) → length w < 1 → same_bytes (digits k) w ≡ false
decimal-none k [] h = none_left k
decimal-none k (b ∷ w) h = absurd (omega arith)

module _ (k : ℕ) (w : List ℕ) (h : 0 < length w) where
  pub decimal-one : k < 10 → same_bytes (digits k) w ≡ (same_bytes [] (front w) && eqb (48 + k) (last-of w))
  decimal-one few = ap (same_bytes (digits k)) (split_last w h) ∙ decimal-single k (front w) (last-of w) few

  pub decimal-more : 10 ≤ k →
      same_bytes (digits k) w ≡ (same_bytes (digits (k / 10)) (front w) && eqb (48 + k % 10) (last-of w))
  decimal-more many = ap (same_bytes (digits k)) (split_last w h) ∙ decimal-last k (front w) (last-of w) many

pub nothing-same : (w : List ℕ) → same_bytes [] w ≡ eqb (length w) 0
unfolding same_bytes
nothing-same [] = refl
nothing-same (b ∷ w) = sym (ne_eqb (suc (length w)) 0 (omega arith))

-- ---- the value of some bytes

-- how large that of k bytes is at most
abbrev pub most : ℕ → ℕ
most zero = 0
most (suc k) = 10 * most k + 207

pub most-few : (k : ℕ) → k ≤ 4 → most k ≤ 229977
unfolding most
most-few zero h = omega arith
most-few (suc zero) h = omega arith
most-few (suc (suc zero)) h = omega arith
most-few (suc (suc (suc zero))) h = omega arith
most-few (suc (suc (suc (suc zero)))) h = omega arith
most-few (suc (suc (suc (suc (suc k))))) h = let o : ⊥ = omega arith in absurd o

module _ (w : List ℕ) (i value : ℕ) (l : i < length w) where
  pub value-more : value ≡ reading 0 (take i w) → 10 * value + (get_or w i 0 - 48) ≡ reading 0 (take (i + 1) w)
  value-more e =
      ap (λ v. 10 * v + (get_or w i 0 - 48)) e
      ∙ sym (reading-last 0 (take i w) (get_or w i 0))
      ∙ ap (reading 0) (sym (take-suc w i 0 l) ∙ ap (λ k. take k w) (sym (add-one i)))

pub most-more : (i value d : ℕ) → value ≤ most i → d ≤ 207 → 10 * value + d ≤ most (i + 1)
unfolding most
most-more i value d few q = subst (λ k. 10 * value + d ≤ most k) (sym (add-one i)) (omega arith)
