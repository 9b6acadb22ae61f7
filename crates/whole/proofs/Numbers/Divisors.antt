-- Greatest common divisors of natural numbers.
--   gcd-dvd-l, gcd-dvd-r, gcd-greatest, gcd-only    it divides both, is greatest, and is the only such number
--   gcd-zero, gcd-step                              Euclid's steps
--   gcd-times                                       what divides f times both divides f times the divisor
--   fold-dvd, fold-greatest, fold-times             over the numbers below k and a start
--   fold-pos, fold-most                             above 0, and no more than the start
--   gcd_list-dvd, -greatest, -only, -lowest          the same over a list
use mathlib.Core.Path.{◌≡◌, refl, sym, ◌∙◌, ap, subst}
use mathlib.Core.List.{List, [], ◌∷◌}
use Prim.Native.Nat.{ℕ, zero, suc, ◌*◌, ◌/◌, ◌%◌, ◌≤◌, ◌<◌, ◌∣◌}
use native.Mathlib.Omega.{arith}
use native.Mathlib.Decide.{ℕ_discrete}
use native.Mathlib.Nat.{dvd_refl, dvd-zero, dvd_trans, dvd-mod_iff, dvd-add_iff_right, dvd_antisymm}
use native.Mathlib.Nat.{dvd-mul_left_of_dvd, mod-lt, div-add-mod', le_of_dvd, mul-add, mul_left_comm, pos_of_dvd_of_pos}
use native.Mathlib.Nat.{zero-lt-suc, one-mul}
use lib.IntN.{ℤ, pos, nat_abs}
use lib.ListN.{length, get_or}
use Rattle.whole.specs.Below.{fold_below}
use Rattle.whole.specs.Divisors.{gcd, gcd_turns}

-- one times a number
pub by_one : (d a : ℕ) → d ∣ a → d ∣ 1 * a
by_one d a h = subst (λ z. d ∣ z) (sym (one-mul a)) h

pub by-one-back : (d a : ℕ) → d ∣ 1 * a → d ∣ a
by-one-back d a h = subst (λ z. d ∣ z) (one-mul a) h

-- ---- two numbers

turns-dvd : (k a b : ℕ) → b < k → (gcd_turns k a b ∣ a) × (gcd_turns k a b ∣ b)
unfolding gcd_turns
turns-dvd zero a b h = let z : ⊥ = omega arith in absurd z
turns-dvd (suc k) a zero h = (dvd_refl a, dvd-zero a)
turns-dvd (suc k) a (suc b) h =
    let m : a % suc b < suc b = mod-lt a (zero-lt-suc b) in
    let r = turns-dvd k (suc b) (a % suc b) (omega arith) in
    ((dvd-mod_iff (gcd_turns k (suc b) (a % suc b)) {m = a} {n = suc b} r.0).0 r.1, r.0)

-- what divides f times two numbers divides f times the remainder
rest-times : (a c d f : ℕ) → d ∣ f * a → d ∣ f * c → d ∣ f * (a % c)
rest-times a c d f p q = (dvd-add_iff_right d {m = f * (a / c * c)} {n = f * (a % c)}
    (subst (λ z. d ∣ z) (mul_left_comm (a / c) f c) (dvd-mul_left_of_dvd d q (a / c)))).1
    (subst (λ z. d ∣ z) (ap (λ z. f * z) (sym (div-add-mod' a c)) ∙ mul-add f (a / c * c) (a % c)) p)

turns-times : (k a b d f : ℕ) → d ∣ f * a → d ∣ f * b → d ∣ f * gcd_turns k a b
unfolding gcd_turns
turns-times zero a b d f p q = p
turns-times (suc k) a zero d f p q = p
turns-times (suc k) a (suc b) d f p q = turns-times k (suc b) (a % suc b) d f q (rest-times a (suc b) d f p q)

pub gcd-dvd-l : (a b : ℕ) → gcd a b ∣ a
unfolding gcd
gcd-dvd-l a b = (turns-dvd (suc b) a b (omega arith)).0

gcd-dvd-r : (a b : ℕ) → gcd a b ∣ b
unfolding gcd
gcd-dvd-r a b = (turns-dvd (suc b) a b (omega arith)).1

-- what divides f times both divides f times the divisor
pub gcd-times : (a b d f : ℕ) → d ∣ f * a → d ∣ f * b → d ∣ f * gcd a b
unfolding gcd
gcd-times a b d f p q = turns-times (suc b) a b d f p q

gcd-greatest : (a b d : ℕ) → d ∣ a → d ∣ b → d ∣ gcd a b
gcd-greatest a b d p q = by-one-back d (gcd a b) (gcd-times a b d 1 (by_one d a p) (by_one d b q))

pub gcd-only : (a b g : ℕ) → g ∣ a → g ∣ b → ((d : ℕ) → d ∣ a → d ∣ b → d ∣ g) → g ≡ gcd a b
gcd-only a b g p q h = dvd_antisymm (gcd-greatest a b g p q) (h (gcd a b) (gcd-dvd-l a b) (gcd-dvd-r a b))

fuel : (f f' a b : ℕ) → b < f → b < f' → gcd_turns f a b ≡ gcd_turns f' a b
unfolding gcd_turns
fuel zero f' a b h h' = omega arith
fuel (suc f) zero a b h h' = omega arith
fuel (suc f) (suc f') a zero h h' = refl
fuel (suc f) (suc f') a (suc b) h h' =
    let m : a % suc b < suc b = mod-lt a (zero-lt-suc b) in
    fuel f f' (suc b) (a % suc b) (omega arith) (omega arith)

pub gcd-zero : (a : ℕ) → gcd a 0 ≡ a
unfolding gcd gcd_turns
gcd-zero a = refl

pub gcd-step : (a b : ℕ) → 0 < b → gcd a b ≡ gcd b (a % b)
unfolding gcd gcd_turns
gcd-step a zero h = omega arith
gcd-step a (suc b) h =
    let m : a % suc b < suc b = mod-lt a (zero-lt-suc b) in
    fuel (suc b) (suc (a % suc b)) (suc b) (a % suc b) m (omega arith)

-- ---- the numbers x below k, and a start a

pub fold-dvd : (k : ℕ) (x : ℕ → ℕ) (a : ℕ) →
    (fold_below k (λ u h. gcd (x u) h) a ∣ a) × ((u : ℕ) → u < k → fold_below k (λ u h. gcd (x u) h) a ∣ x u)
unfolding fold_below
fold-dvd zero x a = (dvd_refl a, λ u h. let z : ⊥ = omega arith in absurd z)
fold-dvd (suc k) x a = both (fold_below k (λ u h. gcd (x u) h) a) (fold-dvd k x a)
  where
    both : (F : ℕ) → (F ∣ a) × ((u : ℕ) → u < k → F ∣ x u) →
        (gcd (x k) F ∣ a) × ((u : ℕ) → u < suc k → gcd (x k) F ∣ x u)
    both F r = (dvd_trans (gcd (x k) F) (gcd-dvd-r (x k) F) r.0, λ u h. at u h (ℕ_discrete u k))
      where
        at : (u : ℕ) → u < suc k → Dec (u ≡ k) → gcd (x k) F ∣ x u
        at u h (yes e) = rw e (gcd-dvd-l (x k) F)
        at u h (no n) = dvd_trans (gcd (x k) F) (gcd-dvd-r (x k) F) (r.1 u (omega arith))

pub fold-times : (k : ℕ) (x : ℕ → ℕ) (a d f : ℕ) → d ∣ f * a → ((u : ℕ) → u < k → d ∣ f * x u) →
    d ∣ f * fold_below k (λ u h. gcd (x u) h) a
unfolding fold_below
fold-times zero x a d f p q = p
fold-times (suc k) x a d f p q =
    gcd-times (x k) _ d f (q k (omega arith)) (fold-times k x a d f p (λ u h. q u (omega arith)))

pub fold-greatest : (k : ℕ) (x : ℕ → ℕ) (a d : ℕ) → d ∣ a → ((u : ℕ) → u < k → d ∣ x u) →
    d ∣ fold_below k (λ u h. gcd (x u) h) a
fold-greatest k x a d p q = by-one-back d _ (fold-times k x a d 1 (by_one d a p) (λ u h. by_one d (x u) (q u h)))

pub fold-pos : (k : ℕ) (x : ℕ → ℕ) (a : ℕ) → 0 < a → 0 < fold_below k (λ u h. gcd (x u) h) a
fold-pos k x a h = pos_of_dvd_of_pos (fold-dvd k x a).0 h

pub fold-most : (k : ℕ) (x : ℕ → ℕ) (a : ℕ) → 0 < a → fold_below k (λ u h. gcd (x u) h) a ≤ a
fold-most k x a h = le_of_dvd h (fold-dvd k x a).0

-- ---- a list

-- the divisor of a number and the sizes of a list's numbers
unfoldable pub gcd_list : ℕ → List ℤ → ℕ
gcd_list d [] = d
gcd_list d (z ∷ l) = gcd_list (gcd (nat_abs z) d) l

gcd_list-start : (d : ℕ) (l : List ℤ) → gcd_list d l ∣ d
unfolding gcd_list
gcd_list-start d [] = dvd_refl d
gcd_list-start d (z ∷ l) =
    dvd_trans (gcd_list (gcd (nat_abs z) d) l) (gcd_list-start (gcd (nat_abs z) d) l) (gcd-dvd-r (nat_abs z) d)

gcd_list-dvd : (d : ℕ) (l : List ℤ) (k : ℕ) → k < length l → gcd_list d l ∣ nat_abs (get_or l k (pos 0))
unfolding gcd_list
gcd_list-dvd d [] k h = let z : ⊥ = omega arith in absurd z
gcd_list-dvd d (z ∷ l) zero h =
    dvd_trans (gcd_list (gcd (nat_abs z) d) l) (gcd_list-start (gcd (nat_abs z) d) l) (gcd-dvd-l (nat_abs z) d)
gcd_list-dvd d (z ∷ l) (suc k) h = gcd_list-dvd (gcd (nat_abs z) d) l k (omega arith)

gcd_list-greatest : (d : ℕ) (l : List ℤ) (e : ℕ) → e ∣ d →
    ((k : ℕ) → k < length l → e ∣ nat_abs (get_or l k (pos 0))) → e ∣ gcd_list d l
unfolding gcd_list
gcd_list-greatest d [] e p q = p
gcd_list-greatest d (z ∷ l) e p q =
    gcd_list-greatest (gcd (nat_abs z) d) l e (gcd-greatest (nat_abs z) d e (q 0 (omega arith)) p)
    (λ k h. q (suc k) (omega arith))

pub gcd_list-only : (d : ℕ) (l : List ℤ) (g : ℕ) → g ∣ d → ((k : ℕ) → k < length l → g ∣ nat_abs (get_or l k (pos 0))) →
    ((e : ℕ) → e ∣ d → ((k : ℕ) → k < length l → e ∣ nat_abs (get_or l k (pos 0))) → e ∣ g) → g ≡ gcd_list d l
gcd_list-only d l g p q h =
    dvd_antisymm (gcd_list-greatest d l g p q) (h (gcd_list d l) (gcd_list-start d l) (gcd_list-dvd d l))
