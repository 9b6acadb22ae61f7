-- What a test tells: one fact where it is true, another where it is false, never both. Tests are put together as their
-- facts are.
--   Tells b Yes No                           specs/Tells: b is true exactly where Yes holds, false where No does
--   tells-true, tells-false, tells-not       back from a fact to the test; the test turned round
--   tells-and, tells-or, tells_all, -some    two tests, and one for each number below k
--   tells-present, tells-missing             a test of something that may be missing
--   tells-lt, -eq, -ltZ, -eqZ, -within, -outside    the plain tests of numbers
--   within-under, within-over                       a number within n, tested on one side and then on the other
--   outside-within, bits-eq                  a test of both sides is one of the size; one of bits is one of numbers
use mathlib.Core.Bool.{Bool, false, not, true, ◌&&◌, ◌||◌}
use mathlib.Core.Logic.{inl, inr, ◌≢◌, ◌⊎◌}
use mathlib.Core.Option.{Option, none-ne-some, none, some}
use mathlib.Core.Path.{ap, refl, sym, ◌∙◌, ◌≡◌}
use Prim.Native.Nat.{ℕ, ◌<◌, ◌≤◌}
use native.Mathlib.Omega.{arith}
use lib.Dec.{eqb, eqb_refl, eqb→eq, leb, leb→le, le→leb, ltb, ltb→lt, nltb→le}
use lib.IntN.{nat_abs, negsuc, neg_ℤ, pos, pos-ne-negsuc, ℤ}
use lib.Signed.{<ℤ_irrefl, <ℤ-≤ℤ_trans, clash_ℤ, le_z, lt_z, ◌<ℤ◌, ◌≤ℤ◌}
use mir.Facts.{to_z-of_z}
use mir.Syntax.{Width}
use mir.Val.{SFits, of_z, to_z}
use Rattle.whole.proofs.Lists.Below.{all-each, all-fails, some_at, some-none}
use Rattle.whole.proofs.Bools.{T→true, and-false, and-true, not-false, not-true, or-false, or-true, true-false}
use Rattle.whole.proofs.Numbers.Order.{false→le, true→lt}
use Rattle.whole.proofs.Numbers.Sizes.{within-hi, within-lo, within_of}
use Rattle.whole.proofs.Numbers.Tests.{le_z-false, le_z-true}
use Rattle.whole.specs.Below.{all_below, some_below}
use Rattle.whole.specs.Numbers.{Within, eq_z, outside, within}
use Rattle.whole.specs.Tells.{Tells}

module _ {b : Bool} {Yes No : Type 0} (t : Tells b Yes No) where
  pub tells-true : Yes → b ≡ true
  tells-true y = go b refl
    where
      go : (c : Bool) → b ≡ c → b ≡ true
      go true e = e
      go false e = absurd (t.not-both y (t.if-false e))

  pub tells-false : No → b ≡ false
  tells-false n = go b refl
    where
      go : (c : Bool) → b ≡ c → b ≡ false
      go true e = absurd (t.not-both (t.if-true e) n)
      go false e = e

  pub tells-not : Tells (not b) No Yes
  tells-not = record {
    if-true = λ e. t.if-false (not-true b e);
    if-false = λ e. t.if-true (not-false b e);
    not-both = λ n y. t.not-both y n;
  }

-- ---- tests put together

module _ {a b : Bool} {A-yes A-no B-yes B-no : Type 0} (s : Tells a A-yes A-no) (t : Tells b B-yes B-no) where
  pub tells-or : Tells (a || b) (A-yes ⊎ B-yes) (A-no × B-no)
  tells-or = record {
    if-true = λ e. one (or-true a b e);
    if-false = λ e. (s.if-false (or-false a b e).0, t.if-false (or-false a b e).1);
    not-both = clash;
  }
    where
      one : (a ≡ true) ⊎ (b ≡ true) → A-yes ⊎ B-yes
      one (inl e) = inl (s.if-true e)
      one (inr e) = inr (t.if-true e)

      clash : A-yes ⊎ B-yes → A-no × B-no → ⊥
      clash (inl y) n = s.not-both y n.0
      clash (inr y) n = t.not-both y n.1

  pub tells-and : Tells (a && b) (A-yes × B-yes) (A-no ⊎ B-no)
  tells-and = record {
    if-true = λ e. (s.if-true (and-true a b e).0, t.if-true (and-true a b e).1);
    if-false = λ e. one (and-false a b e);
    not-both = clash;
  }
    where
      one : (a ≡ false) ⊎ (b ≡ false) → A-no ⊎ B-no
      one (inl e) = inl (s.if-false e)
      one (inr e) = inr (t.if-false e)

      clash : A-yes × B-yes → A-no ⊎ B-no → ⊥
      clash y (inl n) = s.not-both y.0 n
      clash y (inr n) = t.not-both y.1 n

module _ (k : ℕ) (f : ℕ → Bool) {Yes No : ℕ → Type 0} (t : (v : ℕ) → v < k → Tells (f v) (Yes v) (No v)) where
  pub tells-some : Tells (some_below k f) ((v : ℕ) × (v < k) × Yes v) ((v : ℕ) → v < k → No v)
  tells-some = record {
    if-true = λ e. let w = some_at k f e in (w.0, w.1, (t w.0 w.1).if-true w.2);
    if-false = λ e v h. (t v h).if-false (some-none k f e v h);
    not-both = λ y n. (t y.0 y.1).not-both y.2 (n y.0 y.1);
  }

  pub tells_all : Tells (all_below k f) ((v : ℕ) → v < k → Yes v) ((v : ℕ) × (v < k) × No v)
  tells_all = record {
    if-true = λ e v h. (t v h).if-true (all-each k f e v h);
    if-false = λ e. let w = all-fails k f e in (w.0, w.1, (t w.0 w.1).if-false w.2);
    not-both = λ y n. (t n.0 n.1).not-both (y n.0 n.1) n.2;
  }

-- ---- something that may be missing: a test of it that fails, or passes, where it is missing

module _ {X : Type 0} (f : Option X → Bool) (b : X → Bool) (there : (x : X) → f (some x) ≡ b x) where
  pub tells-present : f none ≡ false → (o : Option X) →
      Tells (f o) ((x : X) × (o ≡ some x) × (b x ≡ true)) ((x : X) → o ≡ some x → b x ≡ false)
  tells-present n none = record {
    if-true = λ e. true-false e n;
    if-false = λ e x q. absurd (none-ne-some x q);
    not-both = λ (x, q, h) g. none-ne-some x q;
  }
  tells-present n (some y) = record {
    if-true = λ e. (y, refl, sym (there y) ∙ e);
    if-false = λ e x q. let z : y ≡ x = cc in rw (← z) (sym (there y) ∙ e);
    not-both = λ (x, q, h) g. true-false h (g x q);
  }

  pub tells-missing : f none ≡ true → (o : Option X) →
      Tells (f o) ((x : X) → o ≡ some x → b x ≡ true) ((x : X) × (o ≡ some x) × (b x ≡ false))
  tells-missing n none = record {
    if-true = λ e x q. absurd (none-ne-some x q);
    if-false = λ e. true-false n e;
    not-both = λ g (x, q, h). none-ne-some x q;
  }
  tells-missing n (some y) = record {
    if-true = λ e x q. let z : y ≡ x = cc in rw (← z) (sym (there y) ∙ e);
    if-false = λ e. (y, refl, sym (there y) ∙ e);
    not-both = λ g (x, q, h). true-false (g x q) h;
  }

-- ---- numbers

pub tells-lt : (a b : ℕ) → Tells (ltb a b) (a < b) (b ≤ a)
tells-lt a b = record {
  if-true = λ e. ltb→lt a b (rw e tt);
  if-false = λ e. nltb→le a b (rw e tt);
  not-both = λ h k. let z : ⊥ = omega arith in z;
}

pub tells-eq : (a b : ℕ) → Tells (eqb a b) (a ≡ b) (a ≢ b)
tells-eq a b = record {
  if-true = λ e. eqb→eq a b (rw e tt);
  if-false = λ e q. true-false (T→true (eqb a b) (rw (← q) (eqb_refl a))) e;
  not-both = λ e n. n e;
}

pub tells-lt_z : (a b : ℤ) → Tells (lt_z a b) (a <ℤ b) (b ≤ℤ a)
tells-lt_z a b = record {
  if-true = λ e. true→lt e;
  if-false = λ e. false→le e;
  not-both = λ h k. <ℤ_irrefl (<ℤ-≤ℤ_trans h k);
}

pub tells-eq_z : (a b : ℤ) → Tells (eq_z a b) (a ≡ b) (a ≢ b)
tells-eq_z a b = record { if-true = same a b; if-false = differ a b; not-both = λ e n. n e }
  where
    same : (a b : ℤ) → eq_z a b ≡ true → a ≡ b
    same (pos a) (pos b) e = ap pos ((tells-eq a b).if-true e)
    same (pos a) (negsuc b) e = true-false e refl
    same (negsuc a) (pos b) e = true-false e refl
    same (negsuc a) (negsuc b) e = ap negsuc ((tells-eq a b).if-true e)

    differ : (a b : ℤ) → eq_z a b ≡ false → a ≢ b
    differ (pos a) (pos b) e q = (tells-eq a b).if-false e (ap nat_abs q)
    differ (pos a) (negsuc b) e q = pos-ne-negsuc a b q
    differ (negsuc a) (pos b) e q = pos-ne-negsuc b a (sym q)
    differ (negsuc a) (negsuc b) e q = let z : a ≡ b = cc in (tells-eq a b).if-false e z

pub tells-within : (n : ℕ) (z : ℤ) → Tells (within n z) (Within z n) (¬ Within z n)
unfolding within
tells-within n z = record {
  if-true = λ e. record { within = leb→le (nat_abs z) n (rw e tt) };
  if-false = λ e h. true-false (T→true (leb (nat_abs z) n) (le→leb (nat_abs z) n h.within)) e;
  not-both = λ h k. k h;
}

pub tells-outside : (lo hi : ℕ) (z : ℤ) →
    Tells (outside lo hi z) ((z <ℤ pos lo) ⊎ (pos hi <ℤ z)) ((pos lo ≤ℤ z) × (z ≤ℤ pos hi))
unfolding outside
tells-outside lo hi z = tells-or (tells-lt_z z (pos lo)) (tells-lt_z (pos hi) z)

-- a number within n, tested on one side and then on the other
module _ (n : ℕ) (z : ℤ) where
  pub within-under : z <ℤ neg_ℤ (pos n) → within n z ≡ false
  within-under h = tells-false (tells-within n z) (λ w. clash_ℤ h (within-lo w))

  pub within-over : neg_ℤ (pos n) ≤ℤ z → le_z z (pos n) ≡ within n z
  within-over h = go (le_z z (pos n)) refl
    where
      go : (b : Bool) → le_z z (pos n) ≡ b → le_z z (pos n) ≡ within n z
      go true q = q ∙ sym (tells-true (tells-within n z) (within_of h (le_z-true q)))
      go false q =
          q ∙ sym (tells-false (tells-within n z) (λ w. clash_ℤ (le_z-false {a = z} {b = pos n} q) (within-hi w)))

-- outside -k and k is not within k
pub outside-within : (k : ℕ) (z : ℤ) → (lt_z z (neg_ℤ (pos k)) || lt_z (pos k) z) ≡ not (within k z)
outside-within k z = go (within k z) refl
  where
    test : Tells (lt_z z (neg_ℤ (pos k)) || lt_z (pos k) z) ((z <ℤ neg_ℤ (pos k)) ⊎ (pos k <ℤ z))
        ((neg_ℤ (pos k) ≤ℤ z) × (z ≤ℤ pos k))
    test = tells-or (tells-lt_z z (neg_ℤ (pos k))) (tells-lt_z (pos k) z)

    go : (b : Bool) → within k z ≡ b → (lt_z z (neg_ℤ (pos k)) || lt_z (pos k) z) ≡ not b
    go true e = let h = (tells-within k z).if-true e in tells-false test (within-lo h, within-hi h)
    go false e = not-false _ (by-no (lt_z z (neg_ℤ (pos k)) || lt_z (pos k) z) refl)
      where
        by-no : (c : Bool) → (lt_z z (neg_ℤ (pos k)) || lt_z (pos k) z) ≡ c →
            not (lt_z z (neg_ℤ (pos k)) || lt_z (pos k) z) ≡ false
        by-no true q = rw q refl
        by-no false q = let h = test.if-false q in absurd ((tells-within k z).if-false e (within_of h.0 h.1))

-- a test of two signed locals for equality is one of their bits
pub bits-eq : (w : Width) {a b : ℤ} → SFits w a → SFits w b → eqb (of_z w a) (of_z w b) ≡ eq_z a b
bits-eq w {a} {b} f g = go (eq_z a b) refl
  where
    go : (t : Bool) → eq_z a b ≡ t → eqb (of_z w a) (of_z w b) ≡ t
    go true e = tells-true (tells-eq (of_z w a) (of_z w b)) (ap (of_z w) ((tells-eq_z a b).if-true e))
    go false e =
        tells-false (tells-eq (of_z w a) (of_z w b))
        (λ q. (tells-eq_z a b).if-false e (sym (to_z-of_z f) ∙ ap (to_z w) q ∙ to_z-of_z g))
