-- A test at each number of a range.
--   all-range    the tests one by one, as a list and from below
use Rattle.std.proofs.Common.{◌≡◌, refl, ◌∙◌, ap, Bool, true, ℕ, zero, suc, ◌+◌, ◌<◌, arith}
use Rattle.std.specs.List.{list_all, range_with_len}
use Rattle.whole.specs.Below.{all_below}
use Rattle.whole.proofs.Bools.{and-true, same_tests}
use Rattle.whole.proofs.Lists.Below.{all-each, all_of}

module _ (test : ℕ → Bool) where
  each : (a n : ℕ) → list_all test (range_with_len a n) ≡ true → (k : ℕ) → k < n → test (a + k) ≡ true
  each a zero e k h = absurd (omega arith)
  each a (suc n) e zero h = ap test (omega arith) ∙ (and-true (test a) (list_all test (range_with_len (a + 1) n)) e).0
  each a (suc n) e (suc k) h =
      let z : a + suc k ≡ a + 1 + k = omega arith in
      ap test z ∙ each (a + 1) n (and-true (test a) (list_all test (range_with_len (a + 1) n)) e).1 k (omega arith)

  back : (a n : ℕ) → ((k : ℕ) → k < n → test (a + k) ≡ true) → list_all test (range_with_len a n) ≡ true
  back a zero h = refl
  back a (suc n) h =
      let first : test a ≡ true = ap test (omega arith) ∙ h 0 (omega arith) in
      rw first (back (a + 1) n (λ k l. let z : a + 1 + k ≡ a + suc k = omega arith in
      ap test z ∙ h (suc k) (omega arith)))

  pub all-range : (m : ℕ) → list_all test (range_with_len 0 m) ≡ all_below m test
  all-range m = same_tests _ _
      (λ e. all_of m test (λ k h. let z : k ≡ 0 + k = omega arith in ap test z ∙ each 0 m e k h))
      (λ e. back 0 m (λ k h. let z : 0 + k ≡ k = omega arith in ap test z ∙ all-each m test e k h))
