-- The test for a bad cycle over the words of an answer.
--   row_in_lem         the number of a row
--   by-outside, by_rows_lem, by_tests_lem      the rule of a cycle, test by test
--   bad-tests      where all rows are listed and there is one: linked, closed, apart, and a sum below 0
--   named_by       words that are numbers of rows name them
--   stricts-summed     the strict words of accepted rows can be summed
use mathlib.Core.Bool.{Bool, false, not, true, ◌&&◌, ◌||◌}
use mathlib.Core.List.{List, [], ◌∷◌}
use mathlib.Core.Path.{ap, ap₂, refl, sym, ◌∙◌, ◌≡◌}
use Prim.Native.Nat.{suc, ℕ, ◌*◌, ◌+◌, ◌-◌, ◌<◌, ◌≤◌}
use native.Mathlib.Omega.{arith}
use lib.Dec.{eqb, lit≤, ltb, ltb→lt}
use lib.IntN.{nat_abs, negsuc, neg_ℤ, pos, ℤ, ◌*ℤ◌}
use lib.ListN.{length}
use lib.Signed.{lt_z, ◌<ℤ◌, ◌≤ℤ◌}
use Rattle.whole.proofs.Bools.{and-true, not-true, same_tests, true-false}
use Rattle.whole.proofs.Lists.Below.{all-each, all_of, all_same}
use Rattle.whole.proofs.Lists.Tables.{table_at, table-length}
use Rattle.whole.proofs.Numbers.Order.{false→le, lt→true, true→lt}
use Rattle.whole.proofs.Numbers.Sizes.{within-le}
use Rattle.whole.proofs.Numbers.Sums.{sum_same, sum-times}
use Rattle.whole.proofs.Ring.Nonneg.{of_lt, slk}
use Rattle.whole.proofs.Ring.Reify.{reify}
use Rattle.whole.proofs.Ring.Tools.{lt_at, ring-at}
use Rattle.whole.proofs.Values.Mixed.{total-parts}
use Rattle.whole.specs.Below.{all_below}
use Rattle.whole.specs.Numbers.{is_neg, outside}
use Rattle.whole.specs.Sums.{sum}
use Rattle.whole.specs.Values.{lexicographic, pairs, total}
use Rattle.rules.proofs.Times.Refused.{strict-within}
use Rattle.rules.specs.Problem.{m_of, n_of, word}
use Rattle.rules.specs.Sizes.{most_vertices}
use Rattle.rules.specs.Times.Cycle.{is_bad_cycle, row_told}
use Rattle.rules.specs.Times.Walks.{Edges}
use Rattle.rules.specs.Times.Words.{length_word, strict_word, time_edges}
use Rattle.rules.specs.Times.Check.{cycle_length, cycle_shown, is_past, is_row, row_named, rows_named}
use Rattle.timerows.specs.Judged.{Fine}
use Rattle.timecheck.specs.Walk.{Named, Summable, all_new, bad_around, bad_round, linked_at, links_back, links_on}
use Rattle.timecheck.specs.Walk.{new_up_to, word_sum}

-- a word from 0 to m - 1 is the number of one of m rows
pub row_in_lem : (z : ℤ) (m : ℕ) → pos 0 ≤ℤ z → z <ℤ pos m → nat_abs z < m
row_in_lem (pos n) m l h = ltb→lt n m h.lt
row_in_lem (negsuc n) m l h = absurd l.le

-- by the order of pairs
bad-round-is : (c s : ℤ) → pairs.less (c, neg_ℤ s) (pos 0, pos 0) ≡ bad_round c s
bad-round-is c s = ap (lexicographic (lt_z c (pos 0)) (lt_z (pos 0) c)) turned ∙ joined (lt_z c (pos 0))
    (lt_z (pos 0) c) _
  where
    down : (s : ℤ) → neg_ℤ s <ℤ pos 0 → pos 0 <ℤ s
    down s h = lt_at (s ∷ []) (of_lt h) (search reify depth 30) slk

    up : (s : ℤ) → pos 0 <ℤ s → neg_ℤ s <ℤ pos 0
    up s h = lt_at (s ∷ []) (of_lt h) (search reify depth 30) slk

    turned : lt_z (neg_ℤ s) (pos 0) ≡ lt_z (pos 0) s
    turned = same_tests _ _ (λ e. lt→true (down s (true→lt e))) (λ e. lt→true (up s (true→lt e)))

    joined : (p q r : Bool) → lexicographic p q r ≡ (p || (not q && r))
    joined true q r = refl
    joined false true r = refl
    joined false false r = refl

module _ (ws a : List ℤ) where
  abbrev E : Edges (ℤ × ℤ)
  E = time_edges ws

  abbrev k : ℕ
  k = cycle_length a

  told : (j : ℕ) → j < k → row_told (rows_named a) j ≡ row_named a j
  told j h = table_at k (row_named a) 0 j h

  long : length (rows_named a) ≡ k
  long = table-length k (row_named a)

  negated : (f : ℕ → ℤ) → sum k (λ j. neg_ℤ (f j)) ≡ neg_ℤ (sum k f)
  negated f = sum_same k (λ j. neg_ℤ (f j)) (λ j. negsuc 0 *ℤ f j) (λ j h. minus (f j)) ∙ sum-times k (negsuc 0) f
      ∙ sym (minus (sum k f))
    where
      minus : (z : ℤ) → neg_ℤ z ≡ negsuc 0 *ℤ z
      minus z = ring-at (z ∷ []) (search reify depth 30) refl

  -- what the rows sum to
  around-is : total pairs k (λ j. E.size (row_told (rows_named a) j)) ≡ (word_sum ws a 5 k, neg_ℤ (word_sum ws a 4 k))
  unfolding word_sum
  around-is = total-parts k (λ j. E.size (row_told (rows_named a) j))
      ∙ ap₂ (λ x y. (x, y))
      (sum_same k _ _ (λ j h. ap (length_word ws) (told j h)))
      (sum_same k _ _ (λ j h. ap (λ i. neg_ℤ (strict_word ws i)) (told j h))
      ∙ negated (λ j. strict_word ws (row_named a j)))

  module _ (some : 0 < k) (rows : all_below k (is_row ws a) ≡ true) where
    abbrev tests : ℕ → Bool
    tests n = all_below n (λ j. ltb (row_told (rows_named a) j) E.count)
        && all_below (n - 1) (λ j. eqb (E.head (row_told (rows_named a) j)) (E.tail (row_told (rows_named a) (suc j))))
        && eqb (E.head (row_told (rows_named a) (n - 1))) (E.tail (row_told (rows_named a) 0))
        && all_below n (λ j. all_below j (λ i.
        not (eqb (E.tail (row_told (rows_named a) i)) (E.tail (row_told (rows_named a) j)))))
        && pairs.less (total pairs n (λ j. E.size (row_told (rows_named a) j))) (pos 0, pos 0)

    -- a word that is the number of a row
    in_rows : (z : ℤ) → (m : ℕ) → (not (lt_z z (pos 0)) && lt_z z (pos m)) ≡ true → ltb (nat_abs z) m ≡ true
    in_rows (pos n) m e = (and-true (not (lt_z (pos n) (pos 0))) (lt_z (pos n) (pos m)) e).1
    in_rows (negsuc n) m e = true-false e refl

    listed : all_below k (λ j. ltb (row_told (rows_named a) j) E.count) ≡ true
    listed = all_of k _ (λ j h. ap (λ i. ltb i (m_of ws)) (told j h)
        ∙ in_rows (word a (2 + j)) (m_of ws) (all-each k (is_row ws a) rows j h))

    bad-tests : is_bad_cycle pairs (time_edges ws) (rows_named a)
        ≡ (links_on ws a && links_back ws a && all_new ws a && bad_around ws a)
    unfolding is_bad_cycle new_up_to
    bad-tests = ap tests long ∙ rw listed (ap₂ (λ (x y : Bool). x && y) (ap₂ (λ (x y : Bool). x && y)
        (ap₂ (λ (x y : Bool). x && y) linked closed) apart) below)
      where
        linked : all_below (k - 1) (λ j.
            eqb (E.head (row_told (rows_named a) j)) (E.tail (row_told (rows_named a) (suc j))))
            ≡ all_below (k - 1) (λ j. linked_at ws a j (suc j))
        linked = all_same (k - 1) _ _ (λ j h. ap₂ (λ x y. eqb (E.head x) (E.tail y)) (told j (omega arith))
            (told (suc j) (omega arith)))

        closed : eqb (E.head (row_told (rows_named a) (k - 1))) (E.tail (row_told (rows_named a) 0))
            ≡ linked_at ws a (k - 1) 0
        closed = ap₂ (λ x y. eqb (E.head x) (E.tail y)) (told (k - 1) (omega arith)) (told 0 some)

        apart : all_below k (λ j. all_below j (λ i.
            not (eqb (E.tail (row_told (rows_named a) i)) (E.tail (row_told (rows_named a) j)))))
            ≡ all_below k (λ j. new_up_to ws a j j)
        apart = all_same k _ _ (λ j h. all_same j _ _ (λ i l.
            ap₂ (λ x y. not (eqb (E.tail x) (E.tail y))) (told i (omega arith)) (told j h)))

        below : pairs.less (total pairs k (λ j. E.size (row_told (rows_named a) j))) (pos 0, pos 0)
            ≡ bad_round (word_sum ws a 5 k) (word_sum ws a 4 k)
        below = ap (λ z. pairs.less z (pos 0, pos 0)) around-is ∙ bad-round-is (word_sum ws a 5 k) (word_sum ws a 4 k)

-- ---- the rule as tests one after the other

module _ (ws a : List ℤ) where
  pub by-outside : outside 1 (n_of ws) (word a 1) ≡ true → cycle_shown ws a ≡ false
  unfolding cycle_shown
  by-outside o = rw o refl

  module _ (o : outside 1 (n_of ws) (word a 1) ≡ false) where
    pub by_rows_lem : all_below (cycle_length a) (is_row ws a) ≡ false → cycle_shown ws a ≡ false
    unfolding cycle_shown
    by_rows_lem r = rw (o, r) refl

    pub by_tests_lem : 0 < cycle_length a → all_below (cycle_length a) (is_row ws a) ≡ true → cycle_shown ws a
        ≡ (links_on ws a && links_back ws a && all_new ws a && bad_around ws a && all_below (2 * n_of ws) (is_past a))
    unfolding cycle_shown
    by_tests_lem h r = rw (o, r) (ap (λ (b : Bool). b && all_below (2 * n_of ws) (is_past a)) (bad-tests ws a h r))

-- ---- what the code is told

pub named_by : (ws a : List ℤ) → cycle_length a ≤ most_vertices → 2 + cycle_length a ≤ length a →
    all_below (cycle_length a) (is_row ws a) ≡ true → Named ws a (cycle_length a)
named_by ws a few long rows = record {
  few = few;
  long = long;
  least = λ k h. false→le {a = pos 0} {b = word a (2 + k)} (not-true (is_neg (word a (2 + k))) (each k h).0);
  most = λ k h. true→lt (each k h).1;
}
  where
    each : (k : ℕ) → k < cycle_length a →
        (not (is_neg (word a (2 + k))) ≡ true) × (lt_z (word a (2 + k)) (pos (m_of ws)) ≡ true)
    each k h = and-true (not (is_neg (word a (2 + k)))) (lt_z (word a (2 + k)) (pos (m_of ws)))
        (all-each (cycle_length a) (is_row ws a) rows k h)

pub stricts-summed : (ws : List ℤ) → Fine ws → Summable ws 4
stricts-summed ws F = record { low = lit≤ tt; each = λ i h. within-le (strict-within F i h) (lit≤ tt) }
