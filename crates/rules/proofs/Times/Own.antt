-- What `times` answers, the checker of evidence about time rows accepts.
--   times-own       an output that the promise of `times` allows gets 8, in whatever words it stands
use mathlib.Core.Bool.{Bool}
use mathlib.Core.List.{List, [], ◌∷◌}
use mathlib.Core.Logic.{inl, inr, ◌⊎◌}
use mathlib.Core.Path.{ap, ap₂, refl, subst, sym, ◌∙◌, ◌≡◌}
use Prim.Native.Nat.{suc, ℕ, ◌*◌, ◌+◌, ◌<◌, ◌≤◌}
use native.Mathlib.Decide.{dec_lt}
use native.Mathlib.Omega.{arith}
use lib.Dec.{le→leb}
use lib.IntN.{nat_abs, neg_ℤ, pos, ℤ, ◌+ℤ◌, ◌-ℤ◌}
use lib.ListN.{length}
use lib.Signed.{lt_z, ◌<ℤ◌, ◌≤ℤ◌}
use Rattle.whole.proofs.Bools.{same_tests, true-false}
use Rattle.whole.proofs.Lists.Tables.{table-all, table_same}
use Rattle.whole.proofs.Numbers.Order.{lt→true, true→lt}
use Rattle.whole.proofs.Ring.Nonneg.{of_lt, slk}
use Rattle.whole.proofs.Ring.Reify.{reify}
use Rattle.whole.proofs.Ring.Tools.{lt_at}
use Rattle.whole.specs.Sums.{sum_by}
use Rattle.whole.specs.Tables.{table}
use Rattle.whole.specs.Values.{lexicographic, pairs}
use Rattle.rules.proofs.Times.Checked.{times-accepted}
use Rattle.rules.proofs.Times.Refused.{accepted-ends, times-accepted-exactly}
use Rattle.rules.proofs.Times.Told.{times-or-cycle}
use Rattle.rules.proofs.Times.Unique.{times-length}
use Rattle.rules.specs.Problem.{m_of, n_of, word}
use Rattle.rules.specs.Times.Answer.{CycleTold, Timed, TimesTold, time_in}
use Rattle.rules.specs.Times.Check.{CycleShown, ShownTimes, TimesShown, checked_times, cycle_length}
use Rattle.rules.specs.Times.Check.{row_named, rows_named}
use Rattle.rules.specs.Times.Cycle.{BadCycle, row_told}
use Rattle.rules.specs.Times.Walks.{Edges, on}
use Rattle.rules.specs.Times.Words.{AcceptedTimes, time_edges}

-- ---- times

-- x less y against c is minus y against c less x
module _ (x y c : ℤ) where
  below-there : c <ℤ (x -ℤ y) → (neg_ℤ x +ℤ c) <ℤ neg_ℤ y
  below-there h = lt_at (x ∷ y ∷ c ∷ []) (of_lt h) (search reify depth 30) slk

  below-back : (neg_ℤ x +ℤ c) <ℤ neg_ℤ y → c <ℤ (x -ℤ y)
  below-back h = lt_at (x ∷ y ∷ c ∷ []) (of_lt h) (search reify depth 30) slk

  above-there : (x -ℤ y) <ℤ c → neg_ℤ y <ℤ (neg_ℤ x +ℤ c)
  above-there h = lt_at (x ∷ y ∷ c ∷ []) (of_lt h) (search reify depth 30) slk

  above-back : neg_ℤ y <ℤ (neg_ℤ x +ℤ c) → (x -ℤ y) <ℤ c
  above-back h = lt_at (x ∷ y ∷ c ∷ []) (of_lt h) (search reify depth 30) slk

  below-turned : lt_z c (x -ℤ y) ≡ lt_z (neg_ℤ x +ℤ c) (neg_ℤ y)
  below-turned = same_tests _ _ (λ e. lt→true (below-there (true→lt e))) (λ e. lt→true (below-back (true→lt e)))

  above-turned : lt_z (x -ℤ y) c ≡ lt_z (neg_ℤ y) (neg_ℤ x +ℤ c)
  above-turned = same_tests _ _ (λ e. lt→true (above-there (true→lt e))) (λ e. lt→true (above-back (true→lt e)))

-- .. of pairs
apart-turned : (x y c : ℤ × ℤ) → pairs.less c (x.0 -ℤ y.0, x.1 -ℤ y.1)
    ≡ pairs.less (neg_ℤ x.0 +ℤ c.0, neg_ℤ x.1 +ℤ c.1) (neg_ℤ y.0, neg_ℤ y.1)
apart-turned x y c = ap₂ (λ (l m : Bool). lexicographic l m (lt_z c.1 (x.1 -ℤ y.1)))
    (below-turned x.0 y.0 c.0) (above-turned x.0 y.0 c.0)
    ∙ ap (lexicographic (lt_z (neg_ℤ x.0 +ℤ c.0) (neg_ℤ y.0)) (lt_z (neg_ℤ y.0) (neg_ℤ x.0 +ℤ c.0)))
    (below-turned x.1 y.1 c.1)

module _ (ws after : List ℤ) {room : ℕ} (A : AcceptedTimes ws room) where
  abbrev E : Edges (ℤ × ℤ)
  E = time_edges ws

  -- the row, walked after a shortest walk to its tail, is no shorter than a shortest walk to its head
  times-shown : TimesTold ws after → TimesShown ws after
  times-shown T = record {
    count = T.count;
    met = λ i h. let (u, k, w) = (T.shortest (E.tail i) ((accepted-ends A).tail-in i h)).walk in
        apart-turned (time_in ws after (E.tail i)) (time_in ws after (E.head i)) (E.size i)
        ∙ (T.shortest (E.head i) ((accepted-ends A).head_in i h)).least u (suc k) _ (on i h w);
  }

  -- ---- a cycle

  module _ (C : CycleTold ws after) where
    long : cycle_length after ≡ length C.rows
    long = ap nat_abs C.count

    named : (k : ℕ) → k < length C.rows → row_named after k ≡ row_told C.rows k
    named k h = ap nat_abs (C.listed k h)

    rows_are : rows_named after ≡ C.rows
    rows_are = ap (λ k. table k (row_named after)) long
        ∙ table_same (length C.rows) (row_named after) (row_told C.rows) named ∙ table-all C.rows 0

    -- no rows sum to 0
    some-row : (rows : List ℕ) → BadCycle pairs E rows → 1 ≤ length rows
    unfolding sum_by
    some-row [] B = true-false B.below refl
    some-row (i ∷ rows) B = omega arith

    in_rows : (k : ℕ) → k < length C.rows → (pos 0 ≤ℤ word after (2 + k)) × (word after (2 + k) <ℤ pos (m_of ws))
    in_rows k h = subst (λ z. (pos 0 ≤ℤ z) × (z <ℤ pos (m_of ws))) (sym (C.listed k h)) (
      record { le = le→leb 0 (row_told C.rows k) (omega arith) },
      record { lt = le→leb (suc (row_told C.rows k)) (m_of ws) (C.bad.cycle.listed k h) },
    )

    zeros-past : (k : ℕ) → k < 2 * n_of ws → (k < cycle_length after) ⊎ (word after (2 + k) ≡ pos 0)
    zeros-past k h = go (dec_lt k (length C.rows))
      where
        go : Dec (k < length C.rows) → (k < cycle_length after) ⊎ (word after (2 + k) ≡ pos 0)
        go (yes l) = inl (subst (λ n. k < n) (sym long) l)
        go (no n) = inr (C.zeros k (omega arith) h)

    cycle-shown : CycleShown ws after
    cycle-shown = record {
      some = subst (λ z. pos 1 ≤ℤ z) (sym C.count)
          (record { le = le→leb 1 (length C.rows) (some-row C.rows C.bad) });
      few = subst (λ z. z ≤ℤ pos (n_of ws)) (sym C.count)
          (record { le = le→leb (length C.rows) (n_of ws) C.few });
      rows = λ k h. in_rows k (subst (λ n. k < n) long h);
      bad = subst (BadCycle pairs E) (sym rows_are) C.bad;
      zeros = zeros-past;
    }

pub times-own : (ws before after : List ℤ) → Timed ws before 0 after → checked_times ws after ≡ 8
times-own ws before after x = (times-accepted ws after).1 (taken, go (times-or-cycle ws before after x))
  where
    taken : AcceptedTimes ws (length after)
    taken = subst (AcceptedTimes ws) (sym (times-length ws before 0 after x))
        ((times-accepted-exactly ws (length before)).0 (sym x.refused))

    go : TimesTold ws after ⊎ CycleTold ws after → ShownTimes ws after
    go (inl T) = inl (T.verdict, times-shown ws after taken T)
    go (inr C) = inr (C.verdict, cycle-shown ws after taken C)
