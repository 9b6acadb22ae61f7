-- What the answers to accepted time rows mean.
--   times-few             a small part is not below 0, and below n
--   times-meet            every fraction up to 1 / n, put for the small amount: the times meet every row, a strict one
--                         strictly
--   times-actual          and so does 1 / n itself
--   cycle-no-fractions    where there is a bad cycle no fractions meet all rows
--   one_answer            there are times that meet all rows and no bad cycle, or there is a bad cycle and no fractions
--                         meet all rows
--   times-shortest        each time is minus the shortest distance
use mathlib.Core.Path.{◌≡◌, refl, sym, ◌∙◌, ap, ap₂, subst}
use mathlib.Core.Bool.{Bool, true, false}
use mathlib.Core.List.{List, [], ◌∷◌}
use mathlib.Core.Logic.{◌⊎◌, inl, inr}
use Prim.Native.Nat.{ℕ, zero, suc, ◌<◌}
use native.Mathlib.Omega.{arith}
use lib.Dec.{le→leb}
use lib.IntN.{ℤ, pos, neg_ℤ, neg_ℤ-neg_ℤ, ◌+ℤ◌, ◌-ℤ◌, ◌*ℤ◌}
use lib.ListN.{length}
use lib.Signed.{lt_z, ◌≤ℤ◌, ◌<ℤ◌}
use Rattle.whole.specs.Numbers.{eq_z}
use Rattle.whole.specs.Sums.{sum_by}
use Rattle.whole.specs.Values.{whole, lexicographic, pairs, mixed, total, Lt}
use Rattle.whole.proofs.Values.Beside.{pairs-laws}
use Rattle.whole.proofs.Bools.{either, true-false}
use Rattle.whole.proofs.Values.Instances.{whole-laws}
use Rattle.whole.proofs.Values.Mixed.{mixed-le, mixed-total}
use Rattle.whole.proofs.Ring.Nonneg.{of_le, of_lt, slk, ◌⊞◌, ◌⊠◌}
use Rattle.whole.proofs.Numbers.Order.{true→lt, false→le, lt→true, le→false}
use Rattle.whole.proofs.Ring.Reify.{reify}
use Rattle.whole.proofs.Ring.Tools.{le-at, lt_at}
use Rattle.rules.specs.Problem.{n_of}
use Rattle.rules.specs.Times.Walks.{Edges, EndsIn, Shortest}
use Rattle.rules.specs.Times.Passes.{distance, distances, can_meet}
use Rattle.rules.specs.Times.Cycle.{row_told, Cycle, around, BadCycle}
use Rattle.rules.specs.Times.Words.{strict_word, length_word, AcceptedTimes, time_edges}
use Rattle.rules.specs.Times.Answer.{RowSays, MeetsRows, MeetsSmall, NoFractions, time_of}
use Rattle.rules.proofs.Times.Passes.Still.{bad-no-still}
use Rattle.rules.proofs.Times.Smalls.{NoneOrOne, smalls-few}
use Rattle.rules.proofs.Times.Decide.{can-still, distances-low, can-shortest, cannot-cycle}
use Rattle.rules.proofs.Times.Refused.{vertices-some, accepted-ends, strict-is}

-- ---- a row, and the row as it is read

-- z is at most c less s times e: so a row that is strict is met strictly
pub row_read : (e s z c : ℤ) → pos 0 <ℤ e → (s ≡ pos 0) ⊎ (s ≡ pos 1) → z ≤ℤ (c -ℤ e *ℤ s) → RowSays (eq_z s (pos 1))
    z c
row_read e s z c p (inl q) h =
    subst (λ s. z ≤ℤ (c -ℤ e *ℤ s) → RowSays (eq_z s (pos 1)) z c) (sym q)
    (λ h. le-at (e ∷ z ∷ c ∷ []) (of_le h) (search reify depth 30) slk) h
row_read e s z c p (inr q) h =
    subst (λ s. z ≤ℤ (c -ℤ e *ℤ s) → RowSays (eq_z s (pos 1)) z c) (sym q)
    (λ h. lt_at (e ∷ z ∷ c ∷ []) (of_le h ⊞ of_lt p) (search reify depth 30) slk) h

row_reads : (s z c : ℤ) → (s ≡ pos 0) ⊎ (s ≡ pos 1) → RowSays (eq_z s (pos 1)) z c → z ≤ℤ (c -ℤ s)
row_reads s z c (inl e) h =
    subst (λ s. RowSays (eq_z s (pos 1)) z c → z ≤ℤ (c -ℤ s)) (sym e)
    (λ h. le-at (z ∷ c ∷ []) (of_le h) (search reify depth 30) slk) h
row_reads s z c (inr e) h =
    subst (λ s. RowSays (eq_z s (pos 1)) z c → z ≤ℤ (c -ℤ s)) (sym e)
    (λ h. le-at (z ∷ c ∷ []) (of_lt h) (search reify depth 30) slk) h

-- distances (p, q) and (r, t) and their times, turned round, over k
turned : (e k p q r t c s : ℤ) → (k *ℤ r +ℤ e *ℤ t) ≤ℤ (k *ℤ (p +ℤ c) +ℤ e *ℤ (q +ℤ neg_ℤ s)) →
    ((k *ℤ neg_ℤ p +ℤ e *ℤ neg_ℤ q) -ℤ (k *ℤ neg_ℤ r +ℤ e *ℤ neg_ℤ t)) ≤ℤ ((k *ℤ c) -ℤ e *ℤ s)
turned e k p q r t c s h =
    le-at (e ∷ k ∷ p ∷ q ∷ r ∷ t ∷ c ∷ s ∷ []) (of_le h) (search reify depth 30 fits 20000) slk

turned-back : (x y c : ℤ) → (x -ℤ y) ≤ℤ c → neg_ℤ y ≤ℤ (neg_ℤ x +ℤ c)
turned-back x y c h = le-at (x ∷ y ∷ c ∷ []) (of_le h) (search reify depth 30) slk

-- small parts from 1 - n to 0 differ by less than n, a row's own included
near : (e k n q t s : ℤ) → pos 0 <ℤ e → t ≤ℤ pos 0 → neg_ℤ q <ℤ n → s ≤ℤ pos 1 → (e *ℤ n) ≤ℤ k →
    (e *ℤ (t -ℤ (q +ℤ neg_ℤ s))) ≤ℤ k
near e k n q t s p a b c m =
    le-at (e ∷ k ∷ n ∷ q ∷ t ∷ s ∷ [])
    (of_le m ⊞ of_lt p ⊠ of_le a ⊞ of_le a ⊞ of_lt p ⊠ of_lt b ⊞ of_lt b ⊞ of_lt p ⊠ of_le c ⊞ of_le c)
    (search reify depth 30 fits 20000) slk

k-least : (e k n : ℤ) → pos 0 <ℤ e → pos 0 ≤ℤ n → (e *ℤ n) ≤ℤ k → pos 0 ≤ℤ k
k-least e k n p a m =
    le-at (e ∷ k ∷ n ∷ []) (of_le m ⊞ of_lt p ⊠ of_le a ⊞ of_le a) (search reify depth 30 fits 20000) slk

-- 1 / n itself
pub once : (n : ℤ) → (pos 1 *ℤ n) ≤ℤ n
once n = le-at (n ∷ []) (of_lt zero_one) (search reify depth 30) slk
  where
    zero_one : pos 0 <ℤ pos 1
    zero_one = record { lt = tt }

-- a number that is not below 0, turned round
turned-low : (z : ℤ) → pos 0 ≤ℤ neg_ℤ z → z ≤ℤ pos 0
turned-low z h = le-at (z ∷ []) (of_le h) (search reify depth 30) slk

strict-down : (s : ℤ) → pos 0 ≤ℤ s → neg_ℤ s ≤ℤ pos 0
strict-down s h = le-at (s ∷ []) (of_le h) (search reify depth 30) slk

as-mixed : (z d c s : ℤ) → z ≤ℤ (d *ℤ c -ℤ s) → z ≤ℤ (d *ℤ c +ℤ pos 1 *ℤ neg_ℤ s)
as-mixed z d c s h = le-at (z ∷ d ∷ c ∷ s ∷ []) (of_le h) (search reify depth 30) slk

module _ {ws : List ℤ} {room : ℕ} (A : AcceptedTimes ws room) where
  abbrev E : Edges (ℤ × ℤ)
  E = time_edges ws

  ends : EndsIn E
  ends = accepted-ends A

  abbrev D : ℕ → ℤ × ℤ
  D v = distance pairs E (distances pairs E) v

  pub some-vertex : pos 0 <ℤ pos (n_of ws)
  some-vertex = record { lt = le→leb 1 (n_of ws) (vertices-some A) }

  pub times-shortest : can_meet pairs (time_edges ws) ≡ true → (v : ℕ) →
      Shortest pairs (time_edges ws) v (neg_ℤ (time_of ws v).0, neg_ℤ (time_of ws v).1)
  times-shortest e v =
      subst (Shortest pairs E v) (sym (ap₂ (λ a b. (a, b)) (neg_ℤ-neg_ℤ (D v).0) (neg_ℤ-neg_ℤ (D v).1)))
      (can-shortest pairs-laws E ends e v)

  -- ---- times

  none-or-one : (i : ℕ) → i < E.count → NoneOrOne (E.size i).1
  none-or-one i h = go (strict-is A i h)
    where
      go : (strict_word ws i ≡ pos 0) ⊎ (strict_word ws i ≡ pos 1) → NoneOrOne (E.size i).1
      go (inl e) = inl (ap neg_ℤ e)
      go (inr e) = inr (ap neg_ℤ e)

  module _ (can : can_meet pairs (time_edges ws) ≡ true) where
    pub times-few : (v : ℕ) → v < n_of ws → (pos 0 ≤ℤ (time_of ws v).1) × ((time_of ws v).1 <ℤ pos (n_of ws))
    times-few v h =
        let q = smalls-few E ends none-or-one D (can-still pairs-laws E ends can) (distances-low pairs-laws E ends) v h
        (can-shortest pairs-laws E ends can v).walk in
        let e : (time_of ws v).1 ≡ pos q.0 = ap neg_ℤ q.2 ∙ neg_ℤ-neg_ℤ (pos q.0) in (
          subst (λ z. pos 0 ≤ℤ z) (sym e) (record { le = le→leb 0 q.0 (omega arith) }),
          subst (λ z. z <ℤ pos (n_of ws)) (sym e) (record { lt = le→leb (suc q.0) (n_of ws) q.1 }),
        )

    pub times-meet : MeetsSmall ws (time_of ws)
    times-meet e k p m i h =
        let x : ℤ × ℤ = D (E.tail i) in
        let y : ℤ × ℤ = D (E.head i) in
        row_read e (strict_word ws i) _ (k *ℤ length_word ws i) p (strict-is A i h)
        (turned e k x.0 x.1 y.0 y.1 (length_word ws i) (strict_word ws i)
        (mixed-le e k p y (pairs.plus x (E.size i))
        (k-least e k (pos (n_of ws)) p (record { le = le→leb 0 (n_of ws) (omega arith) }) m)
        (near e k (pos (n_of ws)) x.1 y.1 (strict_word ws i) p
        (turned-low y.1 (times-few (E.head i) (ends.head_in i h)).0)
        (times-few (E.tail i) (ends.tail-in i h)).1 (A.strict-most i h) m)
        (can-still pairs-laws E ends can i h)))

    pub times-actual : MeetsRows ws (pos (n_of ws)) (λ v. mixed (pos 1) (pos (n_of ws)) (time_of ws v))
    times-actual = times-meet (pos 1) (pos (n_of ws)) (record { lt = tt }) (once (pos (n_of ws)))

  -- ---- a bad cycle

  -- the rows with lengths over d: the fractions t v / d meet a row exactly where t meets it so
  abbrev over : ℤ → Edges ℤ
  over d = record {
    vertices = E.vertices;
    count = E.count;
    tail = E.tail;
    head = E.head;
    size = λ i. mixed (pos 1) d (E.size i);
  }

  small-most : (n : ℕ) (f : ℕ → ℤ × ℤ) → ((i : ℕ) → i < n → (f i).1 ≤ℤ pos 0) → (total pairs n f).1 ≤ℤ pos 0
  unfolding sum_by
  small-most zero f h = record { le = tt }
  small-most (suc n) f h =
      both (total pairs n f).1 (f n).1 (small-most n f (λ i l. h i (omega arith))) (h n (omega arith))
    where
      both : (a b : ℤ) → a ≤ℤ pos 0 → b ≤ℤ pos 0 → (a +ℤ b) ≤ℤ pos 0
      both a b h k = le-at (a ∷ b ∷ []) (of_le h ⊞ of_le k) (search reify depth 30) slk

  below-over : (d : ℤ) (z : ℤ × ℤ) → pos 0 <ℤ d → z.1 ≤ℤ pos 0 → Lt pairs z (pos 0, pos 0) → mixed (pos 1) d z <ℤ pos 0
  below-over d z h s l = go (lt_z z.0 (pos 0)) refl (lt_z (pos 0) z.0) refl l
    where
      plainly : (x y : ℤ) → x <ℤ pos 0 → y ≤ℤ pos 0 → (d *ℤ x +ℤ pos 1 *ℤ y) <ℤ pos 0
      plainly x y a b =
          lt_at (d ∷ x ∷ y ∷ []) (of_lt h ⊠ of_lt a ⊞ of_lt h ⊞ of_lt a ⊞ of_le b)
          (search reify depth 30 fits 20000) slk

      barely : (x y : ℤ) → x ≤ℤ pos 0 → y <ℤ pos 0 → (d *ℤ x +ℤ pos 1 *ℤ y) <ℤ pos 0
      barely x y a b =
          lt_at (d ∷ x ∷ y ∷ []) (of_lt h ⊠ of_le a ⊞ of_le a ⊞ of_lt b) (search reify depth 30 fits 20000) slk

      go : (a : Bool) → lt_z z.0 (pos 0) ≡ a → (b : Bool) → lt_z (pos 0) z.0 ≡ b →
          lexicographic a b (lt_z z.1 (pos 0)) ≡ true → mixed (pos 1) d z <ℤ pos 0
      go true p b q k = plainly z.0 z.1 (true→lt {a = z.0} {b = pos 0} p) s
      go false p true q k = true-false k refl
      go false p false q k =
          barely z.0 z.1 (false→le {a = z.0} {b = pos 0} q) (true→lt {a = z.1} {b = pos 0} k)

  pub cycle-no-fractions : (rows : List ℕ) → BadCycle pairs (time_edges ws) rows → NoFractions ws
  cycle-no-fractions rows b d h t m = bad-no-still whole-laws (over d) rows bad (λ v. neg_ℤ (t v)) (λ i k.
      le→false {a = neg_ℤ (t (E.head i))} {b = neg_ℤ (t (E.tail i)) +ℤ mixed (pos 1) d (E.size i)}
      (turned-back (t (E.tail i)) (t (E.head i)) (mixed (pos 1) d (E.size i))
      (as-mixed _ d (length_word ws i) (strict_word ws i)
      (row_reads (strict_word ws i) _ (d *ℤ length_word ws i) (strict-is A i k) (m i k)))))
    where
      c : Cycle E rows
      c = b.cycle

      sum_low : (around pairs E rows).1 ≤ℤ pos 0
      sum_low =
          small-most (length rows) (λ k. E.size (row_told rows k))
          (λ k l. strict-down (strict_word ws (row_told rows k)) (A.strict-least (row_told rows k) (c.listed k l)))

      bad : BadCycle whole (over d) rows
      bad = record {
        cycle = record { listed = c.listed; linked = c.linked; closed = c.closed; apart = c.apart };
        below = subst (λ z. Lt whole z (pos 0))
            (sym (mixed-total (pos 1) d (length rows) (λ k. E.size (row_told rows k))))
            (lt→true (below-over d (around pairs E rows) h sum_low b.below));
      }

  -- ---- exactly one of the two

  pub one_answer : (MeetsSmall ws (time_of ws) × ((rows : List ℕ) → ¬ BadCycle pairs (time_edges ws) rows))
      ⊎ (((rows : List ℕ) × BadCycle pairs (time_edges ws) rows) × NoFractions ws)
  one_answer = go (either (can_meet pairs E))
    where
      go : (can_meet pairs E ≡ true) ⊎ (can_meet pairs E ≡ false) →
          (MeetsSmall ws (time_of ws) × ((rows : List ℕ) → ¬ BadCycle pairs E rows))
          ⊎ (((rows : List ℕ) × BadCycle pairs E rows) × NoFractions ws)
      go (inl e) = inl (
        times-meet e,
        λ rows b.
            cycle-no-fractions rows b (pos (n_of ws)) some-vertex (λ v. mixed (pos 1) (pos (n_of ws)) (time_of ws v))
            (times-actual e),
      )
      go (inr e) = let c = cannot-cycle pairs-laws E ends e in inr (c, cycle-no-fractions c.0 c.1)
