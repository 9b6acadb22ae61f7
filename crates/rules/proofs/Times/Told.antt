-- What the words of an answered output of time rows say, by word 0.
--   times-told      it is 1: n, and times that meet every row, with any small enough fraction for the small amount
--   cycle-told      it is 2: k and the rows of a bad cycle; no fractions meet all rows
--   times-or-cycle  it is one of the two
--   told-only       two outputs that the promise allows are equal, or both name a bad cycle and agree past it
use mathlib.Core.Path.{◌≡◌, refl, sym, ◌∙◌, ap, ap₂, subst, subst₂}
use mathlib.Core.Bool.{true, false}
use mathlib.Core.List.{List, ◌∷◌, ◌++◌, map}
use mathlib.Core.Logic.{◌⊎◌, inl, inr}
use Prim.Native.Nat.{ℕ, suc, ◌+◌, ◌*◌, ◌-◌, ◌≤◌, ◌<◌}
use native.Mathlib.Omega.{arith}
use lib.IntN.{ℤ, pos, nat_abs, neg_ℤ, ◌-ℤ◌, ◌*ℤ◌}
use lib.ListN.{length, drop, replicate, length-map, get_or-replicate, get_or-append, get_or-map}
use lib.Seq.{get_or-append-add}
use lib.Signed.{◌≤ℤ◌, ◌<ℤ◌}
use Rattle.whole.specs.Numbers.{eq_z}
use Rattle.whole.specs.Values.{pairs, mixed}
use Rattle.whole.proofs.Bools.{either}
use Rattle.rules.specs.Problem.{n_of, word}
use Rattle.rules.specs.Times.Walks.{Shortest}
use Rattle.rules.specs.Times.Passes.{distances, can_meet}
use Rattle.rules.specs.Times.Cycle.{BadCycle, row_told}
use Rattle.rules.specs.Times.Words.{times_length, AcceptedTimes, time_edges, strict_word, length_word}
use Rattle.rules.specs.Times.Answer.{plain_time, small_time, times_of, cycle_words, times_answer, times_written, Timed}
use Rattle.rules.specs.Times.Answer.{RowSays, MeetsSmall, time_in, TimesTold, CycleTold, BothNamed, time_of}
use Rattle.rules.proofs.Times.Decide.{cycle-short}
use Rattle.rules.proofs.Times.Means.{some-vertex, once, times-few, times-meet, times-shortest}
use Rattle.rules.proofs.Times.Means.{cycle-no-fractions}
use Rattle.rules.proofs.Times.Unique.{times-only, answer-can, answer-cannot, half-long, times_long, times-length}
use Rattle.rules.proofs.Times.Unique.{Free, times-past, cycle-long}
use Rattle.rules.proofs.Times.Refused.{accepted-ends, times-accepted-exactly}

-- past the first two words
later : (a b : ℤ) (l : List ℤ) (k : ℕ) → word (a ∷ b ∷ l) (2 + k) ≡ word l k
later a b l k = ap (word (a ∷ b ∷ l)) (let z : 2 + k ≡ suc (suc k) = omega arith in z)

module _ (ws before after : List ℤ) (x : Timed ws before 0 after) where
  A : AcceptedTimes ws (length before)
  A = (times-accepted-exactly ws (length before)).0 (sym x.refused)

  rest : List ℤ
  rest = drop (times_length ws) before

  is : after ≡ times_answer ws x.rows ++ rest
  unfolding times_written rest
  is = x.written

  long : times_length ws ≤ length after
  long = omega (arith, times-length ws before 0 after x, A.roomy)

  -- ---- times

  module _ (e : can_meet pairs (time_edges ws) ≡ true) where
    met : after ≡ pos 1 ∷ pos (n_of ws) ∷ times_of ws ++ rest
    met = is ∙ ap (λ l. l ++ rest) (answer-can ws x.rows e)

    -- the words of both halves
    abbrev plains : List ℤ
    plains = map plain_time (distances pairs (time_edges ws))

    abbrev smalls : List ℤ
    smalls = map small_time (distances pairs (time_edges ws))

    word-at : (k : ℕ) → k < 2 * n_of ws → word after (2 + k) ≡ word (plains ++ smalls) k
    unfolding times_of
    word-at k h = ap (λ l. word l (2 + k)) met ∙ later (pos 1) (pos (n_of ws)) (times_of ws ++ rest) k
        ∙ get_or-append (times_of ws) rest (pos 0) k (omega (arith, times_long A))

    plain_at_lem : (v : ℕ) → v < n_of ws → (time_of ws v).0 ≡ word after (2 + v)
    plain_at_lem v h = sym (word-at v (omega arith)
        ∙ get_or-append plains smalls (pos 0) v (omega (arith, half-long A plain_time))
        ∙ get_or-map plain_time (distances pairs (time_edges ws)) v pairs.nil)

    small_at_lem : (v : ℕ) → v < n_of ws → (time_of ws v).1 ≡ word after (2 + n_of ws + v)
    small_at_lem v h = sym (ap (word after) (let z : 2 + n_of ws + v ≡ 2 + (n_of ws + v) = omega arith in z)
        ∙ word-at (n_of ws + v) (omega arith)
        ∙ ap (λ n. word (plains ++ smalls) (n + v)) (sym (half-long A plain_time))
        ∙ get_or-append-add plains smalls v (pos 0)
        ∙ get_or-map small_time (distances pairs (time_edges ws)) v pairs.nil)

    time-at : (v : ℕ) → v < n_of ws → time_of ws v ≡ time_in ws after v
    time-at v h = ap₂ (λ a b. (a, b)) (plain_at_lem v h) (small_at_lem v h)

    meets : MeetsSmall ws (time_in ws after)
    meets d k p m i h = subst₂
        (λ a b. RowSays (eq_z (strict_word ws i) (pos 1)) (mixed d k a -ℤ mixed d k b) (k *ℤ length_word ws i))
        (time-at _ ((accepted-ends A).tail-in i h)) (time-at _ ((accepted-ends A).head_in i h))
        (times-meet A e d k p m i h)

    told-times : TimesTold ws after
    told-times = record {
      long = long;
      verdict = ap (λ l. word l 0) met;
      count = ap (λ l. word l 1) met;
      small = λ v h. subst (λ t. (pos 0 ≤ℤ t.1) × (t.1 <ℤ pos (n_of ws))) (time-at v h) (times-few A e v h);
      meet = meets;
      some = some-vertex A;
      actual = meets (pos 1) (pos (n_of ws)) (record { lt = tt }) (once (pos (n_of ws)));
      shortest = λ v h.
          subst (λ t. Shortest pairs (time_edges ws) v (neg_ℤ t.0, neg_ℤ t.1)) (time-at v h) (times-shortest A e v);
    }

  -- ---- a cycle

  module _ (e : can_meet pairs (time_edges ws) ≡ false) where
    unmet : after ≡ pos 2 ∷ pos (length x.rows) ∷ cycle_words (2 * n_of ws) x.rows ++ rest
    unmet = is ∙ ap (λ l. l ++ rest) (answer-cannot ws x.rows e)

    bad : BadCycle pairs (time_edges ws) x.rows
    bad = x.named refl e

    few : length x.rows ≤ n_of ws
    few = cycle-short (time_edges ws) x.rows (accepted-ends A) bad.cycle

    -- a word of the cycle's part
    part_at : (k : ℕ) → k < 2 * n_of ws → word after (2 + k) ≡ word (cycle_words (2 * n_of ws) x.rows) k
    part_at k h = ap (λ l. word l (2 + k)) unmet
        ∙ later (pos 2) (pos (length x.rows)) (cycle_words (2 * n_of ws) x.rows ++ rest) k
        ∙ get_or-append (cycle_words (2 * n_of ws) x.rows) rest (pos 0) k
        (omega (arith, cycle-long A x.rows bad))

    listed : (k : ℕ) → k < length x.rows → word after (2 + k) ≡ pos (row_told x.rows k)
    unfolding cycle_words
    listed k h = part_at k (omega (arith, few))
        ∙ get_or-append (map pos x.rows) (replicate (2 * n_of ws - length x.rows) (pos 0)) (pos 0) k
        (omega (arith, length-map x.rows pos))
        ∙ get_or-map pos x.rows k 0

    zeros : (k : ℕ) → length x.rows ≤ k → k < 2 * n_of ws → word after (2 + k) ≡ pos 0
    unfolding cycle_words
    zeros k l h = part_at k h
        ∙ ap (word (map pos x.rows ++ replicate (2 * n_of ws - length x.rows) (pos 0))) place
        ∙ get_or-append-add (map pos x.rows) (replicate (2 * n_of ws - length x.rows) (pos 0))
        (k - length x.rows) (pos 0)
        ∙ get_or-replicate (2 * n_of ws - length x.rows) (k - length x.rows) (pos 0) (pos 0) (omega arith)
      where
        place : k ≡ length (map pos x.rows) + (k - length x.rows)
        place = omega (arith, length-map x.rows pos)

    told-cycle : CycleTold ws after
    told-cycle = record {
      long = long;
      rows = x.rows;
      bad = bad;
      verdict = ap (λ l. word l 0) unmet;
      count = ap (λ l. word l 1) unmet;
      few = few;
      listed = listed;
      zeros = zeros;
      no-fractions = cycle-no-fractions A x.rows bad;
    }

  -- ---- by word 0

  pub times-or-cycle : TimesTold ws after ⊎ CycleTold ws after
  times-or-cycle = go (either (can_meet pairs (time_edges ws)))
    where
      go : (can_meet pairs (time_edges ws) ≡ true) ⊎ (can_meet pairs (time_edges ws) ≡ false) →
          TimesTold ws after ⊎ CycleTold ws after
      go (inl e) = inl (told-times e)
      go (inr e) = inr (told-cycle e)

  one-two : {B : Type 0} → word after 0 ≡ pos 1 → word after 0 ≡ pos 2 → B
  one-two p q = let z : ◌≡◌ {A = ℕ} 1 2 = ap nat_abs (sym p ∙ q) in absurd (omega arith)

  pub times-told : word after 0 ≡ pos 1 → TimesTold ws after
  times-told e = go times-or-cycle
    where
      go : TimesTold ws after ⊎ CycleTold ws after → TimesTold ws after
      go (inl t) = t
      go (inr c) = one-two e c.verdict

  pub cycle-told : word after 0 ≡ pos 2 → CycleTold ws after
  cycle-told e = go times-or-cycle
    where
      go : TimesTold ws after ⊎ CycleTold ws after → CycleTold ws after
      go (inl t) = one-two t.verdict e
      go (inr c) = c

-- ---- what is left free

pub told-only : (ws before : List ℤ) (r q : ℕ) (a c : List ℤ) → Timed ws before r a → Timed ws before q c →
    (r ≡ q) × ((a ≡ c) ⊎ BothNamed ws r a c)
told-only ws before r q a c x y = let o = times-only ws before r q a c x y in (o.0, go o.0 o.1)
  where
    go : r ≡ q → (a ≡ c) ⊎ Free ws r x.rows y.rows → (a ≡ c) ⊎ BothNamed ws r a c
    go n (inl e) = inl e
    go n (inr f) = inr (record {
      answered = f.answered;
      one = told-cycle ws before a (subst (λ k. Timed ws before k a) f.answered x) f.cannot;
      another = told-cycle ws before c (subst (λ k. Timed ws before k c) (sym n ∙ f.answered) y) f.cannot;
      as_long = times-length ws before r a x ∙ sym (times-length ws before q c y);
      past = times-past ws before r a x ∙ sym (times-past ws before q c y);
    })
