-- docs/RULES.md, "Time rows", the table of refusals, line by line: each test is true exactly where its line applies
-- (`times_table` of specs/Times/Words), and the refusal is the first that applies.
--   times-refusal-exactly         the refusal is k exactly where no earlier line's meaning holds and line k's does, and
--                                 0 where none does
--   times-accepted-exactly        it is 0 exactly for accepted words with room enough
--   accepted-ends, vertices-few, ..      what accepted words hold, as facts about their sizes and their edges
use mathlib.Core.Path.{◌≡◌}
use mathlib.Core.List.{List}
use mathlib.Core.Logic.{◌↔◌, ◌≢◌, ◌⊎◌, inl, inr}
use Prim.Native.Nat.{ℕ, zero, suc, ◌+◌, ◌*◌, ◌-◌, ◌≤◌, ◌<◌}
use native.Mathlib.Omega.{arith}
use lib.IntN.{ℤ, pos, nat_abs}
use lib.ListN.{length}
use lib.Signed.{◌≤ℤ◌}
use Rattle.whole.specs.Numbers.{Within}
use Rattle.whole.specs.Tells.{Tells}
use Rattle.whole.proofs.Tells.{tells-eq, tells-lt, tells-not, tells-or, tells-outside, tells-some, tells-within}
use Rattle.whole.proofs.Numbers.Tests.{above, own-size, under-size}
use Rattle.rules.specs.Sizes.{most_vertices, most_time_rows, largest_length}
use Rattle.rules.specs.Problem.{word, n_of, m_of}
use Rattle.rules.specs.Times.Walks.{EndsIn}
use Rattle.rules.specs.Times.Words.{from_word, to_word, strict_word, length_word, times_length, bad_time_size}
use Rattle.rules.specs.Times.Words.{bad_word_count, bad_end, bad_strict, bad_row_length, no_room, time_tests}
use Rattle.rules.specs.Times.Words.{time_refusal}
use Rattle.rules.specs.Times.Words.{AcceptedTimes, time_edges, times_table}
use Rattle.rules.proofs.Refusal.First.{Tested, first-exactly, first_fine, no_test, tested}
use Rattle.rules.proofs.Refusal.Exactly.{few-tells}
use Rattle.rules.specs.Facts.Refusal.{AllFine, First, InRange, OutOfRange}

module _ (ws : List ℤ) where
  pub times-size-tells : Tells (bad_time_size ws)
      (OutOfRange 1 most_vertices (word ws 0) ⊎ OutOfRange 0 most_time_rows (word ws 1))
      (InRange 1 most_vertices (word ws 0) × InRange 0 most_time_rows (word ws 1))
  unfolding bad_time_size
  times-size-tells = tells-or (tells-outside 1 most_vertices (word ws 0)) (tells-outside 0 most_time_rows (word ws 1))

  count-tells : Tells (bad_word_count ws) (length ws ≢ 2 + 4 * m_of ws) (length ws ≡ 2 + 4 * m_of ws)
  unfolding bad_word_count
  count-tells = tells-not (tells-eq (length ws) (2 + 4 * m_of ws))

  -- of one row
  end-tells : (i : ℕ) →
      Tells (bad_end ws i) (OutOfRange 0 (n_of ws - 1) (from_word ws i) ⊎ OutOfRange 0 (n_of ws - 1) (to_word ws i))
      (InRange 0 (n_of ws - 1) (from_word ws i) × InRange 0 (n_of ws - 1) (to_word ws i))
  unfolding bad_end
  end-tells i = tells-or (tells-outside 0 (n_of ws - 1) (from_word ws i)) (tells-outside 0 (n_of ws - 1) (to_word ws i))

  strict-tells : (i : ℕ) → Tells (bad_strict ws i) (OutOfRange 0 1 (strict_word ws i)) (InRange 0 1 (strict_word ws i))
  unfolding bad_strict
  strict-tells i = tells-outside 0 1 (strict_word ws i)

  span-tells : (i : ℕ) →
      Tells (bad_row_length ws i) (¬ Within (length_word ws i) largest_length)
      (Within (length_word ws i) largest_length)
  unfolding bad_row_length
  span-tells i = tells-not (tells-within largest_length (length_word ws i))

  times-room-tells : (room : ℕ) → Tells (no_room ws room) (room < times_length ws) (times_length ws ≤ room)
  unfolding no_room
  times-room-tells room = tells-lt room (times_length ws)

-- ---- the table

pub times-tested : (ws : List ℤ) (room : ℕ) → Tested (time_tests ws room) (times_table ws room)
unfolding time_tests
times-tested ws room =
    tested (few-tells ws) (tested (times-size-tells ws) (tested (count-tells ws)
    (tested (tells-some (m_of ws) (bad_end ws) (λ i h. end-tells ws i))
    (tested (tells-some (m_of ws) (bad_strict ws) (λ i h. strict-tells ws i))
    (tested (tells-some (m_of ws) (bad_row_length ws) (λ i h. span-tells ws i))
    (tested (times-room-tells ws room) no_test))))))

pub times-refusal-exactly : (ws : List ℤ) (room k : ℕ) → (time_refusal ws room ≡ k) ↔ First (times_table ws room) k
unfolding time_refusal
times-refusal-exactly ws room k = first-exactly (times-tested ws room) k

fine-accepted : (ws : List ℤ) (room : ℕ) → AllFine (times_table ws room) → AcceptedTimes ws room
fine-accepted ws room (few, (size, (exact, (ends, (stricts, (lengths, (fits, end))))))) = record {
  enough = few;
  n-least = size.0.0;
  n-most = size.0.1;
  m-least = size.1.0;
  m-most = size.1.1;
  exact = exact;
  from-least = λ i h. (ends i h).0.0;
  from-most = λ i h. (ends i h).0.1;
  to-least = λ i h. (ends i h).1.0;
  to-most = λ i h. (ends i h).1.1;
  strict-least = λ i h. (stricts i h).0;
  strict-most = λ i h. (stricts i h).1;
  lengths = lengths;
  roomy = fits;
}

accepted-fine : (ws : List ℤ) (room : ℕ) → AcceptedTimes ws room → AllFine (times_table ws room)
accepted-fine ws room A = (
  A.enough,
  (
    ((A.n-least, A.n-most), (A.m-least, A.m-most)),
    (
      A.exact,
      (
        λ i h. ((A.from-least i h, A.from-most i h), (A.to-least i h, A.to-most i h)),
        ((λ i h. (A.strict-least i h, A.strict-most i h)), (A.lengths, (A.roomy, tt))),
      ),
    ),
  ),
)

pub times-accepted-exactly : (ws : List ℤ) (room : ℕ) → (time_refusal ws room ≡ 0) ↔ AcceptedTimes ws room
unfolding time_refusal
times-accepted-exactly ws room = let r = first_fine (times-tested ws room) (omega arith) in
    (λ e. fine-accepted ws room (r.0 e), λ A. r.1 (accepted-fine ws room A))

-- ---- what accepted words hold

-- s is 0 or 1
zero-or-one : (s : ℤ) → pos 0 ≤ℤ s → s ≤ℤ pos 1 → (s ≡ pos 0) ⊎ (s ≡ pos 1)
zero-or-one s h k = go (nat_abs s) (own-size 0 s h) (under-size 1 0 s h k)
  where
    go : (n : ℕ) → s ≡ pos n → n ≤ 1 → (s ≡ pos 0) ⊎ (s ≡ pos 1)
    go zero e l = inl e
    go (suc zero) e l = inr e
    go (suc (suc n)) e l = absurd (omega arith)

module _ {ws : List ℤ} {room : ℕ} (A : AcceptedTimes ws room) where
  pub vertices-some : 1 ≤ n_of ws
  vertices-some = above 1 (word ws 0) A.n-least

  pub vertices-few : n_of ws ≤ most_vertices
  vertices-few = under-size most_vertices 1 (word ws 0) A.n-least A.n-most

  pub time-rows-few : m_of ws ≤ most_time_rows
  time-rows-few = under-size most_time_rows 0 (word ws 1) A.m-least A.m-most

  pub accepted-ends : EndsIn (time_edges ws)
  accepted-ends = record {
    tail-in = λ i h. let k : nat_abs (from_word ws i) ≤ n_of ws - 1 =
        under-size (n_of ws - 1) 0 _ (A.from-least i h) (A.from-most i h) in omega (arith, vertices-some);
    head_in = λ i h. let k : nat_abs (to_word ws i) ≤ n_of ws - 1 =
        under-size (n_of ws - 1) 0 _ (A.to-least i h) (A.to-most i h) in omega (arith, vertices-some);
  }

  pub strict-within : (i : ℕ) → i < m_of ws → Within (strict_word ws i) 1
  strict-within i h = record { within = under-size 1 0 (strict_word ws i) (A.strict-least i h) (A.strict-most i h) }

  pub strict-is : (i : ℕ) → i < m_of ws → (strict_word ws i ≡ pos 0) ⊎ (strict_word ws i ≡ pos 1)
  strict-is i h = zero-or-one (strict_word ws i) (A.strict-least i h) (A.strict-most i h)
