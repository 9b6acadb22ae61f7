-- What is wrong with the rows.
--   faulty-start, faulty-more      no row; a row more
--   last-vertex                    the last vertex
--   rows-kept, rows-passed         refusals 14 to 16 before the last
--   outside-read                   a word that was read, against its range
--   rows-fine                      no row is refused
--   first-none                     no test is left
--   too-long, framed, to-rows      the words are not as many as they should be; where they are, the rows are next
use Rattle.std.proofs.Common.{◌≡◌, refl, sym, ◌∙◌, ap, ap₂, Bool, true, false, not, ◌||◌, List, [], ◌∷◌, ℕ, zero, suc}
use Rattle.std.proofs.Common.{◌+◌, ◌*◌, ◌-◌, ◌≤◌, ◌≢◌, length}
use Rattle.std.proofs.Common.{ℤ, pos, negsuc, ◌-ℤ◌, ◌≤ℤ◌, arith}
use lib.IntN.{nat_abs}
use lib.Signed.{lt_z}
use native.Mathlib.Numerals.{add-one}
use borrow.Author.Tests.{eq-eqb, ne_eqb, le-ltb}
use Rattle.whole.specs.Below.{some_below}
use Rattle.whole.specs.Numbers.{outside}
use Rattle.whole.proofs.Lists.Below.{some-start, some_more}
use Rattle.whole.proofs.Ring.Nonneg.{sub-ge}
use Rattle.whole.proofs.Numbers.Tests.{under-size}
use Rattle.rules.specs.Facts.Refusal.{InRange}
use Rattle.rules.specs.Problem.{m_of, n_of, word}
use Rattle.rules.specs.Refusal.{first, too_few}
use Rattle.rules.specs.Sizes.{most_time_rows, most_vertices}
use Rattle.rules.specs.Times.Words.{bad_end, bad_row_length, bad_strict, bad_time_size, bad_word_count, no_room}
use Rattle.rules.specs.Times.Words.{row_tests, time_refusal, time_tests}
use Rattle.rules.proofs.Refusal.First.{first-hit, first-kept, first-passed, first-skip}
use Rattle.rules.proofs.Times.Refused.{times-size-tells}
use Rattle.timerows.specs.Judged.{Faulty, TimeFramed}

module _ (ws : List ℤ) where
  pub faulty-start : Faulty ws 0 false false false
  faulty-start = record {
    ends = sym (some-start (bad_end ws));
    stricts = sym (some-start (bad_strict ws));
    lengths = sym (some-start (bad_row_length ws));
  }

  or-assoc : (a b c : Bool) → ((a || b) || c) ≡ (a || (b || c))
  or-assoc true b c = refl
  or-assoc false b c = refl

  pub faulty-more : {a b c : Bool} (i : ℕ) → Faulty ws i a b c → (x y s l : Bool) → (x || y) ≡ bad_end ws i →
      s ≡ bad_strict ws i → l ≡ bad_row_length ws i → Faulty ws (i + 1) ((a || x) || y) (b || s) (c || l)
  faulty-more {a} i F x y s l e f g = rw add-one record {
    ends = or-assoc a x y ∙ ap₂ (λ (p q : Bool). p || q) F.ends e ∙ sym (some_more i (bad_end ws));
    stricts = ap₂ (λ (p q : Bool). p || q) F.stricts f ∙ sym (some_more i (bad_strict ws));
    lengths = ap₂ (λ (p q : Bool). p || q) F.lengths g ∙ sym (some_more i (bad_row_length ws));
  }

  -- refusals 14 to 16, and what comes after them
  pub rows-kept : (m : ℕ) (after : List (Bool × ℕ)) → first (row_tests ws m []) ≢ 0 →
      first (row_tests ws m after) ≡ first (row_tests ws m [])
  rows-kept m after n = go (first (row_tests ws m [])) refl
    where
      go : (k : ℕ) → first (row_tests ws m []) ≡ k → first (row_tests ws m after) ≡ first (row_tests ws m [])
      go zero e = absurd (n e)
      go (suc k) e = first-kept (row_tests ws m []) after k e ∙ sym e

  pub rows-passed : (m : ℕ) (after : List (Bool × ℕ)) → first (row_tests ws m []) ≡ 0 →
      first (row_tests ws m after) ≡ first after
  rows-passed m after e = first-passed 16 (row_tests ws m []) after
      (omega arith, omega arith, (omega arith, omega arith, (omega arith, omega arith, tt))) e

-- one less than a number from 1 on
pub last-vertex : (z : ℤ) → pos 1 ≤ℤ z → z -ℤ pos 1 ≡ pos (nat_abs z - 1)
last-vertex (pos zero) h = absurd h.le
last-vertex (pos (suc a)) h = sub-ge (suc a) 1 (suc a - 1) (omega arith)
last-vertex (negsuc a) h = absurd h.le

-- an end, a strict word: what was read against 0 and the most that it may be
pub outside-read : (r : Bool) (u z last : ℤ) (k : ℕ) → u ≡ z → last ≡ pos k →
    r ≡ (lt_z u (pos 0) || lt_z last u) → r ≡ outside 0 k z
unfolding outside
outside-read r u z last k e f h = h ∙ ap₂ (λ x y. lt_z x (pos 0) || lt_z y x) e f

-- ---- one test after the other

pub first-none : first [] ≡ 0
unfolding first
first-none = refl

module _ (ws : List ℤ) where
  pub rows-fine : {a b c : Bool} (m : ℕ) → Faulty ws m a b c → a ≡ false → b ≡ false → c ≡ false →
      first (row_tests ws m []) ≡ 0
  unfolding first
  rows-fine m F p q r =
      first-skip 14 ((some_below m (bad_strict ws), 15) ∷ (some_below m (bad_row_length ws), 16) ∷ []) (sym F.ends ∙ p)
      ∙ first-skip 15 ((some_below m (bad_row_length ws), 16) ∷ []) (sym F.stricts ∙ q)
      ∙ first-skip 16 [] (sym F.lengths ∙ r)

  module _ (enough : 2 ≤ length ws) (sized : bad_time_size ws ≡ false) where
    sizes : InRange 1 most_vertices (word ws 0) × InRange 0 most_time_rows (word ws 1)
    sizes = (times-size-tells ws).if-false sized

    pub n-least : pos 1 ≤ℤ word ws 0
    n-least = sizes.0.0

    pub vertices-fit : n_of ws ≤ most_vertices
    vertices-fit = under-size most_vertices 1 (word ws 0) sizes.0.0 sizes.0.1

    pub m-least : pos 0 ≤ℤ word ws 1
    m-least = sizes.1.0

    pub rows-fit : m_of ws ≤ most_time_rows
    rows-fit = under-size most_time_rows 0 (word ws 1) sizes.1.0 sizes.1.1

    pub too-long : (room : ℕ) → length ws ≢ 2 + 4 * m_of ws → time_refusal ws room ≡ 13
    unfolding time_refusal time_tests too_few bad_word_count
    too-long room n = first-skip 11 _ (le-ltb _ _ enough) ∙ first-skip 12 _ sized
        ∙ first-hit 13 _ (ap not (ne_eqb _ _ n))

    module _ (exact : length ws ≡ 2 + 4 * m_of ws) where
      pub framed : TimeFramed ws
      framed = record {
        n-least = n-least;
        n-few = vertices-fit;
        m-few = rows-fit;
        exact = exact;
      }

      pub to-rows : (room : ℕ) → time_refusal ws room ≡ first (row_tests ws (m_of ws) ((no_room ws room, 17) ∷ []))
      unfolding time_refusal time_tests too_few bad_word_count
      to-rows room = first-skip 11 _ (le-ltb _ _ enough) ∙ first-skip 12 _ sized
          ∙ first-skip 13 _ (ap not (eq-eqb _ _ exact))
