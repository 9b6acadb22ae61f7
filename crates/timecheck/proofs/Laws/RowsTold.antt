-- A cycle that an answer names, once its words are known to be rows.
--   RowsTold            what is known then
--   outside-told, rows-told, rows-known    the count of rows as the code reads it, and their words
--   names-told, cycle-tests     what the rows may be asked, and the rule as the tests that are left
use Rattle.std.proofs.Common.{◌≡◌, sym, ◌∙◌, ap, ap₂, Bool, true, false, ◌&&◌, ◌||◌, List, ℕ, ◌*◌, ◌≤◌}
use Rattle.std.proofs.Common.{ℤ, pos, ◌≤ℤ◌, length, to_z, of_z, w64, arith}
use lib.IntN.{nat_abs}
use lib.Signed.{lt_z}
use mir.Facts.{to_z-of_z}
use mir.Val.{SFits}
use Rattle.whole.specs.Below.{all_below}
use Rattle.whole.specs.Numbers.{outside}
use Rattle.whole.proofs.Numbers.Sizes.{fits-abs}
use Rattle.whole.proofs.Numbers.Tests.{above, under-size}
use Rattle.whole.proofs.Tells.{tells-outside}
use Rattle.rules.proofs.Times.Refused.{time-rows-few, vertices-few}
use Rattle.rules.specs.Problem.{m_of, n_of, word}
use Rattle.rules.specs.Times.Check.{cycle_length, cycle_shown, is_past, is_row}
use Rattle.rules.specs.Times.Words.{times_length}
use Rattle.timerows.specs.Judged.{Fine}
use Rattle.timecheck.specs.Walk.{Named, all_new, bad_around, is_between, links_back, links_on}
use Rattle.timecheck.proofs.Laws.Cycles.{by_tests_lem, named_by}

pub record RowsTold (ws a : List ℤ) (count : ℕ) : Type 0 where
  pub inside : outside 1 (n_of ws) (word a 1) ≡ false
  pub count-is : count ≡ cycle_length a
  pub rows : all_below (cycle_length a) (is_row ws a) ≡ true

module _ {ws : List ℤ} (F : Fine ws) (a : List ℤ) (fit : SFits w64 (word a 1)) where
  pub outside-told : {r : Bool} {n : ℕ} →
      r ≡ (lt_z (to_z w64 (of_z w64 (word a 1))) (pos 1) || lt_z (to_z w64 n) (to_z w64 (of_z w64 (word a 1)))) →
      n ≡ n_of ws → r ≡ outside 1 (n_of ws) (word a 1)
  unfolding outside
  outside-told {n = n} e f =
      let few = vertices-few F in
      let n-fits : SFits w64 (pos n) = fits-abs (omega arith) in
      e ∙ ap₂ (λ z k. lt_z z (pos 1) || lt_z k z) (to_z-of_z fit) (to_z-of_z n-fits ∙ ap pos f)

  pub rows-told : {r : Bool} {m count : ℕ} → count ≡ nat_abs (to_z w64 (of_z w64 (word a 1))) →
      r ≡ all_below count (is_between a (to_z w64 m)) → m ≡ m_of ws → r ≡ all_below (cycle_length a) (is_row ws a)
  rows-told {m = m} h r k =
      let few = time-rows-few F in
      let m-fits : SFits w64 (pos m) = fits-abs (omega arith) in
      r ∙ ap₂ (λ n z. all_below n (is_between a z)) (h ∙ ap nat_abs (to_z-of_z fit)) (to_z-of_z m-fits ∙ ap pos k)

  pub rows-known : {o r : Bool} {n m count : ℕ} →
      o ≡ (lt_z (to_z w64 (of_z w64 (word a 1))) (pos 1) || lt_z (to_z w64 n) (to_z w64 (of_z w64 (word a 1)))) →
      n ≡ n_of ws → o ≡ false → count ≡ nat_abs (to_z w64 (of_z w64 (word a 1))) →
      r ≡ all_below count (is_between a (to_z w64 m)) → m ≡ m_of ws → r ≡ true → RowsTold ws a count
  rows-known e f g h r k t = record {
    inside = sym (outside-told e f) ∙ g;
    count-is = h ∙ ap nat_abs (to_z-of_z fit);
    rows = sym (rows-told h r k) ∙ t;
  }

module _ {ws a : List ℤ} {count : ℕ} (F : Fine ws) (long : times_length ws ≤ length a) (B : RowsTold ws a count) where
  range : (pos 1 ≤ℤ word a 1) × (word a 1 ≤ℤ pos (n_of ws))
  range = (tells-outside 1 (n_of ws) (word a 1)).if-false B.inside

  some : 1 ≤ cycle_length a
  some = above 1 (word a 1) range.0

  most : cycle_length a ≤ n_of ws
  most = under-size (n_of ws) 1 (word a 1) range.0 range.1

  pub names-told : Named ws a count
  names-told = let few = vertices-few F in
      rw B.count-is (named_by ws a (omega (arith, most)) (omega (arith, most)) B.rows)

  pub cycle-tests : cycle_shown ws a
      ≡ (links_on ws a && links_back ws a && all_new ws a && bad_around ws a && all_below (2 * n_of ws) (is_past a))
  cycle-tests = by_tests_lem ws a B.inside some B.rows
