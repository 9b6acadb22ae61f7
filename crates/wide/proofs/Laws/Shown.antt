-- What is right as tests one after the other, over the problem that was read.
--   can-tests, cannot-tests      all tests of verdict 1 and of verdict 2
--   contradicts-above, contradicts-not, contradicts-zero     the last test of verdict 2, by two tests of the total
use mathlib.Core.Bool.{Bool, false, true, ◌&&◌}
use mathlib.Core.List.{List}
use mathlib.Core.Path.{refl, ◌≡◌}
use Prim.Native.Nat.{ℕ, ◌+◌}
use lib.IntN.{pos, ℤ}
use Rattle.whole.specs.Numbers.{eq_z, is_pos}
use Rattle.rules.specs.Evidence.{column, contradicts, right_can, right_cannot, some_strict, surplus}
use Rattle.rules.specs.Wide.{wide_denominator, wide_lower, wide_upper}
use Rattle.parts.specs.Reads.{problem_of}
use Rattle.tableau.specs.declared.Limits.{Limits}
use Rattle.wide.specs.Reads.{all_owed, column_in, columns_vanish, limits_met, row_in, rows_solved, some_marked}
use Rattle.wide.specs.Reads.{surplus_in}

module _ (entries : List ℤ) (limits : Limits) (rows columns : ℕ) (a : List ℤ) where
  abbrev N : ℕ
  N = columns + rows

  pub can-tests : right_can (problem_of entries limits rows columns) (wide_denominator a) (wide_lower a)
      (wide_upper N a)
      ≡ (is_pos (wide_denominator a) && rows_solved entries a 1 rows columns rows
      && rows_solved entries a (1 + N) rows columns rows && limits_met limits a N (wide_denominator a) N)
  unfolding right_can problem_of rows_solved row_in limits_met
  can-tests = refl

  pub cannot-tests :
      right_cannot (problem_of entries limits rows columns) (wide_denominator a) (wide_lower a) (wide_upper N a)
      ≡ (eq_z (wide_denominator a) (pos 0) && all_owed limits a N N && columns_vanish entries a rows columns columns
      && contradicts (surplus_in limits a N N) (some_marked limits a N N))
  unfolding right_cannot problem_of all_owed columns_vanish column_in surplus_in some_marked column surplus some_strict
  cannot-tests = refl

-- a total above 0; a total that is not 0; a total of 0
module _ (t : ℤ) (b : Bool) where
  pub contradicts-above : is_pos t ≡ true → contradicts t b ≡ true
  unfolding contradicts
  contradicts-above e = rw e refl

  pub contradicts-not : is_pos t ≡ false → eq_z t (pos 0) ≡ false → contradicts t b ≡ false
  unfolding contradicts
  contradicts-not e f = rw (e, f) refl

  pub contradicts-zero : is_pos t ≡ false → eq_z t (pos 0) ≡ true → contradicts t b ≡ b
  unfolding contradicts
  contradicts-zero e f = rw (e, f) refl
