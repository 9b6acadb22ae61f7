-- Tests of whole numbers: signs, equality, and ranges. Each bound belongs to its range.
use Rattle.std.specs.Prelude.{Bool, false, ◌||◌, List, ℕ, ◌≤◌, ℤ, pos, negsuc, nat_abs, get_or, leb, eqb}
use Rattle.std.specs.Int.Signed.{lt_z}

-- z is from -n to n, as a fact; a record, so that the number and its bound can be inferred
pub record Within (z : ℤ) (n : ℕ) : Type 0 where
  pub within : nat_abs z ≤ n

-- .. of each number of a list
pub record AllWithin (l : List ℤ) (n : ℕ) : Type 0 where
  pub each : (k : ℕ) → Within (get_or l k (pos 0)) n

-- .. and as a test
unfoldable pub within : ℕ → ℤ → Bool
within k z = leb (nat_abs z) k

-- below lo or above hi
unfoldable pub outside : ℕ → ℕ → ℤ → Bool
outside lo hi z = lt_z z (pos lo) || lt_z (pos hi) z

abbrev pub is_pos : ℤ → Bool
is_pos z = lt_z (pos 0) z

abbrev pub is_neg : ℤ → Bool
is_neg z = lt_z z (pos 0)

abbrev pub eq_z : ℤ → ℤ → Bool
eq_z (pos a) (pos b) = eqb a b
eq_z (pos a) (negsuc b) = false
eq_z (negsuc a) (pos b) = false
eq_z (negsuc a) (negsuc b) = eqb a b
