-- docs/RULES.md, "The run": the tableau, by variable. Row v says: `common` times variable v is the sum of the row's
-- entries, each times its variable, over all variables. An entry at a basic variable is 0, and the row of a nonbasic
-- variable is `common` at itself and 0 elsewhere; so what is left are the rules' entries, and one formula pivots every
-- row.
use Rattle.std.specs.Prelude.{Bool, cond, ◌&&◌, List, [], ℕ, ℤ, pos, neg_ℤ, nat_abs, ◌-ℤ◌, ◌*ℤ◌, get_or, eqb}
use Rattle.std.specs.Int.Signed.{quot_z}
use Rattle.whole.specs.Below.{all_below, fold_below}
use Rattle.whole.specs.Tables.{matrix}
use Rattle.whole.specs.Divisors.{gcd}
use Rattle.whole.specs.Numbers.{within, is_neg}
use Rattle.rules.specs.Sizes.{largest_number}

-- `common` is the rules' D
pub record Tableau : Type 0 where
  pub common : ℤ
  pub rows : List (List ℤ)

abbrev pub row : Tableau → ℕ → List ℤ
row t v = get_or t.rows v []

abbrev pub entry : Tableau → ℕ → ℕ → ℤ
entry t v w = get_or (row t v) w (pos 0)

-- row r as an equation "the sum is 0": its entries, and minus `common` at r itself
unfoldable pub relation : Tableau → ℕ → ℕ → ℤ
relation t r u = cond (eqb u r) (neg_ℤ t.common) (entry t r u)

-- row r is solved for w, and w is put into each row: the row times the pivot, less its entry at w times the relation
unfoldable pub solved : ℕ → Tableau → ℕ → ℕ → Tableau
solved N t r w = record {
  common = entry t r w *ℤ t.common;
  rows = matrix N (λ v u. entry t r w *ℤ entry t v u -ℤ entry t v w *ℤ relation t r u);
}

-- the greatest number that divides D and every entry
unfoldable pub divisor_size : ℕ → Tableau → ℕ
divisor_size N t = fold_below N (λ v g. fold_below N (λ u h. gcd (nat_abs (entry t v u)) h) g) (nat_abs t.common)

-- .. with the sign of D, so that D comes out above 0
unfoldable pub divisor : ℕ → Tableau → ℤ
divisor N t = cond (is_neg t.common) (neg_ℤ (pos (divisor_size N t))) (pos (divisor_size N t))

-- lowest common form
unfoldable pub reduced : ℕ → Tableau → Tableau
reduced N t = let d : ℤ = divisor N t in
    record { common = quot_z t.common d; rows = matrix N (λ v u. quot_z (entry t v u) d) }

unfoldable pub pivot : ℕ → Tableau → ℕ → ℕ → Tableau
pivot N t r w = reduced N (solved N t r w)

-- no number is beyond the largest one
unfoldable pub small : ℕ → Tableau → Bool
small N t = within largest_number t.common && all_below N (λ v. all_below N (λ u. within largest_number (entry t v u)))
