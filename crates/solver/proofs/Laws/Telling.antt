-- An answer reads of a tableau no more than its sizes, numbers and seats, and whether some limit is strict.
--   told-tells, told-out    without the rest the same can be told, and is
use mathlib.Core.List.{List, []}
use mathlib.Core.Path.{◌≡◌, refl}
use Prim.Native.Nat.{ℕ, suc, zero}
use native.Mathlib.Omega.{arith}
use lib.IntN.{ℤ, pos}
use lib.ListN.{get_or}
use Rattle.std.proofs.Common.{None, Option, Some}
use Rattle.whole.specs.Numbers.{Within}
use Rattle.rules.specs.Sizes.{largest_limit}
use Rattle.amounts.specs.Amounts.{absent}
use Rattle.tableau.specs.declared.Tableau.{Tableau}
use Rattle.steps.specs.declared.End.{End}
use Rattle.steps.specs.declared.End.TheVariants as ends
use Rattle.solver.specs.Run.{Tellable, words_laid}
use Rattle.solver.specs.Spend.{course_of, out_by}

-- a tableau without what an answer does not read
abbrev pub bare : Tableau → Tableau
bare t = record {
  rows = t.rows;
  columns = t.columns;
  common = t.common;
  entries = t.entries;
  basic = [];
  nonbasic = [];
  values = t.values;
  smalls = t.smalls;
  seats = t.seats;
  limits = record { lower = []; upper = []; strict = t.limits.strict };
}

-- a limit that is missing is in range
zero-within : Within (pos 0) largest_limit
zero-within = record { within = omega arith }

none_within : (v : ℕ) → Within (get_or [] v absent).plain largest_limit
none_within zero = zero-within
none_within (suc v) = zero-within

pub told-tells : (t : Tableau) (e : End) (k : ℕ) → Tellable e k t → Tellable e k (bare t)
told-tells t e k a = let S = a.searchable in record {
  searchable = record {
    few-rows = S.few-rows;
    few-columns = S.few-columns;
    cells = record { common-within = S.cells.common-within; cell-within = S.cells.cell-within };
    values-within = S.values-within;
    smalls-within = S.smalls-within;
    smalls-plain = S.smalls-plain;
    lowers-within = none_within;
    uppers-within = none_within;
    row-seats = S.row-seats;
    column-seats = S.column-seats;
  };
  counted = a.counted;
  row_in = a.row_in;
}

pub told-out : (t : Tableau) (w : Option End) (k : ℕ) (out : List ℤ) →
    out_by (course_of w) k (bare t) out ≡ out_by (course_of w) k t out
unfolding words_laid
told-out t None k out = refl
told-out t (Some ends.Can) k out = refl
told-out t (Some (ends.Cannot b)) k out = refl
told-out t (Some ends.Range) k out = refl
