-- docs/RULES.md, "The three demands", 2: fractions, each over a denominator of its own, that meet a problem. The other
-- theorems speak of whole numbers over one denominator (`Satisfies` of specs/Evidence); where none of those meet a
-- problem, none of these do (`unsatisfied-fractions`).
--   Fraction, fractions, Equal     a whole number over another; sums, multiples and order; a / b = c / d is a d = c b
--   FractionsMeet                  denominators above 0, every row, and every limit, a strict one strictly
use Rattle.std.specs.Prelude.{Bool, false, true, ◌≡◌, ℕ, ◌+◌, ◌<◌, pos, ℤ, ◌*ℤ◌, ◌+ℤ◌, ◌<ℤ◌}
use Rattle.std.proofs.Math.Option.{some}
use Rattle.std.specs.Int.Signed.{lt_z}
use Rattle.whole.specs.Values.{Le, Lt, Values}
use Rattle.rules.specs.Evidence.{row_sum}
use Rattle.rules.specs.Limit.{Limit}
use Rattle.rules.specs.Problem.{Problem, vars}

-- top over under; who speaks of fractions asks for an under above 0
pub record Fraction : Type 0 where
  pub top : ℤ
  pub under : ℤ

-- 0 is 0 / 1; a / b + c / d = (a d + c b) / b d; k (a / b) = k a / b; a / b < c / d is a d < c b
abbrev pub fractions : Values Fraction
fractions = record {
  nil = record { top = pos 0; under = pos 1 };
  plus = λ x y. record { top = x.top *ℤ y.under +ℤ y.top *ℤ x.under; under = x.under *ℤ y.under };
  scale = λ k x. record { top = k *ℤ x.top; under = x.under };
  less = λ x y. lt_z (x.top *ℤ y.under) (y.top *ℤ x.under);
}

abbrev pub Equal : Fraction → Fraction → Type 0
Equal x y = x.top *ℤ y.under ≡ y.top *ℤ x.under

-- a whole number as a fraction
abbrev pub over_one : ℤ → Fraction
over_one l = record { top = l; under = pos 1 }

-- strictly less, or at most
abbrev pub InOrder : (strict : Bool) → Fraction → Fraction → Type 0
InOrder true x y = Lt fractions x y
InOrder false x y = Le fractions x y

pub record FractionsMeet (P : Problem Limit) (x : ℕ → Fraction) : Type 0 where
  pub positive : (v : ℕ) → v < vars P → pos 0 <ℤ (x v).under
  pub rows : (i : ℕ) → i < P.m → Equal (x (P.n + i)) (row_sum fractions P x i)
  pub lowers : (v : ℕ) → v < vars P → (l : Limit) → P.lower v ≡ some l →
      InOrder l.strict (over_one l.plain) (x v)
  pub uppers : (v : ℕ) → v < vars P → (u : Limit) → P.upper v ≡ some u →
      InOrder u.strict (x v) (over_one u.plain)
