-- What the words of a problem are read as.
--   coefficient-in, coefficient-is   where the words have it
--   given                            a limit as the code holds it, by its parts
--   lower-read, upper-read           a limit as it was given, from its kind and its word
--   marks-read                       whether one of a variable's limits is strict, from the kind
--   lower_of_lem, upper_of_lem               a problem's limits, back from the arrays
--   starts-same                      the start values from the arrays are the problem's
use mathlib.Core.Path.{◌≡◌, refl, sym, ◌∙◌, ap, ap₂}
use mathlib.Core.Bool.{Bool, true, false, ◌||◌}
use mathlib.Core.List.{List}
use mathlib.Core.Option.{Option, none, some}
use Prim.Native.Nat.{ℕ, ◌+◌, ◌*◌, ◌<◌}
use native.Mathlib.Omega.{arith}
use lib.Arith.{digits_lt}
use lib.IntN.{ℤ, pos}
use lib.ListN.{length}
use Rattle.whole.specs.Tables.{filled}
use Rattle.whole.specs.Values.{pairs}
use Rattle.whole.proofs.Bools.{true-false}
use Rattle.whole.proofs.Lists.Prefix.{filled-same}
use Rattle.whole.proofs.Lists.Tables.{filled_in}
use Rattle.rules.specs.Sizes.{most_columns, most_rows, most_variables}
use Rattle.rules.specs.Limit.{Limit, has_lower, has_upper, lower_pair, present, strict_lower, strict_upper, upper_pair}
use Rattle.rules.specs.Problem.{Problem, mapped, problem, vars, vars_of, word}
use Rattle.rules.specs.Refusal.{Accepted, FineLimit}
use Rattle.rules.specs.Step.{start_value}
use Rattle.judge.specs.Words.{Framed}
use Rattle.judge.proofs.Laws.Judged.{kind-place, vars-are}
use Rattle.amounts.specs.declared.Given.{Given}
use Rattle.amounts.specs.Amounts.{absent, limit_in}
use Rattle.tableau.specs.declared.read.Starts.{Starts}
use Rattle.tableau.specs.Parts.{lower_of, upper_of}
use Rattle.tableau.specs.Start.{given_of, is_strict, limits_for, start_from, start_of, start_smalls}
use Rattle.tableau.specs.Start.{start_values, starts_for, strict_at}

-- ---- entries

module _ {ws : List ℤ} {n m : ℕ} (F : Framed ws n m) where
  pub coefficient-in : (i j : ℕ) → i < m → j < n → 2 + (i * n + j) < length ws
  coefficient-in i j h k = let d : i * n + j < m * n = digits_lt h k in omega (arith, F.exact)

  pub coefficient-is : (i j : ℕ) → word ws (2 + (i * n + j)) ≡ (problem ws).coefficient i j
  unfolding problem
  coefficient-is i j = ap (λ k. word ws (2 + (i * k + j))) F.columns-are

-- ---- limits

-- a limit as the code holds it, by its parts, and as the rules do
abbrev pub given : Bool → Bool → ℤ → Given
given b s z = record { given = b; on = b; strict = s; plain = z }

abbrev limit : Bool → Bool → ℤ → Option Limit
limit b s z = present b (record { plain = z; strict = s })

-- of a missing limit the word is 0, and it is not marked
given_is : (b s : Bool) (z : ℤ) → FineLimit b z → (s ≡ true → b ≡ true) → given b s z ≡ given_of (limit b s z)
unfolding present
given_is true s z h k = refl
given_is false true z h k = true-false (k refl) refl
given_is false false z h k = ap (given false false) h

mark-is : (b s : Bool) (z : ℤ) → (s ≡ true → b ≡ true) → s ≡ is_strict (limit b s z)
unfolding present
mark-is true s z k = refl
mark-is false true z k = sym (k refl)
mark-is false false z k = refl

module _ {ws : List ℤ} {n m : ℕ} (F : Framed ws n m) (A : Accepted most_rows ws) (v : ℕ) (h : v < n + m) where
  abbrev place : ℕ
  place = 2 + m * n + 3 * v

  abbrev lower-at : ℕ → Given
  lower-at p = given (has_lower (word ws p)) (strict_lower (word ws p)) (word ws (p + 1))

  abbrev upper-at : ℕ → Given
  upper-at p = given (has_upper (word ws p)) (strict_upper (word ws p)) (word ws (p + 2))

  pub lower-read : lower-at place ≡ given_of ((problem ws).lower v)
  unfolding problem
  lower-read = let k : v < vars_of ws = omega (arith, vars-are F) in
      ap lower-at (kind-place F v) ∙ given_is _ _ _ (A.lowers v k) (A.lower-marked v k)

  pub upper-read : upper-at place ≡ given_of ((problem ws).upper v)
  unfolding problem
  upper-read = let k : v < vars_of ws = omega (arith, vars-are F) in
      ap upper-at (kind-place F v) ∙ given_is _ _ _ (A.uppers v k) (A.upper-marked v k)

  pub marks-read : (strict_lower (word ws place) || strict_upper (word ws place)) ≡ strict_at (problem ws) v
  unfolding problem
  marks-read = let k : v < vars_of ws = omega (arith, vars-are F) in
      ap (λ p. strict_lower (word ws p) || strict_upper (word ws p)) (kind-place F v)
      ∙ ap₂ ◌||◌ (mark-is _ _ _ (A.lower-marked v k)) (mark-is _ _ _ (A.upper-marked v k))

limit-back : (o : Option Limit) → limit_in (given_of o) ≡ o
unfolding present
limit-back none = refl
limit-back (some l) = refl

module _ (P : Problem Limit) (v : ℕ) (h : v < vars P) where
  pub lower_of_lem : lower_of (limits_for P) v ≡ P.lower v
  unfolding limits_for
  lower_of_lem = ap limit_in (filled_in most_variables absent (vars P) (λ u. given_of (P.lower u)) v h)
      ∙ limit-back (P.lower v)

  pub upper_of_lem : upper_of (limits_for P) v ≡ P.upper v
  unfolding limits_for
  upper_of_lem = ap limit_in (filled_in most_variables absent (vars P) (λ u. given_of (P.upper u)) v h)
      ∙ limit-back (P.upper v)

-- ---- the start values

module _ (P : Problem Limit) where
  -- one part of each value
  part_same : (f : ℤ × ℤ → ℤ) → filled most_columns (pos 0) P.n (λ j. f (start_from (limits_for P) j))
      ≡ filled most_columns (pos 0) P.n (λ j. f (start_of P j))
  part_same f = filled-same most_columns (pos 0) _ P.n _
      (λ j h. ap₂ (λ o p. f (start_value pairs (mapped lower_pair o) (mapped upper_pair p)))
      (lower_of_lem P j (omega arith)) (upper_of_lem P j (omega arith)))

  pub starts-same : starts_for (limits_for P) P.n ≡ record { values = start_values P; smalls = start_smalls P }
  starts-same = ap₂ (λ (a b : List ℤ). starts a b) (part_same (λ x. x.0)) (part_same (λ x. x.1))
    where
      starts : List ℤ → List ℤ → Starts
      starts a b = record { values = a; smalls = b }
