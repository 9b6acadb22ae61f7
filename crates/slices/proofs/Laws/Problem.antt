-- A struct holds its problem: two states of the rules' run that it stands for are of one problem, at one count.
--   entries-same     they have the same entries
--   problem-only     so their problems have the same sizes, coefficients and limits (`SameProblem` of specs/Slices)
use mathlib.Core.Option.{Option, none, some}
use mathlib.Core.Path.{◌≡◌, ap₂, refl, subst₂, sym, ◌∙◌}
use Prim.Native.Nat.{ℕ, ◌<◌}
use native.Mathlib.Decide.{ℕ_discrete}
use native.Mathlib.Omega.{arith}
use lib.IntN.{ℤ}
use Rattle.whole.specs.Values.{pairs}
use Rattle.whole.proofs.Bools.{true-false}
use Rattle.rules.proofs.Runs.Slices.{on-way-rowed}
use Rattle.rules.proofs.Tableau.Problem.{rows-only}
use Rattle.rules.specs.Facts.State.{Rowed}
use Rattle.rules.specs.Problem.{Problem, vars}
use Rattle.rules.specs.Step.{State, common, seat}
use Rattle.rules.specs.Tableau.{entry}
use Rattle.rules.specs.Runs.Slices as rules
use Rattle.tableau.specs.declared.Tableau.{Tableau}
use Rattle.tableau.specs.Parts.{column_of, row_of}
use Rattle.tableau.specs.Stands.{Stands}
use Rattle.slices.specs.declared.Slice.{Slice}
use Rattle.slices.specs.Slices.{SliceHolds, SameProblem}

module _ {P Q : Problem (ℤ × ℤ)} {t : Tableau} {s x : State (ℤ × ℤ)} (A : Stands P t s) (B : Stands Q t x)
    (R : Rowed pairs P s) (S : Rowed pairs Q x) where
  columns-are : P.n ≡ Q.n
  columns-are = sym A.sized.columns-is ∙ B.sized.columns-is

  rows_are : P.m ≡ Q.m
  rows_are = sym A.sized.rows_is ∙ B.sized.rows_is

  in_both : {v : ℕ} → v < vars P → v < vars Q
  in_both h = let a = columns-are in let b = rows_are in omega arith

  pub common-same : common s ≡ common x
  common-same = sym A.numbers.common-is ∙ B.numbers.common-is

  -- a variable is basic in both or in none
  pub basic-too : (v : ℕ) → v < vars P → seat s v ≡ none → seat x v ≡ none
  basic-too v h e = go (seat x v) refl
    where
      go : (o : Option (ℤ × ℤ)) → seat x v ≡ o → seat x v ≡ none
      go none q = q
      go (some y) q = true-false (A.placed.has-row v h e).flag (B.placed.has-column v y (in_both h) q).flag

  pub seated-too : (v : ℕ) (y : ℤ × ℤ) → v < vars P → seat s v ≡ some y → (z : ℤ × ℤ) × (seat x v ≡ some z)
  seated-too v y h e = go (seat x v) refl
    where
      go : (o : Option (ℤ × ℤ)) → seat x v ≡ o → (z : ℤ × ℤ) × (seat x v ≡ some z)
      go (some z) q = (z, q)
      go none q = true-false (B.placed.has-row v (in_both h) q).flag (A.placed.has-column v y h e).flag

  pub entries-same : (v w : ℕ) → v < vars P → w < vars P → entry s.tableau v w ≡ entry x.tableau v w
  entries-same v w h k = by_row (seat s v) refl (seat s w) refl
    where
      at-cell : (y : ℤ × ℤ) → seat s v ≡ none → seat s w ≡ some y → entry s.tableau v w ≡ entry x.tableau v w
      at-cell y e f =
          let i = row_of t v in let j = column_of t w in
          let a = A.placed.has-row v h e in let b = A.placed.has-column w y k f in
          ap₂ (λ p q. entry s.tableau p q) (sym a.holds) (sym b.holds)
          ∙ sym (A.numbers.cell-is i j a.in_rows b.in-columns)
          ∙ B.numbers.cell-is i j (rw (← rows_are) a.in_rows) (rw (← columns-are) b.in-columns)
          ∙ ap₂ (λ p q. entry x.tableau p q) a.holds b.holds

      own_row : (y : ℤ × ℤ) → seat s v ≡ some y → Dec (w ≡ v) → entry s.tableau v w ≡ entry x.tableau v w
      own_row y e (yes q) = let (z, f) = seated-too v y h e in
          rw q (R.own v y h e ∙ common-same ∙ sym (S.own v z (in_both h) f))
      own_row y e (no q) = let (z, f) = seated-too v y h e in
          R.own-zero v w y h k e q ∙ sym (S.own-zero v w z (in_both h) (in_both k) f q)

      by_row : (o : Option (ℤ × ℤ)) → seat s v ≡ o → (p : Option (ℤ × ℤ)) → seat s w ≡ p →
          entry s.tableau v w ≡ entry x.tableau v w
      by_row (some y) e p f = own_row y e (ℕ_discrete w v)
      by_row none e (some y) f = at-cell y e f
      by_row none e none f = R.basic-zero v w h k f ∙ sym (S.basic-zero v w (in_both h) (in_both k) (basic-too w k f))

  abbrev sized-as : ℕ → ℕ → Problem (ℤ × ℤ)
  sized-as n m = record { n = n; m = m; coefficient = Q.coefficient; lower = Q.lower; upper = Q.upper }

  pub same-problem : SameProblem P Q
  same-problem = record {
    columns-same = columns-are;
    rows_same = rows_are;
    coefficients = λ i j h k. rows-only pairs P.n P.m P.coefficient Q.coefficient P.lower P.upper
        Q.lower Q.upper s x entries-same R
        (subst₂ (λ n m. Rowed pairs (sized-as n m) x) (sym columns-are) (sym rows_are) S) i j h k;
    lowers = λ v h. A.serves.lower-is v h ∙ sym (B.serves.lower-is v (in_both h));
    uppers = λ v h. A.serves.upper_is v h ∙ sym (B.serves.upper_is v (in_both h));
  }

pub problem-only : {S T : rules.Slice (ℤ × ℤ)} {s : Slice} → SliceHolds S s → SliceHolds T s →
    SameProblem S.problem T.problem × (S.count ≡ T.count)
problem-only {S} {T} A B = (
  same-problem A.stands B.stands (on-way-rowed S A.on-way) (on-way-rowed T B.on-way),
  A.count-is ∙ sym B.count-is,
)
