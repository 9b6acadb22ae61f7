-- Who has the most pivots, one body more.
--   leader-refused    a refused body changes nothing
--   leader-answered   a verdict with more pivots than all before it, or the first verdict, takes the lead
use mathlib.Core.Bool.{cond}
use mathlib.Core.List.{List}
use mathlib.Core.Option.{Option, none, some}
use mathlib.Core.Path.{ap, refl, sym, ◌∙◌, ◌≡◌}
use Prim.Native.Nat.{max, suc, ℕ, ◌<◌, ◌≤◌}
use native.Mathlib.Decide.{dec_lt, ℕ_discrete}
use native.Mathlib.Nat.{max-eq_left, max-eq_right}
use native.Mathlib.Omega.{arith}
use borrow.Author.Tests.{le-ltb, lt-ltb}
use lib.Dec.{ltb}
use lib.IntN.{ℤ}
use Rattle.whole.proofs.Bools.{true-false}
use Rattle.rules.proofs.Sheet.Largest.{largest-is, none-exactly, none-nought, refused-nought}
use Rattle.rules.specs.Sheet.Facts.{Answers, Leads, Refuses}
use Rattle.rules.specs.Sheet.Totals.{largest_below, largest_body, largest_pivots, pivots_of}
use Rattle.tally.specs.Counting.{leader_of}
use Rattle.tally.specs.Sums.{reached_by}
use Rattle.std.specs.Prelude.{Some}

module _ (rows : ℕ) (body : ℕ → List ℤ) (k : ℕ) where
  abbrev pivots : ℕ → ℕ
  pivots i = pivots_of rows (body i)

  abbrev most : ℕ
  most = largest_pivots rows k body

  largest-next : largest_pivots rows (suc k) body ≡ max most (pivots k)
  unfolding largest_pivots largest_below
  largest-next = refl

  -- what holds of the bodies below k, and of k, holds of those below k + 1
  one_more_lem : (Q : ℕ → Type 0) → ((i : ℕ) → i < k → Q i) → Q k → (i : ℕ) → i < suc k → Q i
  one_more_lem Q h q i l = go (ℕ_discrete i k)
    where
      go : Dec (i ≡ k) → Q i
      go (yes e) = rw e q
      go (no n) = h i (omega arith)

  -- a body that leads still leads where the next has no more pivots
  leads-on : (i : ℕ) → Leads rows k body i → pivots k ≤ most → Leads rows (suc k) body i
  leads-on i L h = record {
    in-range = let l = L.in-range in omega arith;
    answers = L.answers;
    reached = L.reached ∙ sym (largest-next ∙ max-eq_left h);
    first = L.first;
    most = one_more_lem (λ u. pivots u ≤ pivots i) L.most (let r = L.reached in omega (arith, r, h));
  }

  -- the next takes the lead where every verdict before it has fewer
  takes-lead : Answers rows (body k) → most ≤ pivots k →
      ((u : ℕ) → u < k → Answers rows (body u) → pivots u < pivots k) →
      ((u : ℕ) → u < k → pivots u ≤ pivots k) → Leads rows (suc k) body k
  takes-lead a h first all = record {
    in-range = omega arith;
    answers = a;
    reached = sym (largest-next ∙ max-eq_right h);
    first = first;
    most = one_more_lem (λ u. pivots u ≤ pivots k) all (omega arith);
  }

  pub leader-refused : Refuses rows (body k) →
      largest_body rows (suc k) body ≡ largest_body rows k body
  leader-refused f = go (largest_body rows k body) refl
    where
      go : (o : Option ℕ) → largest_body rows k body ≡ o → largest_body rows (suc k) body ≡ o
      go none e = (none-exactly rows (suc k) body).1
          (one_more_lem (λ i. Refuses rows (body i)) ((none-exactly rows k body).0 e) f)
      go (some i) e = (largest-is rows (suc k) body i).1 (leads-on i ((largest-is rows k body i).0 e)
          (let z = refused-nought rows (body k) f in omega (arith, z)))

  pub leader-answered : Answers rows (body k) →
      reached_by (largest_body rows (suc k) body) ≡ leader_of (reached_by (largest_body rows k body)) most (pivots k) k
  unfolding reached_by leader_of
  leader-answered a = go (largest_body rows k body) refl
    where
      go : (o : Option ℕ) → largest_body rows k body ≡ o →
          reached_by (largest_body rows (suc k) body) ≡ leader_of (reached_by o) most (pivots k) k
      go none e =
          let away : (i : ℕ) → i < k → Refuses rows (body i) = (none-exactly rows k body).0 e in
          let z = (none-nought rows k body e).1 in
          ap reached_by ((largest-is rows (suc k) body k).1 (takes-lead a (omega (arith, z))
          (λ u l b. true-false b (away u l))
          (λ u l. let y = refused-nought rows (body u) (away u l) in omega (arith, y))))
      go (some i) e = by (dec_lt most (pivots k)) ((largest-is rows k body i).0 e)
        where
          by : Dec (most < pivots k) → Leads rows k body i →
              reached_by (largest_body rows (suc k) body) ≡ cond (ltb most (pivots k)) (Some k) (Some i)
          by (yes h) L =
              ap reached_by ((largest-is rows (suc k) body k).1 (takes-lead a (omega (arith, h))
              (λ u l b. let m = L.most u l in let r = L.reached in omega (arith, m, r, h))
              (λ u l. let m = L.most u l in let r = L.reached in omega (arith, m, r, h))))
              ∙ ap (λ t. cond t (Some k) (Some i)) (sym (lt-ltb most (pivots k) h))
          by (no h) L =
              ap reached_by ((largest-is rows (suc k) body i).1 (leads-on i L (omega (arith, h))))
              ∙ ap (λ t. cond t (Some k) (Some i)) (sym (le-ltb most (pivots k) (omega (arith, h))))
