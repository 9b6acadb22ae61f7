-- What a step asks for of the totals, and what it reads of an answer.
--   nothing_yet        the totals of no body
--   totals-countable   the totals of fewer bodies than a sheet tells: one more fits
--   naming-most        no more variables are named than there are
--   counted_same       answers that agree in their own words make the same of the totals
use mathlib.Core.Bool.{Bool, cond, false, not, true}
use mathlib.Core.List.{List, ◌++◌}
use mathlib.Core.Path.{ap, refl, ◌∙◌, ◌≡◌}
use Prim.Native.Nat.{max, ℕ, ◌*◌, ◌+◌, ◌<◌, ◌≤◌}
use native.Mathlib.Decide.{dec_lt}
use native.Mathlib.Omega.{arith}
use lib.IntN.{nat_abs, pos, ℤ}
use lib.ListN.{get_or-eq_default, drop, get_or}
use Rattle.whole.proofs.Lists.Tables.{table_at, table-length, table_same}
use Rattle.whole.specs.Numbers.{eq_z}
use Rattle.whole.specs.Tables.{table, table_from}
use Rattle.rules.proofs.Sheet.Fits.{class-few, lower-few, pivot-sum-few, upper-few}
use Rattle.rules.specs.Problem.{word}
use Rattle.rules.specs.Sheet.Totals.{largest_below, largest_body, largest_pivots, lower_named, of_class}
use Rattle.rules.specs.Sheet.Totals.{pivot_sum, refused, sum_below, upper_named}
use Rattle.rules.specs.Sizes.{most_bodies, most_rows, most_variables}
use Rattle.whole.specs.Below.{lowest}
use Rattle.tally.specs.Counting.{Countable, Few, counted_at, leader_of, naming_of}
use Rattle.tally.specs.Counting.{no_totals, one_more, tallied_at}
use Rattle.tally.specs.Sums.{reached_by, totals_of}
use Rattle.tally.specs.declared.Totals.{Totals}
use Rattle.tally.proofs.Laws.More.{made-same}

-- ---- the totals

pub nothing_yet : (rows : ℕ) (body : ℕ → List ℤ) → no_totals ≡ totals_of rows 0 body
unfolding no_totals totals_of of_class pivot_sum largest_pivots largest_body lower_named upper_named
    sum_below largest_below lowest reached_by table_from
nothing_yet rows body = refl

few-table : (n : ℕ) (f : ℕ → ℕ) → ((v : ℕ) → f v ≤ most_bodies) → Few n (table n f)
few-table n f h = record { counted = table-length n f; few = λ v. at v (dec_lt v n) }
  where
    at : (v : ℕ) → Dec (v < n) → get_or (table n f) v 0 ≤ most_bodies
    at v (yes l) = rw (table_at n f 0 v l) (h v)
    at v (no l) = rw (get_or-eq_default (table n f) 0 {n = v} (rw (table-length n f) (omega arith))) (omega arith)

pub totals-countable : (rows k : ℕ) (body : ℕ → List ℤ) → rows ≤ most_rows → k < most_bodies →
    Countable (totals_of rows k body)
unfolding totals_of
totals-countable rows k body h l = record {
  few-bodies = l;
  few-can = class-few rows k body _;
  few-cannot = class-few rows k body _;
  few-range = class-few rows k body _;
  few-refused = few-table 11 (λ j. of_class rows k body (refused j))
      (λ j. let r = class-few rows k body (refused j) in omega (arith, r, l));
  few-pivots = pivot-sum-few rows k body h;
  few-lower = few-table most_variables (lower_named rows k body)
      (λ v. let r = lower-few rows k body v in omega (arith, r, l));
  few-upper = few-table most_variables (upper_named rows k body)
      (λ v. let r = upper-few rows k body v in omega (arith, r, l));
}

-- ---- the step reads no more than the answer's words

pub naming-most : (N : ℕ) (z : ℤ) → naming_of z N ≤ N
unfolding naming_of
naming-most N z = go (eq_z z (pos 2))
  where
    go : (t : Bool) → cond t N 0 ≤ N
    go true = omega arith
    go false = omega arith

module _ (a b : List ℤ) (N : ℕ) (h : (i : ℕ) → i < 3 + 2 * N → word a i ≡ word b i) where
  tallied-same : (l : List ℕ) (at n : ℕ) → n ≤ N → at + n ≤ 3 + 2 * N → tallied_at l a at n ≡ tallied_at l b at n
  unfolding tallied_at
  tallied-same l at n p q = ap (λ t. t ++ drop n l) (table_same n (one_more l a at) (one_more l b at)
      (λ v r. ap (λ z. get_or l v 0 + cond (not (eq_z z (pos 0))) 1 0) (h (at + v) (omega (arith, q)))))

  pub counted_same : (t : Totals) (body : ℕ) → counted_at t a N body ≡ counted_at t b N body
  unfolding counted_at
  counted_same t body =
      let zeroth = h 0 (omega arith) in let first = h 1 (omega arith) in
      made-same refl
      (ap (λ z. t.can + cond (eq_z z (pos 1)) 1 0) zeroth)
      (ap (λ z. t.cannot + cond (eq_z z (pos 2)) 1 0) zeroth)
      (ap (λ z. t.range + cond (eq_z z (pos 3)) 1 0) zeroth)
      refl
      (ap (λ z. t.pivots + nat_abs z) first)
      (ap (λ z. max t.largest (nat_abs z)) first)
      (ap (λ z. leader_of t.reached t.largest (nat_abs z) body) first)
      (tallied-same t.lower 3 (naming_of (word a 0) N) (naming-most N (word a 0))
      (let m = naming-most N (word a 0) in omega (arith, m))
      ∙ ap (λ z. tallied_at t.lower b 3 (naming_of z N)) zeroth)
      (tallied-same t.upper (3 + N) (naming_of (word a 0) N) (naming-most N (word a 0))
      (let m = naming-most N (word a 0) in omega (arith, m))
      ∙ ap (λ z. tallied_at t.upper b (3 + N) (naming_of z N)) zeroth)
