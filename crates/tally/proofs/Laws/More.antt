-- All totals, one body more: what the step makes of the totals of k bodies is the totals of k + 1.
--   made-same       two totals with equal parts are equal
--   audited-more    one body more
use mathlib.Core.Bool.{Bool, cond, false, true, ◌&&◌}
use mathlib.Core.List.{List}
use mathlib.Core.Path.{ap, refl, sym, ◌∙◌, ◌≡◌}
use Prim.Native.Nat.{max, suc, zero, ℕ, ◌+◌, ◌<◌, ◌≤◌}
use native.Mathlib.Decide.{ℕ_discrete}
use native.Mathlib.Numerals.{add-one}
use native.Mathlib.Nat.{max-eq_left}
use native.Mathlib.Omega.{arith}
use borrow.Author.Tests.{ne_eqb}
use lib.Dec.{eqb}
use lib.IntN.{nat_abs, pos, ℤ}
use lib.ListN.{get_or, length-set, set}
use lib.Seq.{get_or-set_other, get_or-set_same}
use Rattle.whole.proofs.Lists.Tables.{table_at, table-length, table_same}
use Rattle.whole.proofs.Tells.{tells-eq, tells-true}
use Rattle.whole.specs.Numbers.{eq_z}
use Rattle.whole.specs.Tables.{table}
use Rattle.rules.specs.Answer.{answer}
use Rattle.rules.specs.Evidence.{lower_part, upper_part, verdict_of}
use Rattle.rules.specs.Facts.Answer.{Shape, shape-can, shape-cannot, shape-range}
use Rattle.rules.proofs.Answer.Shape.{answer-shaped}
use Rattle.rules.proofs.Refusal.Accepted.{m-few, n-few}
use Rattle.rules.proofs.Refusal.Exactly.{accepted-exactly, numbered}
use Rattle.rules.proofs.Refusal.First.{first-most}
use Rattle.rules.specs.Problem.{vars_of, word}
use Rattle.rules.specs.Refusal.{first, problem_tests}
use Rattle.rules.specs.Sheet.Totals.{Class, answered_class, class_by, class_of, largest_below, largest_body}
use Rattle.rules.specs.Sheet.Totals.{largest_pivots}
use Rattle.rules.specs.Sheet.Totals.{lower_named, names, names_lower, names_upper, of_class, pivot_sum, pivots_by}
use Rattle.rules.specs.Sheet.Totals.{pivots_of}
use Rattle.rules.specs.Sheet.Totals.{refused, same_class, sum_below, upper_named, verdict}
use Rattle.rules.specs.Sizes.{most_rows, most_variables}
use Rattle.tally.specs.Counting.{audited_at, audited_by, counted_at, leader_of, naming_of, refused_at, tallied_at}
use Rattle.std.specs.Prelude.{Option}
use Rattle.tally.specs.Sums.{reached_by, totals_of}
use Rattle.tally.specs.declared.Totals.{Totals}
use Rattle.tally.proofs.Laws.Leaders.{leader-answered, leader-refused}
use Rattle.tally.proofs.Laws.Tallies.{as-table, tallied-none, tallied-table}

-- ---- the struct, field by field

abbrev pub made : (bodies can cannot range : ℕ) (away : List ℕ) (pivots largest : ℕ) (reached : Option ℕ)
    (lower upper : List ℕ) → Totals
made bodies can cannot range away pivots largest reached lower upper = record {
  bodies = bodies;
  can = can;
  cannot = cannot;
  range = range;
  refused = away;
  pivots = pivots;
  largest = largest;
  reached = reached;
  lower = lower;
  upper = upper;
}

pub made-same : {a b c d p m a' b' c' d' p' m' : ℕ} {r l u r' l' u' : List ℕ} {o o' : Option ℕ} →
    a ≡ a' → b ≡ b' → c ≡ c' → d ≡ d' → r ≡ r' → p ≡ p' → m ≡ m' → o ≡ o' → l ≡ l' → u ≡ u' →
    made a b c d r p m o l u ≡ made a' b' c' d' r' p' m' o' l' u'
made-same e1 e2 e3 e4 e5 e6 e7 e8 e9 e10 = rw (e1, e2, e3, e4, e5, e6, e7, e8, e9, e10) refl

module _ (rows : ℕ) (body : ℕ → List ℤ) (k : ℕ) where
  abbrev class : Class
  class = class_of rows (body k)

  -- ---- each total, one body more

  class-more : (c : Class) → of_class rows (suc k) body c ≡ of_class rows k body c + cond (same_class class c) 1 0
  unfolding of_class sum_below
  class-more c = refl

  pivots-more : pivot_sum rows (suc k) body ≡ pivot_sum rows k body + pivots_of rows (body k)
  unfolding pivot_sum sum_below
  pivots-more = refl

  largest-more : largest_pivots rows (suc k) body ≡ max (largest_pivots rows k body) (pivots_of rows (body k))
  unfolding largest_pivots largest_below
  largest-more = refl

  lower-more : (v : ℕ) → lower_named rows (suc k) body v ≡ lower_named rows k body v
      + cond (same_class class (verdict 2) && names (vars_of (body k)) v (lower_part (answer (body k)) v)) 1 0
  unfolding lower_named sum_below names_lower
  lower-more v = refl

  upper-more : (v : ℕ) → upper_named rows (suc k) body v ≡ upper_named rows k body v
      + cond (same_class class (verdict 2)
      && names (vars_of (body k)) v (upper_part (vars_of (body k)) (answer (body k)) v)) 1 0
  unfolding upper_named sum_below names_upper
  upper-more v = refl

  plus-nought : (n : ℕ) → n ≡ n + 0
  plus-nought n = omega arith

  same_count : (c : Class) → same_class class c ≡ false → of_class rows k body c ≡ of_class rows (suc k) body c
  same_count c f = plus-nought (of_class rows k body c)
      ∙ sym (class-more c ∙ ap (λ b. of_class rows k body c + cond b 1 0) f)

  -- ---- a refused body

  module _ (j : ℕ) (e : class ≡ refused j) (few : j < 11) where
    no-verdict : (v : ℕ) → same_class class (verdict v) ≡ false
    unfolding same_class
    no-verdict v = ap (λ c. same_class c (verdict v)) e

    no_answer : answered_class class ≡ false
    unfolding answered_class
    no_answer = ap answered_class e

    no-pivots : pivots_of rows (body k) ≡ 0
    unfolding pivots_of pivots_by
    no-pivots = ap (λ c. pivots_by c (body k)) e

    abbrev counts : ℕ → ℕ
    counts i = of_class rows k body (refused i)

    its_own : (i : ℕ) → of_class rows (suc k) body (refused i) ≡ counts i + cond (eqb j i) 1 0
    unfolding same_class
    its_own i = class-more (refused i) ∙ ap (λ c. counts i + cond (same_class c (refused i)) 1 0) e

    refused-at : (i : ℕ) → i < 11 → Dec (i ≡ j) →
        get_or (set (table 11 counts) j (get_or (table 11 counts) j 0 + 1)) i 0 ≡ of_class rows (suc k) body (refused i)
    refused-at i l (yes q) =
        ap (λ a. get_or (set (table 11 counts) j (get_or (table 11 counts) j 0 + 1)) a 0) q
        ∙ get_or-set_same (table 11 counts) j (get_or (table 11 counts) j 0 + 1) 0 (rw table-length few)
        ∙ ap (λ n. n + 1) (table_at 11 counts 0 j few)
        ∙ ap (λ b. counts j + cond b 1 0) (sym (tells-true (tells-eq j j) refl))
        ∙ sym (its_own j) ∙ ap (λ a. of_class rows (suc k) body (refused a)) (sym q)
    refused-at i l (no q) =
        get_or-set_other (table 11 counts) j i (get_or (table 11 counts) j 0 + 1) 0 q
        ∙ table_at 11 counts 0 i l ∙ plus-nought (counts i)
        ∙ ap (λ b. counts i + cond b 1 0) (sym (ne_eqb j i (λ z. q (sym z)))) ∙ sym (its_own i)

    refused-more : set (table 11 counts) j (get_or (table 11 counts) j 0 + 1)
        ≡ table 11 (λ i. of_class rows (suc k) body (refused i))
    refused-more =
        as-table 11 (set (table 11 counts) j (get_or (table 11 counts) j 0 + 1))
        (λ i. of_class rows (suc k) body (refused i))
        (length-set (table 11 counts) j (get_or (table 11 counts) j 0 + 1) ∙ table-length 11 counts)
        (λ i l. refused-at i l (ℕ_discrete i j))

    lower-kept : (v : ℕ) → lower_named rows k body v ≡ lower_named rows (suc k) body v
    lower-kept v = plus-nought (lower_named rows k body v) ∙ sym (lower-more v
        ∙ ap (λ b. lower_named rows k body v
        + cond (b && names (vars_of (body k)) v (lower_part (answer (body k)) v)) 1 0) (no-verdict 2))

    upper-kept : (v : ℕ) → upper_named rows k body v ≡ upper_named rows (suc k) body v
    upper-kept v = plus-nought (upper_named rows k body v) ∙ sym (upper-more v
        ∙ ap (λ b. upper_named rows k body v
        + cond (b && names (vars_of (body k)) v (upper_part (vars_of (body k)) (answer (body k)) v)) 1 0)
        (no-verdict 2))

    refused-next : refused_at (totals_of rows k body) j ≡ totals_of rows (suc k) body
    unfolding refused_at totals_of
    refused-next =
        made-same (add-one k) (same_count (verdict 1) (no-verdict 1)) (same_count (verdict 2) (no-verdict 2))
        (same_count (verdict 3) (no-verdict 3)) refused-more
        (plus-nought (pivot_sum rows k body)
        ∙ sym (pivots-more ∙ ap (λ p. pivot_sum rows k body + p) no-pivots))
        (sym (largest-more ∙ ap (λ p. max (largest_pivots rows k body) p) no-pivots
        ∙ max-eq_left (let z : 0 ≤ largest_pivots rows k body = omega arith in z)))
        (ap reached_by (sym (leader-refused rows body k no_answer)))
        (table_same most_variables (lower_named rows k body) (lower_named rows (suc k) body) (λ v l. lower-kept v))
        (table_same most_variables (upper_named rows k body) (upper_named rows (suc k) body) (λ v l. upper-kept v))

  -- ---- a body with an answer

  abbrev told : List ℤ
  told = answer (body k)

  module _ (w : ℕ) (is : verdict_of told ≡ pos w) (e : class ≡ verdict w) (few : vars_of (body k) ≤ most_variables)
    where
      verdict-more : (v : ℕ) →
          of_class rows k body (verdict v) + cond (eq_z (word told 0) (pos v)) 1 0 ≡ of_class rows (suc k) body
          (verdict v)
      unfolding same_class
      verdict-more v =
          ap (λ z. of_class rows k body (verdict v) + cond (eq_z z (pos v)) 1 0) is
          ∙ sym (class-more (verdict v)
          ∙ ap (λ c. of_class rows k body (verdict v) + cond (same_class c (verdict v)) 1 0) e)

      not-refused : (i : ℕ) → same_class class (refused i) ≡ false
      unfolding same_class
      not-refused i = ap (λ c. same_class c (refused i)) e

      has-answer : answered_class class ≡ true
      unfolding answered_class
      has-answer = ap answered_class e

      pivots-are : pivots_of rows (body k) ≡ nat_abs (word told 1)
      unfolding pivots_of pivots_by
      pivots-are = ap (λ c. pivots_by c (body k)) e

      -- the counts of one side, with their multipliers from a place on
      module _ (f g : ℕ → ℕ) (at : ℕ)
          (more : (v : ℕ) → g v ≡ f v
          + cond (same_class class (verdict 2) && names (vars_of (body k)) v (word told (at + v))) 1 0) where
        by-verdict : (v : ℕ) → g v ≡ f v + cond (eqb w 2 && names (vars_of (body k)) v (word told (at + v))) 1 0
        unfolding same_class
        by-verdict v = more v ∙ ap (λ c. f v
            + cond (same_class c (verdict 2) && names (vars_of (body k)) v (word told (at + v))) 1 0) e

        naming-is : naming_of (word told 0) (vars_of (body k)) ≡ cond (eqb w 2) (vars_of (body k)) 0
        unfolding naming_of
        naming-is = ap (λ z. cond (eq_z z (pos 2)) (vars_of (body k)) 0) is

        side-more : tallied_at (table most_variables f) told at (naming_of (word told 0) (vars_of (body k)))
            ≡ table most_variables g
        side-more = ap (tallied_at (table most_variables f) told at) naming-is ∙ go (eqb w 2) refl
          where
            go : (b : Bool) → eqb w 2 ≡ b →
                tallied_at (table most_variables f) told at (cond (eqb w 2) (vars_of (body k)) 0)
                ≡ table most_variables g
            go true q = ap (λ b. tallied_at (table most_variables f) told at (cond b (vars_of (body k)) 0)) q
                ∙ tallied-table most_variables f told at (vars_of (body k)) few
                ∙ table_same most_variables _ g (λ v l. sym (by-verdict v
                ∙ ap (λ b. f v + cond (b && names (vars_of (body k)) v (word told (at + v))) 1 0) q))
            go false q = ap (λ b. tallied_at (table most_variables f) told at (cond b (vars_of (body k)) 0)) q
                ∙ tallied-none (table most_variables f) told at
                ∙ table_same most_variables f g (λ v l. plus-nought (f v) ∙ sym (by-verdict v
                ∙ ap (λ b. f v + cond (b && names (vars_of (body k)) v (word told (at + v))) 1 0) q))

      counted_next : counted_at (totals_of rows k body) told (vars_of (body k)) k ≡ totals_of rows (suc k) body
      unfolding counted_at totals_of
      counted_next =
          made-same (add-one k) (verdict-more 1) (verdict-more 2) (verdict-more 3)
          (table_same 11 (λ i. of_class rows k body (refused i)) (λ i. of_class rows (suc k) body (refused i))
          (λ i l. same_count (refused i) (not-refused i)))
          (sym (pivots-more ∙ ap (λ p. pivot_sum rows k body + p) pivots-are))
          (sym (largest-more ∙ ap (λ p. max (largest_pivots rows k body) p) pivots-are))
          (sym (leader-answered rows body k has-answer
          ∙ ap (λ p. leader_of (reached_by (largest_body rows k body)) (largest_pivots rows k body) p k) pivots-are))
          (side-more (lower_named rows k body) (lower_named rows (suc k) body) 3 lower-more)
          (side-more (upper_named rows k body) (upper_named rows (suc k) body) (3 + vars_of (body k)) upper-more)

-- ---- whichever it is

verdict-is : (N : ℕ) (a : List ℤ) → Shape N a → (w : ℕ) × (verdict_of a ≡ pos w)
verdict-is N a (shape-can v d) = (1, v)
verdict-is N a (shape-cannot v d) = (2, v)
verdict-is N a (shape-range v d z) = (3, v)

pub audited-more : (rows : ℕ) → rows ≤ most_rows → (body : ℕ → List ℤ) (k : ℕ) →
    audited_at rows (totals_of rows k body) (body k) k ≡ totals_of rows (suc k) body
unfolding audited_at audited_by class_of class_by
audited-more rows h body k = go (first (problem_tests rows (body k))) refl
  where
    go : (r : ℕ) → first (problem_tests rows (body k)) ≡ r →
        audited_by r (totals_of rows k body) (body k) k ≡ totals_of rows (suc k) body
    go zero e =
        let w = verdict-is (vars_of (body k)) (answer (body k)) (answer-shaped (body k)).shape in
        counted_next rows body k w.0 w.1
        (ap (λ r. class_by r (body k)) e ∙ ap (λ z. verdict (nat_abs z)) w.1)
        (let A = (accepted-exactly rows (body k)).0 e in
        let n = n-few A in let m = m-few A in omega (arith, n, m, h))
    go (suc j) e = refused-next rows body k (suc j) (ap (λ r. class_by r (body k)) e)
        (let h = first-most 10 (problem_tests rows (body k)) (numbered rows (body k)) in omega (arith, h, e))
