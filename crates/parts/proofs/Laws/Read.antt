-- Entries and limits that were read from a problem hold that problem: what is right over what was read is right of the
-- problem.
--   readable-of                              what is in its ranges, with an answer that is long enough
--   ReadFrom                                 entries, limits and sizes that were read from a problem
--   right-can-same, right-cannot-same        what is right, over any numbers
--   words-held, right-can-read, right-cannot-read    the same of accepted words
--   can-read, cannot-read    the rules of verdict 1 and 2, in the words of an answer
use mathlib.Core.Path.{◌≡◌, ap, ap₂, sym, ◌∙◌}
use mathlib.Core.Bool.{Bool, true, ◌&&◌, ◌||◌}
use mathlib.Core.List.{List}
use Prim.Native.Nat.{ℕ, ◌+◌, ◌*◌, ◌<◌, ◌≤◌}
use lib.IntN.{ℤ, pos, ◌+ℤ◌, ◌-ℤ◌, ◌*ℤ◌}
use lib.ListN.{length}
use Rattle.whole.specs.Below.{all_below, some_below}
use Rattle.whole.specs.Numbers.{eq_z, is_pos}
use Rattle.whole.specs.Values.{whole}
use Rattle.whole.proofs.Lists.Below.{all_same, some_at, some_of}
use Rattle.whole.proofs.Bools.{same_tests}
use Rattle.whole.proofs.Numbers.Sums.{sum_same}
use Rattle.rules.specs.Sizes.{most_rows}
use Rattle.rules.specs.Limit.{Limit}
use Rattle.rules.specs.Problem.{Problem, problem, vars}
use Rattle.rules.specs.Refusal.{Accepted}
use Rattle.rules.specs.Evidence.{denominator_of, lower_part, upper_part, row_sum, owed, column, surplus}
use Rattle.rules.specs.Evidence.{contradicts, plain_of, ranged_can, ranged_cannot, right_can, right_cannot, some_strict}
use Rattle.rules.specs.Evidence.{strict_named, shows_can, shows_cannot}
use Rattle.rules.proofs.Refusal.Accepted.{problem-m, problem-n}
use Rattle.judge.specs.Words.{Framed}
use Rattle.tableau.specs.declared.Limits.{Limits}
use Rattle.tableau.specs.Start.{limits_for, start_entries, start_laid}
use Rattle.tableau.proofs.Laws.Fits.{Fitting, coefficient-start, coefficients-start, fitting-accepted}
use Rattle.tableau.proofs.Laws.Fits.{serves-start}
use Rattle.tableau.proofs.Laws.Read.{lower_of_lem, upper_of_lem}
use Rattle.parts.specs.Reads.{InRanges, problem_of, Readable, meets_both}

pub readable-of : {entries : List ℤ} {limits : Limits} {rows columns : ℕ} {a : List ℤ} →
    InRanges entries limits rows columns → 3 + 2 * (columns + rows) ≤ length a → Readable entries limits rows columns a
readable-of I long = record {
  few-rows = I.few-rows;
  few-columns = I.few-columns;
  long = long;
  entries-within = I.entries-within;
  limited = I.limited;
}

record ReadFrom (P : Problem Limit) (entries : List ℤ) (limits : Limits) (rows columns : ℕ) : Type 0 where
  entries-are : entries ≡ start_entries P
  limits-are : limits ≡ limits_for P
  rows_are : rows ≡ P.m
  columns-are : columns ≡ P.n

some_same : (k : ℕ) (f g : ℕ → Bool) → ((v : ℕ) → v < k → f v ≡ g v) → some_below k f ≡ some_below k g
some_same k f g h = same_tests _ _ (over f g h) (over g f (λ v l. sym (h v l)))
  where
    over : (f g : ℕ → Bool) → ((v : ℕ) → v < k → f v ≡ g v) → some_below k f ≡ true → some_below k g ≡ true
    over f g h e = let w = some_at k f e in some_of k w.0 g w.1 (sym (h w.0 w.1) ∙ w.2)

module _ (P : Problem Limit) (F : Fitting P) where
  abbrev read : Problem Limit
  read = problem_of (start_entries P) (limits_for P) P.m P.n

  module _ (d : ℤ) (x y : ℕ → ℤ) where
    -- ---- verdict 1

    abbrev solves : Problem Limit → (ℕ → ℤ) → Bool
    solves Q x = all_below P.m (λ i. eq_z (x (P.n + i)) (row_sum whole Q x i))

    abbrev meets : Problem Limit → Bool
    meets Q = all_below (vars P) (λ v. meets_both (Q.lower v) (Q.upper v) d (x v, y v))

    rows_same : (x : ℕ → ℤ) → solves read x ≡ solves P x
    unfolding problem_of start_laid
    rows_same x = all_same P.m _ _ (λ i h. ap (eq_z (x (P.n + i)))
        (sum_same P.n _ (λ j. P.coefficient i j *ℤ x j)
        (λ j k. ap (λ z. z *ℤ x j) (coefficient-start P F i j h k))))

    limits-same : meets read ≡ meets P
    unfolding problem_of start_laid
    limits-same = all_same (vars P) _ _ (λ v h. ap₂ (λ l u. meets_both l u d (x v, y v))
        (lower_of_lem P v h) (upper_of_lem P v h))

    right-can-start : right_can read d x y ≡ right_can P d x y
    unfolding right_can problem_of start_laid
    right-can-start = ap₂ (λ (r s : Bool). is_pos d && r && s && meets read) (rows_same x) (rows_same y)
        ∙ ap (λ (l : Bool). is_pos d && solves P x && solves P y && l) limits-same

    -- ---- verdict 2: x and y are the multipliers

    abbrev owing : Problem Limit → Bool
    owing Q = all_below (vars P) (λ v. owed (Q.lower v) (x v) && owed (Q.upper v) (y v))

    abbrev cancels : Problem Limit → Bool
    cancels Q = all_below P.n (λ j. eq_z (column Q (λ v. x v -ℤ y v) j) (pos 0))

    owing-same : owing read ≡ owing P
    unfolding problem_of start_laid
    owing-same = all_same (vars P) _ _ (λ v h. ap₂ (λ l u. owed l (x v) && owed u (y v))
        (lower_of_lem P v h) (upper_of_lem P v h))

    columns-same : cancels read ≡ cancels P
    unfolding problem_of start_laid column
    columns-same = all_same P.n _ _ (λ j h. ap (λ z. eq_z (b j +ℤ z) (pos 0))
        (sum_same P.m _ (λ i. P.coefficient i j *ℤ b (P.n + i))
        (λ i k. ap (λ z. z *ℤ b (P.n + i)) (coefficient-start P F i j k h))))
      where
        b : ℕ → ℤ
        b v = x v -ℤ y v

    surplus-same : surplus read x y ≡ surplus P x y
    unfolding problem_of start_laid surplus
    surplus-same = sum_same (vars P) _ (λ v. plain_of (P.lower v) *ℤ x v -ℤ plain_of (P.upper v) *ℤ y v)
        (λ v h. ap₂ (λ l u. plain_of l *ℤ x v -ℤ plain_of u *ℤ y v) (lower_of_lem P v h) (upper_of_lem P v h))

    marked-same : some_strict read x y ≡ some_strict P x y
    unfolding problem_of start_laid some_strict
    marked-same = some_same (vars P) _ _ (λ v h. ap₂ (λ l u. strict_named l (x v) || strict_named u (y v))
        (lower_of_lem P v h) (upper_of_lem P v h))

    right-cannot-start : right_cannot read d x y ≡ right_cannot P d x y
    unfolding right_cannot problem_of start_laid
    right-cannot-start = ap₂ (λ (f c : Bool). eq_z d (pos 0) && f && c
        && contradicts (surplus read x y) (some_strict read x y)) owing-same columns-same
        ∙ ap₂ (λ (z : ℤ) (m : Bool). eq_z d (pos 0) && owing P && cancels P && contradicts z m)
        surplus-same marked-same

  -- ---- what was read

  module _ {entries : List ℤ} {limits : Limits} {rows columns : ℕ} (R : ReadFrom P entries limits rows columns) where
    held-is : problem_of entries limits rows columns ≡ read
    held-is = let e = R.entries-are in let l = R.limits-are in let m = R.rows_are in let n = R.columns-are in cc

    held : InRanges entries limits rows columns
    unfolding start_laid
    held = rw (R.entries-are, R.limits-are, R.rows_are, R.columns-are) start
      where
        start : InRanges (start_entries P) (limits_for P) P.m P.n
        start = record {
          few-rows = F.few-rows;
          few-columns = F.few-columns;
          entries-within = record { each = coefficients-start P F };
          limited = record {
            lowers-within = (serves-start P F).lowers-within;
            uppers-within = (serves-start P F).uppers-within;
            lowers-plain = (serves-start P F).lowers-plain;
            uppers-plain = (serves-start P F).uppers-plain;
          };
        }

    right-can-same : (d : ℤ) (x y : ℕ → ℤ) → right_can (problem_of entries limits rows columns) d x y ≡ right_can P d
        x y
    right-can-same d x y = ap (λ (Q : Problem Limit). right_can Q d x y) held-is ∙ right-can-start d x y

    right-cannot-same : (d : ℤ) (x y : ℕ → ℤ) →
        right_cannot (problem_of entries limits rows columns) d x y ≡ right_cannot P d x y
    right-cannot-same d x y = ap (λ (Q : Problem Limit). right_cannot Q d x y) held-is ∙ right-cannot-start d x y

    can-same : (a : List ℤ) → shows_can (problem_of entries limits rows columns) a ≡ shows_can P a
    unfolding shows_can ranged_can problem_of start_laid
    can-same a = ap (λ (Q : Problem Limit). shows_can Q a) held-is
        ∙ ap (λ (b : Bool). b && ranged_can P (denominator_of a) (lower_part a) (upper_part (vars P) a))
        (right-can-start (denominator_of a) (lower_part a) (upper_part (vars P) a))

    cannot-same : (a : List ℤ) → shows_cannot (problem_of entries limits rows columns) a ≡ shows_cannot P a
    unfolding shows_cannot ranged_cannot problem_of start_laid
    cannot-same a = ap (λ (Q : Problem Limit). shows_cannot Q a) held-is
        ∙ ap (λ (b : Bool). b && ranged_cannot P (lower_part a) (upper_part (vars P) a))
        (right-cannot-start (denominator_of a) (lower_part a) (upper_part (vars P) a))

-- what was read from accepted words
module _ {ws entries : List ℤ} {limits : Limits} {n m : ℕ} (F : Framed ws n m) (A : Accepted most_rows ws)
    (e : entries ≡ start_entries (problem ws)) (l : limits ≡ limits_for (problem ws)) where
  words-read : ReadFrom (problem ws) entries limits m n
  words-read = record {
    entries-are = e;
    limits-are = l;
    rows_are = F.rows_are ∙ sym (problem-m ws);
    columns-are = F.columns-are ∙ sym (problem-n ws);
  }

  pub words-held : InRanges entries limits m n
  words-held = held (problem ws) (fitting-accepted ws A) words-read

  module _ (d : ℤ) (x y : ℕ → ℤ) where
    pub right-can-read : right_can (problem_of entries limits m n) d x y ≡ right_can (problem ws) d x y
    right-can-read = right-can-same (problem ws) (fitting-accepted ws A) words-read d x y

    pub right-cannot-read : right_cannot (problem_of entries limits m n) d x y ≡ right_cannot (problem ws) d x y
    right-cannot-read = right-cannot-same (problem ws) (fitting-accepted ws A) words-read d x y

  module _ (a : List ℤ) where
    pub can-read : shows_can (problem_of entries limits m n) a ≡ shows_can (problem ws) a
    can-read = can-same (problem ws) (fitting-accepted ws A) words-read a

    pub cannot-read : shows_cannot (problem_of entries limits m n) a ≡ shows_cannot (problem ws) a
    cannot-read = cannot-same (problem ws) (fitting-accepted ws A) words-read a
