-- How often limits are named, one body more.
--   as-table         a list is the table of what stands in it
--   tallied-table    a table of counts, one more where a multiplier is not 0
--   tallied-none     no variable, no change
use mathlib.Core.Bool.{cond, not, ◌&&◌}
use mathlib.Core.List.{List, ◌++◌}
use mathlib.Core.Path.{ap, refl, sym, ◌∙◌, ◌≡◌}
use Prim.Native.Nat.{ℕ, ◌+◌, ◌-◌, ◌<◌, ◌≤◌}
use native.Mathlib.Decide.{dec_lt}
use native.Mathlib.Omega.{arith}
use borrow.Author.Tests.{le-ltb, lt-ltb}
use lib.IntN.{pos, ℤ}
use lib.ListN.{get_or-append, drop, get_or, length, length-append, length-drop}
use lib.Seq.{get_or-append-add, get_or-drop}
use Rattle.whole.proofs.Lists.Tables.{table-all, table_at, table-length, table_same}
use Rattle.whole.specs.Numbers.{eq_z}
use Rattle.whole.specs.Tables.{table, table_from}
use Rattle.rules.specs.Problem.{word}
use Rattle.rules.specs.Sheet.Totals.{names}
use Rattle.tally.specs.Counting.{one_more, tallied_at}

pub as-table : (n : ℕ) (l : List ℕ) (g : ℕ → ℕ) → length l ≡ n → ((i : ℕ) → i < n → get_or l i 0 ≡ g i) → l ≡ table n g
as-table n l g e h = sym (table-all l 0) ∙ ap (λ k. table k (λ i. get_or l i 0)) e ∙ table_same n (λ i. get_or l i 0)
    g h

module _ (n : ℕ) (f : ℕ → ℕ) (a : List ℤ) (at : ℕ) where
  tallied-at : (N v : ℕ) → N ≤ n → v < n → Dec (v < N) →
      get_or (tallied_at (table n f) a at N) v 0 ≡ f v + cond (names N v (word a (at + v))) 1 0
  unfolding tallied_at names
  tallied-at N v h l (yes q) =
      get_or-append (table N (one_more (table n f) a at)) (drop N (table n f)) 0 v (rw table-length q)
      ∙ table_at N (one_more (table n f) a at) 0 v q
      ∙ ap (λ c. c + cond (not (eq_z (word a (at + v)) (pos 0))) 1 0) (table_at n f 0 v l)
      ∙ ap (λ b. f v + cond (b && not (eq_z (word a (at + v)) (pos 0))) 1 0) (sym (lt-ltb v N q))
  tallied-at N v h l (no q) =
      ap (λ i. get_or (table N (one_more (table n f) a at) ++ drop N (table n f)) i 0) split
      ∙ get_or-append-add (table N (one_more (table n f) a at)) (drop N (table n f)) (v - N) 0
      ∙ get_or-drop N (table n f) (v - N) 0
      ∙ ap (λ i. get_or (table n f) i 0) (let z : N + (v - N) ≡ v = omega arith in z)
      ∙ table_at n f 0 v l
      ∙ (let z : f v ≡ f v + 0 = omega arith in z)
      ∙ ap (λ b. f v + cond (b && not (eq_z (word a (at + v)) (pos 0))) 1 0) (sym (le-ltb v N (omega arith)))
    where
      split : v ≡ length (table N (one_more (table n f) a at)) + (v - N)
      split = rw (table-length N (one_more (table n f) a at)) (omega arith)

  tallied-length : (N : ℕ) → N ≤ n → length (tallied_at (table n f) a at N) ≡ n
  unfolding tallied_at
  tallied-length N h = simp (length-append, length-drop, table-length) (omega arith)

  pub tallied-table : (N : ℕ) → N ≤ n →
      tallied_at (table n f) a at N ≡ table n (λ v. f v + cond (names N v (word a (at + v))) 1 0)
  tallied-table N h = as-table n (tallied_at (table n f) a at N) _ (tallied-length N h)
      (λ v l. tallied-at N v h l (dec_lt v N))

pub tallied-none : (l : List ℕ) (a : List ℤ) (at : ℕ) → tallied_at l a at 0 ≡ l
unfolding tallied_at table_from
tallied-none l a at = refl
