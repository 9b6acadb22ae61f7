-- The byte count, judged first: which refusal it has, exactly.
--   count-exactly   k exactly where line k of `count_table` (specs/Program/Bytes) is the first that applies
--   count-fine      0 exactly for whole words, from 8 bytes to the most
use mathlib.Core.Bool.{not, ◌||◌}
use mathlib.Core.List.{[], ◌∷◌}
use mathlib.Core.Logic.{◌↔◌}
use mathlib.Core.Path.{◌≡◌}
use Prim.Native.Nat.{ℕ, ◌%◌}
use native.Mathlib.Omega.{arith}
use lib.Dec.{eqb, ltb}
use Rattle.whole.proofs.Tells.{tells-eq, tells-lt, tells-not, tells-or}
use Rattle.rules.proofs.Refusal.First.{Tested, first-exactly, first_fine, no_test, tested}
use Rattle.rules.specs.Sizes.{most_bytes}
use Rattle.rules.specs.Program.Bytes.{count_refusal, count_table}
use Rattle.rules.specs.Facts.Refusal.{AllFine, First}

count-tested : (n : ℕ) → Tested ((ltb n 8, 1) ∷ (not (eqb (n % 4) 0) || ltb most_bytes n, 3) ∷ []) (count_table n)
count-tested n =
    tested (tells-lt n 8) (tested (tells-or (tells-not (tells-eq (n % 4) 0)) (tells-lt most_bytes n)) no_test)

pub count-exactly : (n k : ℕ) → (count_refusal n ≡ k) ↔ First (count_table n) k
unfolding count_refusal
count-exactly n k = first-exactly (count-tested n) k

pub count-fine : (n : ℕ) → (count_refusal n ≡ 0) ↔ AllFine (count_table n)
unfolding count_refusal
count-fine n = first_fine (count-tested n) (λ e. omega arith, (λ e. omega arith, tt))
