-- `pivot::keep` meets its contract. Assumes nothing.
use Rattle.std.proofs.Common.{arith, ap, ◌∙◌, sym, ◌≡◌, ◌≤◌, ℕ, ℤ, pos, List, ◌++◌, take, drop, length, get_or}
use Rattle.std.proofs.lemmas.List.{get_or-take, length-take-le}
use Rattle.whole.specs.Tables.{table}
use Rattle.whole.proofs.Lists.Tables.{table_same, table-all}
use Rattle.pivot.proofs.keep.Goals as goal

-- the first cells, by place
front : (k : ℕ) (l : List ℤ) → k ≤ length l → take k l ≡ table k (λ i. get_or l i (pos 0))
front k l h = sym (table-all (take k l) (pos 0))
    ∙ ap (λ n. table n (λ i. get_or (take k l) i (pos 0))) (length-take-le k l h)
    ∙ table_same k _ _ (λ i b. get_or-take k l i (pos 0) b)

pub returns : goal.returns
returns c = ap (λ (l : List ℤ). l ++ drop c.args.live c.args.entries.now)
    (c.copy_from_slice.ensures.after ∙ front c.args.live c.args.next.now (omega arith))
