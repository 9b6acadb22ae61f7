-- `timecheck::cycle::Cycle::word_sum` meets its contract. The invariant: the sum is that of the rows passed, each word
-- within the largest length. Assumes nothing.
use Rattle.std.proofs.Common.{◌≡◌, ◌∙◌, ap, sym, refl, List, ℕ, ◌+◌, ◌*◌, ◌<◌, ◌≤◌, ℤ, ◌+ℤ◌, to_z, of_z, w32, w64}
use Rattle.std.proofs.Common.{arith}
use Rattle.std.proofs.Common.{rules}
use mir.Facts.{to_z-of_z}
use mir.Val.{SFits}
use Rattle.whole.proofs.Numbers.Sizes.{fits-by, within-le}
use Rattle.whole.proofs.Numbers.Sums.{sum_step, sum-within}
use Rattle.whole.specs.Numbers.{Within}
use Rattle.whole.specs.Sums.{sum_by}
use Rattle.rules.specs.Problem.{word}
use Rattle.rules.specs.Sizes.{largest_length, most_vertices}
use Rattle.rules.specs.Times.Check.{row_named}
use Rattle.timecheck.specs.Walk.{Named, Summable, word_sum}
use Rattle.timecheck.proofs.Laws.Cycles.{row_in_lem}
use Rattle.timecheck.proofs.cycle.Cycle.word_sum.Goals as goal

pub loop-k-init : goal.loop-k-init
unfolding word_sum sum_by
loop-k-init c = refl

module _ {ws a : List ℤ} {count : ℕ} (N : Named ws a count) {at : ℕ} (S : Summable ws at) (k : ℕ) (h : k < count) where
  -- a word more
  more : word_sum ws a at k +ℤ word ws (at + 4 * row_named a k) ≡ word_sum ws a at (k + 1)
  unfolding word_sum
  more = sym (sum_step k (λ j. word ws (at + 4 * row_named a j)))

  term : (j : ℕ) → j < count → Within (word ws (at + 4 * row_named a j)) largest_length
  term j l = S.each (row_named a j) (row_in_lem _ _ (N.least j l) (N.most j l))

  fit-sum : SFits w64 (word_sum ws a at k +ℤ word ws (at + 4 * row_named a k))
  unfolding word_sum
  fit-sum = rw more
      (fits-by (within-le (sum-within (k + 1) (λ j l. term j (omega (arith, l, h)))) bound) tt)
    where
      bound : (k + 1) * largest_length ≤ most_vertices * largest_length
      bound = omega (arith, h, N.few)

-- a word as the code reads it
read : (ws : List ℤ) (at row named : ℕ) (s : ℤ) → SFits w64 s → s ≡ to_z w32 (of_z w32 (word ws (at + 4 * row))) →
    SFits w32 (word ws (at + 4 * row)) → row ≡ named → to_z w64 (of_z w64 s) ≡ word ws (at + 4 * named)
read ws at row named s f e g w = to_z-of_z f ∙ e ∙ to_z-of_z g ∙ ap (λ j. word ws (at + 4 * j)) w

pub overflow_add-sum : goal.overflow_add-sum
overflow_add-sum c =
    let it =
    read c.args.self.now.rows.now.words.now c.args.at _ _ _ (search rules) c.from-sum.ensures (search rules)
    c.row.ensures in
    rw (c.loop-k.invariant, it) (fit-sum c.args.self.now.named c.requires c.loop-k.k c.loop-k-test.true)

pub loop-k-preserved : goal.loop-k-preserved
loop-k-preserved c =
    let it =
    read c.args.self.now.rows.now.words.now c.args.at _ _ _ (search rules) c.from-sum.ensures (search rules)
    c.row.ensures in
    rw (c.loop-k.invariant, it)
    (to_z-of_z (fit-sum c.args.self.now.named c.requires c.loop-k.k c.loop-k-test.true)
    ∙ more c.args.self.now.named c.requires c.loop-k.k c.loop-k-test.true)
