-- `judge::Frame::some_bad_coefficient` meets its contract. The invariant: whether one of the coefficients passed is
-- outside its range.
use Rattle.std.proofs.Common.{◌≡◌, ◌+◌, Bool, not, List, ℕ, ℤ}
use Rattle.whole.specs.Below.{some_below}
use Rattle.whole.specs.Numbers.{within}
use Rattle.rules.specs.Sizes.{largest_coefficient}
use Rattle.rules.specs.Problem.{word}
use Rattle.judge.proofs.Frame.some_bad_coefficient.Given as goal

abbrev pub bad-at : List ℤ → ℕ → Bool
bad-at ws i = not (within largest_coefficient (word ws (2 + i)))

abbrev pub invariant-loop-word : goal.invariant-loop-word
invariant-loop-word l = l.bad ≡ some_below l.word-index (bad-at l.self.words.now)
