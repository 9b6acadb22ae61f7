-- `judge::Frame::some_bad_variable` meets its contract. The invariant: whether one of the variables passed fails what
-- is
-- asked.
use Rattle.std.proofs.Common.{◌≡◌, Bool, List, ℕ, ℤ}
use Rattle.whole.specs.Below.{some_below}
use Rattle.rules.specs.Problem.{kind, lower_word, upper_word}
use Rattle.judge.specs.declared.Asked.{Asked}
use Rattle.judge.specs.Words.{bad_by}
use Rattle.judge.proofs.Frame.some_bad_variable.Given as goal

abbrev pub bad-at : Asked → List ℤ → ℕ → Bool
bad-at asked ws v = bad_by asked (kind ws v) (lower_word ws v) (upper_word ws v)

abbrev pub invariant-loop-variable : goal.invariant-loop-variable
invariant-loop-variable l = l.bad ≡ some_below l.variable-index (bad-at l.asked l.self.words.now)
