-- Sets of variables, as the code has them.
--   seats_mask   the basic ones, by the seats of the struct
--   went_from    a variable is in the first set and not in the second
--   gone_from    the lowest such variable below N, or 0
use Rattle.std.specs.Prelude.{Bool, cond, not, ◌&&◌, List, ℕ, get_or}
use Rattle.std.proofs.Math.Option.{Option, none, some}
use Rattle.whole.specs.Below.{lowest}
use Rattle.rules.specs.Runs.Replay.{bit_in, mask_below}
use Rattle.tableau.specs.Parts.{nowhere}
use Rattle.tableau.specs.declared.Seat.{Seat}

abbrev pub seats_mask : List Seat → ℕ → ℕ
seats_mask seats N = mask_below N (λ v. (get_or seats v nowhere).basic)

abbrev pub went_from : ℕ → ℕ → ℕ → Bool
went_from from to v = bit_in from v && not (bit_in to v)

abbrev pub gone_at : ℕ → ℕ → ℕ → Option ℕ
gone_at from to v = cond (went_from from to v) (some v) none

abbrev pub or_zero : Option ℕ → ℕ
or_zero none = 0
or_zero (some v) = v

abbrev pub gone_from : ℕ → ℕ → ℕ → ℕ
gone_from from to N = or_zero (lowest N (gone_at from to))
