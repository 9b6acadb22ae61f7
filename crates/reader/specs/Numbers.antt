-- A number by its next token: a numeral, or the size of a number below 0.
use Rattle.std.specs.Prelude.{Bool, true, false, not, ◌&&◌, ◌||◌, List, [], ◌≡◌, ℕ, zero, suc}
use Rattle.std.specs.Prelude.{eqb, ltb, ℤ, negsuc, pos, length, Result, Ok, Err, Option, Some, None}
use Rattle.whole.specs.Numbers.{eq_z, within}
use Rattle.rules.specs.Exchange.Reader.{Spot, fits, number, on, taken}
use Rattle.tokens.specs.declared.Halted.{Halted}
use Rattle.tokens.specs.Followed.{Followed, halted}
use Rattle.tokens.specs.Placed.{read_behind}
use Rattle.tokens.specs.Numeral.{short_numeral}
use Rattle.tokens.specs.Gaps.{bytes_at, start_at, stop_at}
use Rattle.reader.specs.declared.numbers.Asked.{Asked}
use Rattle.reader.specs.declared.numbers.Told.{Told}
use Rattle.reader.specs.Flow.{StandsAt}

-- what is asked of a number is what its spot takes
pub record Asks (c : Spot) (a : Asked) : Type 0 where
  pub same : (z : ℤ) → fits c z ≡ (within a.largest z && not (a.blank && eq_z z (pos 0)))

-- up to the largest size; 0 is no size of a number below 0
unfoldable pub admissible : ℕ → Bool → Asked → Bool
admissible k below a = elim (ltb a.largest k) [ true ↦ false | false ↦ not (eqb k 0 && (below || a.blank)) ]

unfoldable pub value_by : Bool → ℕ → ℤ
value_by false k = pos k
value_by true zero = pos 0
value_by true (suc k) = negsuc k

-- the place behind a number, or halted; and the number, 0 where there is none
abbrev pub told_place : Result Told Halted → Followed
told_place (Ok r) = Ok r.at
told_place (Err e) = Err e

abbrev pub told_value : Result Told Halted → ℤ
told_value (Ok r) = r.value
told_value (Err e) = pos 0

unfoldable pub numeral_fit : List ℕ → ℕ → Bool → ℕ → Bool → Result Told Halted
numeral_fit t at below k false = halted at
numeral_fit t at below k true = Ok (record { value = value_by below k; at = start_at t (stop_at t at) })

unfoldable pub numeral_by : List ℕ → ℕ → Bool → Asked → Option ℕ → Result Told Halted
numeral_by t at below a None = halted at
numeral_by t at below a (Some k) = numeral_fit t at below k (admissible k below a)

unfoldable pub numeral_at : List ℕ → ℕ → Bool → Asked → Result Told Halted
numeral_at t at below a =
    elim (ltb at (length t)) [ true ↦ numeral_by t at below a (short_numeral (bytes_at t at)) | false ↦ halted at ]

unfoldable pub numeral_on : List ℕ → Followed → Bool → Asked → Result Told Halted
numeral_on t (Ok at) below a = numeral_at t at below a
numeral_on t (Err e) below a = Err e

-- a number is read, in any spot that asks so
pub record NumberGoes (t : List ℕ) (so : Followed) (a : Asked) (r : Result Told Halted) : Type 0 where
  pub goes : (c : Spot) → Asks c a →
      read_behind t (on [] (number c)) so ≡ read_behind t (taken c (told_value r)) (told_place r)
  pub stands : StandsAt t (told_place r)
