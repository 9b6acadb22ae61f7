-- Tokens that must follow one after the other from a place on: the place behind them, or that of the first that is not
-- there.
use Rattle.std.specs.Prelude.{true, false, List, [], ◌∷◌, ℕ, ltb, length, Result, Ok, Err}
use Rattle.rules.specs.Exchange.Reader.{same_bytes}
use Rattle.tokens.specs.declared.Halted.{Halted}
use Rattle.tokens.specs.Gaps.{bytes_at, start_at, stop_at}

-- the place behind tokens that were followed, or halted
abbrev pub Followed : Type 0
Followed = Result ℕ Halted

abbrev pub halted : {A : Type 0} → ℕ → Result A Halted
halted at = Err (record { place = at })

unfoldable pub followed : List ℕ → ℕ → List (List ℕ) → Followed
followed t at [] = Ok at
followed t at (w ∷ ws) = elim (ltb at (length t)) [
  | false ↦ halted at
  | true ↦ elim (same_bytes w (bytes_at t at)) [ true ↦ followed t (start_at t (stop_at t at)) ws | false ↦ halted at ]
]
