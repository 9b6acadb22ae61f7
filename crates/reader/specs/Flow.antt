-- A reading that goes on from a place, or was halted at one: its next token, and what comes behind it.
use Rattle.std.specs.Prelude.{Bool, true, false, List, ◌≡◌, ℕ, ◌≤◌, eqb, ltb, length, Ok, Err}
use Rattle.std.proofs.Math.Option.{Option, none, some}
use Rattle.rules.specs.Program.Text.{ascii}
use Rattle.rules.specs.Exchange.Reader.{Bytes, same_bytes}
use Rattle.tokens.specs.Followed.{Followed, followed, halted}
use Rattle.tokens.specs.Gaps.{bytes_at, start_at, stop_at}

-- a place that is reached is that of a token, or the end
pub record StandsAt (t : List ℕ) (so : Followed) : Type 0 where
  pub inside : (at : ℕ) → so ≡ Ok at → at ≤ length t
  pub starts : (at : ℕ) → so ≡ Ok at → start_at t at ≡ at

abbrev pub followed_on : List ℕ → Followed → List Bytes → Followed
followed_on t (Ok at) ws = followed t at ws
followed_on t (Err e) ws = Err e

-- the token there, where there is one
unfoldable pub token_of : List ℕ → ℕ → Option Bytes
token_of t at = elim (ltb at (length t)) [ true ↦ some (bytes_at t at) | false ↦ none ]

unfoldable pub next_token : List ℕ → Followed → Option Bytes
next_token t (Ok at) = token_of t at
next_token t (Err e) = none

unfoldable pub token_is : Bytes → Option Bytes → Bool
token_is w none = false
token_is w (some v) = same_bytes w v

unfoldable pub next_is : List ℕ → Followed → Bytes → Bool
next_is t so w = token_is w (next_token t so)

-- behind that token where it may stand there, or halted at it
unfoldable pub skip_by : List ℕ → ℕ → Option Bytes → Bool → Followed
skip_by t at none may = halted at
skip_by t at (some w) false = halted at
skip_by t at (some w) true = Ok (start_at t (stop_at t at))

unfoldable pub skip_at : List ℕ → ℕ → Bool → Followed
skip_at t at may = skip_by t at (token_of t at) may

unfoldable pub skip_if : List ℕ → Followed → Bool → Followed
skip_if t (Ok at) may = skip_at t at may
skip_if t (Err e) may = Err e

-- tokens of a sum, which one term has not
unfoldable pub sum_on : List ℕ → Followed → ℕ → List Bytes → Followed
sum_on t so n ws = elim (eqb n 1) [ true ↦ so | false ↦ followed_on t so ws ]

-- the words that begin declarations, rows and limits
unfoldable pub declare_token : Bytes
declare_token = ascii "declare-const"

unfoldable pub assert_token : Bytes
assert_token = ascii "assert"
