-- One limit: which variable has it, and its words.
use Rattle.std.specs.Prelude.{Bool, true, false, cond, ◌&&◌, List, [], ◌≡◌, ℕ, ◌+◌, ◌*◌, leb}
use Rattle.std.specs.Prelude.{ℤ, pos, ◌+ℤ◌, get_or, length, set, Result, Ok, Err}
use Rattle.std.proofs.Math.Option.{Option, none, some}
use Rattle.whole.specs.Below.{lowest}
use Rattle.rules.specs.Exchange.Script.{name_of}
use Rattle.rules.specs.Exchange.Reader.{Pieces, TextOutcome, bounding, on, refused_at, relating}
use Rattle.tokens.specs.declared.Halted.{Halted}
use Rattle.tokens.specs.Followed.{Followed}
use Rattle.tokens.specs.Placed.{read_behind, read_from}
use Rattle.reader.specs.declared.limits.Related.{Related}
use Rattle.reader.specs.Flow.{StandsAt, next_is, skip_if}

-- 0 for a lower limit, 1 for an upper one
unfoldable pub side_number : Bool → ℕ
side_number upper = cond upper 1 0

-- the lowest variable from `from` on whose name stands there, or `most`
unfoldable pub or_most : ℕ → Option ℕ → ℕ
or_most most none = most
or_most most (some v) = v

unfoldable pub name_test : List ℕ → Followed → ℕ → ℕ → ℕ → Option ℕ
name_test t so n from v = cond (leb from v && next_is t so (name_of n v)) (some v) none

unfoldable pub variable_from : List ℕ → Followed → ℕ → ℕ → ℕ → ℕ
variable_from t so n from most = or_most most (lowest most (name_test t so n from))

-- 1, and 4 more where it is strict
unfoldable pub mark_of : Bool → ℕ
mark_of strict = 1 + cond strict 4 0

-- the three words of a variable, from `at` on, with one limit more
unfoldable pub limit_set : List ℤ → ℕ → Bool → Bool → ℤ → List ℤ
limit_set ws at false strict z = set (set ws at (pos (mark_of strict))) (at + 1) z
limit_set ws at true strict z = set (set ws at (get_or ws at (pos 0) +ℤ pos (2 * mark_of strict))) (at + 2) z

-- a relation, and the place behind it, or halted
unfoldable pub related : Followed → Bool → Bool → Result Related Halted
related (Ok at) upper strict = Ok (record { upper = upper; strict = strict; at = at })
related (Err e) upper strict = Err e

unfoldable pub related_by : List ℕ → Followed → Bool → Bool → Bool → Result Related Halted
related_by t so left upper strict = related (skip_if t so left) upper strict

-- what is read behind it
unfoldable pub read_related : List ℕ → Pieces → Result Related Halted → TextOutcome
read_related t P (Ok r) = read_from t (on [] (bounding P (side_number r.upper) r.strict)) r.at
read_related t P (Err e) = refused_at e.place

-- a relation is read, where `count` limits are passed of `most`
pub record RelationGoes (t : List ℕ) (so : Followed) (count most : ℕ) (r : Result Related Halted) : Type 0 where
  pub goes : (P : Pieces) → length P.limits ≡ count → 2 * (P.n + P.m) ≡ most →
      read_behind t (on [] (relating P)) so ≡ read_related t P r
  pub stands : (s : Related) → r ≡ Ok s → StandsAt t (Ok s.at)
