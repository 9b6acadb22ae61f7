-- Reading by places: what is read of a text from a place on, in a state of the reader. The definition over token
-- numbers is `read_text` of rules/specs/Exchange/Reader; `read-placed` says that both are the same.
use Rattle.std.specs.Prelude.{List, [], ◌∷◌, ℕ, length, Ok, Err}
use Rattle.std.proofs.Math.Option.{none, some}
use Rattle.rules.specs.Exchange.Tokens.{Token}
use Rattle.rules.specs.Exchange.Reader.{Got, ReaderState, TextOutcome, finish, got, pieces_words, refused_at, stuck}
use Rattle.rules.specs.Exchange.Reader.{token_step, words}
use Rattle.tokens.specs.Followed.{Followed}
use Rattle.tokens.specs.Gaps.{tokens_from}

-- at the end of the text, which has so many bytes
unfoldable pub ended_at : ℕ → Got → TextOutcome
ended_at size (got P) = words (pieces_words P)
ended_at size (stuck i) = refused_at size

unfoldable pub placed : ℕ → ReaderState → List Token → TextOutcome
placed size S [] = ended_at size (finish 0 S.todo S.stage)
placed size S (k ∷ ks) = elim (token_step S.todo S.stage k.bytes) [
  | none ↦ refused_at k.place
  | some T ↦ placed size T ks
]

-- from a place on
unfoldable pub read_from : List ℕ → ReaderState → ℕ → TextOutcome
read_from t S at = placed (length t) S (tokens_from t at)

-- .. and behind tokens that were followed
unfoldable pub read_behind : List ℕ → ReaderState → Followed → TextOutcome
read_behind t S (Ok p) = read_from t S p
read_behind t S (Err e) = refused_at e.place
