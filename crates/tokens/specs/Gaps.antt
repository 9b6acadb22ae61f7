-- docs/formats/smtlib.md, "Tokens", by places: how many bytes stand between tokens, how many a token has, and the place
-- that they end at.
use Rattle.std.specs.Prelude.{Bool, true, false, not, ◌&&◌, ◌||◌, List, [], ◌∷◌, ℕ, suc, ◌+◌, ◌-◌, drop, take}
use Rattle.rules.specs.Exchange.Tokens.{Token, between, ends_line, is_blank, is_comment, is_parenthesis, is_plain, scan}

-- whether a byte stands between tokens, in a comment or not; and whether the next one is in a comment
unfoldable pub stands_between : Bool → ℕ → Bool
stands_between noted b = noted || (is_blank b || is_comment b)

unfoldable pub noting : Bool → ℕ → Bool
noting noted b = (noted && not (ends_line b)) || (not noted && is_comment b)

-- the bytes at the front that stand between tokens
unfoldable pub gap_length : Bool → List ℕ → ℕ
gap_length noted [] = 0
gap_length noted (b ∷ t) = elim (stands_between noted b) [ true ↦ suc (gap_length (noting noted b) t) | false ↦ 0 ]

-- the bytes at the front that are of a run
unfoldable pub run_length : List ℕ → ℕ
run_length [] = 0
run_length (b ∷ t) = elim (is_plain b) [ true ↦ suc (run_length t) | false ↦ 0 ]

-- the bytes of the token that starts there; nothing starts at the end
unfoldable pub width : List ℕ → ℕ
width [] = 0
width (b ∷ t) = elim (is_parenthesis b) [ true ↦ 1 | false ↦ suc (run_length t) ]

-- the next token's place, or the text's length; where a token stops; and its bytes
unfoldable pub start_at : List ℕ → ℕ → ℕ
start_at t at = at + gap_length false (drop at t)

unfoldable pub stop_at : List ℕ → ℕ → ℕ
stop_at t at = at + width (drop at t)

unfoldable pub bytes_at : List ℕ → ℕ → List ℕ
bytes_at t at = take (width (drop at t)) (drop at t)

-- the bytes from one place up to another
unfoldable pub part : List ℕ → ℕ → ℕ → List ℕ
part t from to = take (to - from) (drop from t)

-- the tokens from a place on, which is not inside of one
unfoldable pub tokens_from : List ℕ → ℕ → List Token
tokens_from t at = scan between at (drop at t)
