-- docs/formats/smtlib.md, "Tokens": a token is a parenthesis, or a run of bytes that are no white space, no parenthesis
-- and no semicolon. White space and comments stand between tokens; a comment runs from a semicolon to the end of its
-- line, or of the text. A token has a place, that of its first byte.
use Rattle.std.specs.Prelude.{Bool, cond, not, ◌||◌, List, [], ◌∷◌, ◌++◌, map, ℕ, suc, eqb, length, get_or}

-- tab, line feed, carriage return, space
unfoldable pub is_blank : ℕ → Bool
is_blank b = eqb b 9 || eqb b 10 || eqb b 13 || eqb b 32

unfoldable pub is_parenthesis : ℕ → Bool
is_parenthesis b = eqb b 40 || eqb b 41

-- a line ends at a line feed and at a carriage return
unfoldable pub ends_line : ℕ → Bool
ends_line b = eqb b 10 || eqb b 13

-- a semicolon
unfoldable pub is_comment : ℕ → Bool
is_comment b = eqb b 59

-- a byte of a run
unfoldable pub is_plain : ℕ → Bool
is_plain b = not (is_blank b || is_parenthesis b || is_comment b)

-- where a token starts, and its bytes
pub record Token : Type 0 where
  pub place : ℕ
  pub bytes : List ℕ

abbrev pub token : ℕ → List ℕ → Token
token p w = record { place = p; bytes = w }

-- between tokens, in a comment, or in a run that started at a place and has these bytes so far
pub data Mode : Type 0 where
  between : Mode
  comment : Mode
  running : ℕ → List ℕ → Mode

-- a byte at place p, between tokens: what it begins, and whether it is a token by itself
unfoldable pub begins : ℕ → ℕ → Mode
begins p b = cond (is_comment b) comment (cond (is_plain b) (running p (b ∷ [])) between)

unfoldable pub single : ℕ → ℕ → List Token
single p b = cond (is_parenthesis b) (token p (b ∷ []) ∷ []) []

-- .. and in any mode: what comes then, and the tokens that it ends or is
unfoldable pub mode_after : Mode → ℕ → ℕ → Mode
mode_after between p b = begins p b
mode_after comment p b = cond (ends_line b) between comment
mode_after (running q w) p b = cond (is_plain b) (running q (w ++ (b ∷ []))) (begins p b)

unfoldable pub tokens_at : Mode → ℕ → ℕ → List Token
tokens_at between p b = single p b
tokens_at comment p b = []
tokens_at (running q w) p b = cond (is_plain b) [] (token q w ∷ single p b)

-- at the end of the text
unfoldable pub last : Mode → List Token
last between = []
last comment = []
last (running q w) = token q w ∷ []

-- the tokens of what is left of a text, from place p on
unfoldable pub scan : Mode → ℕ → List ℕ → List Token
scan m p [] = last m
scan m p (b ∷ t) = tokens_at m p b ++ scan (mode_after m p b) (suc p) t

unfoldable pub tokens : List ℕ → List Token
tokens t = scan between 0 t

-- the bytes of each token
unfoldable pub token_bytes : List ℕ → List (List ℕ)
token_bytes t = map (λ (k : Token). k.bytes) (tokens t)

-- the place of token number i, from 0; behind the last one it is the text's length
unfoldable pub token_place : List ℕ → ℕ → ℕ
token_place t i = get_or (map (λ (k : Token). k.place) (tokens t)) i (length t)
