-- docs/formats/smtlib.md, "Reading", in plain facts: at which place a text is refused.
use Rattle.std.specs.Prelude.{List, ◌++◌, ◌≡◌, ℕ, suc, ◌≤◌, ◌<◌, ℤ, length, take}
use Rattle.rules.specs.Refusal.{Accepted}
use Rattle.rules.specs.Sizes.{most_rows}
use Rattle.rules.specs.Exchange.Script.{exchange_text}
use Rattle.rules.specs.Exchange.Tokens.{token_place, token_bytes}

-- the text of some accepted problem begins with these tokens
pub record Begins (ts : List (List ℕ)) : Type 0 where
  pub words : List ℤ
  pub accepted : Accepted most_rows words
  pub rest : List (List ℕ)
  pub begins : token_bytes (exchange_text words) ≡ ts ++ rest

-- a text is refused at token number i, from 0: the text of some accepted problem begins with the tokens before it, and
-- none with those up to it. Where all tokens can stand there i is their number: the text ends early, and has the tokens
-- of no accepted problem
pub record RefusedBy (t : List ℕ) (i : ℕ) : Type 0 where
  pub in-text : i ≤ length (token_bytes t)
  pub before : Begins (take i (token_bytes t))
  pub never : i < length (token_bytes t) → Begins (take (suc i) (token_bytes t)) → ⊥
  pub other : (ws : List ℤ) → Accepted most_rows ws → token_bytes t ≡ token_bytes (exchange_text ws) → ⊥

-- .. and at a place: that of such a token, or the text's length
pub record RefusedThere (t : List ℕ) (p : ℕ) : Type 0 where
  pub count : ℕ
  pub refused : RefusedBy t count
  pub place : p ≡ token_place t count
