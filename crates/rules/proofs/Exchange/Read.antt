-- What is written reads back.
--   read-pieces    the tokens of fine parts are read
--   read-any      a text with the tokens of the text of accepted words gives those words
--   read_back  so does that text itself
use mathlib.Core.List.{List, [], append-nil}
use mathlib.Core.Path.{◌≡◌, refl, sym, ◌∙◌, ap}
use Prim.Native.Nat.{ℕ}
use lib.IntN.{ℤ}
use Rattle.rules.specs.Refusal.{Accepted}
use Rattle.rules.specs.Sizes.{most_rows}
use Rattle.rules.specs.Exchange.Tokens.{token_bytes}
use Rattle.rules.specs.Exchange.Script.{exchange_text}
use Rattle.rules.specs.Exchange.Reader.{Pieces, finish, got, text_outcome, pieces, read_text, reads, outset, words}
use Rattle.rules.proofs.Exchange.Tokens.Said.{pieces_of, said}
use Rattle.rules.proofs.Exchange.Words.Whole.{fine-pieces, pieces-back, takes-words}
use Rattle.rules.proofs.Exchange.Reader.Taken.{pieces-lead}
use Rattle.rules.proofs.Exchange.Reader.Limits.{takes}
use Rattle.rules.proofs.Exchange.Tokens.Written.{tokens-written}
use Rattle.rules.proofs.Exchange.Reader.Rows.{FinePieces}
use Rattle.rules.proofs.Exchange.Reader.Turns.{leads-reads}

pub read-pieces : (P : Pieces) → FinePieces P →
    reads 0 outset (said P) ≡ got (takes (pieces P.n P.m P.rows []) 0 P.limits)
unfolding reads finish
read-pieces P f = ap (reads 0 outset) (sym (append-nil (said P))) ∙ leads-reads 0 [] (pieces-lead P f)

-- same tokens, same words
pub read-any : (ws : List ℤ) (t : List ℕ) → Accepted most_rows ws → token_bytes t ≡ token_bytes (exchange_text ws) →
    read_text t ≡ words ws
unfolding read_text text_outcome pieces_of
read-any ws t A e =
    let f = fine-pieces ws A in
    ap (λ l. text_outcome t (reads 0 outset l)) (e ∙ tokens-written ws f.n-least)
    ∙ ap (text_outcome t) (read-pieces (pieces_of ws) f)
    ∙ ap words (takes-words (pieces_of ws) ∙ pieces-back ws A)

pub read_back : (ws : List ℤ) → Accepted most_rows ws → read_text (exchange_text ws) ≡ words ws
read_back ws A = read-any ws (exchange_text ws) A refl
