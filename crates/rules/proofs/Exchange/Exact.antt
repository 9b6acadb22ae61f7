-- What is read is what is written, and nothing else.
--   read-heard   the tokens that are read are those of fine parts
--   read_only    words that are read are accepted, and the text has the tokens of theirs
use mathlib.Core.List.{List, [], append-nil}
use mathlib.Core.Path.{◌≡◌, refl, sym, ◌∙◌, subst}
use Prim.Native.Nat.{ℕ, ◌≤◌}
use native.Mathlib.Omega.{arith}
use lib.IntN.{ℤ}
use Rattle.rules.specs.Refusal.{Accepted}
use Rattle.rules.specs.Sizes.{most_rows}
use Rattle.rules.specs.Exchange.Tokens.{token_bytes}
use Rattle.rules.specs.Exchange.Script.{exchange_text}
use Rattle.rules.specs.Exchange.Reader.{Bytes, Got, Pieces, ended, got, on, text_outcome, read_text, reads, outset}
use Rattle.rules.specs.Exchange.Reader.{stuck, words, pieces_words}
use Rattle.rules.proofs.Exchange.Words.Back.{accepted-words, n-is, said-back}
use Rattle.rules.proofs.Exchange.Reader.Kept.{heard-leads, heard-start}
use Rattle.rules.proofs.Exchange.Reader.Turns.{LeadsTo, reads-got}
use Rattle.rules.proofs.Exchange.Tokens.Written.{tokens-written}
use Rattle.rules.proofs.Exchange.Tokens.Said.{said}
use Rattle.rules.proofs.Exchange.Reader.Heard.{heard}
use Rattle.rules.proofs.Exchange.Reader.Rows.{FinePieces}

pub read-heard : (ts : List Bytes) (P : Pieces) → LeadsTo outset ts (on [] (ended P)) → (ts ≡ said P) × FinePieces P
unfolding heard
read-heard ts P r =
    let h = heard-leads outset (on [] (ended P)) [] ts r heard-start in
    (sym (append-nil ts) ∙ h.is, h.good)

-- the words of fine parts have their tokens
pub pieces-written : (P : Pieces) → FinePieces P → token_bytes (exchange_text (pieces_words P)) ≡ said P
pieces-written P f = tokens-written (pieces_words P) (subst (λ k. 1 ≤ k) (sym (n-is P f)) f.n-least) ∙ said-back P f

pub read_only : (t : List ℕ) (ws : List ℤ) → read_text t ≡ words ws →
    Accepted most_rows ws × (token_bytes t ≡ token_bytes (exchange_text ws))
unfolding read_text text_outcome
read_only t ws e = go (reads 0 outset (token_bytes t)) refl e
  where
    go : (g : Got) → reads 0 outset (token_bytes t) ≡ g → text_outcome t g ≡ words ws →
        Accepted most_rows ws × (token_bytes t ≡ token_bytes (exchange_text ws))
    go (got P) q w =
        let same_bytes : pieces_words P ≡ ws = cc in
        let h = read-heard (token_bytes t) P (reads-got 0 outset (token_bytes t) P q) in
        subst (λ x. Accepted most_rows x × (token_bytes t ≡ token_bytes (exchange_text x))) same_bytes
        (accepted-words P h.1, h.0 ∙ sym (pieces-written P h.1))
    go (stuck i) q w = let z : ◌≡◌ {A = ℕ} 0 1 = cc in let o : ⊥ = omega arith in absurd o
