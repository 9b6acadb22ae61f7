-- The place of a refusal is exactly that of the first token such that no text of an accepted problem begins with the
-- tokens up to it.
--   place-never     no such text begins with the tokens up to it
--   place-before    one begins with those before it
--   place-exactly   so it is told (RefusedThere), and of no other token number (place-only)
--   read-exactly, refused-exactly   both answers of the reader, by facts alone
use mathlib.Core.List.{List, [], ◌∷◌, ◌++◌, append_assoc, append-nil}
use mathlib.Core.Option.{none}
use mathlib.Core.Path.{◌≡◌, refl, sym, ◌∙◌, ap, subst}
use mathlib.Core.Logic.{◌↔◌}
use Prim.Native.Nat.{ℕ, suc, ◌+◌, ◌<◌}
use native.Mathlib.Omega.{arith}
use native.Mathlib.Decide.{dec_lt}
use lib.IntN.{ℤ}
use lib.ListN.{length, length-append, take, drop, take-append-drop}
use lib.Seq.{take-append-add, take-append_seam, take-take}
use Rattle.rules.specs.Refusal.{Accepted}
use Rattle.rules.specs.Sizes.{most_rows}
use Rattle.rules.specs.Exchange.Refused.{Begins, RefusedBy, RefusedThere}
use Rattle.rules.specs.Exchange.Tokens.{token_place, token_bytes}
use Rattle.rules.specs.Exchange.Script.{exchange_text}
use Rattle.rules.specs.Exchange.Reader.{Bytes, Got, TextOutcome, Pieces, ReaderState, got, text_outcome, read_text}
use Rattle.rules.specs.Exchange.Reader.{reads, refused_at, outset, token_step, stuck, words, pieces_words}
use Rattle.rules.proofs.Exchange.Read.{read-any, read-pieces}
use Rattle.rules.proofs.Exchange.Words.Whole.{fine-pieces}
use Rattle.rules.proofs.Exchange.Reader.Kept.{heard-leads, heard-start}
use Rattle.rules.proofs.Exchange.Tokens.Said.{pieces_of}
use Rattle.rules.proofs.Exchange.Reader.Turns.{Blocked, Halted, LeadsTo, leads-reads, leads-then, reads-stuck}
use Rattle.rules.proofs.Exchange.Tokens.Written.{tokens-written}
use Rattle.rules.proofs.Exchange.Exact.{pieces-written, read-heard, read_only}
use Rattle.rules.proofs.Exchange.Words.Back.{accepted-words}
use Rattle.rules.proofs.Exchange.Reader.Ways.{ways}

clash : {P : Pieces} {k : ℕ} → got P ≡ stuck k → ⊥
clash e = let z : ◌≡◌ {A = ℕ} 0 1 = cc in omega arith

outcomes : {ws : List ℤ} {p : ℕ} → words ws ≡ refused_at p → ⊥
outcomes e = let z : ◌≡◌ {A = ℕ} 0 1 = cc in omega arith

-- the reader takes the tokens of accepted words
accepted-reads : (ws : List ℤ) → Accepted most_rows ws → (P : Pieces) ×
    (reads 0 outset (token_bytes (exchange_text ws)) ≡ got P)
unfolding pieces_of
accepted-reads ws A =
    let f = fine-pieces ws A in
    (_, ap (reads 0 outset) (tokens-written ws f.n-least) ∙ read-pieces (pieces_of ws) f)

-- a token that is not taken there is in no text of accepted words
place-never : (S : ReaderState) (p : List Bytes) (w : Bytes) → LeadsTo outset p S → token_step S.todo S.stage w
    ≡ none →
    Begins (p ++ (w ∷ [])) → ⊥
unfolding reads
place-never S p w r e o =
    let a = accepted-reads o.words o.accepted in
    clash {k = 0 + length p}
    (sym a.1 ∙ ap (reads 0 outset) (o.begins ∙ append_assoc p (w ∷ []) o.rest) ∙ leads-reads 0 (w ∷ o.rest) r
    ∙ (rw (e, reads) refl))

-- tokens that are taken begin the text of some accepted words
place-before : (S : ReaderState) (p : List Bytes) → LeadsTo outset p S → Begins p
place-before S p r =
    let w = ways S (heard-leads outset S [] p r heard-start).good in
    let h = read-heard (p ++ w.tokens) w.pieces (leads-then r w.leads) in
    record {
      words = pieces_words w.pieces;
      accepted = accepted-words w.pieces h.1;
      rest = w.tokens;
      begins = pieces-written w.pieces h.1 ∙ sym h.0;
    }

module _ (t : List ℕ) where
  halted-refused : (k : ℕ) → read_text t ≡ refused_at (token_place t k) → Halted 0 outset (token_bytes t) k →
      RefusedBy t k
  halted-refused k e s = record {
    in-text = omega (arith, s.count, ap length s.split, length-append s.before s.rest);
    before = subst (λ l. Begins l) (sym front) (place-before s.at s.before s.leads);
    never = λ h o. go s.rest s.split s.blocked h o;
    other = λ ws A q. outcomes (sym (read-any ws t A q) ∙ e);
  }
    where
      few : k ≡ length s.before
      few = omega (arith, s.count)

      front : take k (token_bytes t) ≡ s.before
      front = ap (λ j. take j (token_bytes t)) few ∙ ap (take (length s.before)) s.split
          ∙ take-append_seam s.before s.rest

      go : (rest : List Bytes) → token_bytes t ≡ s.before ++ rest → Blocked s.at rest → k < length (token_bytes t) →
          Begins (take (suc k) (token_bytes t)) → ⊥
      go [] q b h o =
          omega (arith, few, ap length (q ∙ append-nil s.before))
      go (w ∷ rest) q b h o =
          place-never s.at s.before w s.leads b
          (subst (λ l. Begins l)
          (ap (λ j. take j (token_bytes t)) (let z : suc k ≡ length s.before + 1 = omega (arith, few) in z)
          ∙ ap (take (length s.before + 1)) q ∙ take-append-add s.before (w ∷ rest) 1) o)

  place-exactly : (p : ℕ) → read_text t ≡ refused_at p → RefusedThere t p
  unfolding read_text text_outcome
  place-exactly p e = go (reads 0 outset (token_bytes t)) refl e
    where
      go : (g : Got) → reads 0 outset (token_bytes t) ≡ g → text_outcome t g ≡ refused_at p → RefusedThere t p
      go (got P) q w = absurd (outcomes w)
      go (stuck k) q w =
          let z : token_place t k ≡ p = cc in
          record {
            count = k;
            refused = halted-refused k (ap (text_outcome t) q) (reads-stuck 0 outset (token_bytes t) k q);
            place = sym z;
          }

  -- one such number
  place-less : (i j : ℕ) → RefusedBy t i → RefusedBy t j → i < j → ⊥
  place-less i j a b h =
      a.never (omega (arith, b.in-text)) (record {
        words = b.before.words;
        accepted = b.before.accepted;
        rest = drop (suc i) (take j (token_bytes t)) ++ b.before.rest;
        begins =
            b.before.begins
            ∙ ap (λ l. l ++ b.before.rest) (sym (take-append-drop (suc i) (take j (token_bytes t))))
            ∙ append_assoc (take (suc i) (take j (token_bytes t))) (drop (suc i) (take j (token_bytes t)))
            b.before.rest
            ∙ ap (λ l. l ++ (drop (suc i) (take j (token_bytes t)) ++ b.before.rest))
            (take-take (suc i) j (token_bytes t) h);
      })

  pub place-only : (i j : ℕ) → RefusedBy t i → RefusedBy t j → i ≡ j
  place-only i j a b = go (dec_lt i j) (dec_lt j i)
    where
      go : Dec (i < j) → Dec (j < i) → i ≡ j
      go (yes h) d = absurd (place-less i j a b h)
      go (no h) (yes l) = absurd (place-less j i b a l)
      go (no h) (no l) = omega arith

  pub read-exactly : (ws : List ℤ) →
      (read_text t ≡ words ws) ↔ (Accepted most_rows ws × (token_bytes t ≡ token_bytes (exchange_text ws)))
  read-exactly ws = (read_only t ws, λ (A, e). read-any ws t A e)

  pub refused-exactly : (p : ℕ) → (read_text t ≡ refused_at p) ↔ RefusedThere t p
  refused-exactly p = (place-exactly p, there)
    where
      there : RefusedThere t p → read_text t ≡ refused_at p
      there r = go (read_text t) refl
        where
          go : (o : TextOutcome) → read_text t ≡ o → read_text t ≡ refused_at p
          go (words ws) e = let h = read_only t ws e in absurd (r.refused.other ws h.0 h.1)
          go (refused_at q) e =
              let s = place-exactly q e in
              e ∙ ap refused_at (s.place
              ∙ ap (token_place t) (place-only s.count r.count s.refused r.refused)
              ∙ sym r.place)
