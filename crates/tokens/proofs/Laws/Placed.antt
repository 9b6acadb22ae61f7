-- Reading by places.
--   read-placed               it is the reading of the rules
--   from_end                  at the end of the text
--   from-refused, from-taken  a token that cannot stand there, and one that can
use mathlib.Core.List.{List, [], ◌∷◌, map}
use mathlib.Core.Option.{Option, none, some}
use mathlib.Core.Path.{◌≡◌, refl, ◌∙◌, ap}
use Prim.Native.Nat.{ℕ, suc, ◌+◌, ◌<◌}
use native.Mathlib.Omega.{arith}
use lib.ListN.{get_or, length}
use Rattle.rules.specs.Exchange.Tokens.{Token, token_place, token_bytes, tokens}
use Rattle.rules.specs.Exchange.Reader.{Bytes, ReaderState, Stage, bounding, declaring, ended, finish, limiting, naming}
use Rattle.rules.specs.Exchange.Reader.{number, outset, read_text, reads, refused_at, relating, size, text_outcome}
use Rattle.rules.specs.Exchange.Reader.{token_step}
use Rattle.tokens.specs.Gaps.{bytes_at, start_at, stop_at}
use Rattle.tokens.specs.Placed.{ended_at, placed, read_from}
use Rattle.tokens.proofs.Laws.Scans.{tokens-all, tokens-gap, tokens-more, tokens_none}

-- ---- it is the reading of the rules

finish-placed : (t : List ℕ) (i : ℕ) (ts : List Bytes) (st : Stage) → token_place t i ≡ length t →
    text_outcome t (finish i ts st) ≡ ended_at (length t) (finish 0 ts st)
unfolding text_outcome ended_at finish
finish-placed t i (w ∷ ts) st e = ap refused_at e
finish-placed t i [] (declaring n m) e = ap refused_at e
finish-placed t i [] (naming n m) e = ap refused_at e
finish-placed t i [] (number c) e = ap refused_at e
finish-placed t i [] (size c) e = ap refused_at e
finish-placed t i [] (limiting P) e = ap refused_at e
finish-placed t i [] (relating P) e = ap refused_at e
finish-placed t i [] (bounding P side strict) e = ap refused_at e
finish-placed t i [] (ended P) e = refl

abbrev bytes_of : List Token → List Bytes
bytes_of ks = map (λ (k : Token). k.bytes) ks

abbrev places_of : List Token → List ℕ
places_of ks = map (λ (k : Token). k.place) ks

reads-placed : (t : List ℕ) (i : ℕ) (S : ReaderState) (ks : List Token) →
    ((j : ℕ) → token_place t (i + j) ≡ get_or (places_of ks) j (length t)) →
    text_outcome t (reads i S (bytes_of ks)) ≡ placed (length t) S ks
unfolding reads placed text_outcome
reads-placed t i S [] h =
    finish-placed t i S.todo S.stage (ap (token_place t) (let z : i ≡ i + 0 = omega arith in z) ∙ h 0)
reads-placed t i S (k ∷ ks) h =
    go (token_step S.todo S.stage k.bytes) refl
    (λ T. reads-placed t (suc i) T ks
    (λ j. ap (token_place t) (let z : suc i + j ≡ i + suc j = omega arith in z) ∙ h (suc j)))
  where
    go : (o : Option ReaderState) → token_step S.todo S.stage k.bytes ≡ o →
        ((T : ReaderState) → text_outcome t (reads (suc i) T (bytes_of ks)) ≡ placed (length t) T ks) →
        text_outcome t (reads i S (k.bytes ∷ bytes_of ks)) ≡ placed (length t) S (k ∷ ks)
    go none q rest =
        rw (q, reads, placed)
        (ap refused_at (ap (token_place t) (let z : i ≡ i + 0 = omega arith in z) ∙ h 0))
    go (some T) q rest = rw (q, reads, placed) (rest T)

pub read-placed : (t : List ℕ) → read_text t ≡ read_from t outset (start_at t 0)
unfolding read_text read_from token_bytes token_place
read-placed t =
    reads-placed t 0 outset (tokens t) (λ j. ap (λ k. token_place t k) (let z : 0 + j ≡ j = omega arith in z))
    ∙ ap (placed (length t) outset) (tokens-all t ∙ tokens-gap t 0)

-- ---- token by token

module _ (t : List ℕ) (S : ReaderState) where
  pub from_end : read_from t S (length t) ≡ ended_at (length t) (finish 0 S.todo S.stage)
  unfolding read_from placed
  from_end = ap (placed (length t) S) (tokens_none t (length t) (omega arith))

  module _ (at : ℕ) (h : at < length t) (e : start_at t at ≡ at) where
    pub from-refused : token_step S.todo S.stage (bytes_at t at) ≡ none → read_from t S at ≡ refused_at at
    unfolding read_from placed
    from-refused q = ap (placed (length t) S) (tokens-more t at h e) ∙ (rw (q, placed) refl)

    pub from-taken : (T : ReaderState) → token_step S.todo S.stage (bytes_at t at) ≡ some T →
        read_from t S at ≡ read_from t T (start_at t (stop_at t at))
    unfolding read_from placed
    from-taken T q =
        ap (placed (length t) S) (tokens-more t at h e)
        ∙ (rw (q, placed) (ap (placed (length t) T) (tokens-gap t (stop_at t at))))
