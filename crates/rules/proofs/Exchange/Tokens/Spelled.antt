-- The tokens of a text by their bytes, with no places, and the tokens of a text that is put together.
--   spelled, spelled-tokens      the bytes of the tokens, from a mode on
--   Lex s ws                     s has the tokens ws, whatever stands behind it
--   lex-then, lex-tokens         .. of two texts; and by itself
--   Run, EndsRun                  a run of bytes that is one token; a text that ends such a run
--   lex-run                      such a run and what follows
use mathlib.Core.Bool.{Bool, true, false, cond, ◌||◌}
use mathlib.Core.List.{List, [], ◌∷◌, ◌++◌, map, append_assoc, append-nil}
use mathlib.Core.Path.{◌≡◌, refl, sym, ◌∙◌, ap, ap₂}
use Prim.Native.Nat.{ℕ, suc}
use Rattle.whole.proofs.Bools.{or-false, not-true}
use Rattle.rules.specs.Exchange.Tokens.{Mode, Token, mode_after, begins, between, comment, tokens_at, ends_line}
use Rattle.rules.specs.Exchange.Tokens.{is_comment, is_blank, is_parenthesis, is_plain, last, running, scan, single}
use Rattle.rules.specs.Exchange.Tokens.{token, token_bytes, tokens}

abbrev bytes_of : List Token → List (List ℕ)
bytes_of ts = map (λ (k : Token). k.bytes) ts

-- ---- with no places

abbrev unplaced : Mode → Mode
unplaced between = between
unplaced comment = comment
unplaced (running q w) = running 0 w

unfoldable pub spelled : Mode → List ℕ → List (List ℕ)
spelled m [] = bytes_of (last m)
spelled m (b ∷ t) = bytes_of (tokens_at m 0 b) ++ spelled (mode_after m 0 b) t

map-append : (s t : List Token) → bytes_of (s ++ t) ≡ bytes_of s ++ bytes_of t
map-append [] t = refl
map-append (a ∷ s) t = ap (λ l. a.bytes ∷ l) (map-append s t)

module _ (p b : ℕ) where
  begins-unplaced : unplaced (begins p b) ≡ begins 0 b
  unfolding begins
  begins-unplaced = go (is_comment b) (is_plain b)
    where
      go : (c d : Bool) → unplaced (cond c comment (cond d (running p (b ∷ [])) between))
          ≡ cond c comment (cond d (running 0 (b ∷ [])) between)
      go true d = refl
      go false true = refl
      go false false = refl

  after-unplaced : (m : Mode) → unplaced (mode_after m p b) ≡ mode_after (unplaced m) 0 b
  unfolding mode_after
  after-unplaced between = begins-unplaced
  after-unplaced comment = go (ends_line b)
    where
      go : (c : Bool) → unplaced (cond c between comment) ≡ cond c between comment
      go true = refl
      go false = refl
  after-unplaced (running q w) = go (is_plain b)
    where
      go : (c : Bool) → unplaced (cond c (running q (w ++ (b ∷ []))) (begins p b))
          ≡ cond c (running 0 (w ++ (b ∷ []))) (begins 0 b)
      go true = refl
      go false = begins-unplaced

  single-unplaced : bytes_of (single p b) ≡ bytes_of (single 0 b)
  unfolding single
  single-unplaced = go (is_parenthesis b)
    where
      go : (c : Bool) → bytes_of (cond c (token p (b ∷ []) ∷ []) []) ≡ bytes_of (cond c (token 0 (b ∷ []) ∷ []) [])
      go true = refl
      go false = refl

  ends-unplaced : (m : Mode) → bytes_of (tokens_at m p b) ≡ bytes_of (tokens_at (unplaced m) 0 b)
  unfolding tokens_at
  ends-unplaced between = single-unplaced
  ends-unplaced comment = refl
  ends-unplaced (running q w) = go (is_plain b)
    where
      go : (c : Bool) → bytes_of (cond c [] (token q w ∷ single p b)) ≡ bytes_of (cond c [] (token 0 w ∷ single 0 b))
      go true = refl
      go false = ap (λ l. w ∷ l) single-unplaced

spelled-scan : (m : Mode) (p : ℕ) (t : List ℕ) → bytes_of (scan m p t) ≡ spelled (unplaced m) t
unfolding scan spelled last
spelled-scan between p [] = refl
spelled-scan comment p [] = refl
spelled-scan (running q w) p [] = refl
spelled-scan m p (b ∷ t) =
    map-append (tokens_at m p b) (scan (mode_after m p b) (suc p) t)
    ∙ ap₂ (λ x y. x ++ y) (ends-unplaced p b m)
    (spelled-scan (mode_after m p b) (suc p) t ∙ ap (λ k. spelled k t) (after-unplaced p b m))

spelled-tokens : (t : List ℕ) → token_bytes t ≡ spelled between t
unfolding token_bytes tokens
spelled-tokens t = spelled-scan between 0 t

-- ---- texts one behind the other

pub record Lex (s : List ℕ) (ws : List (List ℕ)) : Type 0 where
  pub lex : (t : List ℕ) → spelled between (s ++ t) ≡ ws ++ spelled between t

pub lex-none : Lex [] []
lex-none = record { lex = λ t. refl }

pub lex-then : {s t : List ℕ} {v w : List (List ℕ)} → Lex s v → Lex t w → Lex (s ++ t) (v ++ w)
lex-then {s} {t} {v} {w} h k = record {
  lex = λ r.
      ap (spelled between) (append_assoc s t r) ∙ h.lex (t ++ r) ∙ ap (λ l. v ++ l) (k.lex r)
      ∙ sym (append_assoc v w (spelled between r));
}

pub lex-tokens : {s : List ℕ} {ws : List (List ℕ)} → Lex s ws → token_bytes s ≡ ws
unfolding spelled last
lex-tokens {s} {ws} h =
    spelled-tokens s ∙ ap (spelled between) (sym (append-nil s)) ∙ h.lex [] ∙ append-nil ws

-- ---- a run of bytes, and what ends it

abbrev pub AllPlain : List ℕ → Type 0
AllPlain [] = Unit {0}
AllPlain (b ∷ w) = (is_plain b ≡ true) × AllPlain w

pub plain_more : (w : List ℕ) (b : ℕ) → AllPlain w → is_plain b ≡ true → AllPlain (w ++ (b ∷ []))
plain_more [] b h e = (e, tt)
plain_more (a ∷ w) b h e = (h.0, plain_more w b h.1 e)

pub record Run (w : List ℕ) : Type 0 where
  pub first : ℕ
  pub others : List ℕ
  pub is : w ≡ first ∷ others
  pub plain : (is_plain first ≡ true) × AllPlain others

pub record EndsRun (s : List ℕ) : Type 0 where
  pub first : ℕ
  pub others : List ℕ
  pub is : s ≡ first ∷ others
  pub stops : is_plain first ≡ false

pub starts-then : {s : List ℕ} (t : List ℕ) → EndsRun s → EndsRun (s ++ t)
starts-then t h = record {
  first = h.first;
  others = h.others ++ t;
  is = ap (λ l. l ++ t) h.is;
  stops = h.stops;
}

module _ (b : ℕ) (e : is_plain b ≡ true) where
  plain-none : ((is_blank b || is_parenthesis b) ≡ false) × (is_comment b ≡ false)
  unfolding is_plain
  plain-none = or-false (is_blank b || is_parenthesis b) (is_comment b) (not-true _ e)

  run-begins : begins 0 b ≡ running 0 (b ∷ [])
  unfolding begins
  run-begins = rw (plain-none.1, e) refl

  run-single : single 0 b ≡ []
  unfolding single
  run-single = rw (or-false (is_blank b) (is_parenthesis b) plain-none.0).1 refl

module _ (b : ℕ) (s : List ℕ) (e : is_plain b ≡ false) where
  run_ends : (v w : List ℕ) → AllPlain w →
      spelled (running 0 v) (w ++ b ∷ s) ≡ (v ++ w) ∷ spelled between (b ∷ s)
  unfolding spelled mode_after tokens_at
  run_ends v [] h = rw (e, append-nil) refl
  run_ends v (c ∷ w) h =
      rw h.0 (run_ends (v ++ (c ∷ [])) w h.1 ∙ ap (λ l. l ∷ spelled between (b ∷ s)) (append_assoc v (c ∷ []) w))

run-first : (c : ℕ) (w : List ℕ) (b : ℕ) (s : List ℕ) → is_plain c ≡ true → AllPlain w → is_plain b ≡ false →
    spelled between (c ∷ w ++ (b ∷ s)) ≡ (c ∷ w) ∷ spelled between (b ∷ s)
unfolding spelled mode_after tokens_at
run-first c w b s p h e = rw (run-single c p, run-begins c p) (run_ends b s e (c ∷ []) w h)

pub lex-run : {w s : List ℕ} {ws : List (List ℕ)} → Run w → EndsRun s → Lex s ws → Lex (w ++ s) (w ∷ ws)
lex-run {w} {s} {ws} r e h = record {
  lex = λ t.
      ap (spelled between) (append_assoc w s t)
      ∙ ap₂ (λ x y. spelled between (x ++ (y ++ t))) r.is e.is
      ∙ run-first r.first r.others e.first (e.others ++ t) r.plain.0 r.plain.1 e.stops
      ∙ ap₂ (λ x y. x ∷ spelled between (y ++ t)) (sym r.is) (sym e.is)
      ∙ ap (λ l. w ∷ l) (h.lex t);
}
