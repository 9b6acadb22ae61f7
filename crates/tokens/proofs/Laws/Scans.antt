-- The tokens of a text, one after the other by their places.
--   tokens-gap    a gap is passed
--   tokens-more   the token that starts at a place, and those behind it
--   tokens_none   at the end there is none
--   tokens-all    from the first place on, all of them
use mathlib.Core.Bool.{Bool, true, false, cond, not, ◌&&◌, ◌||◌}
use mathlib.Core.List.{List, [], ◌∷◌, ◌++◌, append_assoc, append-nil}
use mathlib.Core.Logic.{◌⊎◌, inl, inr}
use mathlib.Core.Path.{◌≡◌, refl, sym, ◌∙◌, ap, ap₂}
use Prim.Native.Nat.{ℕ, suc, ◌+◌, ◌≤◌, ◌<◌}
use native.Mathlib.Omega.{arith}
use lib.Dec.{eqb}
use lib.ListN.{drop, drop_of_length-le, get_or, length, take}
use lib.Seq.{drop-cons, drop-drop}
use Rattle.whole.proofs.Bools.{or-false, or-true, true-false}
use Rattle.whole.proofs.Tells.{tells-eq}
use Rattle.rules.specs.Exchange.Tokens.{Mode, Token, begins, between, comment, ends_line, is_blank, is_comment}
use Rattle.rules.specs.Exchange.Tokens.{is_parenthesis, is_plain, last, mode_after, running, scan, single, token}
use Rattle.rules.specs.Exchange.Tokens.{tokens}
use Rattle.rules.specs.Exchange.Tokens.{tokens_at}
use Rattle.tokens.proofs.Laws.Gaps.{gap-in, gap-passed, gap-stopped, run-passed, run-stopped, width-run}
use Rattle.tokens.proofs.Laws.Gaps.{width-single}
use Rattle.tokens.specs.Gaps.{bytes_at, gap_length, noting, stands_between, run_length, start_at, stop_at, tokens_from}
use Rattle.tokens.specs.Gaps.{width}

-- ---- bytes that stand between tokens

-- no parenthesis, and no byte of a run
record Empty (p b : ℕ) : Type 0 where
  alone : single p b ≡ []
  begun : begins p b ≡ cond (is_comment b) comment between

literal : (p b k : ℕ) → eqb b k ≡ true → Empty p k → Empty p b
literal p b k e h = rw ((tells-eq b k).if-true e) h

blank-empty : (p b : ℕ) → is_blank b ≡ true → Empty p b
unfolding is_blank single begins is_parenthesis is_plain is_comment
blank-empty p b e = first (or-true _ _ e)
  where
    third : (eqb b 9 || eqb b 10) ≡ true → Empty p b
    third q = go (or-true _ _ q)
      where
        go : (eqb b 9 ≡ true) ⊎ (eqb b 10 ≡ true) → Empty p b
        go (inl r) = literal p b 9 r (record { alone = refl; begun = refl })
        go (inr r) = literal p b 10 r (record { alone = refl; begun = refl })

    second : (eqb b 9 || eqb b 10 || eqb b 13) ≡ true → Empty p b
    second q = go (or-true _ _ q)
      where
        go : ((eqb b 9 || eqb b 10) ≡ true) ⊎ (eqb b 13 ≡ true) → Empty p b
        go (inl r) = third r
        go (inr r) = literal p b 13 r (record { alone = refl; begun = refl })

    first : ((eqb b 9 || eqb b 10 || eqb b 13) ≡ true) ⊎ (eqb b 32 ≡ true) → Empty p b
    first (inl r) = second r
    first (inr r) = literal p b 32 r (record { alone = refl; begun = refl })

comment-empty : (p b : ℕ) → is_comment b ≡ true → Empty p b
unfolding is_comment single begins is_parenthesis is_plain is_blank
comment-empty p b e = literal p b 59 e (record { alone = refl; begun = refl })

passed-empty : (p b : ℕ) → stands_between false b ≡ true → Empty p b
unfolding stands_between
passed-empty p b e = go (or-true (is_blank b) (is_comment b) e)
  where
    go : (is_blank b ≡ true) ⊎ (is_comment b ≡ true) → Empty p b
    go (inl r) = blank-empty p b r
    go (inr r) = comment-empty p b r

mode : Bool → Mode
mode noted = cond noted comment between

-- one byte passed
pass-scan : (noted : Bool) (p b : ℕ) (t : List ℕ) → stands_between noted b ≡ true →
    scan (mode noted) p (b ∷ t) ≡ scan (mode (noting noted b)) (suc p) t
unfolding scan tokens_at mode_after mode noting
pass-scan true p b t e = go (ends_line b)
  where
    go : (c : Bool) → scan (cond c between comment) (suc p) t
        ≡ scan (cond ((true && not c) || (false && is_comment b)) comment between) (suc p) t
    go true = refl
    go false = refl
pass-scan false p b t e =
    let h = passed-empty p b e in
    ap₂ (λ x m. x ++ scan m (suc p) t) h.alone h.begun

abbrev Gapped : Bool → ℕ → List ℕ → Type 0
Gapped noted p t = scan (mode noted) p t ≡ scan between (p + gap_length noted t) (drop (gap_length noted t) t)

gapped-in : (noted : Bool) (p b : ℕ) (t : List ℕ) → stands_between noted b ≡ true → Gapped (noting noted b) (suc p) t →
    Gapped noted p (b ∷ t)
gapped-in noted p b t e h =
    pass-scan noted p b t e ∙ h
    ∙ ap (λ k. scan between k (drop (gap_length (noting noted b) t) t))
    (let z : suc p + gap_length (noting noted b) t ≡ p + suc (gap_length (noting noted b) t) = omega arith in z)
    ∙ ap (λ k. scan between (p + k) (drop k (b ∷ t))) (sym (gap-passed noted b t e))

gapped-out : (noted : Bool) (p b : ℕ) (t : List ℕ) → stands_between noted b ≡ false → Gapped noted p (b ∷ t)
unfolding stands_between mode
gapped-out true p b t e = true-false refl e
gapped-out false p b t e =
    ap (λ k. scan between k (b ∷ t)) (let z : p ≡ p + 0 = omega arith in z)
    ∙ ap (λ k. scan between (p + k) (drop k (b ∷ t))) (sym (gap-stopped false b t e))

scan-gap : (noted : Bool) (p : ℕ) (t : List ℕ) → Gapped noted p t
unfolding scan last mode gap_length
scan-gap true p [] = refl
scan-gap false p [] = refl
scan-gap noted p (b ∷ t) = go (stands_between noted b) refl (scan-gap (noting noted b) (suc p) t)
  where
    go : (c : Bool) → stands_between noted b ≡ c → Gapped (noting noted b) (suc p) t → Gapped noted p (b ∷ t)
    go true e h = gapped-in noted p b t e h
    go false e h = gapped-out noted p b t e

-- ---- tokens

abbrev Ran : ℕ → List ℕ → ℕ → List ℕ → Type 0
Ran q w p t =
    scan (running q w) p t ≡ token q (w ++ take (run_length t) t) ∷ scan between (p + run_length t)
    (drop (run_length t) t)

ran-more : (q : ℕ) (w : List ℕ) (p b : ℕ) (t : List ℕ) (c : Bool) → is_plain b ≡ c → Ran q (w ++ (b ∷ [])) (suc p) t →
    Ran q w p (b ∷ t)
unfolding scan mode_after tokens_at
ran-more q w p b t true e h = rw (e, run-passed b t e)
    (h ∙ ap₂ (λ v n. token q v ∷ scan between n (drop (run_length t) t))
    (append_assoc w (b ∷ []) (take (run_length t) t))
    (let z : suc p + run_length t ≡ p + suc (run_length t) = omega arith in z))
ran-more q w p b t false e h = rw (e, run-stopped b t e)
    (ap₂ (λ v n. token q v ∷ scan between n (b ∷ t)) (sym (append-nil w)) (let z : p ≡ p + 0 = omega arith in z))

scan-run : (q : ℕ) (w : List ℕ) (p : ℕ) (t : List ℕ) → Ran q w p t
unfolding scan run_length last
scan-run q w p [] = ap (λ v. token q v ∷ []) (sym (append-nil w))
scan-run q w p (b ∷ t) = ran-more q w p b t (is_plain b) refl (scan-run q (w ++ (b ∷ [])) (suc p) t)

plain_byte : (b : ℕ) (c : Bool) → is_blank b ≡ false → is_comment b ≡ false → is_parenthesis b ≡ c → is_plain b ≡ not c
unfolding is_plain
plain_byte b true p q e = rw (p, q, e) refl
plain_byte b false p q e = rw (p, q, e) refl

begun-single : (p b : ℕ) → is_comment b ≡ false → is_plain b ≡ false → begins p b ≡ between
unfolding begins
begun-single p b q e = rw (q, e) refl

begun-run : (p b : ℕ) → is_comment b ≡ false → is_plain b ≡ true → begins p b ≡ running p (b ∷ [])
unfolding begins
begun-run p b q e = rw (q, e) refl

alone-single : (p b : ℕ) → is_parenthesis b ≡ true → single p b ≡ token p (b ∷ []) ∷ []
unfolding single
alone-single p b e = rw e refl

alone-run : (p b : ℕ) → is_parenthesis b ≡ false → single p b ≡ []
unfolding single
alone-run p b e = rw e refl

-- the token of so many bytes at the front, and what is behind it
abbrev headed : ℕ → List ℕ → ℕ → List Token
headed p t w = token p (take w t) ∷ scan between (p + w) (drop w t)

-- a byte that does not stand between tokens starts one
scan-token : (p b : ℕ) (t : List ℕ) → stands_between false b ≡ false →
    scan between p (b ∷ t) ≡ headed p (b ∷ t) (width (b ∷ t))
unfolding scan tokens_at mode_after stands_between
scan-token p b t e = go (is_parenthesis b) refl (or-false (is_blank b) (is_comment b) e)
  where
    go : (c : Bool) → is_parenthesis b ≡ c → (is_blank b ≡ false) × (is_comment b ≡ false) →
        single p b ++ scan (begins p b) (suc p) t ≡ headed p (b ∷ t) (width (b ∷ t))
    go true q o =
        ap₂ (λ x m. x ++ scan m (suc p) t) (alone-single p b q)
        (begun-single p b o.1 (plain_byte b true o.0 o.1 q))
        ∙ ap (λ k. token p (b ∷ []) ∷ scan between k t) (let z : suc p ≡ p + 1 = omega arith in z)
        ∙ ap (headed p (b ∷ t)) (sym (width-single b t q))
    go false q o =
        ap₂ (λ x m. x ++ scan m (suc p) t) (alone-run p b q)
        (begun-run p b o.1 (plain_byte b false o.0 o.1 q))
        ∙ scan-run p (b ∷ []) (suc p) t
        ∙ ap (λ k. token p (b ∷ take (run_length t) t) ∷ scan between k (drop (run_length t) t))
        (let z : suc p + run_length t ≡ p + suc (run_length t) = omega arith in z)
        ∙ ap (headed p (b ∷ t)) (sym (width-run b t q))

-- ---- by places

module _ (t : List ℕ) where
  pub tokens-all : tokens t ≡ tokens_from t 0
  unfolding tokens tokens_from
  tokens-all = refl

  pub tokens_none : (at : ℕ) → length t ≤ at → tokens_from t at ≡ []
  unfolding tokens_from scan last
  tokens_none at h = ap (scan between at) (drop_of_length-le t h)

  pub tokens-gap : (at : ℕ) → tokens_from t at ≡ tokens_from t (start_at t at)
  unfolding tokens_from start_at mode
  tokens-gap at =
      scan-gap false at (drop at t)
      ∙ ap (scan between (at + gap_length false (drop at t))) (drop-drop (gap_length false (drop at t)) at t)

  -- a place at which no gap starts
  pub tokens-more : (at : ℕ) → at < length t → start_at t at ≡ at →
      tokens_from t at ≡ token at (bytes_at t at) ∷ tokens_from t (stop_at t at)
  unfolding tokens_from start_at stop_at bytes_at
  tokens-more at h e =
      ap (scan between at) (drop-cons t at 0 h)
      ∙ scan-token at (get_or t at 0) (drop (suc at) t) none_passed
      ∙ ap (λ l. headed at l (width l)) (sym (drop-cons t at 0 h))
      ∙ ap (λ l. token at (take (width (drop at t)) (drop at t)) ∷ scan between (at + width (drop at t)) l)
      (drop-drop (width (drop at t)) at t)
    where
      none_passed : stands_between false (get_or t at 0) ≡ false
      none_passed = go (stands_between false (get_or t at 0)) refl
        where
          go : (c : Bool) → stands_between false (get_or t at 0) ≡ c → c ≡ false
          go false q = refl
          go true q = let o : ⊥ = omega (arith, gap-in t at false h q) in absurd o
