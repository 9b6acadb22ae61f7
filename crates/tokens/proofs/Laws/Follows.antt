-- A script that is followed, token by token.
--   Walked                                where the walk stands in the text and in the script
--   follow-start, follow-more, follow-end    it starts, goes on by a token, and ends
--   follow-halted                            the text ends, or has another token
--   token-due, token-same                    a token's bytes, and compared with a word
use Rattle.std.proofs.Common.{Bool, not, eqb, take, drop, ◌-◌}
use lib.Pointwise.{pointwise}
use mathlib.Core.Bool.{true, false}
use mathlib.Core.List.{List, ◌∷◌, map}
use mathlib.Core.Path.{◌≡◌, refl, sym, ◌∙◌, ap}
use Prim.Native.Nat.{ℕ, ◌≤◌, ◌<◌}
use native.Mathlib.Omega.{arith}
use borrow.Author.Tests.{le-ltb, lt-ltb}
use lib.ListN.{length}
use Rattle.rules.specs.Exchange.Tokens.{Token, token_bytes}
use Rattle.rules.specs.Exchange.Reader.{same_bytes}
use Rattle.std.proofs.Common.{Ok, Err, [], subst}
use native.Mathlib.Decide.{dec_lt}
use Rattle.tokens.specs.declared.Halted.{Halted}
use Rattle.tokens.specs.Followed.{followed, halted}
use Rattle.tokens.specs.Gaps.{bytes_at, part, start_at, stop_at, tokens_from}
use Rattle.tokens.proofs.Laws.Parts.{part-token, same-each}
use Rattle.tokens.proofs.Laws.Places.{start-again, start-most, stop-ends}
use Rattle.tokens.proofs.Laws.Scans.{tokens-all, tokens-gap, tokens-more, tokens_none}

-- the bytes of the tokens from a place on
abbrev bytes_from : List ℕ → ℕ → List (List ℕ)
bytes_from s due = map (λ (k : Token). k.bytes) (tokens_from s due)

pub record Walked (t s : List ℕ) (at next due : ℕ) : Type 0 where
  pub next-in : next ≤ length t
  pub next-at : start_at t next ≡ next
  pub due_in : due ≤ length s
  pub due-at : start_at s due ≡ due
  pub goes : followed t at (token_bytes s) ≡ followed t next (bytes_from s due)

module _ (t : List ℕ) (next : ℕ) (w : List ℕ) (ws : List (List ℕ)) where
  pub short-follow : length t ≤ next → followed t next (w ∷ ws) ≡ halted next
  unfolding followed
  short-follow h = rw (le-ltb next (length t) h, followed) refl

  pub other-follow : next < length t → same_bytes w (bytes_at t next) ≡ false → followed t next (w ∷ ws) ≡ halted next
  unfolding followed
  other-follow h e = rw (lt-ltb next (length t) h, e, followed) refl

  pub more-follow : next < length t → same_bytes w (bytes_at t next) ≡ true →
      followed t next (w ∷ ws) ≡ followed t (start_at t (stop_at t next)) ws
  unfolding followed
  more-follow h e = rw (lt-ltb next (length t) h, e, followed) refl

pub follow-start : (t s : List ℕ) (at : ℕ) → at ≤ length t → start_at t at ≡ at → Walked t s at at (start_at s 0)
unfolding token_bytes
follow-start t s at h e = record {
  next-in = h;
  next-at = e;
  due_in = start-most s 0 (omega arith);
  due-at = start-again s 0;
  goes = ap (λ ks. followed t at (map (λ (k : Token). k.bytes) ks)) (tokens-all s ∙ tokens-gap s 0);
}

module _ {t s : List ℕ} {at next due : ℕ} (f : Walked t s at next due) where
  pub follow-end : length s ≤ due → followed t at (token_bytes s) ≡ Ok next
  unfolding followed
  follow-end h = f.goes ∙ ap (λ ks. followed t next (map (λ (k : Token). k.bytes) ks)) (tokens_none s due h)

  module _ (h : due < length s) where
    -- the token that is due
    due-first : followed t at (token_bytes s) ≡ followed t next (bytes_at s due ∷ bytes_from s (stop_at s due))
    due-first = f.goes
        ∙ ap (λ ks. followed t next (map (λ (k : Token). k.bytes) ks)) (tokens-more s due h f.due-at)

    -- .. passed, or halted at
    pub follow-more : (p : ℕ) → followed t next (bytes_at s due ∷ []) ≡ Ok p →
        Walked t s at p (start_at s (stop_at s due))
    unfolding followed
    follow-more p q = go (dec_lt next (length t)) (same_bytes (bytes_at s due) (bytes_at t next)) refl
      where
        go : Dec (next < length t) → (b : Bool) → same_bytes (bytes_at s due) (bytes_at t next) ≡ b →
            Walked t s at p (start_at s (stop_at s due))
        go (no n) b e =
            let o : halted next ≡ Ok p = sym (short-follow t next (bytes_at s due) [] (omega arith)) ∙ q in cc
        go (yes l) false e = let o : halted next ≡ Ok p = sym (other-follow t next (bytes_at s due) [] l e) ∙ q in cc
        go (yes l) true e =
            let z : p ≡ start_at t (stop_at t next) =
            let o : Ok (start_at t (stop_at t next)) ≡ Ok p =
            sym (more-follow t next (bytes_at s due) [] l e) ∙ q in cc in
            subst (λ k. Walked t s at k (start_at s (stop_at s due))) (sym z) record {
              next-in = start-most t (stop_at t next) (stop-ends t next l).1;
              next-at = start-again t (stop_at t next);
              due_in = start-most s (stop_at s due) (stop-ends s due h).1;
              due-at = start-again s (stop_at s due);
              goes = due-first ∙ more-follow t next (bytes_at s due) (bytes_from s (stop_at s due)) l e
                  ∙ ap (λ ks. followed t (start_at t (stop_at t next)) (map (λ (k : Token). k.bytes) ks))
                  (tokens-gap s (stop_at s due));
            }

    pub follow-halted : (e : Halted) → followed t next (bytes_at s due ∷ []) ≡ Err e →
        followed t at (token_bytes s) ≡ Err e
    unfolding followed
    follow-halted e q = go (dec_lt next (length t)) (same_bytes (bytes_at s due) (bytes_at t next)) refl
      where
        go : Dec (next < length t) → (b : Bool) → same_bytes (bytes_at s due) (bytes_at t next) ≡ b →
            followed t at (token_bytes s) ≡ Err e
        go (no n) b r =
            due-first ∙ short-follow t next (bytes_at s due) (bytes_from s (stop_at s due)) (omega arith)
            ∙ sym (short-follow t next (bytes_at s due) [] (omega arith)) ∙ q
        go (yes l) false r =
            due-first ∙ other-follow t next (bytes_at s due) (bytes_from s (stop_at s due)) l r
            ∙ sym (other-follow t next (bytes_at s due) [] l r) ∙ q
        go (yes l) true r =
            let o : Ok (start_at t (stop_at t next)) ≡ Err e =
            sym (more-follow t next (bytes_at s due) [] l r) ∙ q in cc

-- the bytes of a token, by where it stops
pub token-due : (s : List ℕ) (due : ℕ) {last : ℕ} → last ≡ stop_at s due →
    bytes_at s due ≡ take (last - due) (drop due s)
unfolding part
token-due s due e = part-token s due ∙ ap (part s due) (sym e)

-- .. and a test of them
pub token-same : (t : List ℕ) (at : ℕ) (w : List ℕ) {end : ℕ} {b : Bool} → end ≡ stop_at t at →
    not (pointwise eqb w (take (end - at) (drop at t))) ≡ not b → same_bytes w (bytes_at t at) ≡ b
token-same t at w {b = b} e h =
    ap (same_bytes w) (token-due t at e)
    ∙ sym (same-each w _)
    ∙ not_once _ b h
  where
    not_once : (x y : Bool) → not x ≡ not y → x ≡ y
    not_once true true q = refl
    not_once false false q = refl
    not_once true false q = cc
    not_once false true q = cc
