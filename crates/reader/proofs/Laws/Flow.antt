-- Tokens that follow, and the next one.
--   stands-reached, stands-halted, stands-followed, stands-skip   where a reading stands
--   passed           behind tokens that must follow
--   token-in, token-out                the token at a place
--   token-is-word, token-is-out        .. compared with a word
--   alike, chosen    states that the next token takes alike; and a state that it leads to, or not
--   name-passed      one token that must follow
use mathlib.Core.Bool.{Bool, true, false, cond, ◌&&◌}
use mathlib.Core.List.{List, [], ◌∷◌, ◌++◌, append-nil}
use mathlib.Core.Option.{Option, none, some}
use mathlib.Core.Path.{◌≡◌, refl, sym, ◌∙◌, ap, ap₂, subst}
use Prim.Native.Nat.{ℕ, suc, ◌+◌, ◌-◌, ◌≤◌, ◌<◌}
use native.Mathlib.Decide.{dec_lt}
use native.Mathlib.Omega.{arith}
use borrow.Author.Tests.{eq-eqb, le-ltb, lt-ltb, ne_eqb}
use lib.Dec.{eqb}
use lib.ListN.{drop, get_or, length, take}
use lib.Seq.{drop-cons}
use Rattle.rules.specs.Exchange.Reader.{Bytes, ReaderState, Stage, ahead, finish, matched, on, refused_at, same_bytes}
use Rattle.rules.specs.Exchange.Reader.{stuck, token_step}
use Rattle.std.specs.Prelude.{Ok, Err}
use Rattle.tokens.specs.declared.Halted.{Halted}
use Rattle.tokens.specs.Followed.{Followed, followed, halted}
use Rattle.tokens.specs.Gaps.{bytes_at, part, start_at, stop_at, width}
use Rattle.tokens.specs.Placed.{ended_at, read_behind, read_from}
use Rattle.tokens.proofs.Laws.Behind.{read-followed}
use Rattle.tokens.proofs.Laws.Follows.{more-follow, other-follow, short-follow, token-due}
use Rattle.tokens.proofs.Laws.Parts.{same-each}
use lib.Pointwise.{pointwise}
use Rattle.tokens.proofs.Laws.Placed.{from_end, from-refused, from-taken}
use Rattle.tokens.proofs.Laws.Places.{start-again, start-most, stop-ends}
use Rattle.reader.specs.Flow.{StandsAt, followed_on, next_is, next_token, skip_at, skip_by, skip_if, sum_on, token_is}
use Rattle.reader.specs.Flow.{token_of}

-- ---- where a reading stands

module _ (t : List ℕ) where
  pub stands-halted : (e : Halted) → StandsAt t (Err e)
  stands-halted e = record {
    inside = λ at q. cc;
    starts = λ at q. cc;
  }

  pub stands-reached : (p : ℕ) → p ≤ length t → start_at t p ≡ p → StandsAt t (Ok p)
  stands-reached p h e = record {
    inside = λ at q. let z : p ≡ at = cc in subst (λ k. k ≤ length t) z h;
    starts = λ at q. let z : p ≡ at = cc in subst (λ k. start_at t k ≡ k) z e;
  }

  behind-token : (at : ℕ) → at < length t → StandsAt t (Ok (start_at t (stop_at t at)))
  behind-token at l =
      stands-reached (start_at t (stop_at t at)) (start-most t (stop_at t at) (stop-ends t at l).1)
      (start-again t (stop_at t at))

  stands_from : (ws : List Bytes) (at : ℕ) → at ≤ length t → start_at t at ≡ at → StandsAt t (followed t at ws)
  unfolding followed
  stands_from [] at h e = stands-reached at h e
  stands_from (w ∷ ws) at h e =
      go (dec_lt at (length t)) (same_bytes w (bytes_at t at)) refl (stands_from ws (start_at t (stop_at t at)))
    where
      go : Dec (at < length t) → (b : Bool) → same_bytes w (bytes_at t at) ≡ b →
          (start_at t (stop_at t at) ≤ length t → start_at t (start_at t (stop_at t at)) ≡ start_at t (stop_at t at) →
          StandsAt t (followed t (start_at t (stop_at t at)) ws)) →
          StandsAt t (followed t at (w ∷ ws))
      go (no n) b q rest =
          subst (StandsAt t) (sym (short-follow t at w ws (omega arith))) (stands-halted (record { place = at }))
      go (yes l) true q rest =
          subst (StandsAt t) (sym (more-follow t at w ws l q))
          (rest (start-most t (stop_at t at) (stop-ends t at l).1) (start-again t (stop_at t at)))
      go (yes l) false q rest =
          subst (StandsAt t) (sym (other-follow t at w ws l q)) (stands-halted (record { place = at }))

  pub stands-followed : (so : Followed) (ws : List Bytes) → StandsAt t so → StandsAt t (followed_on t so ws)
  stands-followed (Ok at) ws s = stands_from ws at (s.inside at refl) (s.starts at refl)
  stands-followed (Err p) ws s = stands-halted p

  -- ---- the token at a place

  pub token-in : (at : ℕ) → at < length t → token_of t at ≡ some (bytes_at t at)
  unfolding token_of
  token-in at h = rw (lt-ltb at (length t) h, token_of) refl

  pub token-out : (at : ℕ) → length t ≤ at → token_of t at ≡ none
  unfolding token_of
  token-out at h = rw (le-ltb at (length t) h, token_of) refl

  -- .. compared with a word
  pub token-is-word : (at : ℕ) (w : List ℕ) {end : ℕ} → at < length t → end ≡ stop_at t at →
      pointwise eqb w (take (end - at) (drop at t)) ≡ next_is t (Ok at) w
  unfolding next_is next_token token_is
  token-is-word at w h e =
      same-each w _ ∙ ap (same_bytes w) (sym (token-due t at e)) ∙ ap (token_is w) (sym (token-in at h))

  pub token-is-out : (at : ℕ) (w : List ℕ) → length t ≤ at → next_is t (Ok at) w ≡ false
  unfolding next_is next_token token_is
  token-is-out at w h = ap (token_is w) (token-out at h)

  skip-out : (at : ℕ) (may : Bool) → length t ≤ at → skip_at t at may ≡ halted at
  unfolding skip_at skip_by
  skip-out at may h = ap (λ o. skip_by t at o may) (token-out at h)

  pub skip-not : (at : ℕ) → skip_at t at false ≡ halted at
  unfolding skip_at skip_by
  skip-not at = go (token_of t at)
    where
      go : (o : Option Bytes) → skip_by t at o false ≡ halted at
      go none = refl
      go (some w) = refl

  pub skip-in : (at : ℕ) → at < length t → skip_at t at true ≡ Ok (start_at t (stop_at t at))
  unfolding skip_at skip_by
  skip-in at h = ap (λ o. skip_by t at o true) (token-in at h)

  pub stands-skip : (so : Followed) (may : Bool) → StandsAt t so → StandsAt t (skip_if t so may)
  unfolding skip_if
  stands-skip (Err p) may s = stands-halted p
  stands-skip (Ok at) false s = subst (StandsAt t) (sym (skip-not at)) (stands-halted (record { place = at }))
  stands-skip (Ok at) true s = go (dec_lt at (length t))
    where
      go : Dec (at < length t) → StandsAt t (skip_at t at true)
      go (yes l) = subst (StandsAt t) (sym (skip-in at l)) (behind-token at l)
      go (no n) = subst (StandsAt t) (sym (skip-out at true (omega arith))) (stands-halted (record { place = at }))

  -- ---- tokens that must follow

  pub passed : (ws us : List Bytes) (st : Stage) (so : Followed) → StandsAt t so →
      read_behind t (on (ws ++ us) st) so ≡ read_behind t (on us st) (followed_on t so ws)
  unfolding read_behind
  passed ws us st (Ok at) s = read-followed t us st ws at (s.inside at refl) (s.starts at refl)
  passed ws us st (Err p) s = refl

  -- all that must follow; and tokens before a state
  pub passed-all : (ws : List Bytes) (st : Stage) (so : Followed) → StandsAt t so →
      read_behind t (on ws st) so ≡ read_behind t (on [] st) (followed_on t so ws)
  passed-all ws st so s = ap (λ l. read_behind t (on l st) so) (sym (append-nil ws)) ∙ passed ws [] st so s

  pub ahead-passed : (ws : List Bytes) (S : ReaderState) (so : Followed) → StandsAt t so →
      read_behind t (ahead ws S) so ≡ read_behind t S (followed_on t so ws)
  unfolding ahead
  ahead-passed ws S so s = passed ws S.todo S.stage so s

  -- ---- the next token

  at-end : (S : ReaderState) (at : ℕ) → at ≤ length t → (at < length t → ⊥) →
      finish 0 S.todo S.stage ≡ stuck 0 → read_from t S at ≡ refused_at at
  unfolding ended_at
  at-end S at h n e =
      let z : at ≡ length t = omega arith in
      ap (read_from t S) z ∙ from_end t S ∙ ap (ended_at (length t)) e ∙ ap refused_at (sym z)

  pub alike : (S T : ReaderState) (so : Followed) → StandsAt t so → finish 0 S.todo S.stage ≡ stuck 0 →
      finish 0 T.todo T.stage ≡ stuck 0 →
      ((w : Bytes) → next_token t so ≡ some w → token_step S.todo S.stage w ≡ token_step T.todo T.stage w) →
      read_behind t S so ≡ read_behind t T so
  unfolding read_behind next_token
  alike S T (Err p) s e f h = refl
  alike S T (Ok at) s e f h = go (dec_lt at (length t))
    where
      go : Dec (at < length t) → read_from t S at ≡ read_from t T at
      go (no n) = at-end S at (s.inside at refl) n e ∙ sym (at-end T at (s.inside at refl) n f)
      go (yes l) = by (token_step T.todo T.stage (bytes_at t at)) refl
        where
          same : token_step S.todo S.stage (bytes_at t at) ≡ token_step T.todo T.stage (bytes_at t at)
          same = h (bytes_at t at) (token-in at l)

          by : (o : Option ReaderState) → token_step T.todo T.stage (bytes_at t at) ≡ o →
              read_from t S at ≡ read_from t T at
          by none q =
              from-refused t S at l (s.starts at refl) (same ∙ q)
              ∙ sym (from-refused t T at l (s.starts at refl) q)
          by (some U) q =
              from-taken t S at l (s.starts at refl) U (same ∙ q)
              ∙ sym (from-taken t T at l (s.starts at refl) U q)

  pub chosen : (S T : ReaderState) (so : Followed) (may : Bool) → StandsAt t so →
      finish 0 S.todo S.stage ≡ stuck 0 →
      ((w : Bytes) → next_token t so ≡ some w → token_step S.todo S.stage w ≡ cond may (some T) none) →
      read_behind t S so ≡ read_behind t T (skip_if t so may)
  unfolding read_behind next_token skip_if
  chosen S T (Err p) may s e h = refl
  chosen S T (Ok at) may s e h = go (dec_lt at (length t)) may refl
    where
      go : Dec (at < length t) → (b : Bool) → may ≡ b → read_from t S at ≡ read_behind t T (skip_at t at may)
      go (no n) b q =
          at-end S at (s.inside at refl) n e
          ∙ ap (read_behind t T) (sym (skip-out at may (omega arith)))
      go (yes l) true q =
          from-taken t S at l (s.starts at refl) T
          (h (bytes_at t at) (token-in at l) ∙ ap (λ c. cond c (some T) none) q)
          ∙ ap (read_behind t T) (sym (ap (skip_at t at) q ∙ skip-in at l))
      go (yes l) false q =
          from-refused t S at l (s.starts at refl)
          (h (bytes_at t at) (token-in at l) ∙ ap (λ c. cond c (some T) none) q)
          ∙ ap (read_behind t T) (sym (ap (skip_at t at) q ∙ skip-not at))

  pub same-token : (so : Followed) (v w : Bytes) → next_token t so ≡ some w → next_is t so v ≡ same_bytes v w
  unfolding next_is token_is
  same-token so v w e = ap (token_is v) e

  pub name-passed : (w : Bytes) (us : List Bytes) (st : Stage) (so : Followed) → StandsAt t so →
      read_behind t (on (w ∷ us) st) so ≡ read_behind t (on us st) (skip_if t so (next_is t so w))
  unfolding finish token_step matched
  name-passed w us st so s =
      chosen (on (w ∷ us) st) (on us st) so (next_is t so w) s refl
      (λ v e. ap (λ c. cond c (some (on us st)) none) (sym (same-token so w v e)))

  -- ---- a name at a place

  -- the first byte of a token, and the others
  bytes-first : (at : ℕ) → at < length t → bytes_at t at ≡ get_or t at 0 ∷ part t (at + 1) (stop_at t at)
  unfolding bytes_at part stop_at
  bytes-first at h =
      let w = width (drop at t) in
      let few = stop-ends t at h in
      let e : w ≡ suc (w - 1) = omega (arith, few) in
      ap₂ take e (drop-cons t at 0 h)
      ∙ ap₂ (λ k l. get_or t at 0 ∷ take k l) (let z : w - 1 ≡ at + w - (at + 1) = omega arith in z)
      (ap (λ k. drop k t) (let z : suc at ≡ at + 1 = omega arith in z))

  module _ (at : ℕ) (h : at < length t) (letter : ℕ) (ds : List ℕ) where
    pub name-not : (get_or t at 0 ≡ letter → ⊥) → next_is t (Ok at) (letter ∷ ds) ≡ false
    unfolding next_is next_token token_is same_bytes
    name-not n =
        ap (token_is (letter ∷ ds)) (token-in at h ∙ ap some (bytes-first at h))
        ∙ ap (λ b. b && same_bytes ds (part t (at + 1) (stop_at t at)))
        (ne_eqb letter (get_or t at 0) (λ e. n (sym e)))

    pub name-is : get_or t at 0 ≡ letter →
        next_is t (Ok at) (letter ∷ ds) ≡ same_bytes ds (part t (at + 1) (stop_at t at))
    unfolding next_is next_token token_is same_bytes
    name-is e =
        ap (token_is (letter ∷ ds)) (token-in at h ∙ ap some (bytes-first at h))
        ∙ ap (λ b. b && same_bytes ds (part t (at + 1) (stop_at t at))) (eq-eqb letter (get_or t at 0) (sym e))

  -- ---- tokens of a sum

  pub sum-halted : (e : Halted) (n : ℕ) (ws : List Bytes) → sum_on t (Err e) n ws ≡ Err e
  unfolding sum_on
  sum-halted e n ws = go (eqb n 1)
    where
      go : (b : Bool) → ◌≡◌ {A = Followed} (elim b [ true ↦ Err e | false ↦ followed_on t (Err e) ws ]) (Err e)
      go true = refl
      go false = refl

  pub stands-sum : (so : Followed) (n : ℕ) (ws : List Bytes) → StandsAt t so → StandsAt t (sum_on t so n ws)
  unfolding sum_on
  stands-sum so n ws s = go (eqb n 1)
    where
      go : (b : Bool) → StandsAt t (elim b [ true ↦ so | false ↦ followed_on t so ws ])
      go true = s
      go false = stands-followed so ws s
