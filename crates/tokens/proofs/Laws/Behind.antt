-- Reading behind tokens that must follow.
--   read-followed   what is read where tokens must follow is what is read behind them, or refused where they stop
use mathlib.Core.Bool.{Bool, true, false}
use mathlib.Core.List.{List, [], ◌∷◌, ◌++◌}
use mathlib.Core.Path.{◌≡◌, refl, sym, ◌∙◌, ap}
use Prim.Native.Nat.{ℕ, ◌≤◌, ◌<◌}
use native.Mathlib.Decide.{dec_lt}
use native.Mathlib.Omega.{arith}
use lib.ListN.{length}
use Rattle.rules.specs.Exchange.Reader.{Bytes, Stage, finish, matched, on, refused_at, same_bytes, token_step}
use Rattle.tokens.specs.Followed.{followed}
use Rattle.tokens.specs.Gaps.{bytes_at, start_at, stop_at}
use Rattle.tokens.specs.Placed.{ended_at, read_behind, read_from}
use Rattle.tokens.proofs.Laws.Follows.{more-follow, other-follow, short-follow}
use Rattle.tokens.proofs.Laws.Placed.{from_end, from-refused, from-taken}
use Rattle.tokens.proofs.Laws.Places.{start-again, start-most, stop-ends}

module _ (t : List ℕ) (us : List Bytes) (st : Stage) where
  pub read-followed : (ws : List Bytes) (at : ℕ) → at ≤ length t → start_at t at ≡ at →
      read_from t (on (ws ++ us) st) at ≡ read_behind t (on us st) (followed t at ws)
  unfolding followed read_behind ended_at finish token_step matched
  read-followed [] at h e = refl
  read-followed (w ∷ ws) at h e =
      go (dec_lt at (length t)) (same_bytes w (bytes_at t at)) refl (read-followed ws (start_at t (stop_at t at)))
    where
      go : Dec (at < length t) → (b : Bool) → same_bytes w (bytes_at t at) ≡ b →
          (start_at t (stop_at t at) ≤ length t → start_at t (start_at t (stop_at t at)) ≡ start_at t (stop_at t at) →
          read_from t (on (ws ++ us) st) (start_at t (stop_at t at))
          ≡ read_behind t (on us st) (followed t (start_at t (stop_at t at)) ws)) →
          read_from t (on (w ∷ (ws ++ us)) st) at ≡ read_behind t (on us st) (followed t at (w ∷ ws))
      go (no n) b q rest =
          let z : at ≡ length t = omega arith in
          ap (read_from t (on (w ∷ (ws ++ us)) st)) z ∙ ended-short ∙ ap refused_at (sym z)
          ∙ ap (read_behind t (on us st)) (sym (short-follow t at w ws (omega arith)))
        where
          ended-short : read_from t (on (w ∷ (ws ++ us)) st) (length t) ≡ refused_at (length t)
          ended-short = from_end t (on (w ∷ (ws ++ us)) st)
      go (yes l) true q rest =
          from-taken t (on (w ∷ (ws ++ us)) st) at l e (on (ws ++ us) st) (rw q refl)
          ∙ rest (start-most t (stop_at t at) (stop-ends t at l).1) (start-again t (stop_at t at))
          ∙ ap (read_behind t (on us st)) (sym (more-follow t at w ws l q))
      go (yes l) false q rest =
          from-refused t (on (w ∷ (ws ++ us)) st) at l e (rw q refl)
          ∙ ap (read_behind t (on us st)) (sym (other-follow t at w ws l q))
