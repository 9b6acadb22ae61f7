-- What the search for the entering variable says: it is nonbasic and may move the right way, and no lower one may; and
-- what a move swaps.
--   entered        of the variable that enters: `Entered` of specs/Facts/Rule
--   none-enters    every nonbasic variable is stuck: `Stuck` of specs/Facts/Rule
--   swap           the two seats that change, and that no other does: `Swap` of specs/Facts/Rule
use mathlib.Core.Bool.{false, true}
use mathlib.Core.List.{List}
use mathlib.Core.Logic.{◌≢◌}
use mathlib.Core.Option.{Option, none-ne-some, none, some}
use mathlib.Core.Path.{refl, sym, ◌∙◌, ◌≡◌}
use Prim.Native.Nat.{suc, zero, ℕ, ◌<◌}
use native.Mathlib.Omega.{arith}
use lib.Dec.{le→leb, lt→ltb}
use lib.IntN.{negsuc, pos, ℤ}
use lib.ListN.{length, length-set, set}
use lib.Seq.{get_or-set_other, get_or-set_same}
use lib.Signed.{<ℤ_irrefl, <ℤ-≤ℤ_trans, lt_z_yes}
use Rattle.whole.proofs.Lists.Below.{lowest-passes, none_passes}
use Rattle.whole.proofs.Bools.{true-false, zero_one}
use Rattle.whole.proofs.Tells.{tells-missing}
use Rattle.whole.specs.Tells.{Tells}
use Rattle.whole.specs.Values.{Le, Lt, Values}
use Rattle.rules.specs.Problem.{Problem, vars}
use Rattle.rules.specs.Facts.Rule.{Entered, Left, Stuck, Suits, Swap, may-go-down, may-go-up}
use Rattle.rules.specs.Step.{Leaving, State, entering, limit_at, may_fall, may_rise, moved, pull, seat, suits}
use Rattle.rules.specs.Tableau.{entry}

module _ {X : Type 0} (𝓥 : Values X) where
  -- ---- the entering variable

  rise-tells : (x : X) (o : Option X) → Tells (may_rise 𝓥 x o) ((u : X) → o ≡ some u → Lt 𝓥 x u)
      ((u : X) × (o ≡ some u) × Le 𝓥 u x)
  unfolding may_rise
  rise-tells x = tells-missing (may_rise 𝓥 x) (λ u. 𝓥.less x u) (λ u. refl) refl

  fall-tells : (x : X) (o : Option X) → Tells (may_fall 𝓥 x o) ((l : X) → o ≡ some l → Lt 𝓥 l x)
      ((l : X) × (o ≡ some l) × Le 𝓥 x l)
  unfolding may_fall
  fall-tells x = tells-missing (may_fall 𝓥 x) (λ l. 𝓥.less l x) (λ l. refl) refl

  suits-yes : (P : Problem X) (w : ℕ) (a : ℤ) (x : X) → suits 𝓥 a (some x) (P.lower w) (P.upper w) ≡ true →
      Suits 𝓥 P w a x
  unfolding suits
  suits-yes P w (pos zero) x e = let z : ◌≡◌ {A = ℕ} 0 1 = cc in zero_one z
  suits-yes P w (pos (suc k)) x e = may-go-up (lt_z_yes (lt→ltb 0 (suc k) (omega arith)))
      ((rise-tells x (P.upper w)).if-true e)
  suits-yes P w (negsuc k) x e = may-go-down (lt_z_yes tt) ((fall-tells x (P.lower w)).if-true e)

  suits-no : (P : Problem X) (w : ℕ) (a : ℤ) (x : X) → suits 𝓥 a (some x) (P.lower w) (P.upper w) ≡ false →
      Stuck 𝓥 P w a x
  unfolding suits
  suits-no P w (pos zero) x e = record { no-rise = λ h. absurd (<ℤ_irrefl h); no-fall = λ h. absurd (<ℤ_irrefl h) }
  suits-no P w (pos (suc k)) x e = record {
    no-rise = λ h. (rise-tells x (P.upper w)).if-false e;
    no-fall = λ h. absurd (<ℤ_irrefl (<ℤ-≤ℤ_trans h (record { le = le→leb 0 (suc k) (omega arith) })));
  }
  suits-no P w (negsuc k) x e = record {
    no-rise = λ h. absurd h.lt;
    no-fall = λ h. (fall-tells x (P.lower w)).if-false e;
  }

  pub suits-tells : (P : Problem X) (w : ℕ) (a : ℤ) (x : X) →
      Tells (suits 𝓥 a (some x) (P.lower w) (P.upper w)) (Suits 𝓥 P w a x) (Stuck 𝓥 P w a x)
  suits-tells P w a x = record { if-true = suits-yes P w a x; if-false = suits-no P w a x; not-both = clash }
    where
      clash : Suits 𝓥 P w a x → Stuck 𝓥 P w a x → ⊥
      clash (may-go-up h f) S = let u = S.no-rise h in true-false (f u.0 u.1) u.2
      clash (may-go-down h f) S = let l = S.no-fall h in true-false (f l.0 l.1) l.2

  seated-suits : (P : Problem X) (w : ℕ) (a : ℤ) (o : Option X) → suits 𝓥 a o (P.lower w) (P.upper w) ≡ true →
      (x : X) × (o ≡ some x) × Suits 𝓥 P w a x
  unfolding suits
  seated-suits P w a none e = let z : ◌≡◌ {A = ℕ} 0 1 = cc in zero_one z
  seated-suits P w a (some x) e = (x, refl, suits-yes P w a x e)

  pub entered : (P : Problem X) (s : State X) (r : Leaving X) (w : ℕ) → entering 𝓥 P s r ≡ some w → Entered 𝓥 P s r w
  unfolding entering
  entered P s r w e =
      let f = (lowest-passes (vars P) (λ u. suits 𝓥 (a u) (seat s u) (P.lower u) (P.upper u)) w).0 e in
      let g = seated-suits P w (a w) (seat s w) f.1 in
      record {
        variable = f.0;
        value = g.0;
        was-seated = g.1;
        suits = g.2;
        stuck = λ u x h q. suits-no P u (a u) x (rw q at (f.2 u h));
      }
    where
      a : ℕ → ℤ
      a u = pull r.side (entry s.tableau r.variable u)

  -- ---- the swap

  pub swap : (P : Problem X) (s : State X) (r : Leaving X) (w : ℕ) → length s.seats ≡ vars P → Left 𝓥 P s r →
      Entered 𝓥 P s r w →
      Swap (seat s) (seat (moved 𝓥 P s r w)) r.variable w (limit_at 𝓥 P r)
  unfolding moved
  swap P s r w n l e = record {
    was-basic = l.was-basic;
    set_to = get_or-set_same one r.variable (some (limit_at 𝓥 P r)) none (rw length-set (rw n l.variable));
    was-seated = (e.value, e.was-seated);
    now-basic = get_or-set_other one r.variable w (some (limit_at 𝓥 P r)) none apart
        ∙ get_or-set_same s.seats w none none (rw n e.variable);
    others = λ v p q. get_or-set_other one r.variable v (some (limit_at 𝓥 P r)) none p
        ∙ get_or-set_other s.seats w v none none q;
  }
    where
      one : List (Option X)
      one = set s.seats w none

      apart : w ≢ r.variable
      apart z = none-ne-some e.value (sym l.was-basic ∙ (rw z at e.was-seated))

  pub none-enters : (P : Problem X) (s : State X) (r : Leaving X) → entering 𝓥 P s r ≡ none → (u : ℕ) (x : X) →
      u < vars P → seat s u ≡ some x →
      Stuck 𝓥 P u (pull r.side (entry s.tableau r.variable u)) x
  unfolding entering
  none-enters P s r e u x h q =
      suits-no P u (a u) x (rw q at ((none_passes (vars P) (λ u. suits 𝓥 (a u) (seat s u) (P.lower u) (P.upper u))).0 e
      u h))
    where
      a : ℕ → ℤ
      a u = pull r.side (entry s.tableau r.variable u)
