-- What every session handed back has, beside being fair.
--   handed-given      its problem is the one handed in
--   sworn-opened, sworn-switched, sworn-rested, handed-sworn    as many flags as variables, and a limit that is on is
--                     there: `Sworn` of specs/Facts/Runs/Session
--   values-opened, values-switched, values-rested, values-handed    what holds of 0 and of every limit handed in holds
--                     of every value of a nonbasic variable
use mathlib.Core.Bool.{Bool, false, true}
use mathlib.Core.Logic.{inl, inr, ◌≢◌, ◌⊎◌}
use mathlib.Core.Option.{none-ne-some, none, some}
use mathlib.Core.Path.{refl, subst, sym, ◌∙◌, ◌≡◌}
use Prim.Native.Nat.{suc, zero, ℕ, ◌<◌}
use native.Mathlib.Decide.{dec_lt, ℕ_discrete}
use native.Mathlib.Omega.{arith}
use lib.ListN.{get_or-eq_default, length, length-replicate, length-set}
use Rattle.whole.proofs.Bools.{true-false, zero_one}
use Rattle.whole.proofs.Lists.Tables.{table-length}
use Rattle.whole.specs.Numbers.{Within}
use Rattle.whole.specs.Values.{Laws, Values}
use Rattle.rules.proofs.Evidence.Own.Seats.{values-after, values-start}
use Rattle.rules.proofs.Idle.Kept.{kept-some}
use Rattle.rules.proofs.Runs.Session.Fair.{came_from, handed-fair, rested-after, inside_of}
use Rattle.rules.proofs.Runs.Session.Inside.{lands}
use Rattle.rules.proofs.Runs.Session.Opened.{opened-so}
use Rattle.rules.proofs.Runs.Session.Switched.{flag-elsewhere, given-flagged, state-flagged, switch-fine}
use Rattle.rules.proofs.Runs.Session.Switched.{switched-done, switched-refused}
use Rattle.rules.specs.Facts.Runs.Session.{Fair, Lands, Sworn, stays-crossed, stays_within}
use Rattle.rules.specs.Facts.Runs.Session.{to-lower, to-upper}
use Rattle.rules.specs.Keeping.Limits.{keeping, limit_of}
use Rattle.rules.specs.Problem.{Problem, vars}
use Rattle.rules.specs.Runs.Session.{Handed, Session, flagged, from-check, from-opening, from-switch, is_on}
use Rattle.rules.specs.Runs.Session.{live_of, none_on, opened, rested, all_inside, switch_refusal, switched}
use Rattle.rules.specs.Sizes.{largest_coefficient}
use Rattle.rules.specs.Step.{Side, above, below, seat}

module _ {X : Type 0} (𝓥 : Values X) (Q : X → Type 0) where
  -- of every limit handed in, and of every value of a nonbasic variable
  abbrev pub LimitsAre : Problem X → Type 0
  LimitsAre P = (σ : Side) (v : ℕ) (l : X) → v < vars P → limit_of P σ v ≡ some l → Q l

  abbrev pub ValuesAre : Session X → Type 0
  ValuesAre A = (v : ℕ) (x : X) → seat A.state v ≡ some x → Q x

module _ {X : Type 0} (𝓥 : Values X) where
  -- ---- a switch changes what one that is not refused does

  -- what settling keeps, and a refusal, a switch keeps
  by-refusal : (Keeps : Session X → Type 0) (A : Session X) (v : ℕ) (σ : Side) (on : Bool) → Keeps A →
      (switch_refusal A v σ on ≡ 0 → Keeps (all_inside 𝓥 (flagged A v σ on))) → Keeps (switched 𝓥 A v σ on)
  by-refusal Keeps A v σ on K f = go (switch_refusal A v σ on) refl
    where
      go : (k : ℕ) → switch_refusal A v σ on ≡ k → Keeps (switched 𝓥 A v σ on)
      go zero e = subst Keeps (sym (switched-done 𝓥 A v σ on e)) (f e)
      go (suc k) e = subst Keeps (sym (switched-refused 𝓥 A v σ on k e)) K

  -- ---- its problem

  given-switched : (A : Session X) (v : ℕ) (σ : Side) (on : Bool) → (switched 𝓥 A v σ on).given ≡ A.given
  unfolding all_inside
  given-switched A v σ on = by-refusal (λ C. C.given ≡ A.given) A v σ on refl (λ e. given-flagged A v on σ)

  given-rested : (A : Session X) → (rested 𝓥 A).given ≡ A.given
  unfolding rested
  given-rested A = refl

  pub handed-given : (P : Problem X) (A : Session X) → Handed 𝓥 P A → A.given ≡ P
  unfolding opened
  handed-given P A (from-opening) = refl
  handed-given P A (from-switch {A = B} v σ on H) = given-switched B v σ on ∙ handed-given P B H
  handed-given P A (from-check {A = B} H) = given-rested B ∙ handed-given P B H

  -- ---- its flags

  sworn-opened : (P : Problem X) → Sworn 𝓥 (opened 𝓥 P)
  unfolding opened
  sworn-opened P = record {
    lowers-many = length-replicate (vars P) false;
    uppers-many = length-replicate (vars P) false;
    there = λ σ v e. true-false e ((opened-so 𝓥 P).all-off σ v);
  }

  by_number : (σ : Side) (w v : ℕ) → Dec (w ≡ v) → ((σ ≡ σ) × (w ≡ v)) ⊎ (σ ≡ σ → w ≢ v)
  by_number σ w v (yes e) = inl (refl, e)
  by_number σ w v (no n) = inr (λ e. n)

  same_place : (τ σ : Side) (w v : ℕ) → ((τ ≡ σ) × (w ≡ v)) ⊎ (τ ≡ σ → w ≢ v)
  same_place below below w v = by_number below w v (ℕ_discrete w v)
  same_place below above w v = inr (λ e. let z : ◌≡◌ {A = ℕ} 0 1 = cc in zero_one z)
  same_place above below w v = inr (λ e. let z : ◌≡◌ {A = ℕ} 0 1 = cc in zero_one z)
  same_place above above w v = by_number above w v (ℕ_discrete w v)

  sworn-switched : (A : Session X) (v : ℕ) (σ : Side) (on : Bool) → Sworn 𝓥 A → Sworn 𝓥 (switched 𝓥 A v σ on)
  unfolding all_inside
  sworn-switched A v σ on S = by-refusal (Sworn 𝓥) A v σ on S (λ e. record {
    lowers-many = lowers σ;
    uppers-many = uppers σ;
    there = λ τ w q. is τ w ((switch-fine A v σ on).0 e).1.0 q (same_place τ σ w v);
  })
    where
      lowers : (σ : Side) → length (flagged A v σ on).lowers_on ≡ vars (flagged A v σ on).given
      lowers below = unfold flagged in (length-set A.lowers_on v on ∙ S.lowers-many)
      lowers above = unfold flagged in S.lowers-many

      uppers : (σ : Side) → length (flagged A v σ on).uppers_on ≡ vars (flagged A v σ on).given
      uppers below = unfold flagged in S.uppers-many
      uppers above = unfold flagged in (length-set A.uppers_on v on ∙ S.uppers-many)

      is : (τ : Side) (w : ℕ) → (l : X) × (limit_of A.given σ v ≡ some l) → is_on (flagged A v σ on) τ w ≡ true →
          ((τ ≡ σ) × (w ≡ v)) ⊎ (τ ≡ σ → w ≢ v) → (l : X) × (limit_of (flagged A v σ on).given τ w ≡ some l)
      is τ w (l, t) q (inl (s, z)) = rw (given-flagged A v on σ, s, z) (l, t)
      is τ w t q (inr n) = rw (given-flagged A v on σ) (S.there τ w (sym (flag-elsewhere A v on σ τ w n) ∙ q))

  sworn-rested : (A : Session X) → Sworn 𝓥 A → Sworn 𝓥 (rested 𝓥 A)
  unfolding rested
  sworn-rested A S = record { lowers-many = S.lowers-many; uppers-many = S.uppers-many; there = S.there }

  pub handed-sworn : (P : Problem X) (A : Session X) → Handed 𝓥 P A → Sworn 𝓥 A
  handed-sworn P A (from-opening) = sworn-opened P
  handed-sworn P A (from-switch {A = B} v σ on H) = sworn-switched B v σ on (handed-sworn P B H)
  handed-sworn P A (from-check {A = B} H) = sworn-rested B (handed-sworn P B H)

  -- ---- its values

  module _ (Q : X → Type 0) where
    -- .. so of the limits that are kept
    lower-are : (P : Problem X) (on : Side → ℕ → Bool) → LimitsAre 𝓥 Q P → (v : ℕ) (l : X) → v < vars P →
        (keeping on P).lower v ≡ some l → Q l
    lower-are P on L v l h e = L below v l h (kept-some (on below v) (P.lower v) l e).1

    upper-are : (P : Problem X) (on : Side → ℕ → Bool) → LimitsAre 𝓥 Q P → (v : ℕ) (u : X) → v < vars P →
        (keeping on P).upper v ≡ some u → Q u
    upper-are P on L v u h e = L above v u h (kept-some (on above v) (P.upper v) u e).1

    values-opened : (P : Problem X) → Q 𝓥.nil → LimitsAre 𝓥 Q P → ValuesAre 𝓥 Q (opened 𝓥 P)
    unfolding opened
    values-opened P z L = values-start 𝓥 (keeping none_on P) Q (lower-are P none_on L) (upper-are P none_on L) z

    values-settled : (A : Session X) → LimitsAre 𝓥 Q A.given → ValuesAre 𝓥 Q A → ValuesAre 𝓥 Q (all_inside 𝓥 A)
    unfolding all_inside
    values-settled A L S v y e = go (dec_lt v (vars A.given))
      where
        lands-at : (x : X) → v < vars A.given → Q x → Lands 𝓥 ((live_of A).lower v) ((live_of A).upper v) x y → Q y
        lands-at x h q (to-lower l f c k r) = rw r (lower-are A.given (is_on A) L v l h f)
        lands-at x h q (to-upper u f c k r) = rw r (upper-are A.given (is_on A) L v u h f)
        lands-at x h q (stays-crossed c r) = rw r q
        lands-at x h q (stays_within f g r) = rw r q

        go : Dec (v < vars A.given) → Q y
        go (yes h) = let (x, q, r) = came_from 𝓥 A v y h e in
            lands-at x h (S v x q) (subst (Lands 𝓥 ((live_of A).lower v) ((live_of A).upper v) x) (sym r)
            (lands 𝓥 ((live_of A).lower v) ((live_of A).upper v) x))
        go (no n) = let m = table-length (vars A.given) (inside_of 𝓥 A) in
            absurd (none-ne-some y
            (sym (get_or-eq_default (all_inside 𝓥 A).state.seats none {n = v} (omega arith)) ∙ e))

    values-switched : (A : Session X) (v : ℕ) (σ : Side) (on : Bool) → LimitsAre 𝓥 Q A.given → ValuesAre 𝓥 Q A →
        ValuesAre 𝓥 Q (switched 𝓥 A v σ on)
    values-switched A v σ on L S = by-refusal (ValuesAre 𝓥 Q) A v σ on S (λ e.
        values-settled (flagged A v σ on) (rw (given-flagged A v on σ) L) (rw (state-flagged A v on σ) S))

    values-rested : Laws 𝓥 → (A : Session X) → Fair 𝓥 A → LimitsAre 𝓥 Q A.given → ValuesAre 𝓥 Q A →
        ValuesAre 𝓥 Q (rested 𝓥 A)
    values-rested law A F L S = let (k, e) = rested-after 𝓥 law A F in
        rw e (values-after 𝓥 (live_of A) Q (lower-are A.given (is_on A) L) (upper-are A.given (is_on A) L)
        A.state F.rowed S k)

    pub values-handed : Laws 𝓥 → (P : Problem X) →
        ((i j : ℕ) → i < P.m → j < P.n → Within (P.coefficient i j) largest_coefficient) →
        Q 𝓥.nil → LimitsAre 𝓥 Q P → (A : Session X) → Handed 𝓥 P A → ValuesAre 𝓥 Q A
    values-handed law P C z L A (from-opening) = values-opened P z L
    values-handed law P C z L A (from-switch {A = B} v σ on H) =
        values-switched B v σ on (rw (handed-given P B H) L) (values-handed law P C z L B H)
    values-handed law P C z L A (from-check {A = B} H) =
        values-rested law B (handed-fair 𝓥 law P C B H) (rw (handed-given P B H) L) (values-handed law P C z L B H)
