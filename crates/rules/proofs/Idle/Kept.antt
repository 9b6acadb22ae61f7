-- What is kept of a problem.
--   kept-some                       a limit that is kept is there
--   keeping-twice, keeping-inner    kept twice is kept once; and it may be kept before it is read as pairs, or after
--   Met                             some values meet a problem
--   Within-side, meets-kept         values meet what is kept where they are within every limit that is
--   named-is, other-is              what the two tests say
use mathlib.Core.Bool.{Bool, true, false, ◌&&◌}
use mathlib.Core.List.{List}
use mathlib.Core.Logic.{◌≢◌}
use mathlib.Core.Option.{Option, some}
use mathlib.Core.Path.{ap₂, fun_ext, refl, ◌≡◌}
use Prim.Native.Nat.{ℕ, ◌<◌}
use lib.IntN.{pos, ℤ}
use lib.Signed.{◌<ℤ◌}
use Rattle.whole.proofs.Bools.{zero_one}
use Rattle.whole.proofs.Tells.{tells-eq, tells-eq_z, tells-not}
use Rattle.whole.specs.Values.{Le, Values}
use Rattle.rules.proofs.Step.Means.{lower-met, upper-met}
use Rattle.rules.specs.Evidence.{Meets, Rows}
use Rattle.rules.specs.Keeping.Idle.{is_named, is_other, multiplier}
use Rattle.rules.specs.Keeping.Limits.{keeping, kept, limit_of}
use Rattle.rules.specs.Limit.{Limit, lower_pair, upper_pair}
use Rattle.rules.specs.Problem.{Problem, inner, mapped, vars}
use Rattle.rules.specs.Step.{Side, above, below}

pub kept-some : {X : Type 0} (b : Bool) (o : Option X) (l : X) → kept b o ≡ some l → (b ≡ true) × (o ≡ some l)
unfolding kept
kept-some true o l e = (refl, e)
kept-some false o l e = let z : ◌≡◌ {A = ℕ} 0 1 = cc in zero_one z

kept-twice : {X : Type 0} (b c : Bool) (o : Option X) → kept b (kept c o) ≡ kept (b && c) o
unfolding kept
kept-twice true c o = refl
kept-twice false c o = refl

kept-mapped : {X Y : Type 0} (f : X → Y) (b : Bool) (o : Option X) → mapped f (kept b o) ≡ kept b (mapped f o)
unfolding kept mapped
kept-mapped f true o = refl
kept-mapped f false o = refl

-- the rows of P with other limits
abbrev limited : {X Y : Type 0} → Problem X → (lower upper : ℕ → Option Y) → Problem Y
limited P lower upper = record { n = P.n; m = P.m; coefficient = P.coefficient; lower = lower; upper = upper }

pub keeping-twice : {X : Type 0} (on also : Side → ℕ → Bool) (P : Problem X) →
    keeping on (keeping also P) ≡ keeping (λ σ v. on σ v && also σ v) P
keeping-twice on also P = ap₂ (limited P)
    (fun_ext (λ v. kept-twice (on below v) (also below v) (P.lower v)))
    (fun_ext (λ v. kept-twice (on above v) (also above v) (P.upper v)))

pub keeping-inner : (on : Side → ℕ → Bool) (P : Problem Limit) → inner (keeping on P) ≡ keeping on (inner P)
keeping-inner on P = ap₂ (limited P)
    (fun_ext (λ v. kept-mapped lower_pair (on below v) (P.lower v)))
    (fun_ext (λ v. kept-mapped upper_pair (on above v) (P.upper v)))

module _ {X : Type 0} (𝓥 : Values X) where
  -- some values, over some denominator, meet the problem
  abbrev pub Met : Problem X → Type 0
  Met P = (d : ℤ) × (x : ℕ → X) × Meets 𝓥 P d x

  -- x is within d times the limit l of a side
  abbrev pub Within-side : Side → ℤ → X → X → Type 0
  Within-side below d l x = Le 𝓥 (𝓥.scale d l) x
  Within-side above d l x = Le 𝓥 x (𝓥.scale d l)

  pub meets-kept : (on : Side → ℕ → Bool) (P : Problem X) (d : ℤ) (x : ℕ → X) → pos 0 <ℤ d → Rows 𝓥 P x →
      ((σ : Side) (v : ℕ) (l : X) → v < vars P → on σ v ≡ true → limit_of P σ v ≡ some l → Within-side σ d l (x v)) →
      Meets 𝓥 (keeping on P) d x
  meets-kept on P d x p R f = record {
    positive = p;
    rows = R;
    lowers = λ v h. lower-met 𝓥 (kept (on below v) (P.lower v)) d (x v) (λ l e.
        let (k, q) = kept-some (on below v) (P.lower v) l e in f below v l h k q);
    uppers = λ v h. upper-met 𝓥 (kept (on above v) (P.upper v)) d (x v) (λ u e.
        let (k, q) = kept-some (on above v) (P.upper v) u e in f above v u h k q);
  }

pub named-is : (N : ℕ) (a : List ℤ) (σ : Side) (v : ℕ) → is_named N a σ v ≡ true → multiplier N a σ v ≢ pos 0
named-is N a σ v e = (tells-not (tells-eq_z (multiplier N a σ v) (pos 0))).if-true e

pub other-is : (σ : Side) (w : ℕ) (τ : Side) (v : ℕ) → is_other σ w τ v ≡ true → τ ≡ σ → v ≢ w
other-is below w below v e s = (tells-not (tells-eq v w)).if-true e
other-is below w above v e s = let z : ◌≡◌ {A = ℕ} 0 1 = cc in zero_one z
other-is above w below v e s = let z : ◌≡◌ {A = ℕ} 0 1 = cc in zero_one z
other-is above w above v e s = (tells-not (tells-eq v w)).if-true e
