-- All that a "cannot" names.
--   multipliers_on      the multipliers of a side
--   Stopped            which limit stops a variable
--   evidence-named     of a violated row: limits of variables that its relation has, each on the side that stops it
--   crossed-named      of limits that cross: the two of that variable
--   evidence-cannot, crossed-cannot    both are endings of that kind
use mathlib.Core.Bool.{Bool, cond, false, true}
use mathlib.Core.List.{List}
use mathlib.Core.Logic.{◌≢◌}
use mathlib.Core.Option.{some}
use mathlib.Core.Path.{ap, refl, sym, ◌∙◌, ◌≡◌}
use Prim.Native.Nat.{ℕ, ◌<◌}
use lib.Dec.{eqb}
use lib.IntN.{neg_ℤ, pos, ℤ}
use lib.ListN.{length}
use lib.Signed.{◌<ℤ◌}
use Rattle.whole.proofs.Numbers.Order.{neg-down-back, true→lt}
use Rattle.whole.proofs.Lists.Tables.{table_at, table-length}
use Rattle.whole.proofs.Tells.{tells-eq}
use Rattle.whole.specs.Numbers.{is_pos}
use Rattle.whole.specs.Tables.{table}
use Rattle.whole.specs.Values.{Values}
use Rattle.rules.specs.Problem.{Problem, vars, word}
use Rattle.rules.specs.Run.{conflict, spending}
use Rattle.rules.specs.Step.{Outcome, Side, State, above, below, cannot, evidence, positive, pull, same}

-- the multipliers of a side
abbrev pub multipliers_on : List ℤ → List ℤ → Side → List ℤ
multipliers_on ls us below = ls
multipliers_on ls us above = us

-- a limit of that side stops a variable with this entry, turned to rise
abbrev pub Stopped : Side → ℤ → Type 0
Stopped below z = z <ℤ pos 0
Stopped above z = pos 0 <ℤ z

-- ---- a violated row

positive-some : (z : ℤ) → positive z ≢ pos 0 → pos 0 <ℤ z
positive-some z n = go (is_pos z) refl
  where
    go : (b : Bool) → is_pos z ≡ b → pos 0 <ℤ z
    go true e = true→lt e
    go false e = absurd (n (ap (λ b. cond b z (pos 0)) e))

module _ {X : Type 0} (N : ℕ) (σ : Side) (y : ℕ → ℤ) where
  pub evidence-named : (ls us : List ℤ) → evidence {X = X} N σ y ≡ cannot ls us → (τ : Side) (v : ℕ) → v < N →
      word (multipliers_on ls us τ) v ≢ pos 0 → Stopped τ (pull σ (y v))
  unfolding evidence
  evidence-named ls us e below v h n =
      let z : table N (λ v. positive (neg_ℤ (pull σ (y v)))) ≡ ls = cc in
      neg-down-back (pull σ (y v)) (positive-some (neg_ℤ (pull σ (y v))) (λ q.
      n (ap (λ l. word l v) (sym z) ∙ table_at N (λ v. positive (neg_ℤ (pull σ (y v)))) (pos 0) v h ∙ q)))
  evidence-named ls us e above v h n =
      let z : table N (λ v. positive (pull σ (y v))) ≡ us = cc in
      positive-some (pull σ (y v)) (λ q.
      n (ap (λ l. word l v) (sym z) ∙ table_at N (λ v. positive (pull σ (y v))) (pos 0) v h ∙ q))

  pub evidence-cannot :
      (ls : List ℤ) × (us : List ℤ) × (evidence {X = X} N σ y ≡ cannot ls us) × (length ls ≡ N)
  unfolding evidence
  evidence-cannot = (_, _, refl, table-length N _)

-- ---- limits that cross

module _ {X : Type 0} (𝓥 : Values X) (b : ℕ) (P : Problem X) (s : State X) (k v : ℕ) (c : conflict 𝓥 P ≡ some v) where
  pub crossed-named : (ls us : List ℤ) → (spending 𝓥 b P s k).how ≡ cannot ls us → (τ : Side) (u : ℕ) → u < vars P →
      word (multipliers_on ls us τ) u ≢ pos 0 → u ≡ v
  unfolding spending
  crossed-named ls us e τ u h n =
      is-v (λ q. n (ap (λ l. word l u) (list τ) ∙ table_at (vars P) (same v) (pos 0) u h ∙ q))
    where
      both : ◌≡◌ {A = Outcome X} (cannot (table (vars P) (same v)) (table (vars P) (same v))) (cannot ls us)
      both = rw (c, spending) at e

      list : (τ : Side) → multipliers_on ls us τ ≡ table (vars P) (same v)
      list below = sym (let z : table (vars P) (same v) ≡ ls = cc in z)
      list above = sym (let z : table (vars P) (same v) ≡ us = cc in z)

      is-v : same v u ≢ pos 0 → u ≡ v
      is-v m = go (eqb v u) refl
        where
          go : (b : Bool) → eqb v u ≡ b → u ≡ v
          go true q = sym ((tells-eq v u).if-true q)
          go false q = absurd (m (ap (λ b. cond b (pos 1) (pos 0)) q))

  pub crossed-cannot :
      (ls : List ℤ) × (us : List ℤ) × ((spending 𝓥 b P s k).how ≡ cannot ls us) × (length ls ≡ vars P)
  unfolding spending
  crossed-cannot =
      let ones : List ℤ = table (vars P) (same v) in
      (ones, ones, rw (c, spending) refl, table-length (vars P) (same v))
