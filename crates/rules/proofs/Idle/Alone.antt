-- One variable at any value, whatever it is, where no row is blank.
--   touched        every variable has a column in which its start entry is not 0
--   alone-meets    so where l is the only limit that is kept, some values meet it: v is at l
use mathlib.Core.Bool.{Bool, true}
use mathlib.Core.Logic.{◌≢◌}
use mathlib.Core.Option.{some}
use mathlib.Core.Path.{ap, sym, ◌∙◌, ◌≡◌}
use Prim.Native.Nat.{ℕ, ◌+◌, ◌-◌, ◌<◌}
use native.Mathlib.Decide.{dec_lt}
use native.Mathlib.Omega.{arith}
use lib.IntN.{pos, ℤ, ◌*ℤ◌}
use Rattle.whole.proofs.Values.Laws.{same-le}
use Rattle.whole.specs.Values.{Laws, Values}
use Rattle.rules.proofs.Idle.Blocked.{rows-times, square}
use Rattle.rules.proofs.Idle.Kept.{Met, Within-side, meets-kept}
use Rattle.rules.proofs.Tableau.Units.{problem-row, row-row, same_self, unit-solves}
use Rattle.rules.specs.Evidence.{Rows}
use Rattle.rules.specs.Keeping.Idle.{NoBlank}
use Rattle.rules.specs.Keeping.Limits.{keeping, limit_of}
use Rattle.rules.specs.Problem.{Problem, vars}
use Rattle.rules.specs.Step.{Side, above, below, start_entry}

one_not_zero : pos 1 ≢ pos 0
one_not_zero e = let z : ◌≡◌ {A = ℕ} 1 0 = cc in let y : ⊥ = omega arith in y

touched : {X : Type 0} (P : Problem X) → NoBlank P → (v : ℕ) → v < vars P →
    (j : ℕ) × (j < P.n) × (start_entry P v j ≢ pos 0)
touched P B v h = go (dec_lt v P.n)
  where
    go : Dec (v < P.n) → (j : ℕ) × (j < P.n) × (start_entry P v j ≢ pos 0)
    go (yes q) = (v, q, λ e. one_not_zero (sym (problem-row P v v q ∙ same_self v) ∙ e))
    go (no n) = row (v - P.n) (let z : P.n + (v - P.n) ≡ v = omega arith in z)
      where
        row : (i : ℕ) → P.n + i ≡ v → (j : ℕ) × (j < P.n) × (start_entry P v j ≢ pos 0)
        row i e = let b = B i (omega arith) in
            (b.0, b.1, λ z. b.2 (sym (row-row P i b.0 b.1) ∙ ap (λ u. start_entry P u b.0) e ∙ z))

module _ {X : Type 0} (𝓥 : Values X) (law : Laws 𝓥) (P : Problem X) (B : NoBlank P) (v : ℕ) (h : v < vars P) (l : X)
  where
    open 𝓥 use {scale}

    t : (j : ℕ) × (j < P.n) × (start_entry P v j ≢ pos 0)
    t = touched P B v h

    abbrev c : ℤ
    c = start_entry P v t.0

    abbrev x : ℕ → X
    x u = scale (start_entry P u t.0) (scale c l)

    rows : Rows 𝓥 P x
    rows = rows-times 𝓥 law P (λ u. start_entry P u t.0) (scale c l) (unit-solves P t.0 t.1)

    there : x v ≡ scale (c *ℤ c) l
    there = sym (law.scale-times c c l)

    at-limit : (σ : Side) (u : ℕ) (k : X) → u ≡ v → k ≡ l → Within-side 𝓥 σ (c *ℤ c) k (x u)
    at-limit below u k p q = same-le law (ap (scale (c *ℤ c)) q ∙ sym there ∙ ap x (sym p))
    at-limit above u k p q = same-le law (ap x p ∙ there ∙ ap (scale (c *ℤ c)) (sym q))

    pub alone-meets : (on : Side → ℕ → Bool) →
        ((σ : Side) (u : ℕ) (k : X) → u < vars P → on σ u ≡ true → limit_of P σ u ≡ some k → (u ≡ v) × (k ≡ l)) →
        Met 𝓥 (keeping on P)
    alone-meets on only = (
      c *ℤ c,
      x,
      meets-kept 𝓥 on P (c *ℤ c) x (square c t.2) rows
          (λ σ u k q e f. let (p, w) = only σ u k q e f in at-limit σ u k p w),
    )
