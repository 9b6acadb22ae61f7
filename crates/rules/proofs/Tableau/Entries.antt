-- The tableau by variable has no other numbers than the rules' own: D, the entries of basic rows at nonbasic variables,
-- and 0. So its common divisor and its range test are those of D and these m times n entries.
--   cells-all          what holds of 0, of D and of those entries holds of every number
--   divisor-of-cells   d divides the divisor exactly where it divides D and those entries
--   small-of-cells     the range test passes exactly where D and those entries are within the largest number
use mathlib.Core.Bool.{true}
use mathlib.Core.Logic.{◌↔◌}
use mathlib.Core.Option.{Option, none, some}
use mathlib.Core.Path.{refl, subst, sym, ◌≡◌}
use Prim.Native.Nat.{ℕ, ◌<◌, ◌∣◌}
use native.Mathlib.Decide.{ℕ_discrete}
use native.Mathlib.Nat.{dvd_trans, dvd-zero}
use native.Mathlib.Omega.{arith}
use lib.IntN.{nat_abs, pos, ℤ}
use Rattle.whole.proofs.Tells.{tells-true}
use Rattle.whole.specs.Numbers.{Within}
use Rattle.whole.specs.Values.{Values}
use Rattle.rules.proofs.Tableau.Lowest.{divisor-divides, divisor-greatest}
use Rattle.rules.proofs.Tableau.InRange.{small-tells}
use Rattle.rules.specs.Problem.{Problem, vars}
use Rattle.rules.specs.Facts.Range.{EveryCell}
use Rattle.rules.specs.Sizes.{largest_number}
use Rattle.rules.specs.Facts.State.{Rowed}
use Rattle.rules.specs.Step.{State, common, seat}
use Rattle.rules.specs.Tableau.{divisor_size, entry, small}

module _ {X : Type 0} (𝓥 : Values X) (P : Problem X) (s : State X) (S : Rowed 𝓥 P s) where
  -- of every number of the tableau by variable
  abbrev Every : (ℤ → Type 0) → Type 0
  Every Q = Q (common s) × ((v : ℕ) → v < vars P → (u : ℕ) → u < vars P → Q (entry s.tableau v u))

  cells-all : (Q : ℤ → Type 0) → Q (pos 0) → Every Q ↔ EveryCell P s Q
  cells-all Q zero-fine = (
    λ A. (A.0, λ v w x h k e f. A.1 v h w k),
    λ C. (C.0, λ v h u k. go C v u h k (seat s u) refl (seat s v) refl (ℕ_discrete u v)),
  )
    where
      go : EveryCell P s Q → (v u : ℕ) → v < vars P → u < vars P → (o : Option X) → seat s u ≡ o → (p : Option X) →
          seat s v ≡ p → Dec (u ≡ v) → Q (entry s.tableau v u)
      go C v u h k none e p f d = subst Q (sym (S.basic-zero v u h k e)) zero-fine
      go C v u h k (some x) e none f d = C.1 v u x h k f e
      go C v u h k (some x) e (some y) f (yes z) = rw z (subst Q (sym (S.own v y h f)) C.0)
      go C v u h k (some x) e (some y) f (no n) = subst Q (sym (S.own-zero v u y h k f n)) zero-fine

  pub divisor-of-cells : (d : ℕ) → (d ∣ divisor_size (vars P) s.tableau) ↔ EveryCell P s (λ z. d ∣ nat_abs z)
  divisor-of-cells d = let c = cells-all (λ z. d ∣ nat_abs z) (dvd-zero d) in
      let g = divisor-divides (vars P) s.tableau in (
        λ h. c.0 (dvd_trans d h g.0, λ v p u q. dvd_trans d h (g.1 v u p q)),
        λ C. divisor-greatest (vars P) s.tableau d C.0 (λ v u p q. (c.1 C).1 v p u q),
      )

  pub small-of-cells : (small (vars P) s.tableau ≡ true) ↔ EveryCell P s (λ z. Within z largest_number)
  small-of-cells = let c = cells-all (λ z. Within z largest_number) (record { within = omega arith }) in
      let t = small-tells (vars P) s.tableau in
      (λ e. c.0 (t.if-true e), λ C. tells-true t (c.1 C))
