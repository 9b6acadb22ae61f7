-- A run of stores, `sets l i s`: the elements of s stored one by one from place i on. Stores past the end do nothing.
--   sets_then    two runs, one behind the other, are one
--   sets-front   a run from the front that fits
use mathlib.Core.Path.{◌≡◌, refl, ◌∙◌, ap}
use mathlib.Core.List.{List, [], ◌∷◌, ◌++◌}
use Prim.Native.Nat.{ℕ, suc, ◌+◌, ◌≤◌}
use native.Mathlib.Nat.{zero-add}
use native.Mathlib.Omega.{arith}
use lib.ListN.{length, drop, set}
use lib.Seq.{sets, sets-eq}

module _ {A : Type 0} where
  pub sets_then : (s t l : List A) (i : ℕ) → sets l i (s ++ t) ≡ sets (sets l i s) (i + length s) t
  sets_then [] t l i = ap (λ k. sets l k t) (let z : i ≡ i + 0 = omega arith in z)
  sets_then (a ∷ s) t l i =
      sets_then s t (set l i a) (suc i)
      ∙ ap (λ k. sets (sets (set l i a) (suc i) s) k t)
      (let z : suc i + length s ≡ i + suc (length s) = omega arith in z)

  pub sets-front : (s l : List A) → length s ≤ length l → sets l 0 s ≡ s ++ drop (length s) l
  sets-front s l h = sets-eq s l 0 (omega arith) ∙ rw zero-add refl
