-- The checker's number by what was found out in turn.
--   ill-formed                            9 for words out of their ranges
--   can-wide, cannot-wide, other-wide     by the verdict
--   formed-all                            words in their ranges, of every number
use mathlib.Core.Bool.{Bool, cond, false, true, ◌&&◌}
use mathlib.Core.List.{List}
use mathlib.Core.Logic.{◌≢◌}
use mathlib.Core.Path.{ap₂, refl, sym, ◌∙◌, ◌≡◌}
use Prim.Native.Nat.{ℕ, ◌≤◌}
use lib.IntN.{pos, ℤ}
use lib.ListN.{length}
use Rattle.whole.proofs.Lists.Below.{all-each}
use Rattle.whole.proofs.Tells.{tells-eq_z, tells-false, tells-true}
use Rattle.whole.specs.Numbers.{eq_z}
use Rattle.rules.proofs.Wide.Checked.{wide-judged}
use Rattle.rules.proofs.Wide.Numbers.{fits-exactly}
use Rattle.rules.specs.Evidence.{right_can, right_cannot, verdict_of}
use Rattle.rules.specs.Limit.{Limit}
use Rattle.rules.specs.Problem.{Problem, problem, vars}
use Rattle.rules.specs.Refusal.{problem_refusal}
use Rattle.rules.specs.Wide.{accepted_wide, checked_wide, number_fits, numbers_of, shows_wide, well_formed}
use Rattle.rules.specs.Wide.{wide_denominator, wide_length, wide_lower, wide_upper}
use Rattle.parts.proofs.Laws.Judged.{one-or-two}
use Rattle.wide.specs.Reads.{AllFormed}

pub formed-all : (N : ℕ) (a : List ℤ) → well_formed N a ≡ true → AllFormed a (numbers_of N)
unfolding well_formed
formed-all N a e = record {
  each = λ slot h. (fits-exactly a slot).0
      (all-each (numbers_of N) (number_fits a) e slot h);
}

module _ (ws a : List ℤ) (e : problem_refusal ws ≡ 0) where
  abbrev P : Problem Limit
  P = problem ws

  module _ (l : wide_length ws ≤ length a) where
    by_tests_lem : (f s : Bool) → well_formed (vars P) a ≡ f → shows_wide P a ≡ s → checked_wide ws a
        ≡ cond (f && s) 8 9
    unfolding accepted_wide
    by_tests_lem f s p q = wide-judged ws a e l ∙ ap₂ (λ b c. cond (b && c) 8 9) p q

    pub ill-formed : well_formed (vars P) a ≡ false → checked_wide ws a ≡ 9
    ill-formed f = by_tests_lem false (shows_wide P a) f refl

    module _ (f : well_formed (vars P) a ≡ true) where
      abbrev can : Bool
      can = right_can P (wide_denominator a) (wide_lower a) (wide_upper (vars P) a)

      abbrev cannot : Bool
      cannot = right_cannot P (wide_denominator a) (wide_lower a) (wide_upper (vars P) a)

      of-verdict : (b c : Bool) → eq_z (verdict_of a) (pos 1) ≡ b → eq_z (verdict_of a) (pos 2) ≡ c →
          shows_wide P a ≡ cond b can (cond c cannot false)
      unfolding shows_wide
      of-verdict b c p q = ap₂ (λ x y. cond x can (cond y cannot false)) p q

      pub can-wide : verdict_of a ≡ pos 1 → checked_wide ws a ≡ cond can 8 9
      can-wide v = by_tests_lem true can f (of-verdict true _ (tells-true (tells-eq_z (verdict_of a) (pos 1)) v) refl)

      pub cannot-wide : verdict_of a ≡ pos 2 → checked_wide ws a ≡ cond cannot 8 9
      cannot-wide v = by_tests_lem true cannot f
          (of-verdict false true (tells-false (tells-eq_z (verdict_of a) (pos 1)) (λ w. one-or-two (sym w ∙ v)))
          (tells-true (tells-eq_z (verdict_of a) (pos 2)) v))

      pub other-wide : verdict_of a ≢ pos 1 → verdict_of a ≢ pos 2 → checked_wide ws a ≡ 9
      other-wide n m = by_tests_lem true false f
          (of-verdict false false (tells-false (tells-eq_z (verdict_of a) (pos 1)) n)
          (tells-false (tells-eq_z (verdict_of a) (pos 2)) m))
