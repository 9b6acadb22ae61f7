-- The limits that a "cannot" names are enough: all others dropped, no fractions meet them.
--   named-clash-shown    of evidence of "cannot", from whatever state
--   named-clash-means    of any answer that the checker accepts
--   named-clash          of the answer to accepted words
use mathlib.Core.Bool.{Bool, true, false, not}
use mathlib.Core.List.{List, [], append-nil}
use mathlib.Core.Logic.{inl, inr, ◌⊎◌}
use mathlib.Core.Option.{Option, none}
use mathlib.Core.Path.{ap, ap₂, refl, subst, sym, ◌∙◌, ◌≡◌}
use Prim.Native.Nat.{ℕ}
use native.Mathlib.Omega.{arith}
use lib.IntN.{*ℤ-zero, pos, ℤ, ◌*ℤ◌, ◌-ℤ◌}
use Rattle.whole.proofs.Numbers.Sums.{sum_same}
use Rattle.whole.proofs.Tells.{tells-eq_z}
use Rattle.whole.specs.Numbers.{eq_z}
use Rattle.rules.proofs.Evidence.Own.Accepted.{answer-accepted}
use Rattle.rules.proofs.Evidence.Checked.{checked-accepted}
use Rattle.rules.proofs.Evidence.Farkas.{farkas}
use Rattle.rules.specs.Answer.{answer}
use Rattle.rules.specs.Evidence.{Unsatisfied, checked, column, denominator_of, lower_part, plain_of, surplus}
use Rattle.rules.specs.Evidence.{upper_part, verdict_of}
use Rattle.rules.specs.Keeping.Idle.{named}
use Rattle.rules.specs.Keeping.Limits.{kept}
use Rattle.rules.specs.Limit.{Limit}
use Rattle.rules.specs.Problem.{Problem, problem, vars}
use Rattle.rules.specs.Refusal.{Accepted}
use Rattle.rules.specs.Facts.Evidence.{Contradiction, Multiplier, Refutation, Shown, ShowsCannot, StrictNamed}
use Rattle.rules.specs.Sizes.{most_rows}

-- ---- a limit, kept where its multiplier k is not 0

module _ (o : Option Limit) (k : ℤ) where
  abbrev still : Option Limit
  still = kept (not (eq_z k (pos 0))) o

  kept-or-zero : (still ≡ o) ⊎ (k ≡ pos 0)
  unfolding kept
  kept-or-zero = go (eq_z k (pos 0)) refl
    where
      go : (b : Bool) → eq_z k (pos 0) ≡ b → (still ≡ o) ⊎ (k ≡ pos 0)
      go true e = inr ((tells-eq_z k (pos 0)).if-true e)
      go false e = inl (ap (λ b. kept (not b) o) e)

  multiplier-kept : Multiplier o k → Multiplier still k
  multiplier-kept m = record { least = m.least; missing = λ e. go e kept-or-zero }
    where
      go : still ≡ none → (still ≡ o) ⊎ (k ≡ pos 0) → k ≡ pos 0
      go e (inl q) = m.missing (sym q ∙ e)
      go e (inr z) = z

  share-kept : plain_of still *ℤ k ≡ plain_of o *ℤ k
  share-kept = go kept-or-zero
    where
      go : (still ≡ o) ⊎ (k ≡ pos 0) → plain_of still *ℤ k ≡ plain_of o *ℤ k
      go (inl q) = ap (λ p. plain_of p *ℤ k) q
      go (inr z) = nothing (plain_of still) ∙ sym (nothing (plain_of o))
        where
          nothing : (p : ℤ) → p *ℤ k ≡ pos 0
          nothing p = ap (λ j. p *ℤ j) z ∙ *ℤ-zero p

  strict-kept : StrictNamed o k → StrictNamed still k
  strict-kept (l, e, s, n) = go kept-or-zero
    where
      go : (still ≡ o) ⊎ (k ≡ pos 0) → StrictNamed still k
      go (inl q) = (l, q ∙ e, s, n)
      go (inr z) = absurd (n z)

-- ---- all limits

module _ (P : Problem Limit) (a : List ℤ) where
  abbrev lo : ℕ → ℤ
  lo = lower_part a

  abbrev up : ℕ → ℤ
  up = upper_part (vars P) a

  surplus-kept : surplus (named a P) lo up ≡ surplus P lo up
  unfolding surplus
  surplus-kept = sum_same (vars P) _ _ (λ v h.
      ap₂ ◌-ℤ◌ (share-kept (P.lower v) (lo v)) (share-kept (P.upper v) (up v)))

  named-multipliers : Refutation P (denominator_of a) lo up → Refutation (named a P) (denominator_of a) lo up
  unfolding column
  named-multipliers S = record {
    no-denominator = S.no-denominator;
    lowers = λ v h. multiplier-kept (P.lower v) (lo v) (S.lowers v h);
    uppers = λ v h. multiplier-kept (P.upper v) (up v) (S.uppers v h);
    cancels = S.cancels;
    contradiction = go S.contradiction;
  }
    where
      go : Contradiction P lo up → Contradiction (named a P) lo up
      go (inl h) = inl (rw surplus-kept h)
      go (inr (z, (v, h, inl s))) = inr (surplus-kept ∙ z, (v, h, inl (strict-kept (P.lower v) (lo v) s)))
      go (inr (z, (v, h, inr s))) = inr (surplus-kept ∙ z, (v, h, inr (strict-kept (P.upper v) (up v) s)))

  pub named-clash-shown : ShowsCannot P a → Unsatisfied (named a P)
  named-clash-shown S = farkas (named a P) (denominator_of a) lo up (named-multipliers S.right)

-- ---- of words

pub named-clash-means : (ws a : List ℤ) → checked ws a ≡ 8 → verdict_of a ≡ pos 2 → Unsatisfied (named a (problem ws))
named-clash-means ws a c e = go ((checked-accepted ws a).0 c).2
  where
    go : Shown (problem ws) a → Unsatisfied (named a (problem ws))
    go (inl (v, S)) = let z : ◌≡◌ {A = ℕ} 1 2 = cc in let y : ⊥ = omega arith in absurd y
    go (inr (v, S)) = named-clash-shown (problem ws) a S

pub named-clash : (ws : List ℤ) → Accepted most_rows ws → verdict_of (answer ws) ≡ pos 2 →
    Unsatisfied (named (answer ws) (problem ws))
named-clash ws A e = named-clash-means ws (answer ws)
    (subst (λ a. checked ws a ≡ 8) (append-nil (answer ws)) (answer-accepted ws [] A (inr e))) e
