-- When writing is refused: the problem's own refusals, then 7 where the slice is too short.
--   exchange-exactly          the refusal is k exactly where no earlier line's meaning holds and line k's does
--   written-exactly           it is 0 exactly for accepted words whose text has room
--   exchange-problem, exchange-short, exchange-none     the three ways that writing goes
--   output-refused            a refusal keeps the slice
use mathlib.Core.Bool.{Bool, false, true}
use mathlib.Core.List.{List, [], ◌∷◌}
use mathlib.Core.Logic.{◌≢◌, ◌↔◌}
use mathlib.Core.Path.{◌≡◌, refl, sym, ◌∙◌}
use Prim.Native.Nat.{ℕ, zero, suc, ◌<◌, ◌≤◌}
use native.Mathlib.Omega.{arith}
use borrow.Author.Tests.{le-ltb, lt-ltb, ltb-false}
use lib.Dec.{ltb}
use lib.IntN.{ℤ}
use lib.ListN.{length}
use Rattle.whole.proofs.Tells.{tells-lt}
use Rattle.rules.specs.Facts.Refusal.{First}
use Rattle.rules.specs.Refusal.{Accepted, first, problem_refusal, problem_tests}
use Rattle.rules.specs.Sizes.{most_rows}
use Rattle.rules.specs.Exchange.Script.{exchange_output, exchange_refusal, exchange_table, exchange_text}
use Rattle.rules.proofs.Refusal.Exactly.{accepted-exactly, numbered, problem-tested}
use Rattle.rules.proofs.Refusal.First.{first-exactly, first-hit, first-kept, first-passed, first-skip, no_test}
use Rattle.rules.proofs.Refusal.First.{tested, tested-then}

module _ (ws : List ℤ) (room : ℕ) where
  pub exchange-exactly : (k : ℕ) → (exchange_refusal ws room ≡ k) ↔ First (exchange_table ws room) k
  unfolding exchange_refusal
  exchange-exactly k = first-exactly
      (tested-then (problem-tested most_rows ws) (tested (tells-lt room (length (exchange_text ws))) no_test)) k

  pub exchange-problem : problem_refusal ws ≢ 0 → problem_refusal ws ≡ exchange_refusal ws room
  unfolding exchange_refusal problem_refusal
  exchange-problem n = go (problem_refusal ws) refl
    where
      go : (k : ℕ) → problem_refusal ws ≡ k → problem_refusal ws ≡ exchange_refusal ws room
      go zero e = absurd (n e)
      go (suc k) e = e
          ∙ sym (first-kept (problem_tests most_rows ws) ((ltb room (length (exchange_text ws)), 7) ∷ []) k e)

  after-problem : problem_refusal ws ≡ 0 →
      exchange_refusal ws room ≡ first ((ltb room (length (exchange_text ws)), 7) ∷ [])
  unfolding exchange_refusal problem_refusal
  after-problem e =
      first-passed 10 (problem_tests most_rows ws) ((ltb room (length (exchange_text ws)), 7) ∷ [])
      (numbered most_rows ws) e

  pub exchange-short : problem_refusal ws ≡ 0 → room < length (exchange_text ws) → exchange_refusal ws room ≡ 7
  exchange-short e h = after-problem e ∙ first-hit 7 [] (lt-ltb room (length (exchange_text ws)) h)

  pub exchange-none : problem_refusal ws ≡ 0 → length (exchange_text ws) ≤ room → exchange_refusal ws room ≡ 0
  unfolding first
  exchange-none e h = after-problem e ∙ first-skip 7 [] (le-ltb room (length (exchange_text ws)) h)

  pub written-exactly :
      (exchange_refusal ws room ≡ 0) ↔ (Accepted most_rows ws × (length (exchange_text ws) ≤ room))
  unfolding problem_refusal first
  written-exactly = (to, λ (A, h). exchange-none ((accepted-exactly most_rows ws).1 A) h)
    where
      fine : exchange_refusal ws room ≡ 0 → problem_refusal ws ≡ 0
      fine e = go (problem_refusal ws) refl
        where
          go : (k : ℕ) → problem_refusal ws ≡ k → problem_refusal ws ≡ 0
          go zero q = q
          go (suc k) q = exchange-problem (λ z. let y : suc k ≡ 0 = sym q ∙ z in omega arith) ∙ e

      enough : exchange_refusal ws room ≡ 0 → length (exchange_text ws) ≤ room
      enough e = go (ltb room (length (exchange_text ws))) refl
        where
          go : (b : Bool) → ltb room (length (exchange_text ws)) ≡ b → length (exchange_text ws) ≤ room
          go true q =
              let z : ◌≡◌ {A = ℕ} 7 0 = sym (after-problem (fine e) ∙ first-hit 7 [] q) ∙ e in
              absurd (omega arith)
          go false q = ltb-false room (length (exchange_text ws)) q

      to : exchange_refusal ws room ≡ 0 → Accepted most_rows ws × (length (exchange_text ws) ≤ room)
      to e = ((accepted-exactly most_rows ws).0 (fine e), enough e)

pub output-refused : (k : ℕ) (ws : List ℤ) (before : List ℕ) → k ≢ 0 → exchange_output k ws before ≡ before
unfolding exchange_output
output-refused zero ws before n = absurd (n refl)
output-refused (suc k) ws before n = refl
