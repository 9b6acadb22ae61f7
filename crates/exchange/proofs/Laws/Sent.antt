-- What is answered and what stands in the slice afterwards.
--   problem-refused, room-refused    why nothing is written, and the slice is kept
--   text-put                         the text stands at the front
--   text-answered                         the answer, from what became of the text
use mathlib.Core.Path.{ap₂}
use lib.Seq.{sets}
use Rattle.std.proofs.Common.{◌≡◌, ◌≢◌, ◌<◌, ◌≤◌, ℕ, zero, suc, ℤ, List, Result, Ok, Err, IfOk, refl, arith, ap, sym}
use Rattle.std.proofs.Common.{◌∙◌, length}
use Rattle.whole.proofs.Lists.Stores.{sets-front}
use Rattle.rules.specs.Exchange.Script.{exchange_output, exchange_refusal, exchange_text}
use Rattle.rules.specs.Refusal.{problem_refusal}
use Rattle.rules.proofs.Exchange.Refusals.{exchange-none, exchange-problem, exchange-short, output-refused}
use Rattle.refusals.specs.declared.Refusal.{Refusal}
use Rattle.refusals.specs.Numbers.{number_of, told_by}
use Rattle.refusals.proofs.Refused.{number-some}
use Rattle.put.specs.declared.Writer.{Writer}
use Rattle.put.specs.Put.{Put}
use Rattle.exchange.specs.Sent.{sent_by}
use Rattle.exchange.specs.declared.Exchanged.{Exchanged}

module _ (ws : List ℤ) (before : List ℕ) where
  -- what is told of words and a slice, and what stands in the slice afterwards
  abbrev pub KeptText : ℕ → List ℕ → Type 0
  KeptText told after = (told ≡ exchange_refusal ws (length before)) × (after ≡ exchange_output told ws before)

  pub problem-refused : (r : Refusal) → number_of r ≡ problem_refusal ws → KeptText (number_of r) before
  problem-refused r e = (
    e ∙ exchange-problem ws (length before) (λ z. number-some r (e ∙ z)),
    sym (output-refused (number_of r) ws before (number-some r)),
  )

  pub room-refused : problem_refusal ws ≡ 0 → length before < length (exchange_text ws) → KeptText 7 before
  room-refused e h = (
    sym (exchange-short ws (length before) e h),
    sym (output-refused 7 ws before (λ z. omega arith)),
  )

  pub text-put : {v w : Writer} → problem_refusal ws ≡ 0 → length (exchange_text ws) ≤ length before →
      v.out.now ≡ before → v.at ≡ 0 → Put v (exchange_text ws) w → KeptText 0 w.out.now
  unfolding exchange_output
  text-put {v} e fits b z p = (
    sym (exchange-none ws (length before) e fits),
    p.bytes ∙ ap₂ (λ l i. sets l i (exchange_text ws)) b z ∙ sets-front (exchange_text ws) before fits,
  )

-- from the result
abbrev pub text-exchanged : Result ℕ Refusal → Exchanged
text-exchanged (Ok n) = record { refused = 0; count = n }
text-exchanged (Err r) = record { refused = number_of r; count = 0 }

pub text-answered : (text : List ℕ) (r : Result ℕ Refusal) → IfOk r (λ n. n ≡ length text) →
    text-exchanged r ≡ sent_by (told_by r) text
unfolding sent_by
text-answered text (Ok n) e = ap (λ k. record { refused = 0; count = k }) e
text-answered text (Err r) e = go (number_of r) (number-some r)
  where
    go : (k : ℕ) → k ≢ 0 → ◌≡◌ {A = Exchanged} (record { refused = k; count = 0 }) (sent_by k text)
    go zero n = absurd (n refl)
    go (suc k) n = refl
