-- Where no limit is marked strict, the answer is that of the run over whole numbers: z as the pair (z, 0) goes through.
--   level-keeps    that map keeps 0, sums, multiples and the order
--   level-answer   so from such a state comes the answer of the whole numbers
--   plain-answer   of accepted words with kinds 0 to 3
use mathlib.Core.Bool.{Bool, false, true}
use mathlib.Core.List.{List, [], ◌∷◌, ◌++◌}
use mathlib.Core.Option.{some}
use mathlib.Core.Path.{ap, ap₂, fun_ext, refl, sym, ◌∙◌, ◌≡◌}
use Prim.Native.Nat.{ℕ, suc, zero, ◌/◌, ◌%◌, ◌^◌, ◌<◌}
use native.Mathlib.Decide.{dec_lt}
use native.Mathlib.Omega.{arith}
use lib.IntN.{*ℤ-zero, nat_abs, neg_ℤ, pos, ℤ, ◌*ℤ◌}
use lib.ListN.{get_or-eq_default, replicate}
use lib.Signed.{lt_z, ◌≤ℤ◌}
use Rattle.whole.proofs.Ring.Nonneg.{of_le, slk}
use Rattle.whole.proofs.Ring.Reify.{reify}
use Rattle.whole.proofs.Numbers.Sizes.{within_of}
use Rattle.whole.proofs.Tells.{tells-eq, tells-false}
use Rattle.whole.proofs.Ring.Tools.{le-at}
use Rattle.whole.specs.Numbers.{Within}
use Rattle.whole.specs.Tables.{table, table_from}
use Rattle.whole.specs.Values.{lexicographic, pairs, whole}
use Rattle.rules.proofs.Plain.Keeps.{Keeps, ending_through, outcome_through, state_through, problem_through}
use Rattle.rules.proofs.Plain.Runs.{ending-through, start-through}
use Rattle.rules.proofs.Plain.Tests.{scaled-through}
use Rattle.rules.specs.Answer.{answer, answer_from, words_of}
use Rattle.rules.specs.Limit.{Limit, bit, has_lower, has_upper, inset, lower_pair, present, strict_lower}
use Rattle.rules.specs.Limit.{strict_upper, upper_pair}
use Rattle.rules.specs.Plain.{Unmarked, plain_answer, plain_words, plainly}
use Rattle.rules.specs.Problem.{Problem, coefficient_word, inner, kind, lower_word, m_of, mapped, n_of, problem}
use Rattle.rules.specs.Problem.{upper_word, vars, vars_of}
use Rattle.rules.specs.Refusal.{Accepted}
use Rattle.rules.specs.Run.{Ending, ending}
use Rattle.rules.specs.Sizes.{most_rows}
use Rattle.rules.specs.Step.{Outcome, State, can, cannot, common, goes, range, scaled, start}

-- a whole number as a pair
abbrev level : ℤ → ℤ × ℤ
level z = (z, pos 0)

level-less : (a b : Bool) → lexicographic a b false ≡ a
level-less true b = refl
level-less false true = refl
level-less false false = refl

level-keeps : Keeps whole pairs level
level-keeps = record {
  keeps-nil = refl;
  keeps-plus = λ x y. refl;
  keeps-scale = λ a x. ap (λ z. (a *ℤ x, z)) (sym (*ℤ-zero a));
  keeps-less = λ x y. level-less (lt_z x y) (lt_z y x);
}

-- ---- the words

table_of : {A : Type 0} (a k : ℕ) (z : A) → table_from a k (λ v. z) ≡ replicate k z
unfolding table_from
table_of a zero z = refl
table_of a (suc k) z = ap (λ l. z ∷ l) (table_of (suc a) k z)

level-words : (P : Problem ℤ) (e : Ending ℤ) → words_of (problem_through level P) (ending_through level e) ≡
    plain_words P e
unfolding words_of plain_words outcome_through
level-words P e = go e.how
  where
    parts : (v : ℕ) →
        scaled pairs (problem_through level P) (state_through level e.last) v ≡ level (scaled whole P e.last v)
    parts = scaled-through whole pairs level level-keeps P e.last

    go : (o : Outcome ℤ) → let f : Ending ℤ = record { how = o; pivots = e.pivots; last = e.last } in
        words_of (problem_through level P) (ending_through level f) ≡ plain_words P f
    go can = ap₂ (λ x y. pos 1 ∷ pos e.pivots ∷ common e.last ∷ x ++ y)
        (ap (table (vars P)) (fun_ext (λ v. ap (λ z. z.0) (parts v))))
        (ap (table (vars P)) (fun_ext (λ v. ap (λ z. z.1) (parts v))) ∙ table_of 0 (vars P) (pos 0))
    go (cannot ls us) = refl
    go range = refl
    go (goes t) = refl

level-answer : (P : Problem ℤ) (s : State ℤ) →
    answer_from (problem_through level P) (state_through level s) ≡ plain_words P (ending whole P s)
unfolding answer_from
level-answer P s =
    ap (words_of (problem_through level P)) (ending-through whole pairs level level-keeps P s)
    ∙ level-words P (ending whole P s)

-- ---- words with no mark

-- a kind from 0 to 3 has no mark
no-mark : (z : ℤ) → pos 0 ≤ℤ z → z ≤ℤ pos 3 → (strict_lower z ≡ false) × (strict_upper z ≡ false)
unfolding bit
no-mark z h k =
    let w : Within z 3 = within_of (le-at (z ∷ []) (of_le h) (search reify depth 30) slk) k in (
      tells-false (tells-eq (nat_abs z / 2 ^ 2 % 2) 1) (λ e. let y : ⊥ = omega (arith, w.within) in y),
      tells-false (tells-eq (nat_abs z / 2 ^ 3 % 2) 1) (λ e. let y : ⊥ = omega (arith, w.within) in y),
    )

-- a limit with no mark, as a pair and as a whole number
low-level : (b s : Bool) (z : ℤ) → s ≡ false →
    mapped lower_pair (present b (record { plain = z; strict = s }))
    ≡ mapped level (mapped (λ (l : Limit). l.plain) (present b (record { plain = z; strict = s })))
unfolding mapped present
low-level true s z e = ap (λ c. some (z, inset c)) e
low-level false s z e = refl

high-level : (b s : Bool) (z : ℤ) → s ≡ false →
    mapped upper_pair (present b (record { plain = z; strict = s }))
    ≡ mapped level (mapped (λ (l : Limit). l.plain) (present b (record { plain = z; strict = s })))
unfolding mapped present
high-level true s z e = ap (λ c. some (z, neg_ℤ (inset c))) e
high-level false s z e = refl

module _ (ws : List ℤ) (A : Accepted most_rows ws) (U : Unmarked ws) where
  -- past the last variable there is no word
  unmarked : (v : ℕ) → (strict_lower (kind ws v) ≡ false) × (strict_upper (kind ws v) ≡ false)
  unfolding bit
  unmarked v = go (dec_lt v (vars_of ws))
    where
      go : Dec (v < vars_of ws) → (strict_lower (kind ws v) ≡ false) × (strict_upper (kind ws v) ≡ false)
      go (yes h) = no-mark (kind ws v) (A.kind-least v h) (U v h)
      go (no n) =
          let z : kind ws v ≡ pos 0 = get_or-eq_default ws (pos 0) (omega (arith, A.exact)) in
          (ap strict_lower z, ap strict_upper z)

  as-level : inner (problem ws) ≡ problem_through level (plainly (problem ws))
  unfolding problem
  as-level = ap₂ (λ l u. record { n = n_of ws; m = m_of ws; coefficient = coefficient_word ws; lower = l; upper = u })
      (fun_ext (λ v. low-level (has_lower (kind ws v)) (strict_lower (kind ws v)) (lower_word ws v) (unmarked v).0))
      (fun_ext (λ v. high-level (has_upper (kind ws v)) (strict_upper (kind ws v)) (upper_word ws v) (unmarked v).1))

  pub plain-answer : answer ws ≡ plain_answer ws
  unfolding answer plain_answer
  plain-answer =
      ap (λ P. answer_from P (start pairs P)) as-level
      ∙ ap (answer_from (problem_through level Q)) (start-through whole pairs level level-keeps Q)
      ∙ level-answer Q (start whole Q)
    where
      Q : Problem ℤ
      Q = plainly (problem ws)
