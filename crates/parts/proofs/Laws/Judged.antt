-- Words that the judge passes: their sizes, and that they are accepted.
--   taken-of, fine-of               they are accepted
--   judged-columns, judged-rows     words 0 and 1 are counts
--   refused-first, refused-case, passed-first     the first test that applies, where more tests follow
--   case-fits, case-length, case-short, case-long      how long an answer must be
--   told-verdict, word-is           what is told of a verdict; a word by its bits
--   framed-of                       the counts that were read frame them
--   case-of, case-sized             what is read by sizes that were judged is the case of the words; its sizes
use Rattle.std.proofs.Common.{◌≡◌, refl, sym, ap, ◌∙◌, Bool, true, false, cond, Ok, List, ℕ, ◌<◌, ℤ, pos, ◌≤ℤ◌, length}
use Rattle.std.proofs.Common.{of_z, to_z, w64}
use Rattle.std.proofs.Common.{◌≢◌, [], ◌∷◌, ◌++◌, zero, suc, ◌+◌, ◌*◌, ◌≤◌, ap₂, append_assoc, arith}
use borrow.Author.Tests.{le-ltb, lt-ltb}
use mir.Facts.{to_z-of_z}
use mir.Val.{SFits}
use Rattle.refusals.specs.Numbers.{number_of, verdict_told}
use Rattle.refusals.specs.declared.Refusal.{Refusal}
use Rattle.refusals.proofs.Refused.{number-some}
use lib.Signed.{le_z_yes}
use Rattle.whole.proofs.Numbers.Order.{≤ℤ-trans}
use Rattle.rules.specs.Problem.{m_of, n_of, problem, vars_of, word}
use Rattle.rules.specs.Refusal.{Accepted, first, problem_refusal, problem_tests}
use Rattle.rules.specs.Sizes.{most_rows}
use Rattle.rules.proofs.Refusal.Exactly.{accepted-exactly, numbered}
use Rattle.rules.proofs.Refusal.First.{first-hit, first-kept, first-passed, first-skip}
use Rattle.parts.specs.Reads.{CaseOf, SizesOf, case_refusal}
use Rattle.judge.specs.Words.{Framed}
use Rattle.judge.proofs.Laws.Judged.{accepted-framed}
use Rattle.tableau.specs.declared.Limits.{Limits}
use Rattle.tableau.specs.Start.{limits_for, start_entries}

module _ (ws : List ℤ) (fine : 0 ≡ problem_refusal ws) where
  pub taken-of : Accepted most_rows ws
  unfolding problem_refusal
  taken-of = (accepted-exactly most_rows ws).0 (sym fine)

  pub judged-columns : (0 < length ws) × (pos 0 ≤ℤ word ws 0)
  judged-columns = let A = taken-of in (omega (arith, A.enough), ≤ℤ-trans {b = pos 1} (le_z_yes tt) A.n-least)

  pub judged-rows : (1 < length ws) × (pos 0 ≤ℤ word ws 1)
  judged-rows = let A = taken-of in (omega (arith, A.enough), A.m-least)

  pub framed-of : {n m : ℕ} → n ≡ n_of ws → m ≡ m_of ws → Framed ws n m
  framed-of e f = accepted-framed taken-of e f

pub fine-of : (ws : List ℤ) → Accepted most_rows ws → problem_refusal ws ≡ 0
unfolding problem_refusal
fine-of ws A = (accepted-exactly most_rows ws).1 A

-- ---- the first test that applies, where more tests follow

kept-first : (ts us : List (Bool × ℕ)) (k : ℕ) → k ≡ first ts → k ≢ 0 → k ≡ first (ts ++ us)
kept-first ts us zero e n = absurd (n refl)
kept-first ts us (suc k) e n = sym (first-kept ts us k (sym e))

pub refused-first : (ws : List ℤ) (us : List (Bool × ℕ)) (r : Refusal) → number_of r ≡ problem_refusal ws →
    number_of r ≡ first (problem_tests most_rows ws ++ us)
unfolding problem_refusal
refused-first ws us r e = kept-first (problem_tests most_rows ws) us (number_of r) e (number-some r)

pub refused-case : (ws : List ℤ) (t : Bool × ℕ) (us : List (Bool × ℕ)) (r : Refusal) →
    number_of r ≡ first (problem_tests most_rows ws ++ (t ∷ [])) →
    number_of r ≡ first (problem_tests most_rows ws ++ (t ∷ us))
refused-case ws t us r e =
    kept-first (problem_tests most_rows ws ++ (t ∷ [])) us (number_of r) e (number-some r)
    ∙ ap first (append_assoc (problem_tests most_rows ws) (t ∷ []) us)

passed-first : (ws : List ℤ) (us : List (Bool × ℕ)) → 0 ≡ problem_refusal ws →
    first (problem_tests most_rows ws ++ us) ≡ first us
unfolding problem_refusal
passed-first ws us fine = first-passed 10 (problem_tests most_rows ws) us (numbered most_rows ws) (sym fine)

-- ---- the case that is read

room : (head each k : ℕ) → head ≤ 6 → each ≤ 8 → k ≤ 32 → head + each * k ≤ 262
room head each k h e f = let m : each * k ≤ 8 * 32 = grind arith in omega arith

module _ (ws : List ℤ) (fine : 0 ≡ problem_refusal ws) {n m : ℕ} (N : n ≡ n_of ws) (M : m ≡ m_of ws) where
  pub case-fits : {head each : ℕ} → head ≤ 6 → each ≤ 8 → head + each * (n + m) ≤ 262
  case-fits {head} {each} h e = let F = framed-of ws fine N M in
      room head each (n + m) h e (omega (arith, F.few-columns, F.few-rows))

  case-length : (head each : ℕ) → head + each * (n + m) ≡ head + each * vars_of ws
  case-length head each = ap₂ (λ n m. head + each * (n + m)) N M

  pub case-short : (room head each : ℕ) → room < head + each * (n + m) → 7 ≡ case_refusal ws room head each
  case-short room head each h = sym (passed-first ws _ fine
      ∙ first-hit 7 [] (lt-ltb _ _ (rw (case-length head each) at h)))

  pub case-long : (room head each : ℕ) → head + each * (n + m) ≤ room → 0 ≡ case_refusal ws room head each
  unfolding first
  case-long room head each h = sym (passed-first ws _ fine
      ∙ first-skip 7 [] (le-ltb _ _ (rw (case-length head each) at h)))

pub case-of : {ws a entries : List ℤ} {limits : Limits} {head each rows columns : ℕ} →
    SizesOf ws a head each rows columns → entries ≡ start_entries (problem ws) → limits ≡ limits_for (problem ws) →
    CaseOf ws a head each entries limits rows columns a
case-of S e l = record {
  framed = S.framed;
  accepted = S.accepted;
  entries-are = e;
  limits-are = l;
  answer-is = refl;
  long = S.long;
}

pub case-sized : {ws a entries answer : List ℤ} {limits : Limits} {head each rows columns : ℕ} →
    CaseOf ws a head each entries limits rows columns answer → SizesOf ws a head each rows columns
case-sized K = record { framed = K.framed; accepted = K.accepted; long = K.long }

-- ---- what a checker tells

pub told-verdict : (b : Bool) → verdict_told (Ok b) ≡ cond b 8 9
told-verdict true = refl
told-verdict false = refl

-- a word whose bits are a number's
pub word-is : {z : ℤ} {n : ℕ} → SFits w64 z → of_z w64 z ≡ n → z ≡ to_z w64 n
word-is f e = sym (to_z-of_z f) ∙ ap (to_z w64) e

pub one-or-two : pos 1 ≡ pos 2 → ⊥
one-or-two e = cc
