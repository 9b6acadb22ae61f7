-- What the checker tells is the number of the words and the answer.
--   refused-read              of what refuses the problem, or an answer that is too short
--   other-told                of words whose sizes were judged, where the verdict has no evidence
--   can-told, cannot-told     of the case that was read from them
use mathlib.Core.Path.{◌≡◌, ap, sym, ◌∙◌}
use mathlib.Core.Bool.{Bool, cond}
use mathlib.Core.List.{List}
use mathlib.Core.Logic.{◌≢◌}
use Prim.Native.Nat.{ℕ, ◌≤◌}
use Rattle.std.proofs.Common.{Ok}
use lib.IntN.{ℤ, pos}
use lib.ListN.{length}
use Rattle.refusals.specs.Numbers.{number_of, verdict_told}
use Rattle.refusals.specs.declared.Refusal.{Refusal}
use Rattle.rules.specs.Problem.{answer_length}
use Rattle.rules.specs.Refusal.{too_short}
use Rattle.rules.specs.Evidence.{checked, shows_can, shows_cannot, verdict_of}
use Rattle.tableau.specs.declared.Limits.{Limits}
use Rattle.parts.specs.Reads.{CaseOf, SizesOf, case_refusal, problem_of}
use Rattle.parts.proofs.Laws.Judged.{case-sized, fine-of, refused-case, told-verdict}
use Rattle.parts.proofs.Laws.Read.{can-read, cannot-read}
use Rattle.evidence.proofs.Laws.Checks.{can-judged, cannot-judged, length-is, other-judged}

pub refused-read : (ws a : List ℤ) (r : Refusal) → number_of r ≡ case_refusal ws (length a) 3 2 →
    number_of r ≡ checked ws a
unfolding checked too_short
refused-read ws a r e = refused-case ws _ _ r e

module _ {ws a : List ℤ} {rows columns : ℕ} (S : SizesOf ws a 3 2 rows columns) where
  long-enough : answer_length ws ≤ length a
  long-enough = rw (length-is ws S.framed.columns-are S.framed.rows_are) at S.long

  pub other-told : verdict_of a ≢ pos 1 → verdict_of a ≢ pos 2 → 9 ≡ checked ws a
  other-told n m = sym (other-judged ws a (fine-of ws S.accepted) long-enough n m)

module _ {ws a entries answer : List ℤ} {limits : Limits} {rows columns : ℕ}
    (K : CaseOf ws a 3 2 entries limits rows columns answer) where
  pub can-told : {b : Bool} → b ≡ shows_can (problem_of entries limits rows columns) answer → verdict_of a ≡ pos 1 →
      verdict_told (Ok b) ≡ checked ws a
  can-told {b} e v = told-verdict b
      ∙ ap (λ (b : Bool). cond b 8 9) (e ∙ ap (shows_can (problem_of entries limits rows columns)) K.answer-is
      ∙ can-read K.framed K.accepted K.entries-are K.limits-are a)
      ∙ sym (can-judged ws a (fine-of ws K.accepted) (long-enough (case-sized K)) v)

  pub cannot-told : {b : Bool} → b ≡ shows_cannot (problem_of entries limits rows columns) answer →
      verdict_of a ≡ pos 2 → verdict_told (Ok b) ≡ checked ws a
  cannot-told {b} e v = told-verdict b
      ∙ ap (λ (b : Bool). cond b 8 9) (e ∙ ap (shows_cannot (problem_of entries limits rows columns)) K.answer-is
      ∙ cannot-read K.framed K.accepted K.entries-are K.limits-are a)
      ∙ sym (cannot-judged ws a (fine-of ws K.accepted) (long-enough (case-sized K)) v)
