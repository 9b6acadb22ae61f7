-- What the checker tells is the number of the words and the answer.
--   wide-refused-read                    of what refuses the problem, or an answer that is too short
--   ill-told, all-formed                 of words out of their ranges; words in them, of every number
--   wide-other-told                      where the verdict has no evidence
--   wide-can-told, wide-cannot-told      of the case that was read
use mathlib.Core.Bool.{Bool, cond, false, true}
use mathlib.Core.List.{List}
use mathlib.Core.Logic.{◌≢◌}
use mathlib.Core.Path.{ap, ap₂, sym, ◌∙◌, ◌≡◌}
use Prim.Native.Nat.{ℕ, ◌+◌, ◌*◌, ◌≤◌}
use Rattle.std.proofs.Common.{Ok}
use lib.IntN.{pos, ℤ}
use lib.ListN.{length}
use Rattle.whole.specs.Below.{all_below}
use Rattle.refusals.specs.Numbers.{number_of, verdict_told}
use Rattle.refusals.specs.declared.Refusal.{Refusal}
use Rattle.rules.proofs.Refusal.Accepted.{problem-m, problem-n}
use Rattle.rules.specs.Evidence.{right_can, right_cannot, verdict_of}
use Rattle.rules.specs.Problem.{m_of, n_of, problem, vars}
use Rattle.rules.specs.Wide.{checked_wide, number_fits, numbers_of, short_wide, well_formed, wide_denominator}
use Rattle.rules.specs.Wide.{wide_length, wide_lower, wide_upper}
use Rattle.tableau.specs.declared.Limits.{Limits}
use Rattle.parts.specs.Reads.{CaseOf, SizesOf, case_refusal, problem_of}
use Rattle.parts.proofs.Laws.Judged.{case-sized, fine-of, refused-case, told-verdict}
use Rattle.parts.proofs.Laws.Read.{right-can-read, right-cannot-read}
use Rattle.wide.specs.Reads.{AllFormed}
use Rattle.wide.proofs.Laws.Checks.{can-wide, cannot-wide, formed-all, ill-formed, other-wide}

pub wide-refused-read : (ws a : List ℤ) (r : Refusal) → number_of r ≡ case_refusal ws (length a) 6 8 →
    number_of r ≡ checked_wide ws a
unfolding checked_wide short_wide
wide-refused-read ws a r e = refused-case ws _ _ r e

-- how long an answer must be, from the sizes that were read, and how many variables there are
length-is : (ws : List ℤ) {n m : ℕ} → n ≡ n_of ws → m ≡ m_of ws → 6 + 8 * (n + m) ≡ wide_length ws
length-is ws e f = ap₂ (λ n m. 6 + 8 * (n + m)) e f

vars-are : (ws : List ℤ) {n m : ℕ} → n ≡ n_of ws → m ≡ m_of ws → n + m ≡ vars (problem ws)
vars-are ws e f = ap₂ (λ n m. n + m) (e ∙ sym (problem-n ws)) (f ∙ sym (problem-m ws))

module _ {ws a : List ℤ} {rows columns : ℕ} (S : SizesOf ws a 6 8 rows columns) where
  long-enough : wide_length ws ≤ length a
  long-enough = rw (length-is ws S.framed.columns-are S.framed.rows_are) at S.long

  many : columns + rows ≡ vars (problem ws)
  many = vars-are ws S.framed.columns-are S.framed.rows_are

  well : {b : Bool} → b ≡ all_below (numbers_of (columns + rows)) (number_fits a) →
      well_formed (vars (problem ws)) a ≡ b
  unfolding well_formed
  well e = ap (λ k. all_below (numbers_of k) (number_fits a)) (sym many) ∙ sym e

  pub ill-told : all_below (numbers_of (columns + rows)) (number_fits a) ≡ false → 9 ≡ checked_wide ws a
  ill-told e = sym (ill-formed ws a (fine-of ws S.accepted) long-enough (well (sym e)))

  pub all-formed : all_below (numbers_of (columns + rows)) (number_fits a) ≡ true →
      AllFormed a (numbers_of (columns + rows))
  unfolding well_formed
  all-formed e = formed-all (columns + rows) a e

  pub wide-other-told : all_below (numbers_of (columns + rows)) (number_fits a) ≡ true →
      verdict_of a ≢ pos 1 → verdict_of a ≢ pos 2 → 9 ≡ checked_wide ws a
  wide-other-told f n m = sym (other-wide ws a (fine-of ws S.accepted) long-enough (well (sym f)) n m)

module _ {ws a entries answer : List ℤ} {limits : Limits} {rows columns : ℕ}
    (K : CaseOf ws a 6 8 entries limits rows columns answer) where
  judged : SizesOf ws a 6 8 rows columns
  judged = case-sized K

  module _ (f : all_below (numbers_of (columns + rows)) (number_fits a) ≡ true) where
    pub wide-can-told : {b : Bool} → b ≡ right_can (problem_of entries limits rows columns) (wide_denominator answer)
        (wide_lower answer) (wide_upper (columns + rows) answer) → verdict_of a ≡ pos 1 →
        verdict_told (Ok b) ≡ checked_wide ws a
    wide-can-told {b} e v = told-verdict b
        ∙ ap (λ (b : Bool). cond b 8 9) (e
        ∙ ap (λ (a : List ℤ). right_can (problem_of entries limits rows columns) (wide_denominator a) (wide_lower a)
        (wide_upper (columns + rows) a)) K.answer-is
        ∙ right-can-read K.framed K.accepted K.entries-are K.limits-are (wide_denominator a) (wide_lower a)
        (wide_upper (columns + rows) a)
        ∙ ap (λ N. right_can (problem ws) (wide_denominator a) (wide_lower a) (wide_upper N a)) (many judged))
        ∙ sym (can-wide ws a (fine-of ws K.accepted) (long-enough judged) (well judged (sym f)) v)

    pub wide-cannot-told : {b : Bool} → b
        ≡ right_cannot (problem_of entries limits rows columns) (wide_denominator answer)
        (wide_lower answer) (wide_upper (columns + rows) answer) → verdict_of a ≡ pos 2 →
        verdict_told (Ok b) ≡ checked_wide ws a
    wide-cannot-told {b} e v = told-verdict b
        ∙ ap (λ (b : Bool). cond b 8 9) (e
        ∙ ap (λ (a : List ℤ). right_cannot (problem_of entries limits rows columns) (wide_denominator a) (wide_lower a)
        (wide_upper (columns + rows) a)) K.answer-is
        ∙ right-cannot-read K.framed K.accepted K.entries-are K.limits-are (wide_denominator a) (wide_lower a)
        (wide_upper (columns + rows) a)
        ∙ ap (λ N. right_cannot (problem ws) (wide_denominator a) (wide_lower a) (wide_upper N a)) (many judged))
        ∙ sym (cannot-wide ws a (fine-of ws K.accepted) (long-enough judged) (well judged (sym f)) v)
