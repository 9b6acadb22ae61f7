-- The sheet of a file, in plain words.
--   sheet-refused       a refused file has its own line
--   sheet-is            otherwise it is the sheet of the file's bodies, with the rows of its edition
--   file-sheet-short    either way it is short
--   class-refused, class-answered    the class of a body is what is printed for it: its refusal, or its verdict
use mathlib.Core.List.{List}
use mathlib.Core.Path.{◌≡◌, ap, refl}
use Prim.Native.Nat.{ℕ, zero, suc, ◌^◌, ◌<◌, ◌≤◌}
use native.Mathlib.Omega.{arith}
use lib.IntN.{ℤ, nat_abs, pos}
use lib.ListN.{length}
use Rattle.rules.specs.Answer.{answer}
use Rattle.rules.specs.Evidence.{verdict_of}
use Rattle.rules.specs.Sizes.{most_sheet}
use Rattle.rules.specs.Program.Bytes.{words_from}
use Rattle.rules.specs.Program.Text.{ascii, refusal_text}
use Rattle.rules.specs.Bundle.File.{bodies_in, edition_in, file_refusal, file_tests, rows_in}
use Rattle.rules.specs.Bundle.Day.{body_refusal}
use Rattle.rules.specs.Sheet.Totals.{class_by, class_of, refused, verdict}
use Rattle.rules.specs.Sheet.Text.{sheet_text}
use Rattle.rules.specs.Sheet.File.{file_sheet, sheet_after}
use Rattle.rules.proofs.Refusal.First.{first-most}
use Rattle.rules.proofs.Program.Lengths.{line-short}
use Rattle.rules.proofs.Bundle.Bodies.{bodies-many}
use Rattle.rules.proofs.Bundle.Exactly.{file-accepted-exactly, file-numbered}
use Rattle.rules.proofs.Bundle.Places.{bodies-counted, edition-rows}
use Rattle.rules.proofs.Sheet.Short.{sheet-short}

refusal-line-short : (k : ℕ) → k < 2 ^ 32 → length (refusal_text k) ≤ most_sheet
unfolding refusal_text ascii
refusal-line-short k h = omega (arith, line-short (ascii "refused ") (pos k) (record { sfits = omega (arith, h) }))

module _ (bs : List ℕ) where
  pub sheet-refused : (k : ℕ) → file_refusal bs ≡ suc k → file_sheet bs ≡ refusal_text (suc k)
  unfolding file_sheet sheet_after
  sheet-refused k q = rw q refl

  pub sheet-is : file_refusal bs ≡ 0 →
      file_sheet bs ≡ sheet_text (rows_in (edition_in (words_from bs))) (bodies_in (words_from bs))
  unfolding file_sheet sheet_after
  sheet-is q = rw q refl

  refusal-most : file_refusal bs ≤ 35
  unfolding file_refusal
  refusal-most = first-most 35 (file_tests (length bs) (words_from bs)) (file-numbered (length bs) (words_from bs))

  pub file-sheet-short : length (file_sheet bs) ≤ most_sheet
  file-sheet-short = go (file_refusal bs) refl
    where
      go : (r : ℕ) → file_refusal bs ≡ r → length (file_sheet bs) ≤ most_sheet
      go zero e =
          let A = (file-accepted-exactly bs).0 e in
          let many = bodies-many (words_from bs) in let few = bodies-counted A in
          rw (sheet-is e) (sheet-short (rows_in (edition_in (words_from bs))) (bodies_in (words_from bs))
          (edition-rows (edition_in (words_from bs))) (omega (arith, many, few)))
      go (suc k) e =
          let h = refusal-line-short (suc k) (let m = refusal-most in omega (arith, m, e)) in
          rw (sheet-refused k e) (omega (arith, h))

module _ (e : ℕ) (body : List ℤ) where
  pub class-refused : (k : ℕ) → body_refusal e body ≡ suc k → class_of (rows_in e) body ≡ refused (suc k)
  unfolding body_refusal class_of class_by
  class-refused k q = ap (λ r. class_by r body) q

  pub class-answered : body_refusal e body ≡ 0 → class_of (rows_in e) body ≡ verdict
      (nat_abs (verdict_of (answer body)))
  unfolding body_refusal class_of class_by
  class-answered q = ap (λ r. class_by r body) q
