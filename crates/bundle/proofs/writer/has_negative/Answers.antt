-- `bundle::writer::has_negative` meets its contract: it asks whether one of the lengths is negative.
use Rattle.std.proofs.Common.{◌≡◌, refl, length, rules, pos, Bool, true, false, ℤ, to_z, of_z, w32}
use Rattle.std.proofs.lemmas.Iterator.{YieldsList-from_slice, cases_from_any}
use borrow.Author.Tests.{tests}
use mir.Facts.{to_z-of_z}
use mir.Val.{SFits}
use Rattle.whole.specs.Numbers.{is_neg}
use Rattle.rules.specs.Problem.{word}
use Rattle.rules.specs.Bundle.Writer.{bad_lengths}
use Rattle.words.proofs.Chains.{any-below}
use Rattle.bundle.proofs.writer.has_negative.Goals as goal

-- what the closure tells of a length that fits, as it was read
told : (b : Bool) (z : ℤ) → SFits w32 z → is_neg (to_z w32 (of_z w32 z)) ≡ b → is_neg z ≡ b
told b z fit e = simp (to_z-of_z fit) at e

pub returns : goal.returns
unfolding bad_lengths
returns c =
    let ls = c.args.lengths.now in
    any-below is_neg ls (pos 0) (length ls) (λ i. is_neg (word ls i)) refl (λ i h. refl) c.any.result
    (cases_from_any _ _ c.any.result (λ z. is_neg z ≡ true) (λ z. is_neg z ≡ false) c.any.ensures.ran
    (YieldsList-from_slice ls cc) (λ x q k. told true x.now (search rules) (search (rules, tests)))
    (λ x q k. (search rules, told false x.now (search rules) (search (rules, tests)))))
