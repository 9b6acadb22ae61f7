-- `answers::write` meets its contract. Assumes nothing.
use Rattle.std.proofs.Common.{◌≡◌, ◌∷◌, [], pos, arith, rules, w64, SFits}
use Rattle.std.proofs.Math.Facts.{to_z-of_z, to_z_pos}
use Rattle.whole.proofs.Numbers.Sizes.{fits-by}
use Rattle.answers.specs.declared.Verdict.{Verdict}
use Rattle.answers.specs.declared.Verdict.TheVariants as verdicts
use Rattle.answers.specs.Answer.{verdict_number}
use Rattle.answers.proofs.Laws.Write.{written_all}
use Rattle.answers.proofs.write.Goals as goal

number-fits : (v : Verdict) → SFits w64 (verdict_number v)
unfolding verdict_number
number-fits verdicts.Can = fits-by {n = 3} (record { within = omega arith }) tt
number-fits verdicts.Cannot = fits-by {n = 3} (record { within = omega arith }) tt
number-fits verdicts.Range = fits-by {n = 3} (record { within = omega arith }) tt

pub returns : goal.returns
returns c = let a = c.args in let h = a.head in
    let fit : SFits w64 h.denominator = search rules in
    let three : c.copy_from_slice.new.self ≡ verdict_number h.verdict ∷ pos h.count ∷ h.denominator ∷ [] =
    simp (c.from.ensures, to_z-of_z (number-fits h.verdict), to_z_pos w64 {n = h.count} (omega arith), to_z-of_z fit)
    at c.copy_from_slice.ensures.after in
    written_all h.verdict h.count h.denominator a.variables a.lower.now a.upper.now a.out.now three
    c.copy_from_slice-2.ensures.after c.copy_from_slice-3.ensures.after (omega arith) (omega arith)
