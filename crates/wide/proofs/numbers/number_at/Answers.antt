-- `wide::numbers::number_at` meets its contract. Assumes nothing.
use Rattle.std.proofs.Common.{◌≡◌, ap, ℕ, ◌+◌, ◌*◌, ℤ, rules, arith, w64}
use mir.Facts.{to_z-of_z}
use mir.Val.{SFits}
use Rattle.rules.specs.Problem.{word}
use Rattle.limbs.specs.declared.Wide.{Wide}
use Rattle.wide.proofs.numbers.number_at.Goals as goal

pub returns : goal.returns
returns c =
    let answer = c.args.answer.now in
    let at = 2 + 4 * c.args.slot in
    let fit-a : SFits w64 (word answer at) = search rules in
    let fit-b : SFits w64 (word answer (at + 1)) = search rules in
    let fit-c : SFits w64 (word answer (at + 2)) = search rules in
    let fit-d : SFits w64 (word answer (at + 3)) = search rules in
    let lowest : at ≡ at + 0 = omega arith in
    let made : ℤ → Wide = λ z. record {
      a = z;
      b = word answer (at + 1);
      c = word answer (at + 2);
      d =
          word answer (at + 3);
    }
    in simp (
      to_z-of_z fit-a,
      to_z-of_z fit-b,
      to_z-of_z fit-c,
      to_z-of_z fit-d,
    ) (ap (λ (k : ℕ). made (word answer k)) lowest)
