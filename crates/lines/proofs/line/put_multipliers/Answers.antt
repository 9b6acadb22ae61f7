-- `lines::line::put_multipliers`: two lines, of the words at their places. Assumes nothing.
use Rattle.std.proofs.Common.{rules, ℕ, ◌+◌, ◌<◌, ◌^◌, List, ℤ, arith, w64}
use mir.Facts.{to_z-of_z}
use mir.Val.{SFits}
use Rattle.rules.specs.Problem.{word}
use Rattle.rules.specs.Sizes.{most_multiplier_lines, most_variables}
use Rattle.rules.specs.Program.Text.{ascii, multiplier_lines}
use Rattle.rules.proofs.Program.Lengths.{multipliers-short}
use Rattle.put.specs.Put.{Room}
use Rattle.put.specs.declared.Writer.{Writer}
use Rattle.put.proofs.Texts.{put_then, room-left, room-right}
use Rattle.lines.proofs.line.put_multipliers.Goals as goal

-- a writer has room for both
room : (ws : List ℤ) (N v : ℕ) (w : Writer) → v < most_variables → SFits w64 (word ws (3 + v)) →
    SFits w64 (word ws (3 + N + v)) → w.at + most_multiplier_lines < 2 ^ 64 → Room w (multiplier_lines ws N v)
room ws N v w few f g h = record { room = let s = multipliers-short ws N v (omega arith) f g in omega arith }

pub put_multiplier-requires : goal.put_multiplier-requires
unfolding multiplier_lines ascii
put_multiplier-requires c =
    let a = c.args in
    let p : SFits w64 (word a.answer.now (3 + a.variable)) = search rules in
    let q : SFits w64 (word a.answer.now (3 + a.variables + a.variable)) = search rules in
    rw (to_z-of_z p)
    (room-left _ (room a.answer.now a.variables a.variable a.out.now c.requires.1 p q c.requires.2))

pub put_multiplier-requires-2 : goal.put_multiplier-requires-2
unfolding multiplier_lines ascii
put_multiplier-requires-2 c =
    let a = c.args in
    let p : SFits w64 (word a.answer.now (3 + a.variable)) = search rules in
    let q : SFits w64 (word a.answer.now (3 + a.variables + a.variable)) = search rules in
    let told = rw (to_z-of_z p) at c.put_multiplier.ensures in
    rw (to_z-of_z q)
    (room-right told (room a.answer.now a.variables a.variable a.out.now c.requires.1 p q c.requires.2))

pub returns : goal.returns
unfolding multiplier_lines ascii
returns c =
    let a = c.args in
    let p : SFits w64 (word a.answer.now (3 + a.variable)) = search rules in
    let q : SFits w64 (word a.answer.now (3 + a.variables + a.variable)) = search rules in
    record {
      put = put_then (rw (to_z-of_z p) at c.put_multiplier.ensures) (rw (to_z-of_z q) at c.put_multiplier-2.ensures);
      short = multipliers-short a.answer.now a.variables a.variable (omega (arith, c.requires.1)) p q;
    }
