-- `lines::line::put_value`: the numerator and its small part, of the words at their places. Assumes nothing.
use Rattle.std.proofs.Common.{rules, ℕ, ◌+◌, ◌<◌, ◌^◌, List, ℤ, arith, w64}
use mir.Facts.{to_z-of_z}
use mir.Val.{SFits}
use Rattle.rules.specs.Problem.{word}
use Rattle.rules.specs.Sizes.{most_value_line, most_variables}
use Rattle.rules.specs.Program.Text.{value_line}
use Rattle.rules.proofs.Program.Lengths.{value-short}
use Rattle.put.specs.Put.{Room}
use Rattle.put.specs.declared.Writer.{Writer}
use Rattle.put.proofs.Texts.{put_then, room-left, room-right}
use Rattle.lines.proofs.line.put_value.Goals as goal

-- a writer has room for the line
room : (ws : List ℤ) (N v : ℕ) (w : Writer) → v < most_variables → SFits w64 (word ws (3 + v)) →
    SFits w64 (word ws (3 + N + v)) → w.at + most_value_line < 2 ^ 64 → Room w (value_line ws N v)
room ws N v w few f g h = record { room = let s = value-short ws N v (omega arith) f g in omega arith }

pub put_numerator-requires : goal.put_numerator-requires
unfolding value_line
put_numerator-requires c =
    let a = c.args in
    let p : SFits w64 (word a.answer.now (3 + a.variable)) = search rules in
    let q : SFits w64 (word a.answer.now (3 + a.variables + a.variable)) = search rules in
    rw (to_z-of_z p)
    (room-left _ (room a.answer.now a.variables a.variable a.out.now c.requires.1 p q c.requires.2))

pub put_small-requires : goal.put_small-requires
unfolding value_line
put_small-requires c =
    let a = c.args in
    let p : SFits w64 (word a.answer.now (3 + a.variable)) = search rules in
    let q : SFits w64 (word a.answer.now (3 + a.variables + a.variable)) = search rules in
    let told = rw (to_z-of_z p) at c.put_numerator.ensures in
    rw (to_z-of_z q)
    (room-right told (room a.answer.now a.variables a.variable a.out.now c.requires.1 p q c.requires.2))

pub returns : goal.returns
unfolding value_line
returns c =
    let a = c.args in
    let p : SFits w64 (word a.answer.now (3 + a.variable)) = search rules in
    let q : SFits w64 (word a.answer.now (3 + a.variables + a.variable)) = search rules in
    record {
      put = put_then (rw (to_z-of_z p) at c.put_numerator.ensures) (rw (to_z-of_z q) at c.put_small.ensures);
      short = value-short a.answer.now a.variables a.variable (omega (arith, c.requires.1)) p q;
    }
