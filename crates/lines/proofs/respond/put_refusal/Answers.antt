-- `lines::respond::put_refusal`: one line, which is short. Assumes nothing.
use Rattle.std.proofs.Common.{arith, ℕ, pos, w64, w32}
use mir.Facts.{to_z_pos}
use mir.Val.{Fits, SFits}
use Rattle.rules.specs.Program.Text.{ascii, refusal_text}
use Rattle.rules.proofs.Program.Lengths.{refusal-text-short}
use Rattle.lines.proofs.respond.put_refusal.Goals as goal

-- a number of 32 bits has 64 with a sign
fits : {k : ℕ} → Fits w32 k → SFits w64 (pos k)
fits f = record { sfits = omega (arith, f.fits) }

pub put_line-requires : goal.put_line-requires
unfolding refusal_text ascii
put_line-requires c =
    let short = refusal-text-short c.args.number (fits c.ranges.number) in
    rw (to_z_pos w64 {n = c.args.number} (omega (arith, c.ranges.number.fits))) (record {
      room =
          omega (arith, short, c.requires);
    })

pub returns : goal.returns
unfolding refusal_text ascii
returns c = record {
  put = rw (to_z_pos w64 {n = c.args.number} (omega (arith, c.ranges.number.fits))) at c.put_line.ensures;
  short = refusal-text-short c.args.number (fits c.ranges.number);
}
