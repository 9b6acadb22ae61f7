-- `lab::respond::put_place`: the words, the digits and the newline. Assumes nothing.
use Rattle.std.proofs.Common.{arith, rules, ◌+◌, ◌<◌, ◌^◌, ℕ}
use Rattle.rules.specs.Exchange.Lab.{place_text}
use Rattle.rules.specs.Program.Text.{ascii, decimal, line}
use Rattle.rules.specs.Sizes.{most_text}
use Rattle.put.specs.Put.{Room}
use Rattle.put.specs.declared.Writer.{Writer}
use Rattle.put.proofs.Texts.{texts}
use Rattle.lab.proofs.Laws.{place_short}
use Rattle.lab.proofs.respond.put_place.Goals as goal

-- a writer has room for the line
room : (w : Writer) (place : ℕ) → place < 2 ^ 64 → w.at + most_text < 2 ^ 64 → Room w (place_text place)
room w place f h = record { room = let s = place_short place f in omega arith }

pub text-requires : goal.text-requires
unfolding place_text line decimal ascii
text-requires c = let r = room c.args.out.now c.args.place c.ranges.place.fits c.requires in search (rules, texts)

pub digits-requires : goal.digits-requires
unfolding place_text line decimal ascii
digits-requires c = let r = room c.args.out.now c.args.place c.ranges.place.fits c.requires in search (rules, texts)

pub byte-requires : goal.byte-requires
unfolding place_text line decimal ascii
byte-requires c = let r = room c.args.out.now c.args.place c.ranges.place.fits c.requires in search (rules, texts)

pub returns : goal.returns
unfolding place_text line decimal ascii
returns c = record { put = search (rules, texts); short = omega (arith, place_short c.args.place c.ranges.place.fits) }
