-- `days::day`: the text has room in a slice of the most bytes, and is written from there. Assumes nothing.
use Rattle.std.proofs.Common.{ap, arith, length, sym, ◌∙◌}
use Rattle.lines.proofs.Texts.{printed-from}
use Rattle.days.proofs.day.Goals as goal

pub returns : goal.returns
returns c =
    let p = c.put_day.ensures in
    let w = c.new-writer.ensures in
    let e = c.text-2-1.given.1.1 (sym (p.put.same ∙ w.same)) in
    let q = rw (e, c.place-size.ensures) at c.write_text.ensures in
    record {
      size = omega (arith, c.place-size.ensures, p.put.place, w.place);
      most = omega (arith, c.place-size.ensures, p.put.place, p.short, w.place);
      output = (printed-from p w.place (omega (arith, ap length w.bytes)) q).bytes;
    }
