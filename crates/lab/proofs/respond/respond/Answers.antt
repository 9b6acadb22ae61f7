-- `lab::respond::respond`: the text has room in a slice of the most bytes, and is written from there. Assumes nothing.
use Rattle.std.proofs.Common.{ap, arith, length, sym, ◌∙◌}
use Rattle.lines.proofs.Texts.{printed-from}
use Rattle.lab.proofs.respond.respond.Goals as goal

pub returns : goal.returns
returns c =
    let p = c.put_response.ensures in
    let w = c.new-writer.ensures in
    let e = c.room-2-1.given.1.1 (sym (p.put.same ∙ w.same)) in
    let q = rw (e, c.place-size.ensures) at c.write_text.ensures in
    printed-from p w.place (omega (arith, ap length w.bytes)) q
