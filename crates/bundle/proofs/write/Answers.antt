-- `bundle::write` meets its contract: the head is filled, and head and words are put as bytes, one behind the other.
use Rattle.std.proofs.Common.{◌≡◌, ◌*◌, arith, rules, ap, sym, ◌∙◌, Err, length, take}
use Rattle.std.proofs.Math.ListN.{length-take}
use Rattle.std.proofs.Math.Seq.{length-sets, sets}
use Rattle.refusals.proofs.Refused.{number-some}
use Rattle.rules.specs.Program.Bytes.{bytes_from}
use Rattle.rules.proofs.Bundle.Exactly.{writer-accepted-exactly}
use Rattle.rules.proofs.Bundle.Places.{editions-few}
use Rattle.bundle.proofs.Heads.{file-put, front-is, front-long}
use Rattle.bundle.proofs.Writers.{file-kept, fillable}
use Rattle.bundle.proofs.write.Goals as goal

pub returns-in_err-judge-clause-output : goal.returns-in_err-judge-clause-output
returns-in_err-judge-clause-output c =
    let e : c.from_residual.result ≡ Err c.in_err-judge.field-0.0 = search rules in
    rw e (file-kept _ _ _ _ _ (number-some _))

pub fill-size-requires : goal.fill-size-requires
fill-size-requires c =
    let A = (writer-accepted-exactly _ _ _ _).0 (sym c.in_ok-judge.ensures) in
    let placed = fillable A in
    (placed, omega (arith, placed.counts.few), omega (arith, A.edition-most, editions-few))

pub slice_bounds-front-end : goal.slice_bounds-front-end
slice_bounds-front-end c =
    let k = c.fill-size.ensures in
    omega (
      arith,
      front-long c.args.edition c.args.lengths.now _ _ _ k.size k.content,
      length-take c.fill-size.result c.fill-size.new.front,
    )

pub slice_bounds-bytes_of-end : goal.slice_bounds-bytes_of-end
slice_bounds-bytes_of-end c =
    let k = c.fill-size.ensures in sym (front-long c.args.edition c.args.lengths.now _ _ _ k.size k.content)

pub bytes_of-requires : goal.bytes_of-requires
bytes_of-requires c =
    let k = c.fill-size.ensures in
    let A = (writer-accepted-exactly _ _ _ _).0 (sym c.in_ok-judge.ensures) in
    omega (arith, k.size, A.roomy, front-long c.args.edition c.args.lengths.now _ _ _ k.size k.content)

pub overflow_mul-size : goal.overflow_mul-size
overflow_mul-size c =
    let placed = fillable ((writer-accepted-exactly _ _ _ _).0 (sym c.in_ok-judge.ensures)) in
    omega (arith, c.fill-size.ensures.size, placed.counts.few)

pub bytes_of-requires-2 : goal.bytes_of-requires-2
bytes_of-requires-2 c =
    let k = c.fill-size.ensures in
    let A = (writer-accepted-exactly _ _ _ _).0 (sym c.in_ok-judge.ensures) in
    let long = ap length c.bytes_of.ensures
    ∙ length-sets c.args.file.now 0 (bytes_from (take c.fill-size.result c.fill-size.new.front)) in
    omega (arith, k.size, A.roomy, long)

pub returns-clause-output : goal.returns-clause-output
returns-clause-output c =
    let e = c.args.edition in
    let ls = c.args.lengths.now in
    let file = c.args.file.now in
    let k = c.fill-size.ensures in
    let A = (writer-accepted-exactly e ls c.args.words.now (length file)).0 (sym c.in_ok-judge.ensures) in
    let first = c.bytes_of.ensures
    ∙ ap (λ l. sets file 0 (bytes_from l)) (front-is e ls c.fill-size.new.front _ _ k.size k.content) in
    c.bytes_of-2.ensures ∙ ap (λ l. sets l (4 * c.fill-size.result) (bytes_from c.args.words.now)) first
    ∙ file-put e ls c.args.words.now file A.roomy c.fill-size.result k.size
