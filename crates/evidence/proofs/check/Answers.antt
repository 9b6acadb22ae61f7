-- `evidence::check` meets its contract: what refuses the problem or the answer, then the rule of its verdict. Assumes
-- nothing.
use Rattle.std.proofs.Common.{◌≡◌, ◌≢◌, ap, rules, w64, of_z}
use Rattle.std.proofs.lemmas.Result.{err_from_is_err_and}
use mir.Val.{SFits}
use Rattle.rules.specs.Evidence.{verdict_of}
use Rattle.parts.proofs.Laws.Judged.{case-of, word-is}
use Rattle.parts.proofs.Laws.Read.{words-held}
use Rattle.evidence.proofs.Laws.Told.{can-told, cannot-told, other-told, refused-read}
use Rattle.evidence.proofs.check.Goals as goal

pub returns-in_err-rows : goal.returns-in_err-rows
returns-in_err-rows c =
    let p = err_from_is_err_and c.from_residual.result c.from_residual.ensures.1 in
    rw (p.1, p.2) (refused-read c.args.words.now c.args.answer.now _ c.in_err-rows.ensures.number)

pub returns-in_default : goal.returns-in_default
returns-in_default c =
    let e : of_z w64 (verdict_of c.args.answer.now) ≢ 1 = search rules in
    let f : of_z w64 (verdict_of c.args.answer.now) ≢ 2 = search rules in
    other-told c.in_ok-rows.ensures.sized (λ h. e (ap (of_z w64) h)) (λ h. f (ap (of_z w64) h))

pub invariant_of-shows_can : goal.invariant_of-shows_can
invariant_of-shows_can c = let S = c.in_ok-rows.ensures.sized in record {
  in_ranges = words-held S.framed S.accepted c.start_entries-entries.ensures c.limits_of-limits.ensures;
}

pub returns-in-1 : goal.returns-in-1
returns-in-1 c =
    let f : SFits w64 (verdict_of c.args.answer.now) = search rules in
    let e : of_z w64 (verdict_of c.args.answer.now) ≡ 1 = search rules in
    can-told (case-of c.in_ok-rows.ensures.sized c.start_entries-entries.ensures c.limits_of-limits.ensures)
    c.shows_can.ensures (word-is f e)

pub invariant_of-shows_cannot : goal.invariant_of-shows_cannot
invariant_of-shows_cannot c = let S = c.in_ok-rows.ensures.sized in record {
  in_ranges = words-held S.framed S.accepted c.start_entries-entries-in-2.ensures c.limits_of-limits-in-2.ensures;
}

pub returns-in-2 : goal.returns-in-2
returns-in-2 c =
    let f : SFits w64 (verdict_of c.args.answer.now) = search rules in
    let e : of_z w64 (verdict_of c.args.answer.now) ≡ 2 = search rules in
    cannot-told
    (case-of c.in_ok-rows.ensures.sized c.start_entries-entries-in-2.ensures c.limits_of-limits-in-2.ensures)
    c.shows_cannot.ensures (word-is f e)
