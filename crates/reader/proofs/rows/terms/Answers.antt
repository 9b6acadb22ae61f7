-- `reader::rows::terms` meets its contract. The invariant of its loop: j coefficients are read and stand behind the
-- rows before. Assumes nothing.
use Rattle.std.proofs.Common.{◌&&◌, ap, suc, ◌+◌, ◌≡◌, eqb, pos, rules, arith, w32, refl}
use Rattle.std.proofs.lemmas.Result.{err_from_is_err_and}
use mir.Facts.{to_z-of_z}
use mir.Val.{SFits}
use Rattle.whole.proofs.Tells.{bits-eq}
use Rattle.reader.proofs.Laws.Steps.{cells-few, term-next, term-refused, terms-length}
use Rattle.reader.proofs.rows.terms.Goals as goal

zero-fits : SFits w32 (pos 0)
zero-fits = record { sfits = omega arith }

pub returns-in_err-told : goal.returns-in_err-told
returns-in_err-told c =
    let p = err_from_is_err_and c.from_residual.result c.from_residual.ensures.1 in
    let e : c.loop-j.j + 1 ≡ suc c.loop-j.j = omega arith in
    rw (p.1, p.2)
    (term-refused c.loop-j.invariant.2 c.requires.1 (omega arith) _
    (ap (λ k. eqb k c.args.counts.columns && c.loop-j.blank) e) c.in_err-told.ensures)

pub bounds-words-from : goal.bounds-words-from
bounds-words-from c =
    omega (
      arith,
      cells-few _ _ _ c.requires.1 c.requires.0.few,
      terms-length c.loop-j.invariant.2 c.requires.1 c.loop-j.invariant.0,
    )

pub loop-j-preserved : goal.loop-j-preserved
loop-j-preserved c =
    let fit : SFits w32 c.in_ok-told.told.value = search rules in
    let e : c.loop-j.j + 1 ≡ suc c.loop-j.j = omega arith in (
      omega arith,
      refl,
      term-next c.loop-j.invariant.2 c.requires.1 (omega arith) _ refl _
          (ap (λ k. eqb k c.args.counts.columns && c.loop-j.blank) e) c.in_ok-told.told c.in_ok-told.ensures
          _ (to_z-of_z fit) _
          (ap (λ b. c.loop-j.blank && b) (bits-eq w32 fit zero-fits)) _ e,
    )
