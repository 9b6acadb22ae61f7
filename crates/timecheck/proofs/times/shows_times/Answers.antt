-- `timecheck::times::shows_times` meets its contract: word 1 is n, and each row is met. Assumes nothing.
use Rattle.std.proofs.Common.{refl, sym, ◌∙◌, ap, pos, to_z, of_z, w64, rules, tests, arith}
use Rattle.std.proofs.lemmas.Iterator.{YieldsList-from_range}
use Rattle.std.proofs.lemmas.Iterator.Search.{all_from_yields_List}
use mir.Facts.{to_z-of_z}
use mir.Val.{SFits}
use Rattle.whole.specs.Below.{all_below}
use Rattle.whole.proofs.Numbers.Sizes.{fits-abs}
use Rattle.whole.proofs.Tells.{tells-eq_z, tells-false, tells-true}
use Rattle.rules.proofs.Times.Refused.{vertices-few}
use Rattle.rules.specs.Problem.{n_of, word}
use Rattle.rules.specs.Times.Check.{row_met, times_shown}
use Rattle.timecheck.proofs.Laws.Ranges.{all-range}
use Rattle.timecheck.proofs.times.shows_times.Goals as goal

pub returns-then-answer-n : goal.returns-then-answer-n
unfolding times_shown
returns-then-answer-n c =
    let ws = c.args.rows.now.words.now in
    sym (rw (tells-false (tells-eq_z (word c.args.answer.now 1) (pos (n_of ws)))
    (λ e. c.if-answer-n.true (ap (of_z w64) (e ∙ ap pos (sym c.n.ensures))))) refl)

pub returns : goal.returns
unfolding times_shown
returns c =
    let ws = c.args.rows.now.words.now in
    let a = c.args.answer.now in
    let few = vertices-few c.args.rows.now.fine in
    let fit : SFits w64 (word a 1) = search rules in
    let n-fits : SFits w64 (pos c.n.result) = fits-abs (omega (arith, c.n.ensures)) in
    all_from_yields_List (row_met ws a) _ _ c.all.result c.all.ensures.ran
    (YieldsList-from_range 0 c.m.result c.m.result refl (omega arith)) (λ x b q k. search (rules, tests))
    ∙ all-range (row_met ws a) c.m.result
    ∙ ap (λ m. all_below m (row_met ws a)) c.m.ensures
    ∙ sym (rw (tells-true (tells-eq_z (word a 1) (pos (n_of ws)))
    (sym (to_z-of_z fit) ∙ ap (to_z w64) c.if-answer-n.false ∙ to_z-of_z n-fits ∙ ap pos c.n.ensures)) refl)
