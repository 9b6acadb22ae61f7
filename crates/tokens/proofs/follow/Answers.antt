-- `tokens::follow` meets its contract. The loop's invariant: the tokens of the text from `next` on follow those of the
-- script from `due` on as they do from the start, and both places are of tokens, or the end (Walked). The measure is
-- what is left of the script; a token has a byte. Assumes nothing.
use Rattle.std.proofs.Common.{sym, ◌∙◌, ap, arith, subst, [], ◌∷◌}
use Rattle.std.proofs.lemmas.Result.{err_from_is_err_and}
use Rattle.tokens.specs.Followed.{followed}
use Rattle.tokens.proofs.Laws.Follows.{Walked, follow-end, follow-start, follow-more, follow-halted, token-due}
use Rattle.tokens.proofs.follow.Goals as goal

pub loop-due-init : goal.loop-due-init
loop-due-init c =
    subst (λ k. Walked c.args.text.now c.args.script.now c.args.at c.args.at k)
    (sym c.start-due.ensures)
    (follow-start c.args.text.now c.args.script.now c.args.at c.requires.0 c.requires.1)

pub returns-in_err-next : goal.returns-in_err-next
returns-in_err-next c =
    let p = err_from_is_err_and c.from_residual.result c.from_residual.ensures.1 in
    rw (p.1, p.2)
    (sym
    (follow-halted c.loop-due.invariant c.loop-due-test.true c.in_err-next.field-0.0
    (ap (λ w. followed c.args.text.now c.loop-due.next (w ∷ []))
    (token-due c.args.script.now c.loop-due.due c.stop-last.ensures)
    ∙ sym c.pass.ensures ∙ c.in_err-next.was)))

pub loop-due-preserved : goal.loop-due-preserved
loop-due-preserved c =
    rw (c.start-due-in-loop-due.ensures, c.stop-last.ensures)
    (follow-more c.loop-due.invariant c.loop-due-test.true c.in_ok-next.next
    (ap (λ w. followed c.args.text.now c.loop-due.next (w ∷ []))
    (token-due c.args.script.now c.loop-due.due c.stop-last.ensures)
    ∙ sym c.pass.ensures ∙ c.in_ok-next.was))

pub returns : goal.returns
returns c = sym (follow-end c.loop-due.invariant (omega arith))
