-- `tokens::pass` meets its contract: the text ends, or has another token, or this one. Assumes nothing.
use Rattle.std.proofs.Common.{sym, ◌∙◌, ap, arith, Ok, [], ◌≡◌, ℕ, List, Bool, not, eqb, take, drop, ◌-◌}
use lib.Pointwise.{pointwise}
use Rattle.rules.specs.Exchange.Reader.{same_bytes}
use Rattle.tokens.specs.Followed.{followed}
use Rattle.tokens.specs.Gaps.{part, start_at}
use Rattle.tokens.proofs.Laws.Parts.{same-each}
use Rattle.tokens.proofs.Laws.Follows.{more-follow, other-follow, short-follow, token-same}
use Rattle.tokens.proofs.pass.Goals as goal

-- what `is` tells of the bytes up to where the token stops
told : (t : List ℕ) (at : ℕ) (w : List ℕ) (end : ℕ) {a b : Bool} → a ≡ same_bytes w (part t at end) → a ≡ b →
    not (pointwise eqb w (take (end - at) (drop at t))) ≡ not b
unfolding part
told t at w end h e = ap not (same-each w _ ∙ sym h ∙ e)

pub returns-then-text-at : goal.returns-then-text-at
returns-then-text-at c = sym (short-follow c.args.text.now c.args.at c.args.word.now [] (omega arith))

pub returns-then-not-is : goal.returns-then-not-is
returns-then-not-is c =
    sym
    (other-follow c.args.text.now c.args.at c.args.word.now [] (omega arith)
    (token-same c.args.text.now c.args.at c.args.word.now c.stop-end.ensures
    (told c.args.text.now c.args.at c.args.word.now _ c.is.ensures c.if-not-is.true)))

pub returns : goal.returns
unfolding followed
returns c =
    ap Ok (c.start.ensures ∙ ap (start_at c.args.text.now) c.stop-end.ensures)
    ∙ sym
    (more-follow c.args.text.now c.args.at c.args.word.now [] (omega arith)
    (token-same c.args.text.now c.args.at c.args.word.now c.stop-end.ensures
    (told c.args.text.now c.args.at c.args.word.now _ c.is.ensures c.if-not-is.false)))
