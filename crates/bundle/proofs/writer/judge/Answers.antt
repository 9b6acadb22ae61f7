-- `bundle::writer::judge` meets its contract: each return is the first test that applies.
use Rattle.std.proofs.Common.{arith, sym, ◌∙◌}
use Rattle.bundle.proofs.Writers.{counts_of, long-hit, many-hit, negative-hit, none-hit, room-hit, sum-hit}
use Rattle.bundle.proofs.Writers.{unknown-hit}
use Rattle.bundle.proofs.writer.judge.Goals as goal

pub returns-then-is_unknown : goal.returns-then-is_unknown
returns-then-is_unknown c = unknown-hit _ _ _ _ (sym c.is_unknown.ensures ∙ c.if-is_unknown.true)

pub returns-then-bodies_in-bodies : goal.returns-then-bodies_in-bodies
returns-then-bodies_in-bodies c = many-hit _ _ _ _ (sym c.is_unknown.ensures ∙ c.if-is_unknown.false)
    (omega (arith, c.bodies_in.ensures))

pub returns-then-has_negative : goal.returns-then-has_negative
returns-then-has_negative c = negative-hit _ _ _ _ (sym c.is_unknown.ensures ∙ c.if-is_unknown.false)
    (omega (arith, c.bodies_in.ensures)) (sym c.has_negative.ensures ∙ c.if-has_negative.true)

pub total_of-requires : goal.total_of-requires
total_of-requires c = counts_of c.args.edition c.args.lengths.now c.args.words.now c.args.room
    (sym c.is_unknown.ensures ∙ c.if-is_unknown.false)
    (omega (arith, c.bodies_in.ensures)) (sym c.has_negative.ensures ∙ c.if-has_negative.false)

pub returns-then-total_of-count : goal.returns-then-total_of-count
returns-then-total_of-count c = sum-hit _ _ _ _ (sym c.is_unknown.ensures ∙ c.if-is_unknown.false)
    (omega (arith, c.bodies_in.ensures)) (sym c.has_negative.ensures ∙ c.if-has_negative.false)
    c.total_of.result c.total_of.ensures c.if-total_of-count.true

pub returns-then-size-gt-MOST_FILE_WORDS : goal.returns-then-size-gt-MOST_FILE_WORDS
returns-then-size-gt-MOST_FILE_WORDS c = long-hit _ _ _ _ (sym c.is_unknown.ensures ∙ c.if-is_unknown.false)
    (omega (arith, c.bodies_in.ensures)) (sym c.has_negative.ensures ∙ c.if-has_negative.false)
    c.total_of.result c.total_of.ensures c.if-total_of-count.false (omega arith)

pub returns-then-room-size : goal.returns-then-room-size
returns-then-room-size c = room-hit _ _ _ _ (sym c.is_unknown.ensures ∙ c.if-is_unknown.false)
    (omega (arith, c.bodies_in.ensures)) (sym c.has_negative.ensures ∙ c.if-has_negative.false)
    c.total_of.result c.total_of.ensures c.if-total_of-count.false (omega arith) (omega arith)

pub returns : goal.returns
returns c = none-hit _ _ _ _ (sym c.is_unknown.ensures ∙ c.if-is_unknown.false)
    (omega (arith, c.bodies_in.ensures)) (sym c.has_negative.ensures ∙ c.if-has_negative.false)
    c.total_of.result c.total_of.ensures c.if-total_of-count.false (omega arith) (omega arith)
