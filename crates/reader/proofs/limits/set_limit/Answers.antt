-- `reader::limits::set_limit` meets its contract: two stores, the first of a kind that fits. Assumes nothing.
use Rattle.std.proofs.Common.{Bool, true, false, sym, ◌∙◌, ap, ◌+◌, arith, rules, ℤ, pos, ◌+ℤ◌, ◌*ℤ◌, get_or}
use Rattle.std.proofs.Common.{set, ◌≤ℤ◌, w32}
use lib.Signed.{le_z_yes}
use mir.Facts.{to_z-of_z}
use mir.Val.{SFits}
use Rattle.whole.specs.Numbers.{Within}
use Rattle.whole.proofs.Numbers.Order.{≤ℤ-trans}
use Rattle.whole.proofs.Numbers.Sizes.{fits-by, within-+, within_of}
use Rattle.reader.specs.Limits.{limit_set, mark_of}
use Rattle.reader.proofs.limits.set_limit.Goals as goal

-- the mark of an upper limit is small
twice-small : (b : Bool) → Within (pos 2 *ℤ pos (mark_of b)) 10
unfolding mark_of
twice-small true = record { within = omega arith }
twice-small false = record { within = omega arith }

twice_fits : (b : Bool) → SFits w32 (pos 2 *ℤ pos (mark_of b))
twice_fits b = fits-by (twice-small b) tt

sum_fits : (k : ℤ) (b : Bool) → pos 0 ≤ℤ k → k ≤ℤ pos 5 → SFits w32 (k +ℤ (pos 2 *ℤ pos (mark_of b)))
sum_fits k b h l = fits-by (within-+ (within_of (≤ℤ-trans (le_z_yes tt) h) l) (twice-small b)) tt

pub overflow_mul-words : goal.overflow_mul-words
overflow_mul-words c =
    let fit : SFits w32 c.mark.result = search rules in
    simp (to_z-of_z fit) (rw c.mark.ensures (twice_fits c.args.strict))

pub overflow_add-words : goal.overflow_add-words
overflow_add-words c =
    let kind : SFits w32 (get_or c.args.words.now c.args.at (pos 0)) = search rules in
    let mark : SFits w32 c.mark.result = search rules in
    let twice : SFits w32 (pos 2 *ℤ c.mark.result) = rw c.mark.ensures (twice_fits c.args.strict) in
    simp (to_z-of_z kind, to_z-of_z mark, to_z-of_z twice)
    (rw c.mark.ensures
    (sum_fits (get_or c.args.words.now c.args.at (pos 0)) c.args.strict c.requires.1 c.requires.2))

pub returns-then-upper : goal.returns-then-upper
unfolding limit_set
returns-then-upper c =
    let a = c.args in
    let kind : SFits w32 (get_or c.args.words.now c.args.at (pos 0)) = search rules in
    let mark : SFits w32 c.mark.result = search rules in
    let twice : SFits w32 (pos 2 *ℤ c.mark.result) = rw c.mark.ensures (twice_fits c.args.strict) in
    let sum : SFits w32 (get_or c.args.words.now c.args.at (pos 0) +ℤ (pos 2 *ℤ c.mark.result)) =
    rw c.mark.ensures
    (sum_fits (get_or c.args.words.now c.args.at (pos 0)) c.args.strict c.requires.1 c.requires.2) in
    let value : SFits w32 a.value = search rules in
    simp (to_z-of_z kind, to_z-of_z mark, to_z-of_z twice, to_z-of_z sum, to_z-of_z value)
    (ap (λ k. set (set a.words.now a.at (get_or a.words.now a.at (pos 0) +ℤ (pos 2 *ℤ k))) (a.at + 2) a.value)
    c.mark.ensures
    ∙ sym (ap (λ u. limit_set a.words.now a.at u a.strict a.value) c.if-upper.true))

pub returns : goal.returns
unfolding limit_set
returns c =
    let a = c.args in
    let mark : SFits w32 c.mark-2.result = search rules in
    let value : SFits w32 c.args.value = search rules in
    simp (to_z-of_z mark, to_z-of_z value)
    (ap (λ k. set (set a.words.now a.at k) (a.at + 1) a.value) c.mark-2.ensures
    ∙ sym (ap (λ u. limit_set a.words.now a.at u a.strict a.value) c.if-upper.false))
