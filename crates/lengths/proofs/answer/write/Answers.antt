-- `lengths::answer::write` meets its contract: two words, and the two halves after them. Assumes nothing.
use Rattle.std.proofs.Common.{◌≡◌, ◌∙◌, ap, ap₂, ◌∷◌, ◌++◌, ◌+◌, ◌*◌, ◌-◌, pos, take, drop, length, to_z, of_z}
use Rattle.std.proofs.Common.{w64, arith, rules}
use lib.ListN.{set}
use lib.Seq.{paste}
use mir.Facts.{to_z-of_z}
use mir.Val.{SFits}
use borrow.Rule.Slice.PartMut.{put_mid}
use Rattle.whole.proofs.Numbers.Sizes.{fits-abs}
use Rattle.lengths.proofs.Laws.Words.{put-half, two-halves}
use Rattle.lengths.proofs.answer.write.Goals as goal

pub returns : goal.returns
returns c =
    let n = c.args.n in
    let before = c.args.out.now in
    let h = c.args.halves in
    let first = to_z w64 (of_z w64 c.args.verdict) in
    let second = to_z w64 c.args.count in
    let begun = set (set before 0 first) 1 second in
    let plain : c.copy_from_slice.new.self ≡ take n h.plain =
    c.copy_from_slice.ensures.after ∙ ap (λ k. take k h.plain) (omega arith) in
    let small : c.copy_from_slice-2.new.self ≡ take n h.small =
    c.copy_from_slice-2.ensures.after ∙ ap (λ k. take k h.small) (omega arith) in
    let plain-long : length h.plain ≡ 64 = search rules in
    let small-long : length h.small ≡ 64 = search rules in
    let fit : SFits w64 (pos c.args.count) = fits-abs (omega arith) in
    ap (λ l. put_mid (2 + n) (2 + 2 * n - (2 + n)) l c.copy_from_slice-2.new.self)
    (put-half begun h.plain _ 2 (2 + n - 2) n plain (omega arith) (omega arith))
    ∙ put-half (paste begun 2 h.plain n) h.small _ (2 + n) (2 + 2 * n - (2 + n)) n small (omega arith) (omega arith)
    ∙ two-halves before h.plain h.small first second n (omega arith) (omega arith)
    ∙ ap₂ (λ x y. x ∷ y ∷ (take n h.plain ++ take n h.small) ++ drop (2 + 2 * n) before)
    (to_z-of_z c.ranges.verdict) (to_z-of_z fit)
