-- `timerows::judge::row_faults` meets its contract. The invariant of its loop: what is wrong with the rows below i.
-- Assumes nothing.
use Rattle.std.proofs.Common.{◌≡◌, ◌∙◌, ap, ap₂, Bool, ◌||◌, not, ◌-◌, ℤ, pos, ◌-ℤ◌, to_z, of_z, w32, w64, arith}
use Rattle.std.proofs.Common.{rules, refl}
use mir.Facts.{to_z-of_z}
use mir.Val.{SFits}
use Rattle.whole.specs.Numbers.{within}
use Rattle.whole.proofs.Numbers.Sizes.{fits-abs}
use Rattle.rules.specs.Problem.{n_of, word}
use Rattle.rules.specs.Sizes.{largest_length}
use Rattle.rules.specs.Times.Words.{bad_end, bad_row_length, bad_strict}
use Rattle.timerows.proofs.Laws.Faults.{faulty-start, faulty-more, last-vertex, outside-read}
use Rattle.timerows.proofs.judge.row_faults.Goals as goal

pub loop-i-init : goal.loop-i-init
loop-i-init c = faulty-start _

-- a word of 32 bits, widened as it was read
widened : {r s z : ℤ} → SFits w32 r → SFits w64 s → s ≡ to_z w32 (of_z w32 r) → r ≡ z → to_z w64 (of_z w64 s) ≡ z
widened f g e h = to_z-of_z g ∙ e ∙ to_z-of_z f ∙ h

pub loop-i-preserved : goal.loop-i-preserved
unfolding bad_end bad_strict bad_row_length
loop-i-preserved c =
    let ws = c.args.words.now in
    let n = n_of ws in
    let read : to_z w64 (of_z w64 c.from-last.result) ≡ word ws 0 =
    widened (search rules) (search rules) c.from-last.ensures refl in
    let fit : SFits w64 (pos (n - 1)) = fits-abs (omega arith) in
    let last : to_z w64 (of_z w64 (to_z w64 (of_z w64 c.from-last.result) -ℤ pos 1)) ≡ pos (n - 1) =
    ap (λ z. to_z w64 (of_z w64 (z -ℤ pos 1))) read
    ∙ ap (λ z. to_z w64 (of_z w64 z)) (last-vertex (word ws 0) c.requires.0.n-least) ∙ to_z-of_z fit in
    let span-fits : SFits w32 c.word_of-in-loop-i-3.result = search rules in
    faulty-more ws c.loop-i.i c.loop-i.invariant _ _ _ _
    (ap₂ (λ (p q : Bool). p || q)
    (outside-read _ _ _ _ (n - 1)
    (widened (search rules) (search rules) c.from.ensures c.word_of.ensures) last c.is_outside-vertex.ensures)
    (outside-read _ _ _ _ (n - 1)
    (widened (search rules) (search rules) c.from-in-loop-i.ensures c.word_of-in-loop-i.ensures) last
    c.is_outside-vertex-in-loop-i.ensures))
    (outside-read _ _ _ _ 1
    (widened (search rules) (search rules) c.from-in-loop-i-2.ensures c.word_of-in-loop-i-2.ensures) refl
    c.is_outside-strict.ensures)
    (ap not (c.is_within.ensures ∙ ap (within largest_length) (to_z-of_z span-fits ∙ c.word_of-in-loop-i-3.ensures)))
