-- `timecheck::times::row_met` meets its contract: the signs of how much is left of the row's length, part by part.
-- Assumes nothing.
use Rattle.std.proofs.Common.{◌≡◌, ◌∙◌, ap, ap₂, refl, rules, w32, w64, false, ◌+◌, ℤ, pos, ◌-ℤ◌, neg_ℤ, [], ◌∷◌}
use Rattle.std.proofs.Common.{to_z, of_z, arith, rules}
use mir.Facts.{to_z-of_z}
use mir.Val.{SFits}
use Rattle.whole.specs.Numbers.{Within}
use Rattle.whole.proofs.Numbers.Sizes.{fits-by, within-le, within-neg}
use Rattle.whole.proofs.Ring.Reify.{reify}
use Rattle.whole.proofs.Ring.Tools.{ring-at}
use Rattle.rules.proofs.Times.Refused.{strict-within}
use Rattle.rules.specs.Evidence.{clears}
use Rattle.rules.specs.Problem.{word}
use Rattle.rules.specs.Sizes.{largest_length}
use Rattle.rules.specs.Times.Words.{length_word, strict_word}
use Rattle.rules.specs.Times.Check.{row_met}
use Rattle.limbs.specs.Limbs.{sign_of}
use Rattle.limbs.proofs.Laws.Gaps.{clears-signs}
use Rattle.timecheck.proofs.times.row_met.Goals as goal

turned : (z : ℤ) → pos 0 -ℤ z ≡ neg_ℤ z
turned z = ring-at (z ∷ []) (search reify depth 30) refl

-- a sign of what is left, as it was read
left-read : {r u p q z w v : ℤ} → r ≡ sign_of (u -ℤ (to_z w64 (of_z w64 p) -ℤ to_z w64 (of_z w64 q))) → SFits w64 p →
    SFits w64 q → u ≡ z → p ≡ w → q ≡ v → r ≡ sign_of (z -ℤ (w -ℤ v))
left-read {z = z} e f g a b c =
    e ∙ ap₂ (λ x y. sign_of (x -ℤ y)) a (ap₂ (λ x y. x -ℤ y) (to_z-of_z f ∙ b) (to_z-of_z g ∙ c))

pub returns : goal.returns
unfolding row_met
returns c =
    let ws = c.args.rows.now.words.now in
    let a = c.args.answer.now in
    let i = c.args.i in
    let x = c.tail-x.result in
    let y = c.head-y.result in
    let n = c.n-n.result in
    let span-fits : SFits w32 c.span.result = search rules in
    let strict-fits : SFits w32 c.strict.result = search rules in
    let wide-span : SFits w64 c.from-span.result = search rules in
    let wide-strict : SFits w64 c.from-strict.result = search rules in
    let span : to_z w64 (of_z w64 c.from-span.result) ≡ length_word ws i =
    to_z-of_z wide-span ∙ c.from-span.ensures ∙ to_z-of_z span-fits ∙ c.span.ensures in
    let strict : to_z w64 (of_z w64 c.from-strict.result) ≡ strict_word ws i =
    to_z-of_z wide-strict ∙ c.from-strict.ensures ∙ to_z-of_z strict-fits ∙ c.strict.ensures in
    let less : Within (pos 0 -ℤ strict_word ws i) largest_length =
    rw (turned (strict_word ws i))
    (within-neg (within-le (strict-within c.args.rows.now.fine i c.requires.row) (omega arith))) in
    let less-fits : SFits w64 (pos 0 -ℤ strict_word ws i) = fits-by less tt in
    let turn : to_z w64 (of_z w64 (pos 0 -ℤ to_z w64 (of_z w64 c.from-strict.result))) ≡ neg_ℤ (strict_word ws i) =
    ap (λ z. to_z w64 (of_z w64 (pos 0 -ℤ z))) strict ∙ to_z-of_z less-fits ∙ turned (strict_word ws i) in
    let plain-fits : SFits w64 c.gap-plain.result = search rules in
    let small-fits : SFits w64 c.gap-small.result = search rules in
    let plain = left-read {p = word a (2 + x)} {q = word a (2 + y)} c.gap-plain.ensures (search rules) (search rules)
    span refl refl in
    let small = left-read {p = word a (2 + n + x)} {q = word a (2 + n + y)} c.gap-small.ensures (search rules)
    (search rules) turn refl refl in
    c.at_most.ensures
    ∙ ap₂ (λ (g h : ℤ). clears false (pos 0, pos 0) (g, h)) (to_z-of_z plain-fits ∙ plain)
    (to_z-of_z small-fits ∙ small)
    ∙ clears-signs (word a (2 + x) -ℤ word a (2 + y)) (word a (2 + n + x) -ℤ word a (2 + n + y)) (length_word ws i)
    (neg_ℤ (strict_word ws i)) false
    ∙ rw (c.n-n.ensures, c.tail-x.ensures, c.head-y.ensures) refl
