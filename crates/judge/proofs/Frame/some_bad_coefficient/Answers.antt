-- `judge::Frame::some_bad_coefficient` meets its contract: each coefficient is looked at, at its place.
use Rattle.std.proofs.Common.{◌≡◌, ◌+◌, ◌*◌, ◌-◌, ◌||◌, arith, rules, ap, ap₂, sym, ◌∙◌, not, pos, take, drop}
use Rattle.std.proofs.Common.{get_or-drop, get_or-take, w32}
use Rattle.std.proofs.Math.Numerals.{add-one}
use mir.Facts.{to_z-of_z}
use mir.Val.{SFits}
use Rattle.whole.specs.Below.{some_below}
use Rattle.whole.specs.Numbers.{within}
use Rattle.whole.proofs.Lists.Below.{some_more, some-start}
use Rattle.rules.specs.Problem.{word}
use Rattle.rules.specs.Refusal.{bad_coefficient}
use Rattle.rules.specs.Sizes.{largest_coefficient}
use Rattle.judge.proofs.Laws.Judged.{size-product}
use Rattle.judge.proofs.Frame.some_bad_coefficient.Invariants.{bad-at}
use Rattle.judge.proofs.Frame.some_bad_coefficient.Goals as goal

pub loop-word-init : goal.loop-word-init
loop-word-init c = sym (some-start (bad-at c.args.self.now.words.now))

pub loop-word-preserved : goal.loop-word-preserved
loop-word-preserved c =
    let ws = c.args.self.now.words.now in
    let i = c.loop-word.word-index in
    let end = 2 + c.args.self.now.rows * c.args.self.now.columns in
    let here : word (take (end - 2) (drop 2 ws)) i ≡ word ws (2 + i) =
    get_or-take (end - 2) (drop 2 ws) i (pos 0) (omega arith) ∙ get_or-drop 2 ws i (pos 0) in
    let fit : SFits w32 (word (take (end - 2) (drop 2 ws)) i) = search rules in
    let told : not c.is_within.result ≡ bad-at ws i =
    ap not (c.is_within.ensures ∙ ap (within largest_coefficient) (to_z-of_z fit ∙ here)) in
    rw add-one (ap₂ (λ a b. a || b) c.loop-word.invariant told ∙ sym (some_more i (bad-at ws)))

pub returns : goal.returns
unfolding bad_coefficient
returns c =
    let all : c.loop-word.word-index ≡ c.args.self.now.rows * c.args.self.now.columns = omega arith in
    c.loop-word.invariant ∙ ap (λ k. some_below k (bad-at c.args.self.now.words.now))
    (all ∙ size-product c.args.self.now.framed)
