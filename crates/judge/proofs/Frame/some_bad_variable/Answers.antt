-- `judge::Frame::some_bad_variable` meets its contract: each variable is asked, at its place.
use Rattle.std.proofs.Common.{◌-◌, ◌/◌, ◌<◌, ℕ, [], length, take, drop, get_or, to_z, of_z, ◌≡◌}
use Rattle.std.proofs.Common.{◌+◌, ◌*◌, ◌||◌, arith, rules, ap, ap₂, sym, ◌∙◌, refl, w32, List, ℤ}
use Rattle.std.proofs.Math.Numerals.{add-one}
use Rattle.std.proofs.lemmas.List.{take_rest}
use Rattle.std.specs.Simd.{first_chunks}
use mir.Facts.{to_z-of_z}
use mir.Val.{SFits}
use Rattle.whole.specs.Below.{some_below}
use Rattle.whole.proofs.Lists.Below.{some_more, some-start}
use Rattle.rules.specs.Problem.{kind_place, vars_of, word}
use Rattle.rules.specs.Refusal.{bad_kind, bad_limit}
use Rattle.judge.specs.declared.Asked.{Asked}
use Rattle.judge.specs.declared.Asked.TheVariants.{Kind, Limits}
use Rattle.judge.specs.Words.{bad_by, bad_variable}
use Rattle.judge.proofs.Laws.Judged.{kind-place, variable-word, vars-are}
use Rattle.judge.proofs.Frame.some_bad_variable.Invariants.{bad-at}
use Rattle.judge.proofs.Frame.some_bad_variable.Goals as goal

pub loop-variable-init : goal.loop-variable-init
loop-variable-init c = sym (some-start (bad-at c.args.asked c.args.self.now.words.now))

pub loop-variable-preserved : goal.loop-variable-preserved
loop-variable-preserved c =
    let ws = c.args.self.now.words.now in
    let v = c.loop-variable.variable-index in
    let F = c.args.self.now.framed in
    let asked = c.args.asked in
    let first = 2 + c.args.self.now.rows * c.args.self.now.columns in
    let all = c.as_chunks.result.0.now in
    let k = length (take (length ws - first) (drop first ws)) / 3 in
    let one = get_or all v [] in
    let place = kind_place ws v in
    let here : (j : ℕ) → j < 3 → word one j ≡ word ws (place + j) = λ j l.
    ap (λ xs. word (get_or xs v []) j) (c.as_chunks.ensures.front ∙ ap (first_chunks 3 k) (take_rest ws first))
    ∙ variable-word k v j first ws [] (omega (arith, c.as_chunks.ensures.front_len)) l
    ∙ ap (λ p. word ws (p + j)) (kind-place F v) in
    let kind-fits : SFits w32 (word one 0) = search rules in
    let lower-fits : SFits w32 (word one 1) = search rules in
    let upper-fits : SFits w32 (word one 2) = search rules in
    let told = c.is_bad_variable-bad.ensures
    ∙ ap (λ z. bad_by asked z (to_z w32 (of_z w32 (word one 1))) (to_z w32 (of_z w32 (word one 2))))
    (to_z-of_z kind-fits ∙ here 0 (omega arith) ∙ ap (word ws) (let z : place + 0 ≡ place = omega arith in z))
    ∙ ap₂ (bad_by asked (word ws place)) (to_z-of_z lower-fits ∙ here 1 (omega arith))
    (to_z-of_z upper-fits ∙ here 2 (omega arith)) in
    rw add-one (ap₂ (λ a b. a || b) c.loop-variable.invariant told ∙ sym (some_more v (bad-at asked ws)))

-- the test at each variable is the definition's at some
some-is : (asked : Asked) (ws : List ℤ) → some_below (vars_of ws) (bad-at asked ws) ≡ bad_variable asked ws
unfolding bad_kind bad_limit
some-is Kind _ = refl
some-is Limits _ = refl

pub returns : goal.returns
returns c =
    let all : c.loop-variable.variable-index ≡ c.args.self.now.columns + c.args.self.now.rows =
    omega (arith, c.as_chunks.ensures.front_len, c.args.self.now.framed.exact) in
    c.loop-variable.invariant ∙ ap (λ k. some_below k (bad-at c.args.asked c.args.self.now.words.now))
    (all ∙ vars-are c.args.self.now.framed) ∙ some-is c.args.asked c.args.self.now.words.now
