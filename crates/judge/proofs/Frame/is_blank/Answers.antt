-- `judge::Frame::is_blank` meets its contract: all words of the row are looked at.
use Rattle.std.proofs.Common.{◌≡◌, ◌+◌, ◌*◌, ◌-◌, ◌<◌, arith, rules, ap, sym, ◌∙◌, take, drop, pos, Bool, true, false}
use Rattle.std.proofs.Common.{ℤ, of_z, w32, eqb}
use Rattle.std.proofs.lemmas.Iterator.{YieldsList-from_slice, cases_from_all}
use borrow.Author.Tests.{tests}
use mir.Val.{SFits}
use Rattle.whole.specs.Numbers.{eq_z}
use Rattle.rules.specs.Problem.{coefficient_word, n_of}
use Rattle.rules.specs.Refusal.{blank_row}
use Rattle.words.proofs.Chains.{all-below}
use Rattle.judge.proofs.Laws.Judged.{row-words, row-long, row-word, zero_bits}
use Rattle.judge.proofs.Frame.is_blank.Goals as goal

abbrev zero : ℤ → Bool
zero z = eq_z z (pos 0)

-- what the closure tells of a word that fits
told : (b : Bool) (z : ℤ) → SFits w32 z → eqb (of_z w32 z) 0 ≡ b → zero z ≡ b
told b z fit e = sym (zero_bits z fit) ∙ e

pub returns : goal.returns
unfolding blank_row
returns c =
    let ws = c.args.self.now.words.now in
    let i = c.args.row in
    let F = c.args.self.now.framed in
    let first = 2 + i * c.args.self.now.columns in
    let count = first + c.args.self.now.columns - first in
    let within : i < c.args.self.now.rows = omega arith in
    let whole : count ≡ c.args.self.now.columns = omega arith in
    all-below zero (row-words F i count within whole) (pos 0) (n_of ws) (λ j. zero (coefficient_word ws i j))
    (row-long F i count within whole) (λ j h. ap zero (row-word F i count within whole j h)) c.all.result
    (cases_from_all _ _ c.all.result (λ z. zero z ≡ true) (λ z. zero z ≡ false) c.all.ensures.ran
    (YieldsList-from_slice (take count (drop first ws)) cc)
    (λ x q k. (search rules, told true x.now (search rules) (search (rules, tests))))
    (λ x q k. told false x.now (search rules) (search (rules, tests))))
