-- `tally::counted`: each total by its own function. Assumes nothing.
use Rattle.std.proofs.Common.{◌≡◌, ap, refl, ◌∙◌, ◌+◌, ◌≤◌, ℕ, ℤ, nat_abs, pos, rules, arith, w64, max}
use mathlib.Core.Bool.{cond}
use mir.Facts.{sfits_lit, to_z-of_z}
use mir.Val.{SFits}
use Rattle.whole.proofs.Tells.{bits-eq}
use Rattle.rules.specs.Problem.{word}
use Rattle.tally.specs.Counting.{counted_at, leader_of, naming_of, tallied_at}
use Rattle.tally.proofs.Bits.{byte-cond}
use Rattle.tally.proofs.Laws.More.{made-same}
use Rattle.tally.proofs.Laws.Ready.{naming-most}
use Rattle.tally.proofs.counted.Goals as goal

-- so many may be named
few : {n : ℕ} (N : ℕ) (z : ℤ) → n ≡ naming_of z N → n ≤ N
few N z e = rw e (naming-most N z)

pub tallied-lower-requires : goal.tallied-lower-requires
tallied-lower-requires c =
    let a = c.requires.1 in let h = few c.args.variables _ c.naming-named.ensures in
    let most = a.few-variables in let whole = a.whole in
    (omega arith, omega arith, c.requires.0.few-lower)

pub tallied-upper-requires : goal.tallied-upper-requires
tallied-upper-requires c =
    let a = c.requires.1 in let h = few c.args.variables _ c.naming-named.ensures in
    let most = a.few-variables in let whole = a.whole in
    (omega arith, omega arith, c.requires.0.few-upper)

pub returns : goal.returns
unfolding counted_at
returns c =
    let t = c.args.totals in
    let a = c.args.answer.now in
    let q : SFits w64 (word a 0) = search rules in
    let p : SFits w64 (word a 1) = search rules in
    let named = c.naming-named.ensures ∙ ap (λ z. naming_of z c.args.variables) (to_z-of_z q) in
    made-same refl
    (ap (λ n. t.can + n) (c.from.ensures ∙ byte-cond _ ∙ ap (λ b. cond b 1 0) (bits-eq w64 {a = word a 0} {b =
    pos 1} q (sfits_lit tt))))
    (ap (λ n. t.cannot + n) (c.from-2.ensures ∙ byte-cond _ ∙ ap (λ b. cond b 1 0) (bits-eq w64 {a = word a 0} {b =
    pos 2} q (sfits_lit tt))))
    (ap (λ n. t.range + n) (c.from-3.ensures ∙ byte-cond _ ∙ ap (λ b. cond b 1 0) (bits-eq w64 {a = word a 0} {b =
    pos 3} q (sfits_lit tt))))
    refl
    (ap (λ z. t.pivots + nat_abs z) (to_z-of_z p))
    (c.max.ensures ∙ ap (λ z. max t.largest (nat_abs z)) (to_z-of_z p))
    (c.leader.ensures ∙ ap (λ z. leader_of t.reached t.largest (nat_abs z) c.args.body) (to_z-of_z p))
    (c.tallied-lower.ensures ∙ ap (tallied_at t.lower a 3) named)
    (c.tallied-upper.ensures ∙ ap (tallied_at t.upper a (3 + c.args.variables)) named)
