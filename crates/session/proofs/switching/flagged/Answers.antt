-- `session::switching::flagged` meets its contract. Assumes nothing.
use mathlib.Core.Path.{ap, sym, ◌∙◌}
use borrow.Author.Rules.{rules}
use lib.ListN.{set}
use mir.Facts.{to_z-of_z}
use mir.Syntax.{w32}
use mir.Val.{SFits}
use Rattle.amounts.specs.declared.Given.{Given}
use Rattle.session.specs.Switching.{flagged_at, given_at, switched_to}
use Rattle.session.proofs.switching.flagged.Goals as goal

pub returns-then-upper : goal.returns-then-upper
unfolding flagged_at
returns-then-upper c = let a = c.args in let l = a.limits in let v = a.variable.0 in
    let fit : SFits w32 c.limit_at.result.plain = search rules in
    simp (to_z-of_z fit) (ap (λ (g : Given).
    record { lower = l.lower; upper = set l.upper v (switched_to g a.on); strict = l.strict })
    (c.limit_at.ensures ∙ ap (λ b. given_at b l v) c.if-upper.true)
    ∙ ap (λ b. flagged_at b l v a.on) (sym c.if-upper.true))

pub returns : goal.returns
unfolding flagged_at
returns c = let a = c.args in let l = a.limits in let v = a.variable.0 in
    let fit : SFits w32 c.limit_at.result.plain = search rules in
    simp (to_z-of_z fit) (ap (λ (g : Given).
    record { lower = set l.lower v (switched_to g a.on); upper = l.upper; strict = l.strict })
    (c.limit_at.ensures ∙ ap (λ b. given_at b l v) c.if-upper.false)
    ∙ ap (λ b. flagged_at b l v a.on) (sym c.if-upper.false))
