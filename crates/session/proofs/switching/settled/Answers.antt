-- `session::switching::settled` meets its contract. Assumes nothing.
use mathlib.Core.Path.{◌≡◌, ap, sym, ◌∙◌}
use Prim.Native.Nat.{ℕ}
use borrow.Author.Rules.{rules}
use lib.ListN.{set}
use mir.Facts.{to_z-of_z}
use mir.Syntax.{w32}
use mir.Val.{SFits}
use Rattle.amounts.specs.declared.Value.{Value}
use Rattle.amounts.specs.Amounts.{value_of}
use Rattle.tableau.specs.declared.Tableau.{Tableau}
use Rattle.tableau.specs.Parts.{column_of, plain_at, small_at, value_at}
use Rattle.session.specs.Switching.{furnished, inside_at, settled_at, settled_by}
use Rattle.session.proofs.switching.settled.Goals as goal
use Rattle.session.proofs.switching.settled.Lts as lts
use Rattle.session.proofs.switching.settled.Reads as reads
use Rattle.session.proofs.switching.settled.Tie as tie

-- a place of the code, as a record of what is known there
abbrev After-moved : Type 0
After-moved = lts.After-moved tie.the-claims reads.Pre reads.Post

pub returns-then-seat : goal.returns-then-seat
unfolding settled_at
returns-then-seat c = let a = c.args in
    ap (λ b. settled_by b a.tableau a.variable.0) (sym c.if-seat.true)

pub bounds-tableau-j : goal.bounds-tableau-j
bounds-tableau-j c = c.requires.in-columns c.if-seat.false

pub bounds-tableau-j-2 : goal.bounds-tableau-j-2
bounds-tableau-j-2 c = c.requires.in-columns c.if-seat.false

pub bounds-tableau-j-3 : goal.bounds-tableau-j-3
bounds-tableau-j-3 c = c.requires.in-columns c.if-seat.false

pub bounds-tableau-j-4 : goal.bounds-tableau-j-4
bounds-tableau-j-4 c = c.requires.in-columns c.if-seat.false

-- where the value goes
module _ (c : After-moved) where
  abbrev t : Tableau
  t = c.args.tableau

  abbrev v : ℕ
  v = c.args.variable.0

  read_plain : SFits w32 (plain_at t (column_of t v))
  read_plain = search rules

  read_small : SFits w32 (small_at t (column_of t v))
  read_small = search rules

  moved-is : c.moved-value.result ≡ value_of (inside_at t.limits v (value_at t (column_of t v)))
  moved-is = simp (to_z-of_z read_plain, to_z-of_z read_small) at c.moved-value.ensures

  fit-plain : SFits w32 c.moved-value.result.plain
  fit-plain = search rules

  fit_small : SFits w32 c.moved-value.result.small
  fit_small = search rules

pub returns : goal.returns
unfolding settled_at
returns c = let o = c.before.before in let u = c.args.tableau in let w = c.args.variable.0 in
    simp (to_z-of_z (fit-plain o), to_z-of_z (fit_small o))
    (ap (λ (x : Value). furnished u (set u.values (column_of u w) x.plain) (set u.smalls (column_of u w) x.small)
    u.limits) (moved-is o)
    ∙ ap (λ b. settled_by b u w) (sym c.if-seat.false))
