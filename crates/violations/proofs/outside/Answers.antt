-- `violations::outside` meets its contract: what is shown is by what the search finds, and that is the definition's.
-- Assumes nothing.
use mathlib.Core.Path.{◌≡◌, ap, sym, ◌∙◌}
use borrow.Author.Rules.{rules}
use mir.Facts.{to_z-of_z}
use mir.Syntax.{w32}
use mir.Val.{SFits}
use Rattle.tableau.specs.declared.Tableau.{Tableau}
use Rattle.search.specs.declared.Next.{Next}
use Rattle.search.specs.declared.Next.TheVariants as nexts
use Rattle.search.specs.declared.View.{View}
use Rattle.search.specs.Search.{next_at, seen, view_of}
use Rattle.steps.proofs.Laws.Cases.{next-read}
use Rattle.violations.proofs.Laws.Shown.{next-shown, row-chosen, row-stuck}
use Rattle.violations.proofs.outside.Goals as goal

-- what the search finds is the definition's
found : (t : Tableau) {v : View} {r n : Next} → v ≡ view_of t → r ≡ next_at (seen t.entries v t.limits) → r ≡ n →
    next_at t ≡ n
found t f e q = sym (next-read t) ∙ ap (λ v. next_at (seen t.entries v t.limits)) (sym f) ∙ sym e ∙ q

pub returns-in-Within : goal.returns-in-Within
returns-in-Within c = let t = c.args.t.now in
    c.nothing.ensures ∙ next-shown c.requires nexts.Within (found t c.of.ensures c.next_step.ensures c.in-Within.is)

-- one is outside, and stuck
pub shown-requires : goal.shown-requires
shown-requires c = let t = c.args.t.now in
    row-stuck c.requires c.in-Stuck.blocked (found t c.of.ensures c.next_step.ensures c.in-Stuck.is)

pub returns-in-Stuck : goal.returns-in-Stuck
returns-in-Stuck c = let t = c.args.t.now in let fit : SFits w32 t.common = search rules in
    (simp (to_z-of_z fit) at c.shown.ensures)
    ∙ next-shown c.requires (nexts.Stuck c.in-Stuck.blocked) (found t c.of.ensures c.next_step.ensures c.in-Stuck.is)

-- a pivot would move it
pub shown-requires-in-Pivot : goal.shown-requires-in-Pivot
shown-requires-in-Pivot c = let t = c.args.t.now in
    row-chosen c.requires c.in-Pivot.choice (found t c.of.ensures c.next_step.ensures c.in-Pivot.is)

pub returns-in-Pivot : goal.returns-in-Pivot
returns-in-Pivot c = let t = c.args.t.now in let fit : SFits w32 t.common = search rules in
    (simp (to_z-of_z fit) at c.shown-in-Pivot.ensures)
    ∙ next-shown c.requires (nexts.Pivot c.in-Pivot.choice) (found t c.of.ensures c.next_step.ensures c.in-Pivot.is)
