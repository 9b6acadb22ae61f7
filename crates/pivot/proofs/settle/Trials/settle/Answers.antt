-- `pivot::settle::Trials::settle` meets its contract. The invariant: the divisor that is tried lies above the greatest
-- one, and cells that are not live are as they were. The measure is its size: what a column leaves of it is smaller, or
-- the loop ends. Assumes nothing.
use native.Mathlib.Omega.{arith}
use mathlib.Core.List.{List}
use mathlib.Core.Path.{◌≡◌, ap, sym, subst, ◌∙◌}
use Prim.Native.Nat.{◌<◌}
use lib.IntN.{ℤ, nat_abs}
use mir.Facts.{to_z-of_z, of_z-to_z}
use mir.Syntax.{w32}
use mir.Val.{SFits, to_z, of_z}
use borrow.Author.Rules.{rules}
use Rattle.pivot.specs.declared.border.Border.{Border}
use Rattle.pivot.specs.Border.{in_border}
use Rattle.pivot.proofs.Laws.Trial.Columns.{spared-start, spared-wider, spared-twice}
use Rattle.pivot.proofs.Laws.Trial.Trying.{Trying, trying_start, trying-less, less-falls, exceeds}
use Rattle.pivot.proofs.settle.Trials.settle.Goals as goal

pub loop-j-init : goal.loop-j-init
loop-j-init c = (
  simp (to_z-of_z c.ranges.from)
      (trying_start c.args.self.entries.now c.args.self.border.now c.args.from c.requires.0 c.requires.1),
  spared-wider 0 (in_border c.args.self.border.now) c.args.out.now c.args.out.now (omega arith)
      (spared-start 0 c.args.out.now),
)

-- what is known of a divisor that is tried
trying : {l : List ℤ} {b : Border} {from z : ℤ} → SFits w32 from → Trying l b (to_z w32 (of_z w32 from)) z →
    Trying l b from z
trying f h = simp (to_z-of_z f) at h

pub returns-in_default : goal.returns-in_default
returns-in_default c = let t = trying c.ranges.from c.loop-j.invariant.0 in record {
  sign-is = t.sign-is;
  divides = t.divides;
  greatest = t.greatest;
  right = c.in_default.ensures.tells;
  apart = spared-twice _ _ _ _ c.loop-j.invariant.1 c.over.ensures.apart;
}

-- the column leaves the divisor as it is
pub returns-then-is_beyond : goal.returns-then-is_beyond
returns-then-is_beyond c = let t = trying c.ranges.from c.loop-j.invariant.0 in
    exceeds _ _ _ _ c.in-Err.j c.in-Err.ensures.tells t (sym c.is_beyond.ensures ∙ c.if-is_beyond.true)

-- .. or another one
left-is : {r left : ℤ} → SFits w32 r → r ≡ left → to_z w32 (of_z w32 r) ≡ left
left-is f e = to_z-of_z f ∙ e

pub loop-j-smaller : goal.loop-j-smaller
loop-j-smaller c =
    let t = trying c.ranges.from c.loop-j.invariant.0 in
    let fit : SFits w32 c.lessened-less.result = search rules in
    subst (λ (y : ℤ). nat_abs y < nat_abs (to_z w32 c.loop-j.by-bits)) (sym (left-is fit c.lessened-less.ensures))
    (less-falls _ _ _ _ c.in-Err.j c.in-Err.ensures.tells t
    (λ e. c.if-less-by.false (ap (of_z w32) (c.lessened-less.ensures ∙ e) ∙ of_z-to_z c.loop-j.auto.by-fits)))

pub loop-j-preserved : goal.loop-j-preserved
loop-j-preserved c =
    let t = trying c.ranges.from c.loop-j.invariant.0 in
    let fit : SFits w32 c.lessened-less.result = search rules in (
      subst (λ (y : ℤ). Trying c.args.self.entries.now c.args.self.border.now (to_z w32 (of_z w32 c.args.from)) y)
          (sym (left-is fit c.lessened-less.ensures))
          (simp (to_z-of_z c.ranges.from) (trying-less _ _ _ _ c.in-Err.j c.in-Err.ensures.tells t)),
      spared-twice _ _ _ _ c.loop-j.invariant.1 c.over.ensures.apart,
    )
