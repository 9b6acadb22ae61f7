-- `timecheck::times::gap` meets its contract: in limbs no difference is too large. Assumes nothing.
use mathlib.Core.Path.{ap, ◌∙◌}
use Prim.Native.Nat.{◌+◌}
use borrow.Author.Rules.{rules}
use lib.Dec.{lit≤}
use lib.IntN.{◌-ℤ◌}
use mir.Facts.{to_z-of_z}
use mir.Syntax.{w64}
use mir.Val.{SFits}
use Rattle.rules.specs.Sizes.{limb_turn}
use Rattle.limbs.proofs.Laws.Sizes.{sized-le}
use Rattle.limbs.specs.Limbs.{sign_of}
use Rattle.limbs.proofs.Laws.Stands.{stands-is, stands-less}
use Rattle.limbs.specs.Limbs.{StandsFor}
use Rattle.limbs.proofs.Laws.Stands.{stands_of}
use Rattle.timecheck.proofs.times.gap.Goals as goal
use Rattle.timecheck.proofs.times.gap.Goals.{After-less-left, After-of-2, After-of-3, After-sign, Start}

module _ (c : After-of-2) where
  abbrev start : Start
  start = c.before.before

  first : StandsFor c.of.result start.args.a limb_turn
  first = stands-is (simp (to_z-of_z start.ranges.a) at c.of.ensures) (stands_of _ start.ranges.a)

  second : StandsFor c.of-2.result start.args.b limb_turn
  second = stands-is (simp (to_z-of_z start.ranges.b) at c.of-2.ensures) (stands_of _ start.ranges.b)

pub less-apart-requires : goal.less-apart-requires
less-apart-requires c = (sized-le (first c).size (lit≤ tt), sized-le (second c).size (lit≤ tt))

module _ (c : After-of-3) where
  abbrev begun : Start
  begun = start c.before.before

  apart : StandsFor c.less-apart.result (begun.args.a -ℤ begun.args.b) (limb_turn + limb_turn)
  apart = stands-is c.less-apart.ensures (stands-less (first c.before.before) (second c.before.before))

  third : StandsFor c.of-3.result begun.args.c limb_turn
  third = stands-is (simp (to_z-of_z begun.ranges.c) at c.of-3.ensures) (stands_of _ begun.ranges.c)

pub less-left-requires : goal.less-left-requires
less-left-requires c = (sized-le (third c).size (lit≤ tt), sized-le (apart c).size (lit≤ tt))

module _ (c : After-less-left) where
  abbrev s : Start
  s = begun c.before

  left : StandsFor c.less-left.result (s.args.c -ℤ (s.args.a -ℤ s.args.b)) (limb_turn + (limb_turn + limb_turn))
  left = stands-is c.less-left.ensures (stands-less (third c.before) (apart c.before))

pub sign-requires : goal.sign-requires
sign-requires c = sized-le (left c).size (lit≤ tt)

fit : (c : After-sign) → SFits w64 c.sign.result
fit c = search rules

pub returns : goal.returns
returns c = simp (to_z-of_z (fit c)) (c.sign.ensures ∙ ap sign_of (left c.before).number)
