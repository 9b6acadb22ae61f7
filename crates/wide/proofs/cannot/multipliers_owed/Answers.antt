-- `wide::cannot::multipliers_owed` meets its contract. Assumes nothing.
use Rattle.std.proofs.Common.{◌≡◌, ap, ap₂, sym, ◌∙◌, Bool, ◌&&◌, ℕ, ◌+◌, ℤ, arith}
use Rattle.whole.proofs.Lists.Below.{all_start}
use Rattle.rules.specs.Evidence.{owed}
use Rattle.limbs.proofs.Laws.Stands.{stands-is}
use Rattle.tableau.specs.Parts.{lower_of, upper_of}
use Rattle.rules.proofs.Evidence.Joined.{tests-more}
use Rattle.wide.specs.Reads.{all_owed}
use Rattle.wide.proofs.Laws.Reads.{stands-in}
use Rattle.wide.proofs.cannot.multipliers_owed.Goals as goal
use Rattle.wide.proofs.cannot.multipliers_owed.Goals.{After-loop-v}

pub loop-v-init : goal.loop-v-init
unfolding all_owed
loop-v-init c = (omega arith, sym (all_start _))

pub owed-first-requires : goal.owed-first-requires
owed-first-requires c =
    let case = c.args.case.now in
    let variables = case.columns + case.rows in
    let v = c.loop-v.v in
    let low = stands-is c.number_at-low.ensures (stands-in c.requires.all_formed (1 + v) (omega arith)) in
    let high = stands-is c.number_at-high.ensures (stands-in c.requires.all_formed (1 + variables + v) (omega arith)) in
    low.size

pub owed-second-requires : goal.owed-second-requires
owed-second-requires c =
    let case = c.args.case.now in
    let variables = case.columns + case.rows in
    let v = c.loop-v.v in
    let low = stands-is c.number_at-low.ensures (stands-in c.requires.all_formed (1 + v) (omega arith)) in
    let high = stands-is c.number_at-high.ensures (stands-in c.requires.all_formed (1 + variables + v) (omega arith)) in
    high.size

pub loop-v-preserved : goal.loop-v-preserved
unfolding all_owed
loop-v-preserved c =
    let case = c.args.case.now in
    let variables = case.columns + case.rows in
    let v = c.loop-v.v in
    let low = stands-is c.number_at-low.ensures (stands-in c.requires.all_formed (1 + v) (omega arith)) in
    let high = stands-is c.number_at-high.ensures
    (stands-in c.requires.all_formed (1 + variables + v) (omega arith)) in (
      omega arith,
      tests-more v _ c.loop-v.invariant.1 (ap₂ (λ (a b : Bool). a && b)
          (c.owed-first.ensures ∙ ap (λ (z : ℤ). owed (lower_of case.limits.now v) z) low.number)
          (c.owed-second.ensures ∙ ap (λ (z : ℤ). owed (upper_of case.limits.now v) z) high.number)),
    )

all : (c : After-loop-v) → c.loop-v.v ≡ c.args.case.now.columns + c.args.case.now.rows
all c = omega arith

pub returns : goal.returns
returns c = let case = c.args.case.now in
    c.loop-v.invariant.1
    ∙ ap (λ (k : ℕ). all_owed case.limits.now case.answer.now (case.columns + case.rows) k) (all c)
