-- `wide::can::limits_hold` meets its contract. Assumes nothing.
use Rattle.std.proofs.Common.{◌≡◌, ap, ap₂, sym, ◌∙◌, Bool, ◌&&◌, ℕ, ◌+◌, ℤ, arith}
use Rattle.whole.proofs.Lists.Below.{all_start}
use Rattle.rules.specs.Evidence.{at_least, at_most}
use Rattle.limbs.specs.Limbs.{value}
use Rattle.limbs.proofs.Laws.Stands.{stands-is}
use Rattle.tableau.specs.Parts.{lower_of, upper_of}
use Rattle.rules.proofs.Evidence.Joined.{tests-more}
use Rattle.wide.specs.Reads.{limits_met}
use Rattle.wide.proofs.Laws.Reads.{stands-in}
use Rattle.wide.proofs.can.limits_hold.Goals as goal
use Rattle.wide.proofs.can.limits_hold.Goals.{After-loop-v}

pub loop-v-init : goal.loop-v-init
unfolding limits_met
loop-v-init c = (omega arith, sym (all_start _))

pub at_least-over-requires : goal.at_least-over-requires
at_least-over-requires c =
    let case = c.args.case.now in
    let variables = case.columns + case.rows in
    let v = c.loop-v.v in
    let x = stands-is c.number_at-x.ensures (stands-in c.requires.all_formed (1 + v) (omega arith)) in
    let small = stands-is c.number_at-small.ensures
    (stands-in c.requires.all_formed (1 + variables + v) (omega arith)) in
    record {
      limbs_within = (c.requires.limbs_within, x.size, small.size);
      within = case.in_ranges.limited.lowers-within v;
    }

pub at_most-under-requires : goal.at_most-under-requires
at_most-under-requires c =
    let case = c.args.case.now in
    let variables = case.columns + case.rows in
    let v = c.loop-v.v in
    let x = stands-is c.number_at-x.ensures (stands-in c.requires.all_formed (1 + v) (omega arith)) in
    let small = stands-is c.number_at-small.ensures
    (stands-in c.requires.all_formed (1 + variables + v) (omega arith)) in
    record {
      limbs_within = (c.requires.limbs_within, x.size, small.size);
      within = case.in_ranges.limited.uppers-within v;
    }

pub loop-v-preserved : goal.loop-v-preserved
unfolding limits_met
loop-v-preserved c =
    let case = c.args.case.now in
    let variables = case.columns + case.rows in
    let v = c.loop-v.v in
    let x = stands-is c.number_at-x.ensures (stands-in c.requires.all_formed (1 + v) (omega arith)) in
    let small = stands-is c.number_at-small.ensures
    (stands-in c.requires.all_formed (1 + variables + v) (omega arith)) in
    let d = value c.args.common in (
      omega arith,
      tests-more v _ c.loop-v.invariant.1 (ap₂ (λ (a b : Bool). a && b)
          (c.at_least-over.ensures
          ∙ ap₂ (λ (p q : ℤ). at_least (lower_of case.limits.now v) d (p, q)) x.number small.number)
          (c.at_most-under.ensures
          ∙ ap₂ (λ (p q : ℤ). at_most (upper_of case.limits.now v) d (p, q)) x.number small.number)),
    )

all : (c : After-loop-v) → c.loop-v.v ≡ c.args.case.now.columns + c.args.case.now.rows
all c = omega arith

pub returns : goal.returns
returns c = let case = c.args.case.now in
    c.loop-v.invariant.1
    ∙ ap (λ (k : ℕ). limits_met case.limits.now case.answer.now (case.columns + case.rows) (value c.args.common) k)
    (all c)
