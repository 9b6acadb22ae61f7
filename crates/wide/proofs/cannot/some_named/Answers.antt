-- `wide::cannot::some_named` meets its contract. Assumes nothing.
use Rattle.std.proofs.Common.{◌≡◌, ap, ap₂, sym, ◌∙◌, Bool, ◌||◌, ℕ, ◌+◌, ℤ, arith}
use Rattle.whole.proofs.Lists.Below.{some-start}
use Rattle.rules.specs.Evidence.{strict_named}
use Rattle.limbs.proofs.Laws.Stands.{stands-is}
use Rattle.tableau.specs.Parts.{lower_of, upper_of}
use Rattle.rules.proofs.Evidence.Joined.{finds-more}
use Rattle.wide.specs.Reads.{some_marked}
use Rattle.wide.proofs.Laws.Reads.{stands-in}
use Rattle.wide.proofs.cannot.some_named.Goals as goal
use Rattle.wide.proofs.cannot.some_named.Goals.{After-loop-v}

pub loop-v-init : goal.loop-v-init
unfolding some_marked
loop-v-init c = (omega arith, sym (some-start _))

pub strict_named-first-requires : goal.strict_named-first-requires
strict_named-first-requires c =
    let case = c.args.case.now in
    let variables = case.columns + case.rows in
    let v = c.loop-v.v in
    let low = stands-is c.number_at-low.ensures (stands-in c.requires.all_formed (1 + v) (omega arith)) in
    let high = stands-is c.number_at-high.ensures (stands-in c.requires.all_formed (1 + variables + v) (omega arith)) in
    low.size

pub strict_named-second-requires : goal.strict_named-second-requires
strict_named-second-requires c =
    let case = c.args.case.now in
    let variables = case.columns + case.rows in
    let v = c.loop-v.v in
    let low = stands-is c.number_at-low.ensures (stands-in c.requires.all_formed (1 + v) (omega arith)) in
    let high = stands-is c.number_at-high.ensures (stands-in c.requires.all_formed (1 + variables + v) (omega arith)) in
    high.size

pub loop-v-preserved : goal.loop-v-preserved
unfolding some_marked
loop-v-preserved c =
    let case = c.args.case.now in
    let variables = case.columns + case.rows in
    let v = c.loop-v.v in
    let low = stands-is c.number_at-low.ensures (stands-in c.requires.all_formed (1 + v) (omega arith)) in
    let high = stands-is c.number_at-high.ensures
    (stands-in c.requires.all_formed (1 + variables + v) (omega arith)) in (
      omega arith,
      finds-more v _ c.loop-v.invariant.1 (ap₂ (λ (a b : Bool). a || b)
          (c.strict_named-first.ensures ∙ ap (λ (z : ℤ). strict_named (lower_of case.limits.now v) z) low.number)
          (c.strict_named-second.ensures ∙ ap (λ (z : ℤ). strict_named (upper_of case.limits.now v) z) high.number)),
    )

all : (c : After-loop-v) → c.loop-v.v ≡ c.args.case.now.columns + c.args.case.now.rows
all c = omega arith

pub returns : goal.returns
returns c = let case = c.args.case.now in
    c.loop-v.invariant.1
    ∙ ap (λ (k : ℕ). some_marked case.limits.now case.answer.now (case.columns + case.rows) k) (all c)
