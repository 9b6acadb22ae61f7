-- `tableau::Tableau::limits_of` meets its contract. The invariant: the limits of the variables passed are read, the
-- others are missing. Assumes nothing.
use Rattle.std.proofs.Common.{◌≡◌, ◌∙◌, ℕ, ◌+◌, ◌*◌, ◌<◌, List, ℤ, Bool, ◌||◌, ap, ap₂, sym, arith, add-one, rules}
use Rattle.std.proofs.Common.{w32, to_z, of_z, SFits, replicate, pos, false}
use Rattle.std.proofs.Math.Facts.{to_z-of_z}
use Rattle.whole.proofs.Lists.Below.{some_more, some-start}
use Rattle.whole.proofs.Lists.Prefix.{filled-start, filled_more}
use Rattle.rules.specs.Limit.{Limit}
use Rattle.rules.specs.Problem.{Problem, problem, vars, word}
use Rattle.rules.specs.Sizes.{most_variables}
use Rattle.rules.proofs.Refusal.Accepted.{problem-vars}
use Rattle.judge.proofs.Laws.Judged.{vars-are}
use Rattle.amounts.specs.declared.Given.{Given}
use Rattle.amounts.specs.Amounts.{absent}
use Rattle.tableau.specs.declared.Limits.{Limits}
use Rattle.tableau.specs.Start.{limits_for, strict_at}
use Rattle.tableau.proofs.Laws.Read.{given, lower-read, marks-read, upper-read}
use Rattle.tableau.proofs.Tableau.limits_of.Invariants.{Passed}
use Rattle.tableau.proofs.Tableau.limits_of.Goals as goal

all-passed : (P : Problem Limit) (v : ℕ) (lower upper : List Given) (strict : Bool) →
    Passed P v lower upper strict → v ≡ vars P →
    ◌≡◌ {A = Limits} (record { lower = lower; upper = upper; strict = strict }) (limits_for P)
unfolding limits_for
all-passed P v lower upper strict p e = cc

-- the limit that is given by default is missing
absent-by : {g : Given} → (g.given ≡ false) × ((g.on ≡ false) × ((g.strict ≡ false) × (g.plain ≡ pos 0))) → g ≡ absent
absent-by e = λ i. record { given = e.0 i; on = e.1.0 i; strict = e.1.1.0 i; plain = e.1.1.1 i }

pub loop-v-init : goal.loop-v-init
loop-v-init c = record {
  lower-are = ap (replicate most_variables) (absent-by c.default-lower.ensures) ∙ filled-start most_variables absent _;
  upper-are = ap (replicate most_variables) (absent-by c.default-upper.ensures) ∙ filled-start most_variables absent _;
  strict-is = sym (some-start _);
}

-- a limit as it is given, by its parts
limit-told : {g : Given} {a b o s : Bool} {z : ℤ} → SFits w32 z →
    g ≡ record { given = a; on = a; strict = b; plain = to_z w32 (of_z w32 z) } → a ≡ o → b ≡ s → g ≡ given o s z
limit-told {a = a} {b = b} {z = z} f e p q = e ∙ ap (given a b) (to_z-of_z f)
    ∙ ap₂ (λ o s. given o s z) p q

pub loop-v-preserved : goal.loop-v-preserved
loop-v-preserved c = let ws = c.args.words.now in let v = c.loop-v.v in
    let F = c.requires.framed in let A = c.requires.accepted in
    let h : v < c.args.columns + c.args.rows = c.loop-v-test.true in
    let few : v < most_variables = omega arith in
    let at = 2 + c.args.rows * c.args.columns + 3 * v in
    let kind : SFits w32 (word ws at) = search rules in
    let low : SFits w32 (word ws (at + 1)) = search rules in
    let high : SFits w32 (word ws (at + 2)) = search rules in
    record {
      lower-are = filled_more most_variables absent _ v few c.loop-v.invariant.lower-are
          (limit-told low c.limit_by.ensures (simp (to_z-of_z kind) at c.has_lower.ensures)
          (simp (to_z-of_z kind) at c.strict_lower.ensures) ∙ lower-read F A v h);
      upper-are = filled_more most_variables absent _ v few c.loop-v.invariant.upper-are
          (limit-told high c.limit_by-in-loop-v.ensures (simp (to_z-of_z kind) at c.has_upper.ensures)
          (simp (to_z-of_z kind) at c.strict_upper.ensures) ∙ upper-read F A v h);
      strict-is = rw add-one (ap₂ ◌||◌ c.loop-v.invariant.strict-is
          ((simp (to_z-of_z kind) at c.some_strict-strict.ensures) ∙ marks-read F A v h)
          ∙ sym (some_more v (strict_at (problem ws))));
    }

pub returns : goal.returns
returns c = all-passed (problem c.args.words.now) _ _ _ _ c.loop-v.invariant
    (omega (arith, vars-are c.requires.framed, problem-vars c.args.words.now))
