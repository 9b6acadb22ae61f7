-- `tableau::read::start_values` meets its contract. The invariant: the columns passed have the definition's values, the
-- others 0. Assumes nothing.
use Rattle.std.proofs.Common.{◌∙◌, pos, ap, arith, rules, w32, SFits}
use Rattle.std.proofs.Math.Facts.{to_z-of_z}
use Rattle.whole.proofs.Lists.Prefix.{filled-start, filled_more}
use Rattle.rules.specs.Sizes.{most_columns}
use Rattle.tableau.specs.Start.{start_from}
use Rattle.tableau.proofs.read.start_values.Goals as goal

pub loop-j-init : goal.loop-j-init
loop-j-init c = record {
  values = filled-start most_columns (pos 0) (λ j. (start_from c.args.limits j).0);
  smalls = filled-start most_columns (pos 0) (λ j. (start_from c.args.limits j).1);
}

pub loop-j-preserved : goal.loop-j-preserved
loop-j-preserved c =
    let fit-plain : SFits w32 c.start_value-value.result.plain = search rules in
    let fit-small : SFits w32 c.start_value-value.result.small = search rules in
    record {
      values = filled_more most_columns (pos 0) (λ j. (start_from c.args.limits j).0) c.loop-j.j (omega arith)
          c.loop-j.invariant.values (to_z-of_z fit-plain ∙ ap (λ x. x.plain) c.start_value-value.ensures);
      smalls = filled_more most_columns (pos 0) (λ j. (start_from c.args.limits j).1) c.loop-j.j (omega arith)
          c.loop-j.invariant.smalls (to_z-of_z fit-small ∙ ap (λ x. x.small) c.start_value-value.ensures);
    }
