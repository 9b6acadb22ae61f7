-- `bundle::judge::judge_table` meets its contract: pair after pair is tested, and then the place behind the last body.
use Rattle.std.proofs.Common.{◌≡◌, arith, rules, ap, sym, ◌∙◌, w32, nat_abs}
use mir.Facts.{to_z-of_z}
use mir.Val.{SFits}
use Rattle.rules.specs.Program.Bytes.{words_from}
use Rattle.rules.specs.Bundle.File.{pair_length}
use Rattle.rules.proofs.Program.Words.{words-length}
use Rattle.bundle.proofs.Pairs.{behind_more, behind-none, pair-tested, passed-more, table-fine}
use Rattle.bundle.proofs.Pairs.{table-pair, table-total}
use Rattle.bundle.proofs.judge.judge_table.Goals as goal

pub loop-i-init : goal.loop-i-init
loop-i-init c = record {
  behind_is = omega (arith, behind-none (words_from c.args.file.now));
  few = omega arith;
  passed = λ j h. absurd (omega arith);
}

pub word_of-size-requires : goal.word_of-size-requires
word_of-size-requires c = omega (arith, words-length c.args.file.now)

pub word_of-requires : goal.word_of-requires
word_of-requires c = omega (arith, words-length c.args.file.now)

pub returns-then-is_bad_pair : goal.returns-then-is_bad_pair
returns-then-is_bad_pair c =
    let ws = words_from c.args.file.now in
    let i = c.loop-i.i in
    let told = pair-tested ws i c.loop-i.invariant.passed _ _ c.loop-i.at (search rules) (search rules)
    c.word_of.ensures c.word_of-size.ensures c.loop-i.invariant.behind_is c.is_bad_pair.result
    c.is_bad_pair.ensures in
    table-pair ws i (omega arith) (sym told ∙ c.if-is_bad_pair.true)

pub loop-i-preserved : goal.loop-i-preserved
loop-i-preserved c =
    let ws = words_from c.args.file.now in
    let i = c.loop-i.i in
    let told = pair-tested ws i c.loop-i.invariant.passed _ _ c.loop-i.at (search rules) (search rules)
    c.word_of.ensures c.word_of-size.ensures c.loop-i.invariant.behind_is c.is_bad_pair.result
    c.is_bad_pair.ensures in
    let fit : SFits w32 c.word_of-size.result = search rules in
    let size : c.unsigned_abs.result ≡ nat_abs (pair_length ws i) =
    c.unsigned_abs.ensures.value ∙ ap nat_abs (to_z-of_z fit ∙ c.word_of-size.ensures) in
    record {
      behind_is = omega (arith, size, behind_more ws i);
      few = omega arith;
      passed = passed-more ws i c.loop-i.invariant.passed (sym told ∙ c.if-is_bad_pair.false);
    }

pub returns-then-at-file : goal.returns-then-at-file
returns-then-at-file c = let ws = words_from c.args.file.now in
    table-total ws c.loop-i.i (omega arith) c.loop-i.invariant.passed c.loop-i.at c.loop-i.invariant.behind_is
    (λ e. c.if-at-file.true (omega (arith, words-length c.args.file.now)))

pub returns : goal.returns
returns c = let ws = words_from c.args.file.now in
    table-fine ws c.loop-i.i (omega arith) c.loop-i.invariant.passed c.loop-i.at c.loop-i.invariant.behind_is
    (omega (arith, words-length c.args.file.now))
