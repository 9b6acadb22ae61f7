-- `bundle::judge_reading` meets its contract: the file's own refusal, or the room.
use Rattle.std.proofs.Common.{◌≡◌, arith, rules, ap, sym, ◌∙◌, Err}
use Rattle.refusals.specs.Numbers.{number_told}
use Rattle.refusals.proofs.Refused.{number-some}
use Rattle.rules.proofs.Program.Words.{words-length}
use Rattle.rules.proofs.Bundle.Exactly.{file-accepted-exactly}
use Rattle.rules.proofs.Bundle.Places.{bodies-counted}
use Rattle.bundle.proofs.Files.{read-fine, read_kept, read_short}
use Rattle.bundle.proofs.judge_reading.Goals as goal

pub returns-in_err-judge : goal.returns-in_err-judge
returns-in_err-judge c =
    let e : c.from_residual.result ≡ Err c.in_err-judge.field-0.0 = search rules in
    ap number_told e ∙ read_kept c.args.file.now c.args.sizes c.args.words _ c.in_err-judge.ensures (number-some _)

pub count_of-bodies-requires : goal.count_of-bodies-requires
count_of-bodies-requires c =
    omega (arith, ((file-accepted-exactly c.args.file.now).0 (sym c.in_ok-judge.ensures)).enough)

pub overflow_mul-bodies : goal.overflow_mul-bodies
overflow_mul-bodies c = omega (
  arith,
  c.count_of-bodies.ensures,
  bodies-counted ((file-accepted-exactly c.args.file.now).0 (sym c.in_ok-judge.ensures)),
)

pub overflow_add-bodies : goal.overflow_add-bodies
overflow_add-bodies c = omega (
  arith,
  c.count_of-bodies.ensures,
  bodies-counted ((file-accepted-exactly c.args.file.now).0 (sym c.in_ok-judge.ensures)),
)

pub overflow_sub-file : goal.overflow_sub-file
overflow_sub-file c = omega (
  arith,
  c.count_of-bodies.ensures,
  words-length c.args.file.now,
  ((file-accepted-exactly c.args.file.now).0 (sym c.in_ok-judge.ensures)).long,
)

pub returns-then-sizes-bodies : goal.returns-then-sizes-bodies
returns-then-sizes-bodies c =
    read_short c.args.file.now c.args.sizes c.args.words (sym c.in_ok-judge.ensures)
    (grind (arith, words-length c.args.file.now))

pub returns : goal.returns
returns c =
    read-fine c.args.file.now c.args.sizes c.args.words (sym c.in_ok-judge.ensures)
    (omega arith) (omega (arith, c.count_of-bodies.ensures, words-length c.args.file.now))
