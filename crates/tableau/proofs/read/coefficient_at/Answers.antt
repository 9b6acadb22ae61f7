-- `tableau::read::coefficient_at` meets its contract. Assumes nothing.
use Rattle.std.proofs.Common.{◌+◌, ◌*◌, arith, rules, w32, SFits}
use Rattle.std.proofs.Math.Facts.{to_z-of_z}
use Rattle.rules.specs.Problem.{word}
use Rattle.judge.proofs.Laws.Judged.{few_words}
use Rattle.tableau.proofs.Laws.Read.{coefficient-in, coefficient-is}
use Rattle.tableau.proofs.read.coefficient_at.Goals as goal

pub overflow_mul-at : goal.overflow_mul-at
overflow_mul-at c = let r = c.requires in
    omega (
      arith,
      coefficient-in r.framed c.args.row.0 c.args.column.0 r.row_lt_rows.0 r.row_lt_rows.1,
      few_words r.framed,
    )

pub overflow_add-at : goal.overflow_add-at
overflow_add-at c = let r = c.requires in
    omega (
      arith,
      coefficient-in r.framed c.args.row.0 c.args.column.0 r.row_lt_rows.0 r.row_lt_rows.1,
      few_words r.framed,
    )

pub overflow_add-at-2 : goal.overflow_add-at-2
overflow_add-at-2 c = let r = c.requires in
    omega (
      arith,
      coefficient-in r.framed c.args.row.0 c.args.column.0 r.row_lt_rows.0 r.row_lt_rows.1,
      few_words r.framed,
    )

pub offset_bounds-words-at : goal.offset_bounds-words-at
offset_bounds-words-at c = let r = c.requires in
    omega (
      arith,
      coefficient-in r.framed c.args.row.0 c.args.column.0 r.row_lt_rows.0 r.row_lt_rows.1,
      few_words r.framed,
    )

pub bounds-words-at : goal.bounds-words-at
bounds-words-at c = let r = c.requires in
    coefficient-in r.framed c.args.row.0 c.args.column.0 r.row_lt_rows.0 r.row_lt_rows.1

pub returns : goal.returns
returns c = let a = c.args in
    let read : SFits w32 (word a.words.now (2 + (a.row.0 * a.columns + a.column.0))) = search rules in
    simp (to_z-of_z read) (coefficient-is c.requires.framed a.row.0 a.column.0)
