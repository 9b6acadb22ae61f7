-- `judge::judge_within` meets its contract: each return is the first test that applies.
use Rattle.std.proofs.Common.{arith, ap₂, sym, ◌∙◌, Bool, ℕ, [], ◌∷◌}
use Rattle.rules.specs.Refusal.{bad_coefficient, bad_kind, first}
use Rattle.judge.proofs.Laws.Tests.{few-cells, few-columns, few-hit, few-rows, frame-is, least, length-hit}
use Rattle.judge.proofs.Laws.Tests.{tests-passed}
use Rattle.judge.proofs.Laws.Tests.{size-hit}
use Rattle.judge.proofs.judge_within.Goals as goal

pub returns-then-words-lt2 : goal.returns-then-words-lt2
returns-then-words-lt2 c = few-hit _ _ c.if-words-lt2.true

pub returns-then-is_bad_size : goal.returns-then-is_bad_size
returns-then-is_bad_size c = size-hit _ _ c.if-words-lt2.false (sym c.is_bad_size.ensures ∙ c.if-is_bad_size.true)

pub count_at-columns-requires : goal.count_at-columns-requires
count_at-columns-requires c = (
  omega arith,
  (least c.args.most c.args.words.now c.if-words-lt2.false (sym c.is_bad_size.ensures ∙ c.if-is_bad_size.false)).0,
)

pub count_at-rows-requires : goal.count_at-rows-requires
count_at-rows-requires c = (
  omega arith,
  (least c.args.most c.args.words.now c.if-words-lt2.false (sym c.is_bad_size.ensures ∙ c.if-is_bad_size.false)).1,
)

pub overflow_mul-rows : goal.overflow_mul-rows
overflow_mul-rows c = omega (
  arith,
  few-cells c.args.most c.args.words.now c.if-words-lt2.false (sym c.is_bad_size.ensures ∙ c.if-is_bad_size.false)
      c.requires c.count_at-columns.result c.count_at-rows.result c.count_at-columns.ensures c.count_at-rows.ensures,
)

pub overflow_add-rows : goal.overflow_add-rows
overflow_add-rows c = omega (
  arith,
  few-cells c.args.most c.args.words.now c.if-words-lt2.false (sym c.is_bad_size.ensures ∙ c.if-is_bad_size.false)
      c.requires c.count_at-columns.result c.count_at-rows.result c.count_at-columns.ensures c.count_at-rows.ensures,
)

pub overflow_add-columns : goal.overflow_add-columns
overflow_add-columns c = omega (
  arith,
  few-columns c.args.most c.args.words.now c.if-words-lt2.false (sym c.is_bad_size.ensures ∙ c.if-is_bad_size.false)
      c.requires c.count_at-columns.result c.count_at-rows.result c.count_at-columns.ensures c.count_at-rows.ensures,
  few-rows c.args.most c.args.words.now c.if-words-lt2.false (sym c.is_bad_size.ensures ∙ c.if-is_bad_size.false)
      c.requires c.count_at-columns.result c.count_at-rows.result c.count_at-columns.ensures c.count_at-rows.ensures,
)

pub overflow_mul-columns : goal.overflow_mul-columns
overflow_mul-columns c = omega (
  arith,
  few-columns c.args.most c.args.words.now c.if-words-lt2.false (sym c.is_bad_size.ensures ∙ c.if-is_bad_size.false)
      c.requires c.count_at-columns.result c.count_at-rows.result c.count_at-columns.ensures c.count_at-rows.ensures,
  few-rows c.args.most c.args.words.now c.if-words-lt2.false (sym c.is_bad_size.ensures ∙ c.if-is_bad_size.false)
      c.requires c.count_at-columns.result c.count_at-rows.result c.count_at-columns.ensures c.count_at-rows.ensures,
)

pub overflow_add-rows-2 : goal.overflow_add-rows-2
overflow_add-rows-2 c = omega (
  arith,
  few-columns c.args.most c.args.words.now c.if-words-lt2.false (sym c.is_bad_size.ensures ∙ c.if-is_bad_size.false)
      c.requires c.count_at-columns.result c.count_at-rows.result c.count_at-columns.ensures c.count_at-rows.ensures,
  few-rows c.args.most c.args.words.now c.if-words-lt2.false (sym c.is_bad_size.ensures ∙ c.if-is_bad_size.false)
      c.requires c.count_at-columns.result c.count_at-rows.result c.count_at-columns.ensures c.count_at-rows.ensures,
  few-cells c.args.most c.args.words.now c.if-words-lt2.false (sym c.is_bad_size.ensures ∙ c.if-is_bad_size.false)
      c.requires c.count_at-columns.result c.count_at-rows.result c.count_at-columns.ensures c.count_at-rows.ensures,
)

pub returns-then-words-rows : goal.returns-then-words-rows
returns-then-words-rows c =
    length-hit c.args.most c.args.words.now c.if-words-lt2.false (sym c.is_bad_size.ensures ∙ c.if-is_bad_size.false)
    c.requires c.count_at-columns.result c.count_at-rows.result c.count_at-columns.ensures c.count_at-rows.ensures
    c.if-words-rows.true

pub invariant_of-frame : goal.invariant_of-frame
invariant_of-frame c = record {
  framed = frame-is c.args.most c.args.words.now c.if-words-lt2.false (sym c.is_bad_size.ensures
      ∙ c.if-is_bad_size.false)
      c.requires c.count_at-columns.result c.count_at-rows.result c.count_at-columns.ensures c.count_at-rows.ensures
      c.if-words-rows.false;
}

abbrev by-words : Bool → Bool → Bool → Bool → ℕ
by-words coefficient kind limit blank = first ((coefficient, 4) ∷ (kind, 5) ∷ (limit, 6) ∷ (blank, 10) ∷ [])

pub returns : goal.returns
returns c =
    let ws = c.args.words.now in
    c.word_refusal.ensures
    ∙ ap₂ (λ a b. by-words a b c.some_bad_variable-2.result c.some_blank_row.result)
    c.some_bad_coefficient.ensures c.some_bad_variable.ensures
    ∙ ap₂ (by-words (bad_coefficient ws) (bad_kind ws)) c.some_bad_variable-2.ensures c.some_blank_row.ensures
    ∙ tests-passed c.args.most c.args.words.now c.if-words-lt2.false (sym c.is_bad_size.ensures
    ∙ c.if-is_bad_size.false)
    c.requires c.count_at-columns.result c.count_at-rows.result c.count_at-columns.ensures c.count_at-rows.ensures
    c.if-words-rows.false
