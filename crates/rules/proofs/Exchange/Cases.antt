-- The texts and the refusals of specs/Cases/Exchange, by computing the definitions (exchange-cases, refusal-cases);
-- names of two digits (name-cases); and a slice afterwards (output-cases).
use mathlib.Core.Path.{◌≡◌, refl}
use mathlib.Core.List.{[], map, ◌++◌, ◌∷◌}
use lib.ListN.{replicate}
use Rattle.whole.specs.Below
use Rattle.whole.specs.Numbers
use Rattle.rules.specs.Limit
use Rattle.rules.specs.Refusal
use Rattle.rules.specs.Program.Text
use Rattle.rules.specs.Program.Text.{ascii}
use Rattle.rules.specs.Exchange.Script
use Rattle.rules.specs.Exchange.Script.{exchange_text, exchange_refusal, exchange_output, name_of}
use Rattle.rules.specs.Cases.Limits.{case_h}
use Rattle.rules.specs.Cases.Exchange.{exchanges, exchange_texts, exchange_refusals, lined}

pub exchange-cases : map exchange_text exchanges ≡ map ascii exchange_texts
unfolding exchanges exchange_texts lined Limit.bit
    Text.ascii Text.digits_turns Text.digits Text.lines_below
    Script.set_logic Script.declare_const Script.of_real Script.assert_row Script.end_assert Script.open_sum
    Script.open_term Script.open_minus Script.close Script.space Script.assert_limit
    Script.no_less Script.more Script.no_more Script.less Script.check_sat
    Script.column_name Script.row_name Script.name_of Script.number_text
    Script.declaration Script.term Script.sum_text Script.terms_text Script.row_text
    Script.limit_text Script.lower_relation Script.upper_relation Script.limits_text Script.exchange_text
exchange-cases = refl

pub refusal-cases : map (λ c. exchange_refusal c.0 c.1.0) exchange_refusals ≡ map (λ c. c.1.1) exchange_refusals
unfolding exchange_refusals Below.some_below Below.all_below Numbers.within Numbers.outside
    Limit.bit Limit.bad_kind_word Limit.bad_limit_word
    Refusal.first Refusal.too_few Refusal.bad_size Refusal.bad_length Refusal.bad_coefficient Refusal.bad_kind
    Refusal.bad_limit Refusal.blank_row Refusal.some_blank Refusal.problem_tests
    Text.ascii Text.digits_turns Text.digits Text.lines_below
    Script.set_logic Script.declare_const Script.of_real Script.assert_row Script.end_assert Script.open_sum
    Script.open_term Script.open_minus Script.close Script.space Script.assert_limit
    Script.no_less Script.more Script.no_more Script.less Script.check_sat
    Script.column_name Script.row_name Script.name_of Script.number_text
    Script.declaration Script.term Script.sum_text Script.terms_text Script.row_text
    Script.limit_text Script.lower_relation Script.upper_relation Script.limits_text Script.exchange_text
    Script.exchange_refusal
refusal-cases = refl

-- the last problem variable of eight, the first row and the eleventh
pub name-cases : map (name_of 8) (7 ∷ 8 ∷ 18 ∷ []) ≡ map ascii ("x7" ∷ "r0" ∷ "r10" ∷ [])
unfolding Text.ascii Text.digits_turns Text.digits Script.column_name Script.row_name Script.name_of
name-cases = refl

-- the text of H in front of the last of 57 bytes; and a refusal
pub output-cases :
    map (λ k. exchange_output k case_h.words (replicate 55 0 ++ (7 ∷ 8 ∷ []))) (0 ∷ 7 ∷ [])
    ≡ (ascii "(set-logic QF_LRA)\n(declare-const x0 Real)\n(check-sat)\n" ++ (7 ∷ 8 ∷ []))
    ∷ (replicate 55 0 ++ (7 ∷ 8 ∷ [])) ∷ []
unfolding Limit.bit Text.ascii Text.digits_turns Text.digits Text.lines_below
    Script.set_logic Script.declare_const Script.of_real Script.assert_row Script.end_assert Script.open_sum
    Script.open_term Script.open_minus Script.close Script.space Script.assert_limit
    Script.no_less Script.more Script.no_more Script.less Script.check_sat
    Script.column_name Script.row_name Script.name_of Script.number_text
    Script.declaration Script.term Script.sum_text Script.terms_text Script.row_text
    Script.limit_text Script.lower_relation Script.upper_relation Script.limits_text Script.exchange_text
    Script.exchange_output
output-cases = refl
