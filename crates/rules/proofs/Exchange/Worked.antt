-- What is read of the texts of specs/Cases/Exchange, by computing the definitions.
--   written-cases   reading what was written gives the same words
--   reading-cases   other texts, and those that are refused
use mathlib.Core.Path.{◌≡◌, refl}
use mathlib.Core.List
use mathlib.Core.List.{[], map, ◌++◌}
use Rattle.whole.specs.Below
use Rattle.whole.specs.Numbers
use Rattle.whole.specs.Tables
use Rattle.rules.specs.Limit
use Rattle.rules.specs.Program.Text
use Rattle.rules.specs.Program.Text.{ascii}
use Rattle.rules.specs.Exchange.Script
use Rattle.rules.specs.Exchange.Script.{exchange_text}
use Rattle.rules.specs.Exchange.Tokens
use Rattle.rules.specs.Exchange.Reader
use Rattle.rules.specs.Exchange.Reader.{read_text, words}
use Rattle.rules.specs.Cases.Exchange.{exchanges, readings, one_column, readings_behind}

pub written-cases : map (λ ws. read_text (exchange_text ws)) exchanges ≡ map words exchanges
unfolding exchanges Below.lowest Numbers.within Tables.table_from List.flatten Limit.bit Text.ascii Text.digits_turns
    Text.digits Text.lines_below Text.reading Script.set_logic Script.declare_const Script.of_real Script.assert_row
    Script.end_assert Script.open_sum Script.open_term Script.open_minus Script.close Script.space Script.assert_limit
    Script.no_less Script.more Script.no_more Script.less Script.check_sat Script.column_name Script.row_name
    Script.name_of
    Script.number_text Script.declaration Script.term Script.sum_text Script.terms_text Script.row_text
    Script.limit_text
    Script.lower_relation Script.upper_relation Script.limits_text Script.exchange_text Tokens.is_blank
    Tokens.is_parenthesis Tokens.ends_line Tokens.is_comment Tokens.is_plain Tokens.begins Tokens.single
    Tokens.mode_after
    Tokens.tokens_at Tokens.last Tokens.scan Tokens.tokens Tokens.token_bytes Tokens.token_place Reader.same_bytes
    Reader.is
    Reader.numeral Reader.opens Reader.closes Reader.row_head Reader.going Reader.with_row Reader.with_limit
    Reader.ahead Reader.all_zero Reader.fits Reader.behind_term Reader.taken Reader.with_sign Reader.admitted
    Reader.matched Reader.limit_command Reader.command Reader.relation_taken Reader.relation_read Reader.name_read
    Reader.bounded Reader.decided Reader.token_step Reader.finish Reader.reads Reader.outset Reader.marks
    Reader.plain_number Reader.limit_word Reader.slot_at Reader.limit_words Reader.pieces_words Reader.text_outcome
    Reader.read_text
written-cases = refl

pub reading-cases :
    map (λ c. read_text (ascii c.0)) readings ++ map (λ c. read_text (ascii one_column ++ ascii c.0)) readings_behind
    ≡ map (λ c. c.1) readings ++ map (λ c. c.1) readings_behind
unfolding readings one_column readings_behind Below.lowest Numbers.within Tables.table_from List.flatten Text.ascii
    Text.digits_turns Text.digits Text.reading Script.set_logic Script.declare_const Script.of_real Script.assert_row
    Script.end_assert Script.open_sum Script.open_term Script.open_minus Script.close Script.space Script.assert_limit
    Script.no_less Script.more Script.no_more Script.less Script.check_sat Script.column_name Script.row_name
    Script.name_of
    Tokens.is_blank Tokens.is_parenthesis Tokens.ends_line Tokens.is_comment Tokens.is_plain Tokens.begins Tokens.single
    Tokens.mode_after Tokens.tokens_at Tokens.last Tokens.scan Tokens.tokens Tokens.token_bytes Tokens.token_place
    Reader.same_bytes Reader.is Reader.numeral Reader.opens Reader.closes Reader.row_head Reader.going Reader.with_row
    Reader.with_limit Reader.ahead Reader.all_zero Reader.fits Reader.behind_term Reader.taken Reader.with_sign
    Reader.admitted Reader.matched Reader.limit_command Reader.command Reader.relation_taken Reader.relation_read
    Reader.name_read Reader.bounded Reader.decided Reader.token_step Reader.finish Reader.reads Reader.outset
    Reader.marks Reader.plain_number Reader.limit_word Reader.slot_at Reader.limit_words Reader.pieces_words
    Reader.text_outcome Reader.read_text
reading-cases = refl
