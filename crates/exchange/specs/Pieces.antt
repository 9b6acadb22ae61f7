-- The text of a row from its coefficients, and of a variable's limits from their words, as code has them at hand. The
-- laws say that these are the pieces of the text of the rules.
use Rattle.std.specs.Prelude.{cond, List, [], ◌++◌, ℕ, ◌-◌, ltb, ℤ, length, Option, None, Some}
use Rattle.rules.specs.Limit.{has_lower, has_upper, strict_lower, strict_upper}
use Rattle.rules.specs.Problem.{word}
use Rattle.rules.specs.Program.Text.{lines_below}
use Rattle.rules.specs.Exchange.Script.{assert_limit, assert_row, column_name, end_assert, less, more, no_less}
use Rattle.rules.specs.Exchange.Script.{no_more, number_text, row_name, space, sum_text, term}
use Rattle.exchange.specs.declared.limits.Limit.{Limit}
use Rattle.exchange.specs.declared.limits.Relation.{Relation}
use Rattle.exchange.specs.declared.limits.Relation.TheVariants as relations
use Rattle.exchange.specs.declared.names.Name.{Name}
use Rattle.exchange.specs.declared.names.Name.TheVariants.{Column, Row}

-- ---- names

-- of variable v, where the first n are the problem's
abbrev pub name_at : ℕ → ℕ → Name
name_at n v = cond (ltb v n) (Column v) (Row (v - n))

abbrev pub name_text : Name → List ℕ
name_text (Column j) = column_name j
name_text (Row i) = row_name i

-- ---- a row

abbrev pub terms_piece : List ℤ → List ℕ
terms_piece cs = lines_below (length cs) (λ j. term (word cs j) j)

abbrev pub sum_piece : List ℤ → List ℕ
sum_piece cs = sum_text (length cs) (terms_piece cs)

abbrev pub row_piece : ℕ → List ℤ → List ℕ
row_piece i cs = assert_row ++ row_name i ++ sum_piece cs ++ end_assert

-- ---- limits

abbrev pub relation_text : Relation → List ℕ
relation_text relations.NoLess = no_less
relation_text relations.More = more
relation_text relations.NoMore = no_more
relation_text relations.Less = less

abbrev pub lower_limit : ℤ → ℤ → Option Limit
lower_limit kind z =
    cond (has_lower kind)
    (Some (record { relation = cond (strict_lower kind) relations.More relations.NoLess; number = z })) None

abbrev pub upper_limit : ℤ → ℤ → Option Limit
upper_limit kind z =
    cond (has_upper kind)
    (Some (record { relation = cond (strict_upper kind) relations.Less relations.NoMore; number = z })) None

-- one that is missing has no text
abbrev pub limit_piece : Name → Option Limit → List ℕ
limit_piece name None = []
limit_piece name (Some limit) =
    assert_limit ++ relation_text limit.relation ++ space ++ name_text name ++ space ++ number_text limit.number
    ++ end_assert

abbrev pub limits_piece : Name → List ℤ → List ℕ
limits_piece name ls =
    limit_piece name (lower_limit (word ls 0) (word ls 1)) ++ limit_piece name (upper_limit (word ls 0) (word ls 2))
