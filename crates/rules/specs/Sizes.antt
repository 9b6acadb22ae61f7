-- The sizes of docs/RULES.md: each number stands here, once. "Most" and "largest" belong to the range.
use Rattle.std.specs.Prelude.{ℕ, ◌+◌, ◌*◌}

-- ---- the limit problem

-- problem variables, n; the least is 1
abbrev pub most_columns : ℕ
most_columns = 8

-- rows, m; the least is 0
abbrev pub most_rows : ℕ
most_rows = 24

abbrev pub most_variables : ℕ
most_variables = most_columns + most_rows

-- coefficients of a problem, and entries of a tableau
abbrev pub most_cells : ℕ
most_cells = most_rows * most_columns

-- words of a problem: n and m, the rows, and three for each variable
abbrev pub most_words : ℕ
most_words = 2 + most_cells + 3 * most_variables

-- words of an answer: three, and two for each variable
abbrev pub most_answer : ℕ
most_answer = 3 + 2 * most_variables

abbrev pub largest_coefficient : ℕ
largest_coefficient = 1000

abbrev pub largest_limit : ℕ
largest_limit = 30000

-- of a tableau, and of a multiplier
abbrev pub largest_number : ℕ
largest_number = 2147483647

-- of evidence: most_columns times largest_number times largest_limit
abbrev pub largest_numerator : ℕ
largest_numerator = 515396075280000

-- of evidence: most_columns times largest_number
abbrev pub largest_small : ℕ
largest_small = 17179869176

-- of a shortfall: largest_numerator and largest_number times largest_limit
abbrev pub largest_shortfall : ℕ
largest_shortfall = 579820584690000

-- ---- numbers of four words

-- 2^32, by which each word but the lowest counts
abbrev pub limb_turn : ℕ
limb_turn = 4294967296

-- of the three lower words; the least is 0
abbrev pub largest_limb : ℕ
largest_limb = 4294967295

-- of the highest word; the least is one below its negative
abbrev pub largest_head : ℕ
largest_head = 2147483647

-- 2^127: no number of four words is larger
abbrev pub largest_wide : ℕ
largest_wide = 170141183460469231731687303715884105728

-- ---- time rows

-- the least is 1
abbrev pub most_vertices : ℕ
most_vertices = 64

abbrev pub most_time_rows : ℕ
most_time_rows = 256

abbrev pub largest_length : ℕ
largest_length = 30000

-- ---- the program, in bytes

-- of input: four for each word
abbrev pub most_bytes : ℕ
most_bytes = 4 * most_words

-- a number of 64 bits: a sign and 19 digits
abbrev pub most_decimal : ℕ
most_decimal = 20

-- the line of the pivots: its name, a number and a newline
abbrev pub most_pivots_line : ℕ
most_pivots_line = 7 + most_decimal + 1

-- the line of a numerator: a variable of two digits, a space, a number, a space, the small part and a newline
abbrev pub most_value_line : ℕ
most_value_line = 2 + 1 + most_decimal + 1 + most_decimal + 1

-- the two lines of a variable's multipliers: two digits, " lower " or " upper ", a number and a newline
abbrev pub most_multiplier_lines : ℕ
most_multiplier_lines = 2 * (2 + 7 + most_decimal + 1)

-- a whole text: "cannot", the pivots, and two lines for each variable
abbrev pub most_text : ℕ
most_text = 7 + most_pivots_line + most_variables * most_multiplier_lines

-- ---- a day's file

-- of the whole file, and so four times as many bytes
abbrev pub most_file_words : ℕ
most_file_words = 16384

-- of edition 1: bodies, and rows of a body
abbrev pub first_bodies : ℕ
first_bodies = 64

abbrev pub first_rows : ℕ
first_rows = 16

-- of edition 2: bodies; a body has the rows of any problem
abbrev pub second_bodies : ℕ
second_bodies = 48

-- bodies, in any edition
abbrev pub most_bodies : ℕ
most_bodies = first_bodies

-- the text of a day
abbrev pub most_day_text : ℕ
most_day_text = most_bodies * most_text

-- ---- SMT-LIB text, in bytes

-- the name of a problem variable: a letter and a digit
abbrev pub most_column_name : ℕ
most_column_name = 2

-- of any variable: a letter and two digits
abbrev pub most_name : ℕ
most_name = 3

-- a coefficient below 0: a minus and four digits in parentheses; a limit has one digit more
abbrev pub most_coefficient_text : ℕ
most_coefficient_text = 8

abbrev pub most_limit_text : ℕ
most_limit_text = 9

-- what stands around a name where it is declared
abbrev pub most_declaration : ℕ
most_declaration = 14 + most_name + 8

abbrev pub most_term : ℕ
most_term = 4 + most_coefficient_text + 1 + most_column_name + 1

-- a row: its name, and a sum of all columns
abbrev pub most_row_text : ℕ
most_row_text = 10 + most_name + 3 + most_term * most_columns + 1 + 4

-- the two limits of a variable
abbrev pub most_limits_text : ℕ
most_limits_text = 2 * (8 + 2 + 1 + most_name + 1 + most_limit_text + 4)

-- a whole text, by the most rows
abbrev pub most_script : ℕ → ℕ
most_script rows = 20 + (most_declaration + most_limits_text) * (most_columns + rows) + most_row_text * rows + 11

-- ---- the auditor's sheet

-- a text that is read from standard input, with its blanks and comments
abbrev pub most_input : ℕ
most_input = 65536

-- the line of a count: its name, two digits and a newline
abbrev pub most_count_line : ℕ → ℕ
most_count_line name = name + 2 + 1

-- a whole sheet: bodies, can, cannot, range; six refusals and 10; pivots of 16 digits; the largest, of 14, with "none";
-- and a line for each variable
abbrev pub most_sheet : ℕ
most_sheet =
    most_count_line 7 + most_count_line 4 + most_count_line 7 + most_count_line 6
    + (6 * most_count_line 10 + most_count_line 11)
    + (7 + 16 + 1) + (8 + 14 + 6 + 4 + 1)
    + most_variables * (2 + 7 + 2 + 7 + 2 + 1)
