-- docs/RULES.md, "Wide evidence": an answer whose numbers have four words each, and its checker. Word 0 is the verdict
-- and word 1 is not judged; then come 1 + 2N numbers: the denominator, N numerators or lower multipliers, N small parts
-- or upper multipliers. What is right is what is right of any numbers (Evidence); there is no range but that of the
-- words.
use Rattle.std.specs.Prelude.{Bool, true, false, cond, not, ◌&&◌, ◌||◌, List, [], ◌∷◌, ◌++◌, ℕ, zero, suc, ◌+◌, ◌*◌}
use Rattle.std.specs.Prelude.{◌/◌, ◌%◌, ltb, ℤ, pos, negsuc, ◌+ℤ◌, ◌-ℤ◌, ◌*ℤ◌, length}
use Rattle.std.specs.Int.Signed.{lt_z}
use Rattle.whole.specs.Below.{all_below}
use Rattle.whole.specs.Numbers.{eq_z, outside}
use Rattle.whole.specs.Tables.{table}
use Rattle.rules.specs.Evidence.{right_can, right_cannot, verdict_of}
use Rattle.rules.specs.Limit.{Limit}
use Rattle.rules.specs.Problem.{Problem, problem, vars, vars_of, word}
use Rattle.rules.specs.Refusal.{first, problem_tests}
use Rattle.rules.specs.Sizes.{largest_head, largest_limb, limb_turn, most_rows}

-- ---- numbers of four words

-- a + 2^32 b + 2^64 c + 2^96 d
abbrev pub wide_number : ℤ → ℤ → ℤ → ℤ → ℤ
wide_number a b c d = a +ℤ pos limb_turn *ℤ (b +ℤ pos limb_turn *ℤ (c +ℤ pos limb_turn *ℤ d))

-- word i, from 0, of number `slot` of an answer
abbrev pub limb_at : List ℤ → ℕ → ℕ → ℤ
limb_at a slot i = word a (2 + 4 * slot + i)

abbrev pub wide_at : List ℤ → ℕ → ℤ
wide_at a slot = wide_number (limb_at a slot 0) (limb_at a slot 1) (limb_at a slot 2) (limb_at a slot 3)

-- the lower three words are from 0 to 2^32 - 1, the highest from -2^31 to 2^31 - 1
unfoldable pub limb_fits : ℤ → Bool
limb_fits z = not (outside 0 largest_limb z)

unfoldable pub head_fits : ℤ → Bool
head_fits z = not (lt_z z (negsuc largest_head) || lt_z (pos largest_head) z)

unfoldable pub number_fits : List ℤ → ℕ → Bool
number_fits a slot = limb_fits (limb_at a slot 0) && limb_fits (limb_at a slot 1) && limb_fits (limb_at a slot 2)
    && head_fits (limb_at a slot 3)

-- of N variables
abbrev pub numbers_of : ℕ → ℕ
numbers_of N = 1 + 2 * N

unfoldable pub well_formed : ℕ → List ℤ → Bool
well_formed N a = all_below (numbers_of N) (number_fits a)

-- ---- the answer's parts

abbrev pub wide_denominator : List ℤ → ℤ
wide_denominator a = wide_at a 0

-- numerators, or lower multipliers
abbrev pub wide_lower : List ℤ → ℕ → ℤ
wide_lower a v = wide_at a (1 + v)

-- the small parts' numerators, or upper multipliers
abbrev pub wide_upper : ℕ → List ℤ → ℕ → ℤ
wide_upper N a v = wide_at a (1 + N + v)

-- ---- the checker: 1 to 6 and 10 by the problem, 7 too short, 8 accepted, 9 not

unfoldable pub shows_wide : Problem Limit → List ℤ → Bool
shows_wide P a =
    cond (eq_z (verdict_of a) (pos 1)) (right_can P (wide_denominator a) (wide_lower a) (wide_upper (vars P) a))
    (cond (eq_z (verdict_of a) (pos 2)) (right_cannot P (wide_denominator a) (wide_lower a) (wide_upper (vars P) a))
    false)

unfoldable pub accepted_wide : Problem Limit → List ℤ → Bool
accepted_wide P a = well_formed (vars P) a && shows_wide P a

-- how many words an answer has: two, and four for each number
abbrev pub wide_length : List ℤ → ℕ
wide_length ws = 6 + 8 * vars_of ws

unfoldable pub short_wide : List ℤ → ℕ → Bool
short_wide ws room = ltb room (wide_length ws)

unfoldable pub checked_wide : List ℤ → List ℤ → ℕ
checked_wide ws a =
    first (problem_tests most_rows ws
    ++ ((short_wide ws (length a), 7) ∷ (accepted_wide (problem ws) a, 8) ∷ (true, 9) ∷ []))

-- ---- an answer of one word a number, in wide form: numbers from -2^127 to 2^127 - 1

-- word i of a number: those of the number, or all bits turned round where it is below 0
unfoldable pub limb_of : ℤ → ℕ → ℤ
limb_of (pos n) zero = pos (n % limb_turn)
limb_of (pos n) (suc zero) = pos (n / limb_turn % limb_turn)
limb_of (pos n) (suc (suc zero)) = pos (n / limb_turn / limb_turn % limb_turn)
limb_of (pos n) (suc (suc (suc i))) = pos (n / limb_turn / limb_turn / limb_turn)
limb_of (negsuc n) zero = pos largest_limb -ℤ pos (n % limb_turn)
limb_of (negsuc n) (suc zero) = pos largest_limb -ℤ pos (n / limb_turn % limb_turn)
limb_of (negsuc n) (suc (suc zero)) = pos largest_limb -ℤ pos (n / limb_turn / limb_turn % limb_turn)
limb_of (negsuc n) (suc (suc (suc i))) = negsuc (n / limb_turn / limb_turn / limb_turn)

-- the numbers of an answer stand one after the other from word 2 on, in both forms
unfoldable pub wide_form : ℕ → List ℤ → List ℤ
wide_form N a = word a 0 ∷ word a 1 ∷ table (4 * numbers_of N) (λ k. limb_of (word a (2 + k / 4)) (k % 4))
