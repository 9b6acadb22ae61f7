-- docs/RULES.md, "The evidence checker": its rule as a function that computes, and what its two kinds of evidence mean.
-- Each kind of evidence is right, over any numbers (`right_can`, `right_cannot`), and within the ranges of an answer's
-- words (`ranged_can`, `ranged_cannot`).
use Rattle.std.specs.Prelude.{◌≡◌, Bool, true, false, cond, ◌&&◌, ◌||◌, not, List, [], ◌∷◌, ◌++◌, ℕ, ◌+◌, ◌<◌, ℤ, pos}
use Rattle.std.specs.Prelude.{◌+ℤ◌, ◌-ℤ◌, ◌*ℤ◌, length, ◌≤ℤ◌, ◌<ℤ◌}
use Rattle.std.proofs.Math.Option.{Option, none, some}
use Rattle.std.specs.Int.Signed.{lt_z}
use Rattle.whole.specs.Below.{all_below, some_below}
use Rattle.whole.specs.Numbers.{within, eq_z, is_pos, is_neg}
use Rattle.whole.specs.Sums.{sum}
use Rattle.whole.specs.Values.{Values, pairs, total, whole, Le}
use Rattle.rules.specs.Sizes.{most_rows, largest_number, largest_numerator, largest_small}
use Rattle.rules.specs.Problem.{Problem, vars, problem, word}
use Rattle.rules.specs.Refusal.{first, problem_tests, too_short}
use Rattle.rules.specs.Limit.{Limit}

-- ---- the answer's parts; word 1 is not judged

abbrev pub verdict_of : List ℤ → ℤ
verdict_of a = word a 0

abbrev pub denominator_of : List ℤ → ℤ
denominator_of a = word a 2

-- numerators, or lower multipliers
abbrev pub lower_part : List ℤ → ℕ → ℤ
lower_part a v = word a (3 + v)

-- the small parts' numerators, or upper multipliers
abbrev pub upper_part : ℕ → List ℤ → ℕ → ℤ
upper_part N a v = word a (3 + N + v)

-- the two numerators of a value
abbrev pub pair_part : ℕ → List ℤ → ℕ → ℤ × ℤ
pair_part N a v = (lower_part a v, upper_part N a v)

-- at most the largest number
abbrev pub modest : ℤ → Bool
modest z = not (lt_z (pos largest_number) z)

-- ---- verdict 1

-- row i, of any values x for the variables
abbrev pub row_sum : {X Y : Type 0} → Values Y → Problem X → (ℕ → Y) → ℕ → Y
row_sum 𝓥 P x i = total 𝓥 P.n (λ j. 𝓥.scale (P.coefficient i j) (x j))

-- one pair is at most another, or strictly below it
abbrev pub clears : (strict : Bool) → ℤ × ℤ → ℤ × ℤ → Bool
clears true x y = pairs.less x y
clears false x y = not (pairs.less y x)

-- a numerator and its small part, over d, against the plain limit
unfoldable pub at_least : Option Limit → ℤ → ℤ × ℤ → Bool
at_least none d x = true
at_least (some l) d x = clears l.strict (d *ℤ l.plain, pos 0) x

unfoldable pub at_most : Option Limit → ℤ → ℤ × ℤ → Bool
at_most none d x = true
at_most (some u) d x = clears u.strict x (d *ℤ u.plain, pos 0)

-- right: d is the denominator, x and y are the numerators and their small parts
unfoldable pub right_can : Problem Limit → ℤ → (ℕ → ℤ) → (ℕ → ℤ) → Bool
right_can P d x y =
    is_pos d
    && all_below P.m (λ i. eq_z (x (P.n + i)) (row_sum whole P x i))
    && all_below P.m (λ i. eq_z (y (P.n + i)) (row_sum whole P y i))
    && all_below (vars P) (λ v. at_least (P.lower v) d (x v, y v) && at_most (P.upper v) d (x v, y v))

-- within the ranges
unfoldable pub ranged_can : Problem Limit → ℤ → (ℕ → ℤ) → (ℕ → ℤ) → Bool
ranged_can P d x y =
    modest d
    && all_below (vars P) (λ v. within largest_numerator (x v))
    && all_below (vars P) (λ v. within largest_small (y v))

unfoldable pub shows_can : Problem Limit → List ℤ → Bool
shows_can P a =
    let d : ℤ = denominator_of a in
    let x : ℕ → ℤ = lower_part a in
    let y : ℕ → ℤ = upper_part (vars P) a in
    right_can P d x y && ranged_can P d x y

-- ---- verdict 2

-- a limit's number, or 0 where it is missing
unfoldable pub plain_of : Option Limit → ℤ
plain_of none = pos 0
plain_of (some l) = l.plain

-- a multiplier is at least 0, and 0 where its limit is missing
unfoldable pub owed : Option Limit → ℤ → Bool
owed none k = eq_z k (pos 0)
owed (some l) k = not (is_neg k)

-- .. and in its range
abbrev pub fair : Option Limit → ℤ → Bool
fair o k = owed o k && modest k

-- a strict limit with a multiplier other than 0
unfoldable pub strict_named : Option Limit → ℤ → Bool
strict_named none k = false
strict_named (some l) k = l.strict && not (eq_z k (pos 0))

unfoldable pub column : {X : Type 0} → Problem X → (ℕ → ℤ) → ℕ → ℤ
column P y j = y j +ℤ sum P.m (λ i. P.coefficient i j *ℤ y (P.n + i))

unfoldable pub surplus : Problem Limit → (ℕ → ℤ) → (ℕ → ℤ) → ℤ
surplus P lo up = sum (vars P) (λ v. plain_of (P.lower v) *ℤ lo v -ℤ plain_of (P.upper v) *ℤ up v)

unfoldable pub some_strict : Problem Limit → (ℕ → ℤ) → (ℕ → ℤ) → Bool
some_strict P lo up = some_below (vars P) (λ v. strict_named (P.lower v) (lo v) || strict_named (P.upper v) (up v))

-- above 0, or 0 and a strict limit has a multiplier other than 0
unfoldable pub contradicts : ℤ → Bool → Bool
contradicts total strict = is_pos total || (eq_z total (pos 0) && strict)

-- right: d stands where the denominator does, lo and up are the multipliers of the lower and the upper limits
unfoldable pub right_cannot : Problem Limit → ℤ → (ℕ → ℤ) → (ℕ → ℤ) → Bool
right_cannot P d lo up =
    eq_z d (pos 0)
    && all_below (vars P) (λ v. owed (P.lower v) (lo v) && owed (P.upper v) (up v))
    && all_below P.n (λ j. eq_z (column P (λ v. lo v -ℤ up v) j) (pos 0))
    && contradicts (surplus P lo up) (some_strict P lo up)

-- within the ranges
unfoldable pub ranged_cannot : Problem Limit → (ℕ → ℤ) → (ℕ → ℤ) → Bool
ranged_cannot P lo up = all_below (vars P) (λ v. modest (lo v) && modest (up v))

unfoldable pub shows_cannot : Problem Limit → List ℤ → Bool
shows_cannot P a =
    let lo : ℕ → ℤ = lower_part a in
    let up : ℕ → ℤ = upper_part (vars P) a in
    right_cannot P (denominator_of a) lo up && ranged_cannot P lo up

-- ---- the checker: 1 to 6 and 10 by the problem, 7 too short, 8 accepted, 9 not

unfoldable pub accepted : Problem Limit → List ℤ → Bool
accepted P a =
    cond (eq_z (verdict_of a) (pos 1)) (shows_can P a)
    (cond (eq_z (verdict_of a) (pos 2)) (shows_cannot P a) false)

unfoldable pub checked : List ℤ → List ℤ → ℕ
checked ws a =
    first (problem_tests most_rows ws ++ ((too_short ws (length a), 7) ∷ (accepted (problem ws) a, 8) ∷ (true, 9) ∷ []))

-- ---- what it means: fractions over one positive denominator

abbrev pub AtLeast : {X : Type 0} → Values X → Option X → ℤ → X → Type 0
AtLeast 𝓥 none d x = Unit {0}
AtLeast 𝓥 (some l) d x = Le 𝓥 (𝓥.scale d l) x

abbrev pub AtMost : {X : Type 0} → Values X → Option X → ℤ → X → Type 0
AtMost 𝓥 none d x = Unit {0}
AtMost 𝓥 (some u) d x = Le 𝓥 x (𝓥.scale d u)

-- x solves the rows
abbrev pub Rows : {X Y : Type 0} → Values Y → Problem X → (ℕ → Y) → Type 0
Rows 𝓥 P x = (i : ℕ) → i < P.m → x (P.n + i) ≡ row_sum 𝓥 P x i

-- the fractions x v / d meet the rows and all limits
pub record Meets {X : Type 0} (𝓥 : Values X) (P : Problem X) (d : ℤ) (x : ℕ → X) : Type 0 where
  pub positive : pos 0 <ℤ d
  pub rows : Rows 𝓥 P x
  pub lowers : (v : ℕ) → v < vars P → AtLeast 𝓥 (P.lower v) d (x v)
  pub uppers : (v : ℕ) → v < vars P → AtMost 𝓥 (P.upper v) d (x v)

-- no fractions meet them
abbrev pub Unmet : {X : Type 0} → Values X → Problem X → Type 0
Unmet {X} 𝓥 P = (d : ℤ) (x : ℕ → X) → ¬ Meets 𝓥 P d x

-- ---- .. and of actual fractions, with the marks

abbrev pub Clears : Bool → ℤ → ℤ → Type 0
Clears true a b = a <ℤ b
Clears false a b = a ≤ℤ b

abbrev pub Above : Option Limit → ℤ → ℤ → Type 0
Above none d x = Unit {0}
Above (some l) d x = Clears l.strict (d *ℤ l.plain) x

abbrev pub Below : Option Limit → ℤ → ℤ → Type 0
Below none d x = Unit {0}
Below (some u) d x = Clears u.strict x (d *ℤ u.plain)

-- the fractions x v / d meet the rows and all limits, a strict one strictly
pub record Satisfies (P : Problem Limit) (d : ℤ) (x : ℕ → ℤ) : Type 0 where
  pub positive : pos 0 <ℤ d
  pub rows : Rows whole P x
  pub lowers : (v : ℕ) → v < vars P → Above (P.lower v) d (x v)
  pub uppers : (v : ℕ) → v < vars P → Below (P.upper v) d (x v)

-- some fractions do
abbrev pub Satisfiable : Problem Limit → Type 0
Satisfiable P = (d : ℤ) × (x : ℕ → ℤ) × Satisfies P d x

-- no fractions do
abbrev pub Unsatisfied : Problem Limit → Type 0
Unsatisfied P = (d : ℤ) (x : ℕ → ℤ) → ¬ Satisfies P d x
