-- docs/RULES.md, "The run": the start, the leaving and the entering variable, and one step. X is the type of values.
use Rattle.std.specs.Prelude.{Bool, true, false, cond, List, ℕ, zero, suc, ◌-◌, ℤ, pos, negsuc, neg_ℤ, get_or, set, ltb}
use Rattle.std.specs.Prelude.{eqb}
use Rattle.std.proofs.Math.Option.{Option, none, some}
use Rattle.whole.specs.Below.{lowest}
use Rattle.whole.specs.Numbers.{is_pos}
use Rattle.whole.specs.Tables.{table, matrix}
use Rattle.whole.specs.Values.{Values, total}
use Rattle.rules.specs.Problem.{Problem, vars}
use Rattle.rules.specs.Tableau.{Tableau, entry, relation, pivot, small}

-- Seat v is `none` where v is basic, and `some x` where it is nonbasic with the value x: the seats are the arrangement.
pub record State (X : Type 0) : Type 0 where
  pub tableau : Tableau
  pub seats : List (Option X)

abbrev pub seat : {X : Type 0} → State X → ℕ → Option X
seat s v = get_or s.seats v none

abbrev pub common : {X : Type 0} → State X → ℤ
common s = s.tableau.common

-- below its lower limit, so it must rise; above its upper limit, so it must fall
pub data Side : Type 0 where
  below above : Side

-- the leaving variable, the side on which it is outside, and by how much, over D
pub record Leaving (X : Type 0) : Type 0 where
  pub variable : ℕ
  pub side : Side
  pub shortfall : X

abbrev pub leaves : {X : Type 0} → ℕ → Side → X → Leaving X
leaves v σ x = record { variable = v; side = σ; shortfall = x }

-- the entry, with its sign swapped where the leaving variable must fall
unfoldable pub pull : Side → ℤ → ℤ
pull below a = a
pull above a = neg_ℤ a

-- 1 where the two are the same
abbrev pub same : ℕ → ℕ → ℤ
same v w = cond (eqb v w) (pos 1) (pos 0)

-- at the start a problem variable is itself, and a row's variable is its sum over them
unfoldable pub start_entry : {X : Type 0} → Problem X → ℕ → ℕ → ℤ
start_entry P v w = cond (ltb v P.n) (same v w) (cond (ltb w P.n) (P.coefficient (v - P.n) w) (pos 0))

-- what one step comes to: the three endings, or the next state
pub data Outcome (X : Type 0) : Type 0 where
  can : Outcome X
  cannot : (lowers uppers : List ℤ) → Outcome X
  range : Outcome X
  goes : State X → Outcome X

abbrev pub positive : ℤ → ℤ
positive z = cond (is_pos z) z (pos 0)

-- The multipliers, from the relation y of the violated row, turned to rise. It is -D at the violated variable, whose
-- lower limit gets D; a variable that would have had to increase has an entry above 0 there, which its upper limit
-- gets; one to decrease an entry below 0, for its lower limit.
unfoldable pub evidence : {X : Type 0} → ℕ → Side → (ℕ → ℤ) → Outcome X
evidence N side y = cannot (table N (λ v. positive (neg_ℤ (pull side (y v)))))
    (table N (λ v. positive (pull side (y v))))

unfoldable pub admit : {X : Type 0} → ℕ → State X → Outcome X
admit N s = elim (small N s.tableau) [ true ↦ goes s | false ↦ range ]

module _ {X : Type 0} (𝓥 : Values X) where
  open 𝓥 use {nil, plus, scale, less}

  -- a nonbasic variable's value; for a basic one 0 stands, which counts for nothing, as its entries are 0
  unfoldable pub seated : Option X → X
  seated none = nil
  seated (some x) = x

  -- D times the value of v
  unfoldable pub scaled : Problem X → State X → ℕ → X
  scaled P s v = total 𝓥 (vars P) (λ w. scale (entry s.tableau v w) (seated (seat s w)))

  -- ---- the start

  -- 0 where the limits allow it, else the lower one where that is above 0, else the upper one
  unfoldable pub start_value : Option X → Option X → X
  start_value none none = nil
  start_value none (some u) = cond (less u nil) u nil
  start_value (some l) none = cond (less nil l) l nil
  start_value (some l) (some u) = cond (less nil l) l (cond (less u nil) u nil)

  unfoldable pub start_seat : Problem X → ℕ → Option X
  start_seat P v = cond (ltb v P.n) (some (start_value (P.lower v) (P.upper v))) none

  unfoldable pub start : Problem X → State X
  start P = record {
    tableau = record { common = pos 1; rows = matrix (vars P) (start_entry P) };
    seats = table (vars P) (start_seat P);
  }

  -- ---- the leaving variable: the lowest-numbered basic one outside its limits

  -- D, and D times a value, against a limit that may be missing
  unfoldable pub under : ℤ → X → Option X → Bool
  under d x none = false
  under d x (some l) = less x (scale d l)

  unfoldable pub over : ℤ → X → Option X → Bool
  over d x none = false
  over d x (some u) = less (scale d u) x

  -- x less y
  abbrev pub gap : X → X → X
  gap x y = plus x (scale (negsuc 0) y)

  -- how far D times the value is outside D times the limit on a side: below, the limit less the value; above, the value
  -- less the limit
  unfoldable pub shortfall_by : ℤ → X → Option X → Option X → Side → X
  shortfall_by d x l u below = gap (scale d (seated l)) x
  shortfall_by d x l u above = gap x (scale d (seated u))

  -- .. of variable v
  abbrev pub shortfall_of : Problem X → State X → ℕ → Side → X
  shortfall_of P s v = shortfall_by (common s) (scaled P s v) (P.lower v) (P.upper v)

  unfoldable pub broken : Problem X → State X → ℕ → Option X → Option (Leaving X)
  broken P s v (some x) = none
  broken P s v none =
      elim (under (common s) (scaled P s v) (P.lower v)) [
        | true ↦ some (leaves v below (shortfall_of P s v below))
        | false ↦
            elim (over (common s) (scaled P s v) (P.upper v)) [
              | true ↦ some (leaves v above (shortfall_of P s v above))
              | false ↦ none
            ]
      ]

  unfoldable pub leaving : Problem X → State X → Option (Leaving X)
  leaving P s = lowest (vars P) (λ v. broken P s v (seat s v))

  -- ---- the entering variable: the smallest-numbered nonbasic one that can move the right way

  -- nothing stops x from increasing: an upper limit is missing, or above it; and from decreasing
  unfoldable pub may_rise : X → Option X → Bool
  may_rise x none = true
  may_rise x (some u) = less x u

  unfoldable pub may_fall : X → Option X → Bool
  may_fall x none = true
  may_fall x (some l) = less l x

  -- by the sign of its entry, turned to rise
  unfoldable pub suits : ℤ → Option X → Option X → Option X → Bool
  suits a none l u = false
  suits (pos zero) (some x) l u = false
  suits (pos (suc k)) (some x) l u = may_rise x u
  suits (negsuc k) (some x) l u = may_fall x l

  unfoldable pub entering : Problem X → State X → Leaving X → Option ℕ
  entering P s r = lowest (vars P) (λ w.
      cond (suits (pull r.side (entry s.tableau r.variable w)) (seat s w) (P.lower w) (P.upper w))
      (some w) none)

  -- ---- one step

  -- the limit that the leaving variable violates
  unfoldable pub limit_at : Problem X → Leaving X → X
  limit_at P r = elim r.side [ below ↦ seated (P.lower r.variable) | above ↦ seated (P.upper r.variable) ]

  -- the pivot; w becomes basic, and the leaving variable is nonbasic at the limit that it violated
  unfoldable pub moved : Problem X → State X → Leaving X → ℕ → State X
  moved P s r w = record {
    tableau = pivot (vars P) s.tableau r.variable w;
    seats = set (set s.seats w none) r.variable (some (limit_at P r));
  }

  unfoldable pub step : Problem X → State X → Outcome X
  step P s = elim (leaving P s) [
    | none ↦ can
    | some r ↦
        elim (entering P s r) [
          | none ↦ evidence (vars P) r.side (relation s.tableau r.variable)
          | some w ↦ admit (vars P) (moved P s r w)
        ]
  ]
