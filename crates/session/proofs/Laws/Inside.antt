-- A value by the limits that are on.
--   inside-by      by the code's test: where they don't cross it is put inside them
--   inside-each    what holds of the value and of both limits holds of where it goes
use mathlib.Core.Bool.{Bool, true, false, cond, ◌&&◌}
use mathlib.Core.Path.{◌≡◌, ap, refl, subst, sym, ◌∙◌}
use lib.IntN.{ℤ}
use Rattle.whole.specs.Values.{pairs}
use Rattle.rules.specs.Limit.{Limit, lower_pair, present, upper_pair}
use Rattle.rules.specs.Problem.{mapped}
use Rattle.rules.specs.Run.{crossed}
use Rattle.rules.specs.Runs.Session.{inside}
use Rattle.amounts.specs.declared.Given.{Given}
use Rattle.amounts.specs.Amounts.{given_lower, given_upper, put_inside}
use Rattle.sides.specs.Sides.{least_in, most_in}

module _ (g h : Given) (x : ℤ × ℤ) where
  inside_is : inside pairs (least_in g) (most_in h) x
      ≡ cond (crossed pairs (least_in g) (most_in h)) x (put_inside g h x)
  unfolding inside crossed present mapped put_inside
  inside_is = go g.on h.on
    where
      l : Limit
      l = record { plain = g.plain; strict = g.strict }

      u : Limit
      u = record { plain = h.plain; strict = h.strict }

      go : (a b : Bool) → inside pairs (mapped lower_pair (present a l)) (mapped upper_pair (present b u)) x
          ≡ cond (crossed pairs (mapped lower_pair (present a l)) (mapped upper_pair (present b u))) x
          (cond (a && pairs.less x (given_lower g)) (given_lower g)
          (cond (b && pairs.less (given_upper h) x) (given_upper h) x))
      go true true = refl
      go true false = refl
      go false true = refl
      go false false = refl

  pub inside-by : (b : Bool) → crossed pairs (least_in g) (most_in h) ≡ b →
      cond b x (put_inside g h x) ≡ inside pairs (least_in g) (most_in h) x
  inside-by b e = sym (inside_is ∙ ap (λ d. cond d x (put_inside g h x)) e)

  pub inside-each : (Q : ℤ × ℤ → Type 0) → Q x → Q (given_lower g) → Q (given_upper h) →
      Q (inside pairs (least_in g) (most_in h) x)
  unfolding put_inside
  inside-each Q p q r = subst Q (sym inside_is)
      (each (crossed pairs (least_in g) (most_in h)) p
      (each (g.on && pairs.less x (given_lower g)) q (each (h.on && pairs.less (given_upper h) x) r p)))
    where
      each : (b : Bool) {y z : ℤ × ℤ} → Q y → Q z → Q (cond b y z)
      each true m n = m
      each false m n = n
