-- `reader::limits::variable` meets its contract. The loop's invariant: no variable passed has the name that stands
-- there. The measure is the variables that are left. Assumes nothing.
use mathlib.Core.Bool.{Bool, true, false, ◌&&◌}
use mathlib.Core.List.{List}
use Rattle.std.specs.Prelude.{Ok}
use mathlib.Core.Path.{◌≡◌, sym, ◌∙◌, ap}
use Prim.Native.Nat.{ℕ, ◌+◌, ◌≤◌, ◌<◌}
use native.Mathlib.Decide.{dec_lt}
use native.Mathlib.Omega.{arith}
use borrow.Author.Tests.{le-leb, lt-leb}
use Rattle.rules.specs.Exchange.Script.{name_of}
use Rattle.tokens.specs.Followed.{Followed}
use Rattle.reader.specs.Flow.{next_is}
use Rattle.reader.proofs.Laws.Bounds.{name_stands, variable-found, variable-none}
use Rattle.reader.proofs.limits.variable.Goals as goal

-- one variable more that has another name
more-passed : (f : ℕ → Bool) (v : ℕ) → ((u : ℕ) → u < v → f u ≡ false) → f v ≡ false →
    (u : ℕ) → u < v + 1 → f u ≡ false
more-passed f v h e u l = go (dec_lt u v)
  where
    go : Dec (u < v) → f u ≡ false
    go (yes q) = h u q
    go (no q) = ap f (let z : u ≡ v = omega arith in z) ∙ e

named-as : (t : List ℕ) (so : Followed) (n from most v : ℕ) (b : Bool) → from ≤ v → next_is t so (name_of n v) ≡ b →
    name_stands t so n from most v ≡ b
named-as t so n from most v b h e = ap (λ d. d && next_is t so (name_of n v)) (le-leb from v h) ∙ e

pub loop-v-init : goal.loop-v-init
loop-v-init c =
    let a = c.args in (
      omega arith,
      λ u l. ap (λ d. d && next_is a.text.now (Ok a.at) (name_of a.columns u)) (lt-leb a.from u l),
    )

pub returns-then-is_variable : goal.returns-then-is_variable
returns-then-is_variable c =
    let a = c.args in (
      omega arith,
      variable-found a.text.now (Ok a.at) a.columns a.from a.most c.loop-v.v (omega arith)
          (named-as a.text.now (Ok a.at) a.columns a.from a.most c.loop-v.v true c.loop-v.invariant.0
          (sym c.is_variable.ensures ∙ c.if-is_variable.true))
          c.loop-v.invariant.1,
    )

pub loop-v-preserved : goal.loop-v-preserved
loop-v-preserved c =
    let a = c.args in (
      omega arith,
      more-passed (name_stands a.text.now (Ok a.at) a.columns a.from a.most) c.loop-v.v c.loop-v.invariant.1
          (named-as a.text.now (Ok a.at) a.columns a.from a.most c.loop-v.v false c.loop-v.invariant.0
          (sym c.is_variable.ensures ∙ c.if-is_variable.false)),
    )

pub returns : goal.returns
returns c =
    let a = c.args in
    variable-none a.text.now (Ok a.at) a.columns a.from a.most
    (λ u h. c.loop-v.invariant.1 u (omega arith))
