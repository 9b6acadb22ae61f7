-- The searches follow the rule in plain words (specs/Facts/Rule: `Left`, `Entered`, `Stuck`): who leaves, and who
-- enters.
--   leaving-of             whoever is so leaves; a variable above its upper limit must not be below its lower one too
--   leaving-exactly        `leaving` gives r exactly then, where no limits cross
--   none-leaving-exactly   it gives none exactly where every basic variable is inside
--   entering-exactly, none-entering-exactly    likewise for `entering`
--   limit-exactly          the value that the leaving variable takes is the violated limit
-- What moves is `swap` (Step/Entering.antt): the leaving variable has that value, the entering one is basic, nothing
-- else moves.
use mathlib.Core.Bool.{false}
use mathlib.Core.Logic.{◌↔◌}
use mathlib.Core.Option.{Option, none, some}
use mathlib.Core.Path.{ap, refl, sym, ◌∙◌, ◌≡◌}
use Prim.Native.Nat.{ℕ, ◌<◌}
use lib.IntN.{pos, ℤ}
use lib.Signed.{◌<ℤ◌}
use Rattle.whole.proofs.Lists.Below.{lowest-empty, lowest-is, lowest-passes, none_passes}
use Rattle.whole.proofs.Bools.{zero_one}
use Rattle.whole.proofs.Tells.{tells-false, tells-true}
use Rattle.whole.proofs.Values.Laws.{le-le, up, weaken}
use Rattle.whole.specs.Values.{Laws, Le, Lt, Values}
use Rattle.rules.proofs.Step.Entering.{entered, none-enters, suits-tells}
use Rattle.rules.proofs.Step.Gaps.{gap_more}
use Rattle.rules.proofs.Step.Leaving.{left, none-leaves, over-tells, under-tells}
use Rattle.rules.specs.Keeping.Limits.{limit_of}
use Rattle.rules.specs.Problem.{Problem, vars}
use Rattle.rules.specs.Facts.Rule.{Entered, Inside, Left, Outside, Stuck, too-high, too-low}
use Rattle.rules.specs.Facts.State.{Apart}
use Rattle.rules.specs.Step.{Leaving, Side, State, above, below, broken, common, entering, leaves, leaving}
use Rattle.rules.specs.Step.{limit_at, pull, scaled, seat, seated, shortfall_by, shortfall_of, suits}
use Rattle.rules.specs.Tableau.{entry}

module _ {X : Type 0} (𝓥 : Values X) where
  -- ---- who leaves

  -- not below its lower limit
  abbrev NotUnder : Problem X → State X → ℕ → Type 0
  NotUnder P s v = (l : X) → P.lower v ≡ some l → Le 𝓥 (𝓥.scale (common s) l) (scaled 𝓥 P s v)

  module _ (P : Problem X) (s : State X) where
    -- a variable that is not outside
    broken-seated : (v : ℕ) (x : X) → seat s v ≡ some x → broken 𝓥 P s v (seat s v) ≡ none
    unfolding broken
    broken-seated v x e = rw e refl

    broken-inside : (v : ℕ) → Inside 𝓥 P s v → broken 𝓥 P s v none ≡ none
    unfolding broken
    broken-inside v I =
        let p = tells-false (under-tells 𝓥 (common s) (scaled 𝓥 P s v) (P.lower v)) I.low in
        let q = tells-false (over-tells 𝓥 (common s) (scaled 𝓥 P s v) (P.upper v)) I.high in
        rw (p, broken) (rw q refl)

    not-broken : (v : ℕ) → (seat s v ≡ none → Inside 𝓥 P s v) → broken 𝓥 P s v (seat s v) ≡ none
    not-broken v I = go (seat s v) refl
      where
        go : (o : Option X) → seat s v ≡ o → broken 𝓥 P s v (seat s v) ≡ none
        go none e = rw e (broken-inside v (I e))
        go (some x) e = broken-seated v x e

    -- a variable that is outside on a side
    broken-side : (v : ℕ) (σ : Side) (x : X) → Outside 𝓥 P s v σ x → (σ ≡ above → NotUnder P s v) →
        broken 𝓥 P s v none ≡ some (leaves v σ (shortfall_of 𝓥 P s v σ))
    unfolding broken
    broken-side v below x (too-low e h) n =
        let p = tells-true (under-tells 𝓥 (common s) (scaled 𝓥 P s v) (P.lower v)) (x, e, h) in rw (p, broken) refl
    broken-side v above x (too-high e h) n =
        let p = tells-false (under-tells 𝓥 (common s) (scaled 𝓥 P s v) (P.lower v)) (n refl) in
        let q = tells-true (over-tells 𝓥 (common s) (scaled 𝓥 P s v) (P.upper v)) (x, e, h) in
        rw (p, broken) (rw q refl)

    leaving-of : (r : Leaving X) → Left 𝓥 P s r → (r.side ≡ above → NotUnder P s r.variable) →
        leaving 𝓥 P s ≡ some r
    unfolding leaving
    leaving-of r L n = lowest-is (vars P) r.variable _ r L.variable
        (rw L.was-basic (broken-side r.variable r.side (limit_at 𝓥 P r) L.outside n
        ∙ ap (λ x. some (leaves r.variable r.side x)) (sym L.exact)))
        (λ u h. not-broken u (L.inside u h))

    pub none-leaving-exactly : (leaving 𝓥 P s ≡ none) ↔ ((v : ℕ) → v < vars P → seat s v ≡ none → Inside 𝓥 P s v)
    unfolding leaving
    none-leaving-exactly = (none-leaves 𝓥 P s, λ I. lowest-empty (vars P) _ (λ v h. not-broken v (I v h)))

  -- where no limits cross, nothing is both above its upper limit and below its lower one
  pub leaving-exactly : Laws 𝓥 → (P : Problem X) (s : State X) → Apart 𝓥 P → pos 0 <ℤ common s → (r : Leaving X) →
      (leaving 𝓥 P s ≡ some r) ↔ Left 𝓥 P s r
  leaving-exactly law P s A d r = (left 𝓥 P s r, λ L. leaving-of P s r L (λ e. above-only L.variable L.outside e))
    where
      above-only : r.variable < vars P → {σ : Side} {x : X} → Outside 𝓥 P s r.variable σ x → σ ≡ above →
          NotUnder P s r.variable
      above-only k (too-low q h) e = let z : ◌≡◌ {A = ℕ} 0 1 = cc in zero_one z
      above-only k (too-high {u} q h) e = λ l m. le-le law (up law d (A r.variable l u k m q)) (weaken law h)

  -- ---- who enters

  module _ (P : Problem X) (s : State X) (r : Leaving X) where
    abbrev turned-entry : ℕ → ℤ
    turned-entry u = pull r.side (entry s.tableau r.variable u)

    not-suited : (u : ℕ) → ((x : X) → seat s u ≡ some x → Stuck 𝓥 P u (turned-entry u) x) →
        suits 𝓥 (turned-entry u) (seat s u) (P.lower u) (P.upper u) ≡ false
    unfolding suits
    not-suited u S = go (seat s u) refl
      where
        go : (o : Option X) → seat s u ≡ o → suits 𝓥 (turned-entry u) (seat s u) (P.lower u) (P.upper u) ≡ false
        go none e = rw e refl
        go (some x) e = rw e (tells-false (suits-tells 𝓥 P u (turned-entry u) x) (S x e))

    pub entering-exactly : (w : ℕ) → (entering 𝓥 P s r ≡ some w) ↔ Entered 𝓥 P s r w
    unfolding entering
    entering-exactly w = (
      entered 𝓥 P s r w,
      λ E. (lowest-passes (vars P) _ w).1 (
        E.variable,
        rw E.was-seated (tells-true (suits-tells 𝓥 P w (turned-entry w) E.value) E.suits),
        λ u h. not-suited u (λ x q. E.stuck u x h q),
      ),
    )

    pub none-entering-exactly : (entering 𝓥 P s r ≡ none)
        ↔ ((u : ℕ) (x : X) → u < vars P → seat s u ≡ some x →
        Stuck 𝓥 P u (pull r.side (entry s.tableau r.variable u)) x)
    unfolding entering
    none-entering-exactly = (
      none-enters 𝓥 P s r,
      λ S. (none_passes (vars P) _).1 (λ u h. not-suited u (λ x q. S u x h q)),
    )

  -- the leaving variable's value afterwards is the limit that it violates
  pub limit-exactly : (P : Problem X) (s : State X) (r : Leaving X) → Left 𝓥 P s r →
      limit_of P r.side r.variable ≡ some (limit_at 𝓥 P r)
  limit-exactly P s r L = go L.outside
    where
      go : {v : ℕ} {σ : Side} {x : X} → Outside 𝓥 P s v σ x → limit_of P σ v ≡ some x
      go (too-low e h) = e
      go (too-high e h) = e

-- ---- by how much: D times the limit and D times the value are that far apart, and it is above 0

module _ {X : Type 0} (𝓥 : Values X) (law : Laws 𝓥) (P : Problem X) (s : State X) where
  positive-by : {v : ℕ} {σ : Side} {x : X} → Outside 𝓥 P s v σ x → Lt 𝓥 𝓥.nil (shortfall_of 𝓥 P s v σ)
  unfolding shortfall_by seated
  positive-by {v} (too-low {l} e h) =
      gap_more 𝓥 law (𝓥.scale (common s) (seated 𝓥 (P.lower v))) (scaled 𝓥 P s v) ∙ (rw e h)
  positive-by {v} (too-high {u} e h) =
      gap_more 𝓥 law (scaled 𝓥 P s v) (𝓥.scale (common s) (seated 𝓥 (P.upper v))) ∙ (rw e h)

  pub shortfall-positive : (r : Leaving X) → Left 𝓥 P s r → Lt 𝓥 𝓥.nil r.shortfall
  shortfall-positive r L = rw L.exact (positive-by L.outside)
