-- docs/RULES.md, "The run", "A step": who leaves, who enters and what moves, in plain words and with no search inside.
--   Left P s r       r's variable is basic and outside on r's side, and no lower basic variable is outside
--   Entered P s r w  w is nonbasic and may move the right way, and no lower one may
--   Stuck            a nonbasic variable that may not
--   Swap             what one step does to the seats
-- The searches of specs/Step find exactly these (`leaving-exactly`, `entering-exactly`).
use Rattle.std.specs.Prelude.{◌≢◌, ◌≡◌, ℕ, ◌<◌, pos, ℤ, ◌<ℤ◌}
use Rattle.std.proofs.Math.Option.{Option, none, some}
use Rattle.whole.specs.Values.{Le, Lt, Values}
use Rattle.rules.specs.Problem.{Problem, vars}
use Rattle.rules.specs.Step.{Leaving, Side, State, above, below, common, limit_at, pull, scaled, seat, shortfall_of}
use Rattle.rules.specs.Tableau.{entry}

module _ {X : Type 0} (𝓥 : Values X) where
  -- ---- who leaves

  -- within both of its limits; its value, like the limits, is taken times D
  pub record Inside (P : Problem X) (s : State X) (v : ℕ) : Type 0 where
    pub low : (l : X) → P.lower v ≡ some l → Le 𝓥 (𝓥.scale (common s) l) (scaled 𝓥 P s v)
    pub high : (u : X) → P.upper v ≡ some u → Le 𝓥 (scaled 𝓥 P s v) (𝓥.scale (common s) u)

  -- outside its limit on that side, which is x
  pub data Outside (P : Problem X) (s : State X) (v : ℕ) : Side → X → Type 0 where
    too-low : {l : X} → P.lower v ≡ some l → Lt 𝓥 (scaled 𝓥 P s v) (𝓥.scale (common s) l) → Outside P s v below l
    too-high : {u : X} → P.upper v ≡ some u → Lt 𝓥 (𝓥.scale (common s) u) (scaled 𝓥 P s v) → Outside P s v above u

  -- the lowest basic variable that is outside, on which side and by how much
  pub record Left (P : Problem X) (s : State X) (r : Leaving X) : Type 0 where
    pub variable : r.variable < vars P
    pub exact : r.shortfall ≡ shortfall_of 𝓥 P s r.variable r.side
    pub was-basic : seat s r.variable ≡ none
    pub outside : Outside P s r.variable r.side (limit_at 𝓥 P r)
    pub inside : (u : ℕ) → u < r.variable → seat s u ≡ none → Inside P s u

  -- ---- who enters

  -- w, seated at x, with the entry a (turned to rise), may move the right way
  pub data Suits (P : Problem X) (w : ℕ) (a : ℤ) (x : X) : Type 0 where
    may-go-up : pos 0 <ℤ a → ((u : X) → P.upper w ≡ some u → Lt 𝓥 x u) → Suits P w a x
    may-go-down : a <ℤ pos 0 → ((l : X) → P.lower w ≡ some l → Lt 𝓥 l x) → Suits P w a x

  -- .. or has a limit on that way, and is at it or beyond
  pub record Stuck (P : Problem X) (w : ℕ) (a : ℤ) (x : X) : Type 0 where
    pub no-rise : pos 0 <ℤ a → (u : X) × (P.upper w ≡ some u) × Le 𝓥 u x
    pub no-fall : a <ℤ pos 0 → (l : X) × (P.lower w ≡ some l) × Le 𝓥 x l

  -- the lowest nonbasic variable that may
  pub record Entered (P : Problem X) (s : State X) (r : Leaving X) (w : ℕ) : Type 0 where
    pub variable : w < vars P
    pub value : X
    pub was-seated : seat s w ≡ some value
    pub suits : Suits P w (pull r.side (entry s.tableau r.variable w)) value
    pub stuck : (u : ℕ) (x : X) → u < w → seat s u ≡ some x →
        Stuck P u (pull r.side (entry s.tableau r.variable u)) x

-- ---- what moves

-- one step: l leaves and gets the value x, e enters, and no other seat changes
pub record Swap {X : Type 0} (before after : ℕ → Option X) (l e : ℕ) (x : X) : Type 0 where
  pub was-basic : before l ≡ none
  pub set_to : after l ≡ some x
  pub was-seated : (y : X) × (before e ≡ some y)
  pub now-basic : after e ≡ none
  pub others : (v : ℕ) → v ≢ l → v ≢ e → after v ≡ before v
