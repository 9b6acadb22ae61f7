-- docs/RULES.md, "The run", "What a tableau is": what is known of a state. Theorems on runs and sessions say this of
-- it, or ask it.
--   Rowed     rows and columns hold; limits play no part
--   Housed    a nonbasic variable whose limits do not cross sits within them
--   Kept      D and the entries are in lowest common form and in range, and n variables are nonbasic
--   Ready     Rowed and Housed, n nonbasic: a state from which a check may start
--   Sound     Rowed, and every nonbasic variable within its limits
use Rattle.std.specs.Prelude.{false, true, List, [], ◌∷◌, ◌≢◌, ◌≡◌, suc, ℕ, ◌<◌, pos, ℤ, ◌*ℤ◌, length, ◌<ℤ◌}
use Rattle.std.proofs.Math.Option.{Option, none, some}
use Rattle.whole.specs.Sums.{sum}
use Rattle.whole.specs.Values.{Le, Values, whole}
use Rattle.rules.specs.Evidence.{Rows}
use Rattle.rules.specs.Problem.{Problem, vars}
use Rattle.rules.specs.Run.{crossed}
use Rattle.rules.specs.Step.{State, common, seat}
use Rattle.rules.specs.Tableau.{divisor_size, entry, small}

module _ {X : Type 0} where
  -- how many variables are nonbasic
  abbrev pub how_many_seated : List (Option X) → ℕ
  how_many_seated [] = 0
  how_many_seated (none ∷ l) = how_many_seated l
  how_many_seated (some x ∷ l) = suc (how_many_seated l)

module _ {X : Type 0} (𝓥 : Values X) where
  -- no variable's limits cross
  abbrev pub Apart : Problem X → Type 0
  Apart P = (v : ℕ) (l u : X) → v < vars P → P.lower v ≡ some l → P.upper v ≡ some u → Le 𝓥 l u

  -- the rows and columns hold; no limits in it
  pub record Rowed (P : Problem X) (s : State X) : Type 0 where
    pub seats-many : length s.seats ≡ vars P
    pub positive : pos 0 <ℤ common s
    -- each column solves the rows, and each solution of the rows obeys the tableau
    pub columns : (w : ℕ) → w < vars P → Rows whole P (λ v. entry s.tableau v w)
    pub holds : (x : ℕ → ℤ) → Rows whole P x → (v : ℕ) → v < vars P →
        common s *ℤ x v ≡ sum (vars P) (λ u. entry s.tableau v u *ℤ x u)
    pub basic-zero : (v w : ℕ) → v < vars P → w < vars P → seat s w ≡ none → entry s.tableau v w ≡ pos 0
    pub own : (v : ℕ) (x : X) → v < vars P → seat s v ≡ some x → entry s.tableau v v ≡ common s
    pub own-zero : (v w : ℕ) (x : X) → v < vars P → w < vars P → seat s v ≡ some x → w ≢ v →
        entry s.tableau v w ≡ pos 0

  -- a nonbasic variable whose limits do not cross sits within them
  pub record Housed (P : Problem X) (s : State X) : Type 0 where
    pub low : (v : ℕ) (x l : X) → v < vars P → crossed 𝓥 (P.lower v) (P.upper v) ≡ false → seat s v ≡ some x →
        P.lower v ≡ some l → Le 𝓥 l x
    pub high : (v : ℕ) (x u : X) → v < vars P → crossed 𝓥 (P.lower v) (P.upper v) ≡ false → seat s v ≡ some x →
        P.upper v ≡ some u → Le 𝓥 x u

  -- the numbers: lowest common form, none too large, and n variables nonbasic
  pub record Kept (P : Problem X) (s : State X) : Type 0 where
    pub lowest-form : divisor_size (vars P) s.tableau ≡ 1
    pub in-range : small (vars P) s.tableau ≡ true
    pub seated-many : how_many_seated s.seats ≡ P.n

  -- a state from which a check may start, whether limits cross or not
  pub record Ready (P : Problem X) (s : State X) : Type 0 where
    pub rowed : Rowed P s
    pub housed : Housed P s
    pub seated-many : how_many_seated s.seats ≡ P.n

  -- rows that hold, and every nonbasic variable within its limits
  pub record Sound (P : Problem X) (s : State X) : Type 0 where
    pub rowed : Rowed P s
    pub lowers : (v : ℕ) (x l : X) → v < vars P → seat s v ≡ some x → P.lower v ≡ some l → Le 𝓥 l x
    pub uppers : (v : ℕ) (x u : X) → v < vars P → seat s v ≡ some x → P.upper v ≡ some u → Le 𝓥 x u
