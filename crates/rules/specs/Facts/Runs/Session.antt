-- docs/RULES.md, "Switching limits", in plain words: what opening, a switch and a check do, and what is known of every
-- session that is handed back.
--   Opens                    what opening leaves
--   switch_table, Switches    when a switch is refused (specs/Facts/Refusal), and what one that is not changes
--   Lands                    where a nonbasic variable goes after a switch
--   check_table               when a check is refused
--   Fair, Sworn              what every session handed back has: a check may start from it, and its flags are right
--   live_problem              the problem that a check is about
use Rattle.std.specs.Prelude.{Bool, false, true, List, [], ◌∷◌, ◌↔◌, ◌≢◌, ◌⊎◌, ◌≡◌, ℕ, ◌*◌, ◌+◌, ◌<◌, ◌≤◌, pos, ℤ}
use Rattle.std.specs.Prelude.{length}
use Rattle.std.proofs.Math.Option.{Option, none, some}
use Rattle.whole.specs.Values.{Le, Lt, Values}
use Rattle.rules.specs.Facts.Refusal.{Line, line_of}
use Rattle.rules.specs.Facts.State.{Housed, Kept, Rowed}
use Rattle.rules.specs.Keeping.Limits.{keeping, limit_of}
use Rattle.rules.specs.Limit.{Limit}
use Rattle.rules.specs.Problem.{Problem, problem, vars}
use Rattle.rules.specs.Run.{crossed}
use Rattle.rules.specs.Runs.Session.{Session, is_on, live_of}
use Rattle.rules.specs.Step.{Side, common, seat, start_entry}
use Rattle.rules.specs.Tableau.{entry}

-- ---- opening

module _ {X : Type 0} (𝓥 : Values X) (P : Problem X) where
  -- every limit off, every problem variable nonbasic at 0, every row's variable basic, over 1
  pub record Opens (A : Session X) : Type 0 where
    pub given_is : A.given ≡ P
    pub all-off : (σ : Side) (v : ℕ) → is_on A σ v ≡ false
    -- also where its limits exclude 0
    pub problem-zero : (v : ℕ) → v < P.n → seat A.state v ≡ some 𝓥.nil
    pub row-basic : (v : ℕ) → P.n ≤ v → v < vars P → seat A.state v ≡ none
    pub over-one : common A.state ≡ pos 1
    pub entries : (v w : ℕ) → v < vars P → w < vars P → entry A.state.tableau v w ≡ start_entry P v w

-- ---- what every session has that is handed back

module _ {X : Type 0} (𝓥 : Values X) where
  -- a check may start from it, whatever is on
  pub record Fair (A : Session X) : Type 0 where
    pub rowed : Rowed 𝓥 (live_of A) A.state
    pub housed : Housed 𝓥 (live_of A) A.state
    pub kept : Kept 𝓥 (live_of A) A.state

  -- as many flags as variables, and a limit that is on is there
  pub record Sworn (A : Session X) : Type 0 where
    pub lowers-many : length A.lowers_on ≡ vars A.given
    pub uppers-many : length A.uppers_on ≡ vars A.given
    pub there : (σ : Side) (v : ℕ) → is_on A σ v ≡ true → (l : X) × (limit_of A.given σ v ≡ some l)

  -- ---- a switch

  -- from x to y, by limits o and p that may be missing: to the limit that it is outside of, while the two do not cross;
  -- else it stays
  pub data Lands (o p : Option X) (x y : X) : Type 0 where
    to-lower : (l : X) → o ≡ some l → crossed 𝓥 o p ≡ false → Lt 𝓥 x l → y ≡ l → Lands o p x y
    to-upper : (u : X) → p ≡ some u → crossed 𝓥 o p ≡ false → Lt 𝓥 u x → y ≡ u → Lands o p x y
    stays-crossed : crossed 𝓥 o p ≡ true → y ≡ x → Lands o p x y
    stays_within : ((l : X) → o ≡ some l → Le 𝓥 l x) → ((u : X) → p ≡ some u → Le 𝓥 x u) → y ≡ x → Lands o p x y

-- 41 to 44
module _ {X : Type 0} (A : Session X) (v : ℕ) (σ : Side) (on : Bool) where
  abbrev pub switch_table : List Line
  switch_table =
      line_of 41 (vars A.given ≤ v) (v < vars A.given)
      ∷ line_of 42 (limit_of A.given σ v ≡ none) ((l : X) × (limit_of A.given σ v ≡ some l))
      ∷ line_of 43 ((on ≡ true) × (is_on A σ v ≡ true)) ((on ≡ false) ⊎ (is_on A σ v ≡ false))
      ∷ line_of 44 ((on ≡ false) × (is_on A σ v ≡ false)) ((on ≡ true) ⊎ (is_on A σ v ≡ true)) ∷ []

module _ {X : Type 0} (𝓥 : Values X) (A : Session X) (v : ℕ) (σ : Side) (on : Bool) where
  -- a switch that is not refused makes C of A
  pub record Switches (C : Session X) : Type 0 where
    pub given_stays : C.given ≡ A.given
    pub tableau-stays : C.state.tableau ≡ A.state.tableau
    pub flag : Sworn 𝓥 A → v < vars A.given → is_on C σ v ≡ on
    pub flags-stay : (τ : Side) (w : ℕ) → (τ ≡ σ → w ≢ v) → is_on C τ w ≡ is_on A τ w
    -- a basic variable stays basic, and a nonbasic one is where it was or goes to a limit, by those that are on now
    pub basic-exactly : (w : ℕ) → w < vars A.given → (seat C.state w ≡ none) ↔ (seat A.state w ≡ none)
    pub moved-exactly : (w : ℕ) (y : X) → w < vars A.given → (seat C.state w ≡ some y)
        ↔ ((x : X) × (seat A.state w ≡ some x) × Lands 𝓥 ((live_of C).lower w) ((live_of C).upper w) x y)
    -- in a session handed back only the variable that was switched can move
    pub others-stay : Fair 𝓥 A → (w : ℕ) → w < vars A.given → w ≢ v → seat C.state w ≡ seat A.state w

-- ---- a check

-- 7: the output is too short
abbrev pub check_table : Session (ℤ × ℤ) → ℕ → List Line
check_table A room = line_of 7 (room < 3 + 2 * vars A.given) (3 + 2 * vars A.given ≤ room) ∷ []

-- the problem of these words with the limits that are on, and their marks
abbrev pub live_problem : List ℤ → Session (ℤ × ℤ) → Problem Limit
live_problem ws A = keeping (is_on A) (problem ws)
