-- docs/RULES.md, "Time rows", last paragraph: rows as edges, walks along them, and shortest distances. Lengths are any
-- values (Values.antt of the crate `whole`): 0, plus and less are all that is asked of them.
use Rattle.std.specs.Prelude.{ℕ, suc, ◌<◌}
use Rattle.whole.specs.Values.{Values, Lt, Le}

-- row i goes from vertex `tail i` to vertex `head i`, and its length is `size i`
pub record Edges (X : Type 0) : Type 0 where
  pub vertices : ℕ
  pub count : ℕ
  pub tail : ℕ → ℕ
  pub head : ℕ → ℕ
  pub size : ℕ → X

-- the ends of every row are vertices
pub record EndsIn {X : Type 0} (E : Edges X) : Type 0 where
  pub tail-in : (i : ℕ) → i < E.count → E.tail i < E.vertices
  pub head_in : (i : ℕ) → i < E.count → E.head i < E.vertices

module _ {X : Type 0} (𝓥 : Values X) (E : Edges X) where
  -- a walk from u along k rows to a vertex, and its length
  pub data Walk (u : ℕ) : ℕ → ℕ → X → Type 0 where
    stay : Walk u 0 u 𝓥.nil
    on : {k : ℕ} {d : X} (i : ℕ) → i < E.count → Walk u k (E.tail i) d →
        Walk u (suc k) (E.head i) (𝓥.plus d (E.size i))

  -- d is the shortest distance of v from the added vertex, which has an edge of length 0 to each: some walk to v has
  -- it, and none is shorter
  pub record Shortest (v : ℕ) (d : X) : Type 0 where
    pub walk : (u : ℕ) × (k : ℕ) × Walk u k v d
    pub least : (u k : ℕ) (e : X) → Walk u k v e → Le 𝓥 d e

  -- a walk that comes back to its start, shorter than no walk at all
  pub record ClosesBelow : Type 0 where
    pub start : ℕ
    pub rows : ℕ
    pub sum : X
    pub walk : Walk start rows start sum
    pub below : Lt 𝓥 sum 𝓥.nil
