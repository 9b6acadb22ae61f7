-- docs/RULES.md, "Time rows", "Times and cycles": what looking at rows again and again keeps, in whatever arrays
-- distances are held. Walks have the distances, and the row that bettered a vertex last is known. This is an invariant:
-- contracts of code and proofs cite it, no entry point's promise and no other definition of the rules does.
--   Bettered, Traced    which row bettered a vertex last; all that is known after so many looks
use Rattle.std.specs.Prelude.{◌≡◌, ℕ, ◌+◌, ◌<◌, ◌≤◌}
use Rattle.whole.specs.Values.{Le, Lt, Values}
use Rattle.rules.specs.Times.Passes.{through}
use Rattle.rules.specs.Times.Walks.{Edges, Walk}

module _ {X : Type 0} (𝓥 : Values X) (E : Edges X) where
  -- row i bettered v last. `time` has for each vertex the number of the look, from 1, that bettered it last, or 0
  pub record Bettered (time : ℕ → ℕ) (D : ℕ → X) (v i : ℕ) : Type 0 where
    pub listed : i < E.count
    pub leads : E.head i ≡ v
    -- its tail was bettered at most a pass earlier
    pub soon : time v ≤ time (E.tail i) + E.count
    -- what the row offers now is at most what it gave, and less if its tail was bettered since
    pub most : Le 𝓥 (through 𝓥 E D i) (D v)
    pub since : time v ≤ time (E.tail i) → Lt 𝓥 (through 𝓥 E D i) (D v)

  -- after b looks, a whole number of passes, and those at the rows below i
  pub record Traced (b i : ℕ) (time : ℕ → ℕ) (D : ℕ → X) (last : ℕ → ℕ) : Type 0 where
    pub walk : (v : ℕ) → (u : ℕ) × (k : ℕ) × Walk 𝓥 E u k v (D v)
    pub low : (v : ℕ) → Le 𝓥 (D v) 𝓥.nil
    pub recent : (v : ℕ) → time v ≤ b + i
    pub bettered : (v : ℕ) → 0 < time v → Bettered time D v (last v)
    -- a row betters nothing unless its tail was bettered since it was looked at, in this pass or in the one before
    pub looked : (j : ℕ) → j < i → j < E.count → time (E.tail j) ≤ b + j → Le 𝓥 (D (E.head j)) (through 𝓥 E D j)
    pub unlooked : (j : ℕ) → i ≤ j → j < E.count → time (E.tail j) + E.count ≤ b + j →
        Le 𝓥 (D (E.head j)) (through 𝓥 E D j)
