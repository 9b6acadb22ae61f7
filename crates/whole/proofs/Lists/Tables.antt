-- What stands where in a table.
--   table_at, matrix-at      the element at a place below the size
--   table-length             how many there are
--   table_same, table-split  equal functions; a table in two parts
--   table-last               the last element taken off
--   filled_in, filled-out    what a filled array holds, and past what was filled; filled-length
--   filled-each              what holds of each element of a filled array
--   table-all                a list as the table of its elements
use mathlib.Core.Path.{◌≡◌, refl, ◌∙◌, ap, ap₂}
use mathlib.Core.List.{List, [], ◌∷◌, ◌++◌}
use Prim.Native.Nat.{ℕ, zero, suc, ◌+◌, ◌-◌, ◌≤◌, ◌<◌}
use native.Mathlib.Decide.{dec_lt}
use native.Mathlib.Omega.{arith}
use native.Mathlib.Nat.{add-zero}
use lib.IntN.{ℤ, pos}
use lib.ListN.{length, drop, get_or, replicate, length-append, length-drop, length-replicate, get_or-append}
use lib.Seq.{ext_get_or, get_or-append-add, get_or-drop}
use Rattle.whole.specs.Tables.{table, table_from, matrix, filled}

table_from-at : {A : Type 0} (a k : ℕ) (f : ℕ → A) (d : A) (i : ℕ) → i < k → get_or (table_from a k f) i d ≡ f (a + i)
unfolding table_from
table_from-at a zero f d i h = let z : ⊥ = omega arith in absurd z
table_from-at a (suc k) f d zero h = rw add-zero refl
table_from-at a (suc k) f d (suc i) h =
    table_from-at (suc a) k f d i (omega arith) ∙ ap f (let z : suc a + i ≡ a + suc i = omega arith in z)

pub table_at : {A : Type 0} (k : ℕ) (f : ℕ → A) (d : A) (i : ℕ) → i < k → get_or (table k f) i d ≡ f i
table_at k f d i h = table_from-at 0 k f d i h ∙ ap f (let z : 0 + i ≡ i = omega arith in z)

pub matrix-at : (N : ℕ) (f : ℕ → ℕ → ℤ) (v u : ℕ) → v < N → u < N → get_or (get_or (matrix N f) v []) u (pos 0) ≡ f v u
unfolding matrix
matrix-at N f v u p q = ap (λ l. get_or l u (pos 0)) (table_at N (λ v. table N (f v)) [] v p)
    ∙ table_at N (f v) (pos 0) u q

pub table_from-length : {A : Type 0} (a k : ℕ) (f : ℕ → A) → length (table_from a k f) ≡ k
unfolding table_from
table_from-length a zero f = refl
table_from-length a (suc k) f = ap suc (table_from-length (suc a) k f)

pub table-length : {A : Type 0} (k : ℕ) (f : ℕ → A) → length (table k f) ≡ k
table-length k f = table_from-length 0 k f

table_from-same : {A : Type 0} (a k : ℕ) (f g : ℕ → A) → ((i : ℕ) → i < a + k → f i ≡ g i) →
    table_from a k f ≡ table_from a k g
unfolding table_from
table_from-same a zero f g h = refl
table_from-same a (suc k) f g h =
    ap₂ (λ x l. x ∷ l) (h a (omega arith)) (table_from-same (suc a) k f g (λ i p. h i (omega arith)))

pub table_same : {A : Type 0} (k : ℕ) (f g : ℕ → A) → ((i : ℕ) → i < k → f i ≡ g i) → table k f ≡ table k g
table_same k f g h = table_from-same 0 k f g (λ i p. h i (omega arith))

table_from-split : {A : Type 0} (a i j : ℕ) (f : ℕ → A) →
    table_from a (i + j) f ≡ table_from a i f ++ table_from (a + i) j f
unfolding table_from
table_from-split a zero j f =
    ap₂ (λ k b. table_from b k f) (let z : 0 + j ≡ j = omega arith in z) (let z : a ≡ a + 0 = omega arith in z)
table_from-split a (suc i) j f =
    ap (λ k. table_from a k f) (let z : suc i + j ≡ suc (i + j) = omega arith in z)
    ∙ ap (λ l. f a ∷ l) (table_from-split (suc a) i j f
    ∙ ap (λ b. table_from (suc a) i f ++ table_from b j f) (let z : suc a + i ≡ a + suc i = omega arith in z))

-- the first i elements, and the others
table-split : {A : Type 0} (i j : ℕ) (f : ℕ → A) → table (i + j) f ≡ table i f ++ table_from i j f
table-split i j f = table_from-split 0 i j f
    ∙ ap (λ b. table i f ++ table_from b j f) (let z : 0 + i ≡ i = omega arith in z)

-- one element more at the end
pub table-last : {A : Type 0} (k : ℕ) (f : ℕ → A) → table (suc k) f ≡ table k f ++ (f k ∷ [])
unfolding table_from
table-last k f = ap (λ n. table n f) (let z : suc k ≡ k + 1 = omega arith in z) ∙ table-split k 1 f

-- ---- arrays of a fixed size

pub replicate-at : {A : Type 0} (n : ℕ) (a : A) (i : ℕ) → get_or (replicate n a) i a ≡ a
replicate-at zero a zero = refl
replicate-at zero a (suc i) = refl
replicate-at (suc n) a zero = refl
replicate-at (suc n) a (suc i) = replicate-at n a i

module _ {A : Type 0} (size : ℕ) (rest : A) (e : ℕ) (f : ℕ → A) where
  pub filled_in : (k : ℕ) → k < e → get_or (filled size rest e f) k rest ≡ f k
  unfolding filled
  filled_in k h =
      get_or-append (table e f) (drop e (replicate size rest)) rest k (rw (table-length e f) h)
      ∙ table_at e f rest k h

  pub filled-out : (k : ℕ) → e ≤ k → get_or (filled size rest e f) k rest ≡ rest
  unfolding filled
  filled-out k h = ap (λ i. get_or (table e f ++ drop e (replicate size rest)) i rest) split
      ∙ get_or-append-add (table e f) (drop e (replicate size rest)) (k - e) rest
      ∙ get_or-drop e (replicate size rest) (k - e) rest ∙ replicate-at size rest (e + (k - e))
    where
      split : k ≡ length (table e f) + (k - e)
      split = rw (table-length e f) (omega arith)

  pub filled-length : e ≤ size → length (filled size rest e f) ≡ size
  unfolding filled
  filled-length h = simp (length-append, length-drop, table-length, length-replicate) (omega arith)

  pub filled-each : (Q : A → Type 0) → Q rest → ((k : ℕ) → k < e → Q (f k)) →
      (k : ℕ) → Q (get_or (filled size rest e f) k rest)
  filled-each Q r h k = go (dec_lt k e)
    where
      go : Dec (k < e) → Q (get_or (filled size rest e f) k rest)
      go (yes l) = rw (filled_in k l) (h k l)
      go (no l) = rw (filled-out k (omega arith)) r

-- a list as the table of its elements
pub table-all : {A : Type 0} (l : List A) (d : A) → table (length l) (λ i. get_or l i d) ≡ l
table-all l d = ext_get_or d (table (length l) (λ i. get_or l i d)) l (table-length (length l) (λ i. get_or l i d))
    (λ i h. table_at (length l) (λ i. get_or l i d) d i (rw table-length at h))
