-- A way back that has met a vertex again has closed a bad cycle: the rows from where it stands up to the one that leads
-- there (trail-cycle).
use mathlib.Core.Path.{◌≡◌, refl, sym, ◌∙◌, ap, subst}
use mathlib.Core.List.{List}
use mathlib.Core.Logic.{◌≢◌, ◌⊎◌, inl, inr}
use Prim.Native.Nat.{ℕ, zero, suc, ◌+◌, ◌-◌, ◌≤◌, ◌<◌}
use native.Mathlib.Omega.{arith}
use native.Mathlib.Nat.{add-zero, add-suc}
use lib.ListN.{length, take}
use lib.Seq.{get_or-take, get_or-drop, slice, length-slice}
use Rattle.whole.specs.Values.{Laws, Values}
use Rattle.rules.specs.Times.Walks.{Edges}
use Rattle.rules.specs.Times.Cycle.{row_told, Cycle, BadCycle}
use Rattle.rules.specs.Times.Traces.{Bettered}
use Rattle.rules.proofs.Times.Passes.Falling.{falling-below}
use Rattle.rules.proofs.Times.Passes.Trail.{Trail}

-- row k of the rows from f up to t
pub slice_at : (f t k : ℕ) (l : List ℕ) → k < t - f → row_told (slice f t l) k ≡ row_told l (f + k)
slice_at f t k l h = get_or-drop f (take t l) k 0 ∙ get_or-take t l (f + k) 0 (omega arith)

module _ {X : Type 0} {𝓥 : Values X} (L : Laws 𝓥) (E : Edges X) (time : ℕ → ℕ) (D : ℕ → X) (top spare : ℕ)
    (path seen : List ℕ) (here j : ℕ) (r : Trail 𝓥 E time D top spare path seen here j)
    (p : ℕ) (e : row_told seen here ≡ suc p) (long : top ≤ length path) where
  abbrev rows : List ℕ
  rows = slice j (suc p) path

  from : j ≤ p
  from = (r.marks here p e).0

  to : p < top
  to = (r.marks here p e).1

  back_to : E.head (row_told path p) ≡ here
  back_to = (r.marks here p e).2

  rows-length : length rows ≡ suc p - j
  rows-length = length-slice j (suc p) path (omega (arith, to))

  at-k : (k : ℕ) → k < length rows → row_told rows k ≡ row_told path (j + k)
  at-k k h = slice_at j (suc p) k path (omega (arith, rows-length))

  -- the k-th row is one that the way took
  taken : (k : ℕ) → k < length rows → Bettered 𝓥 E time D (E.head (row_told rows k)) (row_told rows k)
  taken k h =
      subst (λ i. Bettered 𝓥 E time D (E.head i) i) (sym (at-k k h))
      (r.brings (j + k) (omega arith) (omega (arith, rows-length, to)))

  -- the k-th row starts where the one before it ends, or at the vertex met again
  start-at : (k : ℕ) → k < length rows →
      (k ≡ 0) ⊎ ((s : ℕ) × (k ≡ suc s) × (E.tail (row_told rows k) ≡ E.head (row_told path (j + s))))
  start-at zero h = inl refl
  start-at (suc k) h =
      inr (
        k,
        refl,
        ap E.tail (at-k (suc k) h ∙ ap (row_told path) (add-suc j k))
            ∙ sym (r.linked (j + k) (omega arith) (omega (arith, rows-length, to))),
      )

  first-start : E.tail (row_told rows 0) ≡ here
  first-start = ap E.tail (at-k 0 (omega (arith, rows-length, from)) ∙ ap (row_told path) (add-zero j))
      ∙ r.starts (omega (arith, from, to))

  one-head : (a b : ℕ) → j ≤ a → a < top → j ≤ b → b < top → E.head (row_told path a) ≡ E.head (row_told path b) → a ≡ b
  one-head a b h k l m f = let y : suc a ≡ suc b = sym (r.marked a h k)
      ∙ ap (row_told seen) f ∙ r.marked b l m in omega arith

  apart : (a b : ℕ) → a < b → b < length rows → E.tail (row_told rows a) ≢ E.tail (row_told rows b)
  apart a b l m f = go (start-at a (omega arith)) (start-at b m)
    where
      go : (a ≡ 0) ⊎ ((s : ℕ) × (a ≡ suc s) × (E.tail (row_told rows a) ≡ E.head (row_told path (j + s)))) →
          (b ≡ 0) ⊎ ((s : ℕ) × (b ≡ suc s) × (E.tail (row_told rows b) ≡ E.head (row_told path (j + s)))) → ⊥
      go x (inl y) = absurd (omega arith)
      go (inl x) (inr y) =
          let q : j + y.0 ≡ p = one-head (j + y.0) p (omega arith) (omega (arith, rows-length, to, y.1)) from to
          (sym y.2 ∙ sym f ∙ ap (λ k. E.tail (row_told rows k)) x ∙ first-start ∙ sym back_to) in
          omega (arith, rows-length, y.1)
      go (inr x) (inr y) =
          let q : j + x.0 ≡ j + y.0 = one-head (j + x.0) (j + y.0)
          (omega arith) (omega (arith, rows-length, to, x.1)) (omega arith) (omega (arith, rows-length, to, y.1))
          (sym x.2 ∙ f ∙ y.2) in
          omega (arith, x.1, y.1)

  link : (k : ℕ) → suc k < length rows → E.head (row_told rows k) ≡ E.tail (row_told rows (suc k))
  link k h =
      ap E.head (at-k k (omega arith))
      ∙ r.linked (j + k) (omega arith) (omega (arith, rows-length, to))
      ∙ sym (ap E.tail (at-k (suc k) h ∙ ap (row_told path) (add-suc j k)))

  shut : E.head (row_told rows (length rows - 1)) ≡ E.tail (row_told rows 0)
  shut =
      let q : j + (length rows - 1) ≡ p = omega (arith, rows-length, from) in
      ap E.head (at-k (length rows - 1) (omega (arith, rows-length, from)) ∙ ap (row_told path) q)
      ∙ back_to ∙ sym first-start

  goes-round : Cycle E rows
  goes-round = record { listed = λ k h. (taken k h).listed; linked = link; closed = shut; apart = apart }

  pub trail-cycle : BadCycle 𝓥 E (slice j (suc p) path)
  trail-cycle =
      record {
        cycle = goes-round;
        below =
            falling-below L E rows goes-round time D taken (omega (arith, rows-length, from));
      }
