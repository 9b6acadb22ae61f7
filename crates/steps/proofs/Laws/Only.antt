-- Two results that a promise of this crate's public functions allows are equal: NAME-only for each.
-- The contracts themselves are compared: κs are lifetimes, x the arguments, e what lent words hold at the exit.
--   step-only    what it comes to, and where a pivot is chosen and in range every cell in use
use mathlib.Core.Bool.{Bool, true}
use mathlib.Core.List.{List}
use mathlib.Core.Path.{◌≡◌, sym, subst, ◌∙◌}
use Prim.Native.Nat.{ℕ, ◌<◌}
use lib.IntN.{ℤ, pos}
use lib.ListN.{get_or}
use Rattle.layout.specs.Layout.{live}
use Rattle.tableau.specs.declared.Tableau.{Tableau}
use Rattle.pivot.specs.Pivot.{StartsWith, PutBy}
use Rattle.search.specs.declared.Choice.{Choice}
use Rattle.search.specs.declared.Next.{Next}
use Rattle.search.specs.declared.Next.TheVariants as nexts
use Rattle.search.specs.Search.{next_at, seen}
use Rattle.steps.specs.Step.{PutAt, PutWhere, entries_moved, fits_by}
use Rattle.steps.proofs.step.Reads as step

-- what is put, where a pivot is chosen and in range
put-by : (t : Tableau) (c : Choice) (next : List ℤ) → next_at t ≡ nexts.Pivot c → fits_by t c ≡ true → PutAt t next →
    StartsWith (live t.rows t.columns) (entries_moved t c) next
unfolding PutWhere
put-by t c next q y p =
    subst (λ (b : Bool). PutBy b (live t.rows t.columns) (entries_moved t c) next) y
    (subst (λ (n : Next). PutWhere t n next) q p)

pub step-only : (κs : _) (x : _) (a b : _) (e f : _) → step.Post κs x a e → step.Post κs x b f →
    let t = seen x.1.1.0.now x.0 x.1.0 in
    (a ≡ b) × ((c : Choice) → next_at t ≡ nexts.Pivot c → fits_by t c ≡ true → (i : ℕ) →
    i < live t.rows t.columns →
    get_or e.1.1.1.0.now i (pos 0) ≡ get_or f.1.1.1.0.now i (pos 0))
step-only κs x a b e f h k = let t = seen x.1.1.0.now x.0 x.1.0 in (
  h.0 ∙ sym k.0,
  λ c q y i d. (put-by t c e.1.1.1.0.now q y h.1).same i d
      ∙ sym ((put-by t c f.1.1.1.0.now q y k.1).same i d),
)
