-- Two results that a promise of this crate's public functions allows are equal: NAME-only for each.
-- The contracts themselves are compared: κs are lifetimes, x the arguments, e what lent words hold at the exit.
--   pivot-only    what it answers, and where that is in range every cell in use
--   keep-only     every entry
use mathlib.Core.Bool.{Bool, true}
use mathlib.Core.Path.{◌≡◌, sym, subst, ◌∙◌}
use Prim.Native.Nat.{ℕ, ◌<◌}
use lib.IntN.{pos}
use lib.ListN.{get_or}
use Rattle.layout.specs.Layout.{live}
use Rattle.pivot.specs.Pivot.{PutBy}
use Rattle.pivot.specs.Asked.{entries_for, fits_for}
use Rattle.pivot.proofs.keep.Reads as keep
use Rattle.pivot.proofs.pivot.Reads as pivot

pub pivot-only : (κs : _) (x : _) (a b : _) (e f : _) → pivot.Post κs x a e → pivot.Post κs x b f →
    (a ≡ b) × (fits_for x.0.now x.1.0 ≡ true → (i : ℕ) → i < live x.1.0.rows x.1.0.columns →
    get_or e.1.1.0.now i (pos 0) ≡ get_or f.1.1.0.now i (pos 0))
pivot-only κs x a b e f h k = let n = live x.1.0.rows x.1.0.columns in
    let l = entries_for x.0.now x.1.0 in (
      h.0 ∙ sym k.0,
      λ q i d. (subst (λ (c : Bool). PutBy c n l e.1.1.0.now) q h.1).same i d
          ∙ sym ((subst (λ (c : Bool). PutBy c n l f.1.1.0.now) q k.1).same i d),
    )

pub keep-only : (κs : _) (x : _) (a b : _) (e f : _) → keep.Post κs x a e → keep.Post κs x b f →
    e.1.1.0.now ≡ f.1.1.0.now
keep-only κs x a b e f h k = h ∙ sym k
