-- Two results that a promise of this crate's public functions allows are equal: NAME-only for each.
-- The contracts themselves are compared: κs are lifetimes, x the arguments, e what lent words hold at the exit.
use mathlib.Core.Path.{◌≡◌, ap, ap₂, sym, ◌∙◌}
use mathlib.Core.List.{List}
use Prim.Native.Nat.{ℕ}
use lib.IntN.{ℤ}
use Rattle.std.proofs.Common.{Result, Ok, Err, IfOk}
use Rattle.refusals.specs.declared.Refusal.{Refusal}
use Rattle.refusals.specs.Numbers.{told_by}
use Rattle.refusals.proofs.Refused.{number-only, number-some}
use Rattle.parts.specs.Reads.{SizesOf}
use Rattle.parts.specs.declared.Size.{Size}
use Rattle.parts.proofs.clears.Reads as clears
use Rattle.parts.proofs.judge.Reads as judge

pub clears-only : (κs : _) (x : _) (a b : _) (e : _) → clears.Post κs x a e → clears.Post κs x b e → a ≡ b
clears-only κs x a b e h k = h ∙ sym k

-- one number, and the sizes that the words have where there are some
module _ (ws a : List ℤ) (head each : ℕ) where
  abbrev IsSized : Size → Type 0
  IsSized size = SizesOf ws a head each size.rows size.columns

  size-only : (x y : Size) → IsSized x → IsSized y → x ≡ y
  size-only x y h k = ap₂ (λ (rows columns : ℕ). let z : Size = record { rows = rows; columns = columns } in z)
      (h.framed.rows_are ∙ sym k.framed.rows_are) (h.framed.columns-are ∙ sym k.framed.columns-are)

  sizes-only : (x y : Result Size Refusal) → told_by x ≡ told_by y → IfOk x IsSized → IfOk y IsSized → x ≡ y
  sizes-only (Ok x) (Ok y) e h k = ap Ok (size-only x y h k)
  sizes-only (Ok x) (Err s) e h k = absurd (number-some s (sym e))
  sizes-only (Err r) (Ok y) e h k = absurd (number-some r e)
  sizes-only (Err r) (Err s) e h k = ap Err (number-only r s e)

pub judge-only : (κs : _) (x : _) (a b : _) (e : _) → judge.Post κs x a e → judge.Post κs x b e → a ≡ b
judge-only κs x a b e h k = sizes-only _ _ _ _ a b (h.0 ∙ sym k.0) h.1 k.1
