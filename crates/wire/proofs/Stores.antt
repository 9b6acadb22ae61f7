-- Words stored as bytes, one behind the other.
--   bytes-are, part-put    the four bytes of a word, put in the place of others
--   next_word     the bytes of one word more
--   no_word       at the start
use mathlib.Core.List.{List, [], ◌∷◌, ◌++◌, append_assoc}
use mathlib.Core.Path.{◌≡◌, ap, refl, sym, ◌∙◌}
use Prim.Native.Nat.{ℕ, ◌+◌, ◌*◌, ◌-◌, ◌≤◌, ◌<◌}
use native.Mathlib.Nat.{div-one}
use native.Mathlib.Numerals.{add-one}
use native.Mathlib.Omega.{arith}
use lib.IntN.{ℤ, pos, negsuc}
use mir.Facts.{to_z-of_z}
use mir.Syntax.{w32}
use mir.Val.{SFits, of_z, to_z}
use borrow.Rule.Slice.PartMut.{put_mid}
use Rattle.std.specs.Int.{to_le_bytes}
use lib.ListN.{drop, length, take}
use lib.Seq.{drop-drop, length-take-le, sets, sets-eq, take-suc}
use Rattle.whole.specs.Tables.{table_from}
use Rattle.whole.proofs.Lists.Stores.{sets_then}
use Rattle.rules.specs.Problem.{word}
use Rattle.rules.specs.Program.Bytes.{byte_of, bytes_from, unsigned}
use Rattle.rules.proofs.Program.Words.{bytes-length, bytes_one, bytes-then}

-- the bytes of a word, as it is read
bits-are : (z : ℤ) → of_z w32 z ≡ unsigned z
unfolding unsigned
bits-are (pos n) = refl
bits-are (negsuc k) = refl

pub bytes-are : (z : ℤ) → SFits w32 z → to_le_bytes w32 (of_z w32 (to_z w32 (of_z w32 z))) ≡ bytes_from (z ∷ [])
bytes-are z fit = ap (λ y. to_le_bytes w32 (of_z w32 y)) (to_z-of_z fit) ∙ ap (to_le_bytes w32) (bits-are z)
    ∙ four (unsigned z) ∙ sym (bytes_one z)
  where
    four : (u : ℕ) → to_le_bytes w32 u ≡ byte_of u 0 ∷ byte_of u 1 ∷ byte_of u 2 ∷ byte_of u 3 ∷ []
    four u = rw div-one refl

-- a part of a list in whose place others stand
pub part-put : (l vs : List ℕ) (at : ℕ) → length vs ≡ 4 → at + 4 ≤ length l → put_mid at (at + 4 - at) l vs
    ≡ sets l at vs
part-put l vs at long room =
    let behind : drop (at + 4 - at) (drop at l) ≡ drop (at + length vs) l =
    drop-drop (at + 4 - at) at l ∙ ap (λ n. drop n l) (let z : at + (at + 4 - at) ≡ at + length vs = omega arith in
    z) in
    sym (append_assoc (take at l) vs (drop (at + 4 - at) (drop at l))) ∙ ap (λ r. take at l ++ vs ++ r) behind
    ∙ sym (sets-eq vs l at (omega arith))

module _ (l : List ℕ) (at : ℕ) (ws : List ℤ) where
  pub no_word : l ≡ sets l at (bytes_from (take 0 ws))
  unfolding bytes_from table_from
  no_word = refl

  pub next_word : (i : ℕ) → i < length ws →
      sets (sets l at (bytes_from (take i ws))) (at + 4 * i) (bytes_from (word ws i ∷ []))
      ≡ sets l at (bytes_from (take (i + 1) ws))
  next_word i h =
      ap (λ n. sets (sets l at (bytes_from (take i ws))) n (bytes_from (word ws i ∷ [])))
      (let z : at + 4 * i ≡ at + length (bytes_from (take i ws)) =
      omega (arith, bytes-length (take i ws), length-take-le i ws (omega arith)) in z)
      ∙ sym (sets_then (bytes_from (take i ws)) (bytes_from (word ws i ∷ [])) l at)
      ∙ ap (sets l at) (sym (bytes-then (take i ws) (word ws i ∷ [])))
      ∙ ap (λ s. sets l at (bytes_from s)) (sym (take-suc ws i (pos 0) h))
      ∙ ap (λ n. sets l at (bytes_from (take n ws))) (sym (add-one i))
