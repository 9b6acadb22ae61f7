-- The bytes between two places, and when they are those of a word.
--   rest-all      all bytes from a place on
--   part_length   how many there are
--   part-token    the bytes of a token
--   same-each, same-zip, same-long   bytes compared one by one, also in pairs; those of another number
use Rattle.std.proofs.Common.{◌≡◌, ℕ, ◌+◌, ◌-◌, List, [], ◌∷◌, ◌&&◌, arith, refl, sym, ◌∙◌, ap, drop, length, take}
use Rattle.std.proofs.Common.{length-drop, length-take, eqb, ◌≤◌, zip, false}
use Rattle.std.specs.List.{list_all}
use Rattle.rules.proofs.Exchange.Reader.Turns.{same_not}
use Rattle.std.proofs.Math.Seq.{take-length}
use lib.Pointwise.{pointwise}
use Rattle.rules.specs.Exchange.Reader.{same_bytes}
use Rattle.tokens.specs.Gaps.{bytes_at, part, stop_at, width}

pub rest-all : (t : List ℕ) (from : ℕ) → take (length t - from) (drop from t) ≡ drop from t
rest-all t from = ap (λ k. take k (drop from t)) (sym (length-drop from t)) ∙ take-length (drop from t)

pub part_length : (t : List ℕ) (from to : ℕ) → to ≤ length t → length (part t from to) ≡ to - from
unfolding part
part_length t from to h = simp (length-take, length-drop) (omega arith)

pub part-token : (t : List ℕ) (at : ℕ) → bytes_at t at ≡ part t at (stop_at t at)
unfolding bytes_at part stop_at
part-token t at = ap (λ k. take k (drop at t)) (let z : width (drop at t) ≡ at + width (drop at t) - at = omega arith in
    z)

pub same-each : (v s : List ℕ) → pointwise eqb v s ≡ same_bytes v s
unfolding same_bytes
same-each [] [] = refl
same-each [] (b ∷ s) = refl
same-each (a ∷ v) [] = refl
same-each (a ∷ v) (b ∷ s) = ap (λ k. eqb a b && k) (same-each v s)

pub same-zip : (v s : List ℕ) → length v ≡ length s → list_all (λ p. eqb p.0 p.1) (zip v s) ≡ pointwise eqb v s
same-zip [] [] e = refl
same-zip [] (b ∷ s) e = absurd (omega arith)
same-zip (a ∷ v) [] e = absurd (omega arith)
same-zip (a ∷ v) (b ∷ s) e = ap (λ k. eqb a b && k) (same-zip v s (omega arith))

pub same-long : (v s : List ℕ) → (length s ≡ length v → ⊥) → same_bytes v s ≡ false
same-long v s n = same_not v s (λ e. n (sym (ap length e)))
