-- A look at a row, as the code makes it: x and y are the ends of row i that were read.
--   head-low              the head is below 64
--   test-is               the test of the offer by x against y tells whether the row betters its head
--   pass-more             one row more of a pass, by the test
--   quiet-by              what a search for a row that betters its head found
use mathlib.Core.Path.{◌≡◌, sym, ◌∙◌, ap, ap₂, subst, subst₂}
use mathlib.Core.Bool.{Bool, true, false, cond, not}
use mathlib.Core.List.{List}
use Prim.Native.Nat.{ℕ, suc, ◌+◌, ◌<◌}
use native.Mathlib.Numerals.{add-one}
use native.Mathlib.Omega.{arith}
use lib.IntN.{ℤ, ◌+ℤ◌}
use lib.ListN.{get_or, length, set}
use lib.Seq.{set-get_or}
use lib.Signed.{lt_z}
use Rattle.std.specs.Bool.{MatchBool}
use Rattle.std.proofs.lemmas.List.FromFn.{length-range_with_len, get_or-range_with_len}
use Rattle.std.specs.List.{AllWithin, HoldsAt, range_with_len}
use Rattle.rules.specs.Sizes.{most_vertices}
use Rattle.rules.specs.Problem.{m_of}
use Rattle.rules.specs.Times.Words.{time_edges}
use Rattle.rules.proofs.Times.Refused.{vertices-few, accepted-ends}
use Rattle.lengths.specs.declared.Length.{Length}
use Rattle.lengths.specs.Lengths.{length_of, key_of, length_at, key_at}
use Rattle.timerows.specs.Judged.{Fine}
use Rattle.times.specs.Steps.{last_row, is_less, Pass, Quiet}
use Rattle.times.proofs.Laws.Passing.{pass-taken, pass_kept}

module _ {ws : List ℤ} (f : Fine ws) {i : ℕ} (h : i < m_of ws) where
  pub head-low : {y : ℕ} → y ≡ (time_edges ws).head i → y < most_vertices
  head-low e = omega (arith, e, (accepted-ends f).head_in i h, vertices-few f)

-- what row i offers where its tail is x
abbrev Offers : List ℤ → List Length → ℕ → ℕ → Length → Type 0
Offers ws best i x offered = length_of offered ≡ key_at best x +ℤ key_of ((time_edges ws).size i)

module _ (ws : List ℤ) (best : List Length) (i : ℕ) {x : ℕ} (p : x ≡ (time_edges ws).tail i) {offered : Length}
    (o : Offers ws best i x offered) where
  its-offer : Offers ws best i ((time_edges ws).tail i) offered
  its-offer = o ∙ ap (λ x. key_at best x +ℤ key_of ((time_edges ws).size i)) p

  pub test-is : {y : ℕ} → y ≡ (time_edges ws).head i → {b : Bool} → b ≡ lt_z (length_of offered) (key_at best y) →
      is_less ws best i ≡ b
  test-is q e = sym (ap₂ (λ z u. lt_z z (key_at best u)) its-offer q) ∙ sym e

module _ {ws : List ℤ} {k : ℕ} {best : List Length} {last : List ℕ} {i row : ℕ} (P : Pass ws k i best last row)
    (h : i < m_of ws) {x : ℕ} (p : x ≡ (time_edges ws).tail i) {offered : Length} (o : Offers ws best i x offered)
    {y : ℕ}
    (q : y ≡ (time_edges ws).head i) where
  pub pass-more : (b : Bool) → is_less ws best i ≡ b → Pass ws k (i + 1)
      (set best y (cond b offered (length_at best y))) (set last y (cond b i (last_row last y))) (cond b i row)
  pass-more true e =
      rw add-one
      (subst (λ u. Pass ws k (suc i) (set best u offered) (set last u i) i) (sym q)
      (pass-taken P h offered (its-offer ws best i p o) e))
  pass-more false e =
      rw add-one
      (subst₂ (λ a b. Pass ws k (suc i) a b row) (sym (set-get_or best y _)) (sym (set-get_or last y _))
      (pass_kept P h e))

-- ---- a look at all rows

module _ (ws : List ℤ) (best : List Length) (m : ℕ) (all : m ≡ m_of ws) where
  pub quiet-by : (r : Bool) → MatchBool r
      ((k : ℕ) × (k < length (range_with_len 0 m)) × HoldsAt (λ i. is_less ws best i ≡ true) (range_with_len 0 m) k)
      (AllWithin (λ i. is_less ws best i ≡ false) (range_with_len 0 m) 0 (length (range_with_len 0 m))) →
      Quiet ws best (not r)
  quiet-by true (k, h, s) =
      let low : k < m = omega (arith, length-range_with_len 0 m) in
      let it : get_or (range_with_len 0 m) k 0 ≡ k = get_or-range_with_len 0 m k 0 low ∙ omega arith in
      (k, omega arith, rw it at (s 0))
  quiet-by false f = λ i h.
      let low : i < m = omega arith in
      let it : get_or (range_with_len 0 m) i 0 ≡ i = get_or-range_with_len 0 m i 0 low ∙ omega arith in
      rw it at (f i 0 (omega arith) (omega (arith, length-range_with_len 0 m)))
