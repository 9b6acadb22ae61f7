-- Lists that the words of a problem are made of.
--   table-two, flatten-then, flatten-table   tables one behind the other; rows one behind the other
--   each-table, each-then, each_at           what holds of each element
--   defaults-behind, replicate_more          what is missing at the end
use mathlib.Core.List.{List, [], ◌∷◌, ◌++◌, append_assoc, append-nil, flatten}
use mathlib.Core.Path.{◌≡◌, refl, sym, ◌∙◌, ap, ap₂}
use Prim.Native.Nat.{ℕ, zero, suc, ◌+◌, ◌*◌, ◌<◌}
use native.Mathlib.Omega.{arith}
use lib.ListN.{length, get_or, replicate}
use Rattle.whole.specs.Tables.{table, table_from}
use Rattle.whole.proofs.Lists.Tables.{table-last}
use Rattle.rules.proofs.Exchange.Reader.Rows.{Each}

module _ {A : Type 0} where
  pub table-two : (a b : ℕ) (f : ℕ → A) → table (a + b) f ≡ table a f ++ table b (λ i. f (a + i))
  unfolding table_from
  table-two a zero f =
      ap (λ k. table k f) (let z : a + 0 ≡ a = omega arith in z) ∙ sym (append-nil (table a f))
  table-two a (suc b) f =
      ap (λ k. table k f) (let z : a + suc b ≡ suc (a + b) = omega arith in z)
      ∙ table-last (a + b) f
      ∙ ap (λ l. l ++ (f (a + b) ∷ [])) (table-two a b f)
      ∙ append_assoc (table a f) (table b (λ i. f (a + i))) (f (a + b) ∷ [])
      ∙ ap (λ l. table a f ++ l) (sym (table-last b (λ i. f (a + i))))

  flatten-then : (s t : List (List A)) → flatten (s ++ t) ≡ flatten s ++ flatten t
  unfolding flatten
  flatten-then [] t = refl
  flatten-then (l ∷ s) t =
      ap (λ r. l ++ r) (flatten-then s t) ∙ sym (append_assoc l (flatten s) (flatten t))

  pub flatten-table : (m n : ℕ) (f : ℕ → A) → flatten (table m (λ i. table n (λ j. f (i * n + j)))) ≡ table (m * n) f
  unfolding flatten table_from
  flatten-table zero n f = ap (λ k. table k f) (let z : 0 ≡ 0 * n = omega arith in z)
  flatten-table (suc m) n f =
      ap flatten (table-last m (λ i. table n (λ j. f (i * n + j))))
      ∙ flatten-then (table m (λ i. table n (λ j. f (i * n + j)))) (table n (λ j. f (m * n + j)) ∷ [])
      ∙ ap₂ (λ x y. x ++ y) (flatten-table m n f) (append-nil (table n (λ j. f (m * n + j))))
      ∙ sym (table-two (m * n) n f)
      ∙ ap (λ k. table k f) (let z : m * n + n ≡ suc m * n = omega arith in z)

  each_from : (Q : A → Type 0) (a k : ℕ) (f : ℕ → A) → ((i : ℕ) → i < a + k → Q (f i)) → Each Q (table_from a k f)
  unfolding table_from
  each_from Q a zero f h = tt
  each_from Q a (suc k) f h = (h a (omega arith), each_from Q (suc a) k f (λ i l. h i (omega arith)))

  pub each-table : (Q : A → Type 0) (k : ℕ) (f : ℕ → A) → ((i : ℕ) → i < k → Q (f i)) → Each Q (table k f)
  each-table Q k f h = each_from Q 0 k f (λ i l. h i (omega arith))

  pub each-then : (Q : A → Type 0) (s t : List A) → Each Q s → Each Q t → Each Q (s ++ t)
  each-then Q [] t h k = k
  each-then Q (a ∷ s) t h k = (h.0, each-then Q s t h.1 k)

  pub each_at : (Q : A → Type 0) (l : List A) (d : A) (i : ℕ) → i < length l → Each Q l → Q (get_or l i d)
  each_at Q [] d i l h = let o : ⊥ = omega arith in absurd o
  each_at Q (a ∷ s) d zero l h = h.0
  each_at Q (a ∷ s) d (suc i) l h = each_at Q s d i (omega arith) h.1

  -- what is there behind the end anyway
  pub defaults-behind : (s : List A) (k : ℕ) (d : A) (i : ℕ) → get_or (s ++ replicate k d) i d ≡ get_or s i d
  defaults-behind [] zero d i = refl
  defaults-behind [] (suc k) d zero = refl
  defaults-behind [] (suc k) d (suc i) = defaults-behind [] k d i ∙ nothing i
    where
      nothing : (j : ℕ) → get_or [] j d ≡ get_or [] (suc i) d
      nothing zero = refl
      nothing (suc j) = refl
  defaults-behind (a ∷ s) k d zero = refl
  defaults-behind (a ∷ s) k d (suc i) = defaults-behind s k d i

  pub replicate_more : (k : ℕ) (d : A) (l : List A) → replicate k d ++ d ∷ l ≡ replicate (suc k) d ++ l
  replicate_more zero d l = refl
  replicate_more (suc k) d l = ap (λ r. d ∷ r) (replicate_more k d l)
