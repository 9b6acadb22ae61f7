-- Different things among few: k different numbers below n are at most n, and k different elements of a list are no more
-- than its length.
--   pigeons, distinct-fit, Mem-map
use mathlib.Core.List.{List, Memᴰ, map, [], ◌∷◌}
use mathlib.Core.Logic.{◌≢◌}
use mathlib.Core.Path.{ap, sym, ◌∙◌, ◌≡◌}
use Prim.Native.Nat.{suc, zero, ℕ, ◌<◌, ◌≤◌}
use native.Mathlib.Decide.{ℕ_discrete}
use native.Mathlib.Omega.{arith}
use lib.ListN.{length}

-- ---- numbers: k different numbers below n

shifted : (n c x : ℕ) → Dec (x ≡ n) → ℕ
shifted n c x (yes e) = c
shifted n c x (no f) = x

shifted-below : (n c x : ℕ) → c < suc n → x < suc n → c ≢ x → (d : Dec (x ≡ n)) → shifted n c x d < n
unfolding shifted
shifted-below n c x p q h (yes e) = below (ℕ_discrete c n)
  where
    below : Dec (c ≡ n) → c < n
    below (yes f) = absurd (h (f ∙ sym e))
    below (no f) = omega arith
shifted-below n c x p q h (no f) = omega arith

shifted-apart : (n c x y : ℕ) → c ≢ x → c ≢ y → x ≢ y → (d : Dec (x ≡ n)) (e : Dec (y ≡ n)) →
    shifted n c x d ≢ shifted n c y e
unfolding shifted
shifted-apart n c x y p q h (yes d) (yes e) z = h (d ∙ sym e)
shifted-apart n c x y p q h (yes d) (no e) z = q z
shifted-apart n c x y p q h (no d) (yes e) z = p (sym z)
shifted-apart n c x y p q h (no d) (no e) z = h z

pub pigeons : (k n : ℕ) (g : ℕ → ℕ) → ((i : ℕ) → i < k → g i < n) → ((i j : ℕ) → i < j → j < k → g i ≢ g j) → k ≤ n
pigeons zero n g b d = omega arith
pigeons (suc k) zero g b d = let z : g 0 < 0 = b 0 (omega arith) in let y : ⊥ = omega arith in absurd y
pigeons (suc k) (suc n) g b d =
    let r : k ≤ n = pigeons k n (λ i. shifted n (g k) (g i) (ℕ_discrete (g i) n))
    (λ i h. shifted-below n (g k) (g i) (b k (omega arith)) (b i (omega arith))
    (λ e. d i k h (omega arith) (sym e)) (ℕ_discrete (g i) n))
    (λ i j h l. shifted-apart n (g k) (g i) (g j) (λ e. d i k (omega arith) (omega arith) (sym e))
    (λ e. d j k l (omega arith) (sym e)) (d i j h (omega arith)) _ _) in
    omega arith

-- ---- lists: where an element stands

module _ {A : Type 0} where
  place : {a : A} {l : List A} → Memᴰ a l → ℕ
  place (Memᴰ.head e) = 0
  place (Memᴰ.tail m) = suc (place m)

  place-below : {a : A} {l : List A} (m : Memᴰ a l) → place m < length l
  unfolding place
  place-below (Memᴰ.head e) = omega arith
  place-below (Memᴰ.tail m) = let h = place-below m in omega arith

  same_place : {a b : A} (l : List A) (m : Memᴰ a l) (k : Memᴰ b l) → place m ≡ place k → a ≡ b
  unfolding place
  same_place {a = a} {b = b} [] m k h = elim m [ ]
  same_place (x ∷ xs) (Memᴰ.head e) (Memᴰ.head f) h = e ∙ sym f
  same_place (x ∷ xs) (Memᴰ.head e) (Memᴰ.tail k) h = let z : ⊥ = omega arith in absurd z
  same_place (x ∷ xs) (Memᴰ.tail m) (Memᴰ.head f) h = let z : ⊥ = omega arith in absurd z
  same_place (x ∷ xs) (Memᴰ.tail m) (Memᴰ.tail k) h = same_place xs m k (omega arith)

  -- k different elements of l: l is as long
  pub distinct-fit : (l : List A) (k : ℕ) (f : ℕ → A) → ((i : ℕ) → Memᴰ (f i) l) →
      ((i j : ℕ) → i < j → j < k → f i ≢ f j) → k ≤ length l
  distinct-fit l k f m d = pigeons k (length l) (λ i. place (m i)) (λ i h. place-below (m i))
      (λ i j h q e. d i j h q (same_place l (m i) (m j) e))

  pub Mem-map : {B : Type 0} (g : A → B) {a : A} {l : List A} → Memᴰ a l → Memᴰ (g a) (map g l)
  Mem-map g (Memᴰ.head e) = Memᴰ.head (ap g e)
  Mem-map g (Memᴰ.tail m) = Memᴰ.tail (Mem-map g m)
