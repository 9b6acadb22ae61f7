-- Sums of whole numbers over the numbers below k: the laws of `total` at ℤ, and what only ℤ has.
--   sum_more, sum_head             the last, the first term taken off; sum_step for a loop
--   sum_same, sum-plus, sum-times  equal terms; sum of sums; a factor
--   sum-swap, sum-zero, sum_one    two sums swapped; all terms 0; all but one
--   sum-split                      one index taken out
--   sum-front, sum-parts           the terms from n on are 0; the first n terms, and the others
--   sum_nonneg                     terms not below 0
--   sum_mono                       terms in order
--   sum-within                     k terms each within b: the sum is within k times b
--   dot-sum                        of lists
use mathlib.Core.Path.{◌≡◌, refl, sym, ◌∙◌, ap, ap₂, subst}
use mathlib.Core.Logic.{◌≢◌}
use mathlib.Core.Bool.{Bool, true, false}
use mathlib.Core.List.{List, [], ◌∷◌}
use Prim.Native.Nat.{ℕ, zero, suc, ◌+◌, ◌*◌, ◌≤◌, ◌<◌}
use native.Mathlib.Numerals.{add-one}
use native.Mathlib.Omega.{arith}
use native.Mathlib.Nat.{le_refl, suc_inj, add-zero, add-suc}
use lib.Dec.{T, eqb, eqb→eq, eqb_refl}
use lib.ListN.{length, get_or}
use lib.Signed.{◌≤ℤ◌, ≤ℤ_refl}
use lib.IntN.{ℤ, pos, ◌+ℤ◌, ◌*ℤ◌, +ℤ_idr, +ℤ_assoc}
use Rattle.whole.specs.Numbers.{Within}
use Rattle.whole.specs.Sums.{sum, sum_by}
use Rattle.whole.proofs.Ring.Reify.{reify}
use Rattle.whole.proofs.Ring.Nonneg.{NN, ◌⊞◌, nn-nat}
use Rattle.whole.proofs.Ring.Tools.{ring-at}
use Rattle.whole.proofs.Numbers.Order.{≤ℤ-+}
use Rattle.whole.proofs.Numbers.Sizes.{within-+, within-le}
use Rattle.whole.proofs.Values.Laws.{total-same, total-plus, scale-total, total-swap, total-zero, total-one}
use Rattle.whole.proofs.Values.Instances.{whole-laws}

sum_more : (n : ℕ) (f : ℕ → ℤ) → sum (suc n) f ≡ sum n f +ℤ f n
unfolding sum_by
sum_more n f = refl

-- .. for a loop
pub sum_step : (n : ℕ) (f : ℕ → ℤ) → sum (n + 1) f ≡ sum n f +ℤ f n
sum_step n f = rw add-one (sum_more n f)

pub sum_same : (k : ℕ) (f g : ℕ → ℤ) → ((i : ℕ) → i < k → f i ≡ g i) → sum k f ≡ sum k g
sum_same = total-same whole-laws

pub sum-plus : (k : ℕ) (f g : ℕ → ℤ) → sum k (λ i. f i +ℤ g i) ≡ sum k f +ℤ sum k g
sum-plus = total-plus whole-laws

pub sum-times : (k : ℕ) (a : ℤ) (f : ℕ → ℤ) → sum k (λ i. a *ℤ f i) ≡ a *ℤ sum k f
sum-times k a f = sym (scale-total whole-laws a k f)

pub sum-swap : (k j : ℕ) (f : ℕ → ℕ → ℤ) → sum k (λ a. sum j (λ b. f a b)) ≡ sum j (λ b. sum k (λ a. f a b))
sum-swap = total-swap whole-laws

pub sum-zero : (k : ℕ) (f : ℕ → ℤ) → ((i : ℕ) → i < k → f i ≡ pos 0) → sum k f ≡ pos 0
sum-zero = total-zero whole-laws

-- one term is other than 0
pub sum_one : (k r : ℕ) (f : ℕ → ℤ) → r < k → ((i : ℕ) → i < k → i ≢ r → f i ≡ pos 0) → sum k f ≡ f r
sum_one = total-one whole-laws

-- the terms from n on are 0
pub sum-front : (n m : ℕ) (f : ℕ → ℤ) → ((u : ℕ) → n ≤ u → f u ≡ pos 0) → sum (n + m) f ≡ sum n f
unfolding sum_by
sum-front n zero f h = ap (λ k. sum k f) (add-zero n)
sum-front n (suc m) f h =
    ap (λ k. sum k f) (add-suc n m) ∙ (rw (h (n + m) (omega arith)) (+ℤ_idr (sum (n + m) f) ∙ sum-front n m f h))

-- the first n terms, and the others
pub sum-parts : (n m : ℕ) (f : ℕ → ℤ) → sum (n + m) f ≡ sum n f +ℤ sum m (λ i. f (n + i))
unfolding sum_by
sum-parts n zero f = ap (λ k. sum k f) (add-zero n) ∙ sym (+ℤ_idr (sum n f))
sum-parts n (suc m) f =
    ap (λ k. sum k f) (add-suc n m) ∙ ap (λ z. z +ℤ f (n + m)) (sum-parts n m f)
    ∙ +ℤ_assoc (sum n f) (sum m (λ i. f (n + i))) (f (n + m))

-- the terms but the one at j
abbrev drop-if : Bool → ℤ → ℤ
drop-if true z = pos 0
drop-if false z = z

abbrev but : ℕ → (ℕ → ℤ) → ℕ → ℤ
but j f k = drop-if (eqb k j) (f k)

but-at : (j : ℕ) (f : ℕ → ℤ) → but j f j ≡ pos 0
but-at j f = go (eqb j j) (eqb_refl j)
  where
    go : (b : Bool) → T b → drop-if b (f j) ≡ pos 0
    go true t = refl
    go false t = absurd t

but-off : (j : ℕ) (f : ℕ → ℤ) (k : ℕ) → (k ≡ j → ⊥) → but j f k ≡ f k
but-off j f k n = go (eqb k j) (λ t. n (eqb→eq k j t))
  where
    go : (b : Bool) → (T b → ⊥) → drop-if b (f k) ≡ f k
    go true t = absurd (t tt)
    go false t = refl

regroup-right : (a b c : ℤ) → (a +ℤ b) +ℤ c ≡ a +ℤ (b +ℤ c)
regroup-right a b c = ring-at (a ∷ b ∷ c ∷ []) (search reify depth 30) refl

last-first : (a b : ℤ) → a +ℤ b ≡ b +ℤ (a +ℤ pos 0)
last-first a b = ring-at (a ∷ b ∷ []) (search reify depth 30) refl

sum-off : (n j : ℕ) (f : ℕ → ℤ) → n ≤ j → sum n (but j f) ≡ sum n f
sum-off n j f h = sum_same n (but j f) f (λ k l. but-off j f k (λ e. no' k l e))
  where
    no' : (k : ℕ) → k < n → k ≡ j → ⊥
    no' k l e = omega arith

data Last (j n : ℕ) : Type 0 where
  is_last : j ≡ n → Last j n
  below : j < n → (n ≡ j → ⊥) → Last j n

last? : (j n : ℕ) → j < suc n → Last j n
last? j n h = go (eqb j n) (eqb→eq j n) (λ e. subst (λ k. T (eqb j k)) e (eqb_refl j))
  where
    go : (b : Bool) → (T b → j ≡ n) → (j ≡ n → T b) → Last j n
    go true f g = is_last (f tt)
    go false f g = let ne : j ≡ n → ⊥ = g in below (lt' ne) (λ e. ne (sym e))
      where
        lt' : (j ≡ n → ⊥) → j < n
        lt' ne = omega arith

sum-split : (n j : ℕ) (f : ℕ → ℤ) → j < n → sum n f ≡ f j +ℤ sum n (but j f)
unfolding sum_by
sum-split zero j f h = absurd (no' h)
  where
    no' : j < zero → ⊥
    no' h = omega arith
sum-split (suc n) j f h = step n j f (last? j n h) (sum-split n j f)
  where
    step : (n j : ℕ) (f : ℕ → ℤ) → Last j n → (j < n → sum n f ≡ f j +ℤ sum n (but j f)) →
        sum n f +ℤ f n ≡ f j +ℤ (sum n (but j f) +ℤ but j f n)
    step n j f (is_last e) ih = subst (λ k. sum n f +ℤ f n ≡ f k +ℤ (sum n (but k f) +ℤ but k f n)) (sym e)
        (last-first (sum n f) (f n) ∙ ap₂ (λ x y. f n +ℤ (x +ℤ y)) (sym (sum-off n n f (le_refl n))) (sym (but-at n f)))
    step n j f (below l ne) ih = ap (λ x. x +ℤ f n) (ih l) ∙ regroup-right (f j) (sum n (but j f)) (f n)
        ∙ ap (λ x. f j +ℤ (sum n (but j f) +ℤ x)) (sym (but-off j f n ne))

-- the first term taken off
to_back : (a : ℤ) → pos 0 +ℤ a ≡ a +ℤ pos 0
to_back a = ring-at (a ∷ []) (search reify depth 30) refl

pub sum_head : (n : ℕ) (f : ℕ → ℤ) → sum (suc n) f ≡ f zero +ℤ sum n (λ k. f (suc k))
unfolding sum_by
sum_head zero f = to_back (f zero)
sum_head (suc n) f = ap (λ x. x +ℤ f (suc n)) (sum_head n f)
    ∙ regroup-right (f zero) (sum n (λ k. f (suc k))) (f (suc n))

-- ---- terms not below 0, and terms in order

sum_nonneg : (n : ℕ) {f : ℕ → ℤ} → ((k : ℕ) → k < n → NN (f k)) → NN (sum n f)
unfolding sum_by
sum_nonneg zero h = nn-nat 0
sum_nonneg (suc n) h = sum_nonneg n (λ k l. h k (omega arith)) ⊞ h n (le_refl (suc n))

pub sum_mono : (n : ℕ) {f g : ℕ → ℤ} → ((k : ℕ) → k < n → f k ≤ℤ g k) → sum n f ≤ℤ sum n g
unfolding sum_by
sum_mono zero h = ≤ℤ_refl (pos 0)
sum_mono (suc n) h = ≤ℤ-+ (sum_mono n (λ k l. h k (omega arith))) (h n (le_refl (suc n)))

-- ---- sizes

pub sum-within : (k : ℕ) {f : ℕ → ℤ} {b : ℕ} → ((i : ℕ) → i < k → Within (f i) b) → Within (sum k f) (k * b)
unfolding sum_by
sum-within zero h = record { within = omega arith }
sum-within (suc k) {f} {b} h =
    within-le (within-+ (sum-within k (λ i l. h i (omega arith))) (h k (omega arith))) (omega arith)

-- ---- lists

-- the sum of the products of two lists, place by place, up to the end of the shorter
unfoldable dot : List ℤ → List ℤ → ℤ
dot [] y = pos 0
dot (a ∷ x) [] = pos 0
dot (a ∷ x) (b ∷ y) = a *ℤ b +ℤ dot x y

dot-sum : (n : ℕ) (x y : List ℤ) → length x ≡ n → length y ≡ n →
    dot x y ≡ sum n (λ k. get_or x k (pos 0) *ℤ get_or y k (pos 0))
unfolding dot sum_by
dot-sum zero [] y p q = refl
dot-sum zero (a ∷ x) y p q = absurd (no' (length x) p)
  where
    no' : (n : ℕ) → suc n ≡ zero → ⊥
    no' n e = omega arith
dot-sum (suc n) [] y p q = absurd (no' n p)
  where
    no' : (n : ℕ) → zero ≡ suc n → ⊥
    no' n e = omega arith
dot-sum (suc n) (a ∷ x) [] p q = absurd (no' n q)
  where
    no' : (n : ℕ) → zero ≡ suc n → ⊥
    no' n e = omega arith
dot-sum (suc n) (a ∷ x) (b ∷ y) p q = ap (λ z. a *ℤ b +ℤ z) (dot-sum n x y (suc_inj p) (suc_inj q))
    ∙ sym (sum_head n (λ k. get_or (a ∷ x) k (pos 0) *ℤ get_or (b ∷ y) k (pos 0)))
