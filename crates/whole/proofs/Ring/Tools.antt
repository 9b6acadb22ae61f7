-- The tools, one search each. ρ lists the atoms, which may be any terms; a hole in place of the last argument shows
-- what is left over.
--   ring-at ρ (search reify depth 30) refl            an identity of a commutative ring
--   eq-by ρ (k ⊠₀ of-≡ h ⊞₀ ..) (search ..) refl      an equation from a combination of equations
--   le-at, lt_at ρ (of-le h ⊠ of-le k ⊞ ..) (..) slk  an order from a nonnegative combination of orders
-- From about ten atoms on the search wants `fits 20000`.
use mathlib.Core.Path.{◌≡◌, refl, sym, ◌∙◌, ap, ap₂, subst}
use mathlib.Core.List.{List, [], ◌∷◌}
use lib.Signed.{◌≤ℤ◌, ◌<ℤ◌}
use lib.IntN.{ℤ, pos, ◌+ℤ◌, ◌-ℤ◌, ◌*ℤ◌, +ℤ_idl, +ℤ_invr, *ℤ-zero}
use Rattle.whole.proofs.Ring.Normal.{norm, norm-sound, kon, eval_h}
use Rattle.whole.proofs.Ring.Reify.{Q, reify, ring! }
use Rattle.whole.proofs.Ring.Nonneg.{NN, to_le, to-lt, ◌⊞◌, Slack, slack-ok}

diff-zero : (x y : ℤ) → x -ℤ y ≡ pos 0 → x ≡ y
diff-zero x y e = ring! (x ∷ y ∷ []) {x = x} {y = (x -ℤ y) +ℤ y} (search reify depth 30) (search reify depth 30) refl
    ∙ ap (λ z. z +ℤ y) e ∙ +ℤ_idl y

zero_of : (ρ : List ℤ) {z : ℤ} (q : Q ρ z) → norm q.ex ≡ kon (pos 0) → z ≡ pos 0
zero_of ρ q t = sym (norm-sound ρ q.ex ∙ q.ex-ok) ∙ ap (eval_h ρ) t

pub ring-at : (ρ : List ℤ) {x y : ℤ} (q : Q ρ (x -ℤ y)) → norm q.ex ≡ kon (pos 0) → x ≡ y
ring-at ρ {x} {y} q t = diff-zero x y (zero_of ρ q t)

-- ---- equations as facts z ≡ 0, for linear combinations
pub record Z0 (z : ℤ) : Type 0 where
  pub is0 : z ≡ pos 0

pub of-≡ : {x y : ℤ} → x ≡ y → Z0 (x -ℤ y)
of-≡ {x} {y} e = record { is0 = ap (λ z. z -ℤ y) e ∙ +ℤ_invr y }

infixl 6 ◌⊞₀◌
infixl 7 ◌⊠₀◌
pub ◌⊞₀◌ : {a b : ℤ} → Z0 a → Z0 b → Z0 (a +ℤ b)
h ⊞₀ k = record { is0 = ap₂ (λ x y. x +ℤ y) h.is0 k.is0 }

pub ◌⊠₀◌ : (k : ℤ) {a : ℤ} → Z0 a → Z0 (k *ℤ a)
k ⊠₀ h = record { is0 = ap (λ x. k *ℤ x) h.is0 ∙ *ℤ-zero k }

-- x ≡ y, where x - y is the combination c of equations
pub eq-by : (ρ : List ℤ) {x y c : ℤ} → Z0 c → (q : Q ρ ((x -ℤ y) -ℤ c)) → norm q.ex ≡ kon (pos 0) → x ≡ y
eq-by ρ {x} {y} {c} h q t = diff-zero x y (diff-zero (x -ℤ y) c (zero_of ρ q t) ∙ h.is0)

-- the same for an order, one search
split_off : (x y : ℤ) → (x -ℤ y) +ℤ y ≡ x
split_off x y = ring! (x ∷ y ∷ []) (search reify depth 30) (search reify depth 30) refl

sl : (ρ : List ℤ) {g c : ℤ} → NN c → (q : Q ρ (g -ℤ c)) → Slack (norm q.ex) → NN g
sl ρ {g} {c} h q t =
    subst NN (ap (λ x. x +ℤ c) (norm-sound ρ q.ex ∙ q.ex-ok) ∙ split_off g c) (slack-ok ρ (norm q.ex) t ⊞ h)

pub le-at : (ρ : List ℤ) {x y c : ℤ} → NN c → (q : Q ρ ((y -ℤ x) -ℤ c)) → Slack (norm q.ex) → x ≤ℤ y
le-at ρ h q t = to_le (sl ρ h q t)

pub lt_at : (ρ : List ℤ) {x y c : ℤ} → NN c → (q : Q ρ ((y -ℤ (x +ℤ pos 1)) -ℤ c)) → Slack (norm q.ex) → x <ℤ y
lt_at ρ h q t = to-lt (sl ρ h q t)
