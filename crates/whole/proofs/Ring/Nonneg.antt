-- Certificates of order: `NN z` says 0 ≤ z; sums and products of such facts are such facts, and a goal follows from a
-- certificate where what is left over is a constant that is not below 0.
--   of_le, of_lt, of_eq   an order or an equation as a fact NN (the difference)
--   to_le, to-lt                  and back
--   _⊞_ _⊠_ _⊡_                   sum, product, multiple of facts
--   slk, blw                      what is left over is not below 0; is below 0
--   contra                        a certificate of a number below 0 is a contradiction
use mathlib.Core.Path.{◌≡◌, refl, sym, ◌∙◌, ap, subst}
use mathlib.Core.Bool.{Bool, true, false, not, cond}
use mathlib.Core.List.{List, [], ◌∷◌}
use Prim.Native.Nat.{ℕ, zero, suc, ◌+◌, ◌-◌, ◌≤◌, ◌<◌}
use native.Mathlib.Omega.{arith}
use lib.Dec.{T, ltb, leb→le, le→leb, ltb→lt, nltb→le}
use lib.Signed.{le_z, lt_z, non_neg, ◌≤ℤ◌, ◌<ℤ◌, lt_z_no, ≤ℤ_refl}
use lib.IntN.{ℤ, pos, negsuc, sub_ℕ, ◌+ℤ◌, ◌-ℤ◌, ◌*ℤ◌}
use Rattle.whole.proofs.Ring.Normal.{norm, norm-sound, Hor, kon}
use Rattle.whole.proofs.Ring.Normal.{eval_h}
use Rattle.whole.proofs.Ring.Reify.{Q, reify, ring! }

cond_ind : (c : Bool) (x y : ℤ) (P : ℤ → Type 0) → (T c → P x) → (T (not c) → P y) → P (cond c x y)
cond_ind true x y P f g = f tt
cond_ind false x y P f g = g tt

pub sub-ge : (a b n : ℕ) → a ≡ b + n → sub_ℕ a b ≡ pos n
sub-ge a b n h = cond_ind (ltb a b) (negsuc (b - suc a)) (pos (a - b)) (λ z. z ≡ pos n)
    (λ t. absurd (no' (ltb→lt a b t))) (λ t. ap pos (eq' (nltb→le a b t)))
  where
    no' : a < b → ⊥
    no' k = omega arith

    eq' : b ≤ a → a - b ≡ n
    eq' k = omega arith

sub-lt : (a b n : ℕ) → b ≡ suc (a + n) → sub_ℕ a b ≡ negsuc n
sub-lt a b n h = cond_ind (ltb a b) (negsuc (b - suc a)) (pos (a - b)) (λ z. z ≡ negsuc n)
    (λ t. ap negsuc (eq' (ltb→lt a b t))) (λ t. absurd (no' (nltb→le a b t)))
  where
    no' : b ≤ a → ⊥
    no' k = omega arith

    eq' : a < b → b - suc a ≡ n
    eq' k = omega arith

-- 0 ≤ z, as a record so that z can be inferred
pub record NN (z : ℤ) : Type 0 where
  pub nn : T (non_neg z)

-- a ≤ b says that b is a and a natural number
wit : (a b : ℤ) → T (le_z a b) → (n : ℕ) × (b ≡ a +ℤ pos n)
wit (pos a) (pos b) t = (b - a, ap pos (e a b (leb→le a b t)))
  where
    e : (a b : ℕ) → a ≤ b → b ≡ a + (b - a)
    e a b h = omega arith
wit (pos a) (negsuc b) t = absurd t
wit (negsuc a) (pos b) t = (suc (a + b), sym (sub-ge (suc (a + b)) (suc a) b (e a b)))
  where
    e : (a b : ℕ) → suc (a + b) ≡ suc a + b
    e a b = omega arith
wit (negsuc a) (negsuc b) t = (a - b, sym (sub-lt (a - b) (suc a) b (e a b (leb→le b a t))))
  where
    e : (a b : ℕ) → b ≤ a → suc a ≡ suc ((a - b) + b)
    e a b h = omega arith

unwit : (a : ℤ) (n : ℕ) → T (le_z a (a +ℤ pos n))
unwit (pos a) n = le→leb a (a + n) (omega arith)
unwit (negsuc a) n = cond_ind (ltb n (suc a)) (negsuc (suc a - suc n)) (pos (n - suc a)) (λ z. T (le_z (negsuc a) z))
    (λ t. le→leb (suc a - suc n) a (omega arith)) (λ t. tt)

nn-pos : (z : ℤ) → T (non_neg z) → (n : ℕ) × (z ≡ pos n)
nn-pos (pos n) t = (n, refl)
nn-pos (negsuc n) t = absurd t

-- ---- between ≤ and NN
add-sub : (a n : ℤ) → a +ℤ n -ℤ a ≡ n
add-sub a n = ring! (a ∷ n ∷ []) (search reify depth 30) (search reify depth 30) refl

sub-add : (a b : ℤ) → a +ℤ (b -ℤ a) ≡ b
sub-add a b = ring! (a ∷ b ∷ []) (search reify depth 30) (search reify depth 30) refl

pub of_le : {a b : ℤ} → a ≤ℤ b → NN (b -ℤ a)
of_le {a} {b} h =
    let w = wit a b h.le in
    record { nn = subst (λ z. T (non_neg z)) (sym (ap (λ x. x -ℤ a) w.1 ∙ add-sub a (pos w.0))) tt }

pub to_le : {a b : ℤ} → NN (b -ℤ a) → a ≤ℤ b
to_le {a} {b} h =
    let w = nn-pos (b -ℤ a) h.nn in
    record { le = subst (λ z. T (le_z a z)) (ap (λ x. a +ℤ x) (sym w.1) ∙ sub-add a b) (unwit a w.0) }

-- a < b is a + 1 ≤ b
lt→le' : (a b : ℤ) → T (lt_z a b) → T (le_z (a +ℤ pos 1) b)
lt→le' (pos a) (pos b) t = le→leb (a + 1) b (e (ltb→lt a b t))
  where
    e : a < b → a + 1 ≤ b
    e h = omega arith
lt→le' (pos a) (negsuc b) t = t
lt→le' (negsuc zero) (pos b) t = le→leb zero b (omega arith)
lt→le' (negsuc (suc a)) (pos b) t = cond_ind (ltb 1 (suc (suc a))) (negsuc (suc (suc a) - 2)) (pos (1 - suc (suc a)))
    (λ z. T (le_z z (pos b))) (λ u. tt) (λ u. absurd (e (nltb→le 1 (suc (suc a)) u)))
  where
    e : suc (suc a) ≤ 1 → ⊥
    e h = omega arith
lt→le' (negsuc a) (negsuc b) t = cond_ind (ltb 1 (suc a)) (negsuc (suc a - 2)) (pos (1 - suc a))
    (λ z. T (le_z z (negsuc b))) (λ u. le→leb b (suc a - 2) (e (ltb→lt b a t)))
    (λ u. absurd (f (nltb→le 1 (suc a) u) (ltb→lt b a t)))
  where
    e : b < a → b ≤ suc a - 2
    e h = omega arith

    f : suc a ≤ 1 → b < a → ⊥
    f h k = omega arith

-- ---- certificates: sums and products of facts 0 ≤ z
infixl 6 ◌⊞◌
infixl 7 ◌⊠◌ ◌⊡◌
pub ◌⊞◌ : {a b : ℤ} → NN a → NN b → NN (a +ℤ b)
◌⊞◌ {a} {b} h k = record { nn = go a b h.nn k.nn }
  where
    go : (a b : ℤ) → T (non_neg a) → T (non_neg b) → T (non_neg (a +ℤ b))
    go (pos a) (pos b) s t = tt
    go (pos a) (negsuc b) s t = absurd t
    go (negsuc a) b s t = absurd s

pub ◌⊠◌ : {a b : ℤ} → NN a → NN b → NN (a *ℤ b)
◌⊠◌ {a} {b} h k = record { nn = go a b h.nn k.nn }
  where
    go : (a b : ℤ) → T (non_neg a) → T (non_neg b) → T (non_neg (a *ℤ b))
    go (pos a) (pos b) s t = tt
    go (pos a) (negsuc b) s t = absurd t
    go (negsuc a) b s t = absurd s

-- a constant factor
◌⊡◌ : (n : ℕ) {a : ℤ} → NN a → NN (pos n *ℤ a)
n ⊡ h = ◌⊠◌ {a = pos n} (record { nn = tt }) h

pub nn-nat : (n : ℕ) → NN (pos n)
nn-nat n = record { nn = tt }

-- what is left of a goal when its certificate is taken off: a constant that is not below zero. A hole in place of `slk`
-- shows the rest
pub data Slack : Hor → Type 0 where
  slk : {n : ℕ} → Slack (kon (pos n))

pub slack-ok : (ρ : List ℤ) (t : Hor) → Slack t → NN (eval_h ρ t)
slack-ok ρ _ slk = record { nn = tt }

-- a certificate for a number below zero is a contradiction
pub data Negative : Hor → Type 0 where
  blw : {n : ℕ} → Negative (kon (negsuc n))

below-ok : (ρ : List ℤ) (t : Hor) → Negative t → T (non_neg (eval_h ρ t)) → ⊥
below-ok ρ _ blw k = k

pub contra : (ρ : List ℤ) {c : ℤ} → NN c → (q : Q ρ c) → Negative (norm q.ex) → ⊥
contra ρ h q t = below-ok ρ (norm q.ex) t (subst (λ z. T (non_neg z)) (sym (norm-sound ρ q.ex ∙ q.ex-ok)) h.nn)

-- ---- strict
pub of_lt : {a b : ℤ} → a <ℤ b → NN (b -ℤ (a +ℤ pos 1))
of_lt {a} {b} h = of_le {a = a +ℤ pos 1} {b = b} (record { le = lt→le' a b h.lt })

pub to-lt : {a b : ℤ} → NN (b -ℤ (a +ℤ pos 1)) → a <ℤ b
to-lt {a} {b} h = record { lt = go (lt_z a b) refl }
  where
    go : (c : Bool) → lt_z a b ≡ c → T (lt_z a b)
    go true e = subst T (sym e) tt
    go false e =
        absurd (contra (a ∷ b ∷ []) (h ⊞ of_le (lt_z_no {a = a} {b = b} (subst (λ c. T (not c)) (sym e) tt)))
        (search reify depth 30) blw)

-- an equation, as two certificates
pub of_eq : {a b : ℤ} → a ≡ b → NN (b -ℤ a)
of_eq {a} {b} e = of_le (subst (λ z. a ≤ℤ z) e (≤ℤ_refl a))
