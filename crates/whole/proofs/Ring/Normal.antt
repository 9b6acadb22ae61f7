-- A reflective normaliser for commutative-ring identities over ℤ (sparse Horner form).
use mathlib.Core.Path.{◌≡◌, refl, sym, ◌∙◌, ap}
use mathlib.Core.List.{List, [], ◌∷◌}
use Prim.Native.Nat.{ℕ, zero, suc, compare, Ordering}
use lib.Dec.{T, compare_is_eq, eqb→eq}
use lib.IntN.{ℤ, pos, negsuc, neg_ℤ, ◌+ℤ◌, ◌-ℤ◌, ◌*ℤ◌, +ℤ_idl, +ℤ_idr, +ℤ_assoc, +ℤ_comm, zero-*ℤ, *ℤ-zero}
use Rattle.whole.proofs.Ring.Laws.{+ℤ-left-comm, *ℤ-assoc, *ℤ-left-comm, *ℤ-distribr, *ℤ-distribl, neg-*ℤ}
use Rattle.whole.proofs.Ring.Laws.{*ℤ-idl, *ℤ-idr}

infixl 6 ◌⊕◌ ◌⊖◌
infixl 7 ◌⊗◌
pub data Expr : Type 0 where
  var : ℕ → Expr
  con : ℤ → Expr
  ◌⊕◌ ◌⊖◌ ◌⊗◌ : Expr → Expr → Expr
  ⊝ : Expr → Expr

abbrev pub atom_at : List ℤ → ℕ → ℤ
atom_at [] n = pos zero
atom_at (z ∷ ρ) zero = z
atom_at (z ∷ ρ) (suc n) = atom_at ρ n

abbrev pub eval : List ℤ → Expr → ℤ
eval ρ (var i) = atom_at ρ i
eval ρ (con c) = c
eval ρ (a ⊕ b) = eval ρ a +ℤ eval ρ b
eval ρ (a ⊖ b) = eval ρ a -ℤ eval ρ b
eval ρ (a ⊗ b) = eval ρ a *ℤ eval ρ b
eval ρ (⊝ a) = neg_ℤ (eval ρ a)

-- hor i p q is xᵢ·p + q
pub data Hor : Type 0 where
  kon : ℤ → Hor
  hor : ℕ → Hor → Hor → Hor

abbrev pub eval_h : List ℤ → Hor → ℤ
eval_h ρ (kon c) = c
eval_h ρ (hor i p q) = atom_at ρ i *ℤ eval_h ρ p +ℤ eval_h ρ q

-- the three cases wait: each is a function of Unit
abbrev cmp3 : Ordering → (Unit {0} → Hor) → (Unit {0} → Hor) → (Unit {0} → Hor) → Hor
cmp3 Ordering.lt f g h = f tt
cmp3 Ordering.eq f g h = g tt
cmp3 Ordering.gt f g h = h tt

cmp3-ind : (o : Ordering) (f g h : Unit {0} → Hor) (P : Hor → Type 0) → P (f tt) →
    (T (compare_is_eq o) → P (g tt)) → P (h tt) → P (cmp3 o f g h)
cmp3-ind Ordering.lt f g h P x y z = x
cmp3-ind Ordering.eq f g h P x y z = y tt
cmp3-ind Ordering.gt f g h P x y z = z

abbrev mk : ℕ → Hor → Hor → Hor
mk i (kon (pos zero)) q = q
mk i (kon (pos (suc n))) q = hor i (kon (pos (suc n))) q
mk i (kon (negsuc n)) q = hor i (kon (negsuc n)) q
mk i (hor j a b) q = hor i (hor j a b) q

abbrev add_c : ℤ → Hor → Hor
add_c a (kon b) = kon (a +ℤ b)
add_c a (hor i p q) = hor i p (add_c a q)

abbrev add_x : ℕ → Hor → (Hor → Hor) → (Hor → Hor) → Hor → Hor
add_x i p fp fq (kon b) = hor i p (fq (kon b))
add_x i p fp fq (hor j r s) = cmp3 (compare i j) (λ u. hor i p (fq (hor j r s)))
    (λ u. mk i (fp r) (fq s)) (λ u. hor j r (add_x i p fp fq s))

abbrev add_h : Hor → Hor → Hor
add_h (kon a) t = add_c a t
add_h (hor i p q) t = add_x i p (add_h p) (add_h q) t

abbrev pub scale : ℤ → Hor → Hor
scale c (kon b) = kon (c *ℤ b)
scale c (hor i p q) = hor i (scale c p) (scale c q)

abbrev sc : ℤ → Hor → Hor
sc (pos zero) t = kon (pos zero)
sc (pos (suc n)) t = scale (pos (suc n)) t
sc (negsuc n) t = scale (negsuc n) t

abbrev mul_x : ℕ → Hor → Hor
mul_x i (kon c) = mk i (kon c) (kon (pos zero))
mul_x i (hor j r s) = cmp3 (compare i j) (λ u. hor i (hor j r s) (kon (pos zero)))
    (λ u. hor i (hor j r s) (kon (pos zero))) (λ u. hor j (mul_x i r) (mul_x i s))

abbrev mul_h : Hor → Hor → Hor
mul_h (kon c) t = sc c t
mul_h (hor i p q) t = add_h (mul_x i (mul_h p t)) (mul_h q t)

abbrev pub norm : Expr → Hor
norm (var i) = hor i (kon (pos 1)) (kon (pos 0))
norm (con c) = kon c
norm (a ⊕ b) = add_h (norm a) (norm b)
norm (a ⊖ b) = add_h (norm a) (scale (negsuc 0) (norm b))
norm (a ⊗ b) = mul_h (norm a) (norm b)
norm (⊝ a) = scale (negsuc 0) (norm a)

-- ---- soundness
merge : (x p r q s : ℤ) → x *ℤ (p +ℤ r) +ℤ (q +ℤ s) ≡ (x *ℤ p +ℤ q) +ℤ (x *ℤ r +ℤ s)
merge x p r q s = simp (*ℤ-distribl, +ℤ_assoc, +ℤ_comm, +ℤ-left-comm)

module _ (ρ : List ℤ) where
  mk-sound : (i : ℕ) (p q : Hor) → eval_h ρ (mk i p q) ≡ atom_at ρ i *ℤ eval_h ρ p +ℤ eval_h ρ q
  mk-sound i (kon (pos zero)) q = sym (ap (λ x. x +ℤ eval_h ρ q) (*ℤ-zero (atom_at ρ i)) ∙ +ℤ_idl (eval_h ρ q))
  mk-sound i (kon (pos (suc n))) q = refl
  mk-sound i (kon (negsuc n)) q = refl
  mk-sound i (hor j a b) q = refl

  add_c-sound : (a : ℤ) (t : Hor) → eval_h ρ (add_c a t) ≡ a +ℤ eval_h ρ t
  add_c-sound a (kon b) = refl
  add_c-sound a (hor i p q) = ap (λ x. atom_at ρ i *ℤ eval_h ρ p +ℤ x) (add_c-sound a q)
      ∙ +ℤ-left-comm (atom_at ρ i *ℤ eval_h ρ p) a (eval_h ρ q)

  add_x-lt : (i : ℕ) (p u t : Hor) (Q : ℤ) → eval_h ρ u ≡ Q +ℤ eval_h ρ t →
      atom_at ρ i *ℤ eval_h ρ p +ℤ eval_h ρ u ≡ (atom_at ρ i *ℤ eval_h ρ p +ℤ Q) +ℤ eval_h ρ t
  add_x-lt i p u t Q h = ap (λ x. atom_at ρ i *ℤ eval_h ρ p +ℤ x) h
      ∙ sym (+ℤ_assoc (atom_at ρ i *ℤ eval_h ρ p) Q (eval_h ρ t))

  add_x-eq : (i j : ℕ) (p r s pr qs : Hor) (Q : ℤ) → i ≡ j →
      eval_h ρ pr ≡ eval_h ρ p +ℤ eval_h ρ r → eval_h ρ qs ≡ Q +ℤ eval_h ρ s
      → eval_h ρ (mk i pr qs) ≡ (atom_at ρ i *ℤ eval_h ρ p +ℤ Q) +ℤ (atom_at ρ j *ℤ eval_h ρ r +ℤ eval_h ρ s)
  add_x-eq i j p r s pr qs Q e h k =
      mk-sound i pr qs ∙ rw (h, k, ← e) (merge (atom_at ρ i) (eval_h ρ p) (eval_h ρ r) Q (eval_h ρ s))

  add_x-sound : (i : ℕ) (p : Hor) (fp fq : Hor → Hor) (Q : ℤ)
      → ((t : Hor) → eval_h ρ (fp t) ≡ eval_h ρ p +ℤ eval_h ρ t)
      → ((t : Hor) → eval_h ρ (fq t) ≡ Q +ℤ eval_h ρ t)
      → (t : Hor) → eval_h ρ (add_x i p fp fq t) ≡ (atom_at ρ i *ℤ eval_h ρ p +ℤ Q) +ℤ eval_h ρ t
  add_x-sound i p fp fq Q hp hq (kon b) = add_x-lt i p (fq (kon b)) (kon b) Q (hq (kon b))
  add_x-sound i p fp fq Q hp hq (hor j r s) =
      cmp3-ind (compare i j) (λ u. hor i p (fq (hor j r s))) (λ u. mk i (fp r) (fq s))
      (λ u. hor j r (add_x i p fp fq s))
      (λ z. eval_h ρ z ≡ (atom_at ρ i *ℤ eval_h ρ p +ℤ Q) +ℤ (atom_at ρ j *ℤ eval_h ρ r +ℤ eval_h ρ s))
      (add_x-lt i p (fq (hor j r s)) (hor j r s) Q (hq (hor j r s)))
      (λ e. add_x-eq i j p r s (fp r) (fq s) Q (eqb→eq i j e) (hp r) (hq s))
      (ap (λ x. atom_at ρ j *ℤ eval_h ρ r +ℤ x) (add_x-sound i p fp fq Q hp hq s)
      ∙ +ℤ-left-comm (atom_at ρ j *ℤ eval_h ρ r) (atom_at ρ i *ℤ eval_h ρ p +ℤ Q) (eval_h ρ s))

  add_h-sound : (a b : Hor) → eval_h ρ (add_h a b) ≡ eval_h ρ a +ℤ eval_h ρ b
  add_h-sound (kon a) t = add_c-sound a t
  add_h-sound (hor i p q) t = add_x-sound i p (add_h p) (add_h q) (eval_h ρ q) (add_h-sound p) (add_h-sound q) t

  scale-sound : (c : ℤ) (t : Hor) → eval_h ρ (scale c t) ≡ c *ℤ eval_h ρ t
  scale-sound c (kon b) = refl
  scale-sound c (hor i p q) =
      rw (scale-sound c p, scale-sound c q) (simp (*ℤ-distribl) (rw (*ℤ-left-comm (atom_at ρ i) c (eval_h ρ p))))

  sc-sound : (c : ℤ) (t : Hor) → eval_h ρ (sc c t) ≡ c *ℤ eval_h ρ t
  sc-sound (pos zero) t = sym (zero-*ℤ (eval_h ρ t))
  sc-sound (pos (suc n)) t = scale-sound (pos (suc n)) t
  sc-sound (negsuc n) t = scale-sound (negsuc n) t

  mul_x-sound : (i : ℕ) (t : Hor) → eval_h ρ (mul_x i t) ≡ atom_at ρ i *ℤ eval_h ρ t
  mul_x-sound i (kon c) = mk-sound i (kon c) (kon (pos zero)) ∙ +ℤ_idr (atom_at ρ i *ℤ c)
  mul_x-sound i (hor j r s) =
      cmp3-ind (compare i j) (λ u. hor i (hor j r s) (kon (pos zero)))
      (λ u. hor i (hor j r s) (kon (pos zero))) (λ u. hor j (mul_x i r) (mul_x i s))
      (λ z. eval_h ρ z ≡ atom_at ρ i *ℤ (atom_at ρ j *ℤ eval_h ρ r +ℤ eval_h ρ s))
      (+ℤ_idr (atom_at ρ i *ℤ (atom_at ρ j *ℤ eval_h ρ r +ℤ eval_h ρ s)))
      (λ e. +ℤ_idr (atom_at ρ i *ℤ (atom_at ρ j *ℤ eval_h ρ r +ℤ eval_h ρ s)))
      (rw (mul_x-sound i r, mul_x-sound i s)
      (rw (
        *ℤ-distribl (atom_at ρ i) (atom_at ρ j *ℤ eval_h ρ r) (eval_h ρ s),
        *ℤ-left-comm (atom_at ρ i) (atom_at ρ j) (eval_h ρ r),
      )))

  mul_h-sound : (a b : Hor) → eval_h ρ (mul_h a b) ≡ eval_h ρ a *ℤ eval_h ρ b
  mul_h-sound (kon c) t = sc-sound c t
  mul_h-sound (hor i p q) t =
      add_h-sound (mul_x i (mul_h p t)) (mul_h q t)
      ∙ rw (mul_x-sound i (mul_h p t), mul_h-sound p t, mul_h-sound q t) (simp (*ℤ-distribr, *ℤ-assoc))

  minus : (a : ℤ) → negsuc 0 *ℤ a ≡ neg_ℤ a
  minus a = neg-*ℤ (pos 1) a ∙ ap neg_ℤ (*ℤ-idl a)

  pub norm-sound : (e : Expr) → eval_h ρ (norm e) ≡ eval ρ e
  norm-sound (var i) = +ℤ_idr (atom_at ρ i *ℤ pos 1) ∙ *ℤ-idr (atom_at ρ i)
  norm-sound (con c) = refl
  norm-sound (a ⊕ b) = add_h-sound (norm a) (norm b) ∙ rw (norm-sound a, norm-sound b)
  norm-sound (a ⊖ b) = add_h-sound (norm a) (scale (negsuc 0) (norm b))
      ∙ rw (scale-sound (negsuc 0) (norm b), norm-sound a, norm-sound b, minus)
  norm-sound (a ⊗ b) = mul_h-sound (norm a) (norm b) ∙ rw (norm-sound a, norm-sound b)
  norm-sound (⊝ a) = scale-sound (negsuc 0) (norm a) ∙ rw (norm-sound a, minus)

  pub ring : (a b : Expr) → norm a ≡ norm b → eval ρ a ≡ eval ρ b
  ring a b h = sym (norm-sound a) ∙ ap (eval_h ρ) h ∙ norm-sound b
