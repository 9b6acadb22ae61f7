-- ℤ goals through `omega`: each atom z is pos (pp z) - pos (nn z); an expression is a difference of two naturals.
use mathlib.Core.Path.{◌≡◌, refl, sym, ◌∙◌, ap, ap₂, subst}
use mathlib.Core.List.{List, [], ◌∷◌}
use Prim.Native.Nat.{ℕ, suc, ◌+◌, ◌*◌, ◌≤◌}
use native.Mathlib.Omega.{arith}
use lib.Signed.{◌≤ℤ◌}
use lib.Dec.{le→leb, leb→le}
use lib.IntN.{ℤ, pos, negsuc, neg_ℤ, ◌+ℤ◌, ◌-ℤ◌, ◌*ℤ◌}
use Rattle.whole.proofs.Ring.Normal.{Expr, var, con, ◌⊕◌, ◌⊖◌, ◌⊗◌, ⊝, atom_at, eval}
use Rattle.whole.proofs.Ring.Reify.{Q, reify, reify·atoms}
use Rattle.whole.proofs.Ring.Nonneg.{NN, of_le, to_le}
use Rattle.whole.proofs.Ring.Tools.{ring-at}

-- the two parts of an atom: shut, so that omega takes them for unknowns
pub pp : ℤ → ℕ
pp (pos n) = n
pp (negsuc n) = 0

pub mm : ℤ → ℕ
mm (pos n) = 0
mm (negsuc n) = suc n

parts : (z : ℤ) → z ≡ pos (pp z) -ℤ pos (mm z)
unfolding pp mm
parts (pos n) = search-add n
  where
    search-add : (n : ℕ) → pos n ≡ pos n -ℤ pos 0
    search-add n = ap pos (omega arith)
parts (negsuc n) = zs n
  where
    zs : (n : ℕ) → negsuc n ≡ pos 0 -ℤ pos (suc n)
    zs n = ring-at (pos (suc n) ∷ []) {x = neg_ℤ (pos (suc n))} {y = pos 0 -ℤ pos (suc n)}
        (search reify·atoms depth 30) refl

abbrev mutual
  pub P : List ℤ → Expr → ℕ
  P ρ (var i) = pp (atom_at ρ i)
  P ρ (con (pos n)) = n
  P ρ (con (negsuc n)) = 0
  P ρ (a ⊕ b) = P ρ a + P ρ b
  P ρ (a ⊖ b) = P ρ a + M ρ b
  P ρ (a ⊗ b) = P ρ a * P ρ b + M ρ a * M ρ b
  P ρ (⊝ a) = M ρ a

  pub M : List ℤ → Expr → ℕ
  M ρ (var i) = mm (atom_at ρ i)
  M ρ (con (pos n)) = 0
  M ρ (con (negsuc n)) = suc n
  M ρ (a ⊕ b) = M ρ a + M ρ b
  M ρ (a ⊖ b) = M ρ a + P ρ b
  M ρ (a ⊗ b) = P ρ a * M ρ b + M ρ a * P ρ b
  M ρ (⊝ a) = P ρ a

r+ : (a b c d : ℤ) → (a -ℤ b) +ℤ (c -ℤ d) ≡ (a +ℤ c) -ℤ (b +ℤ d)
r+ a b c d = ring-at (a ∷ b ∷ c ∷ d ∷ []) (search reify depth 30) refl

r- : (a b c d : ℤ) → (a -ℤ b) -ℤ (c -ℤ d) ≡ (a +ℤ d) -ℤ (b +ℤ c)
r- a b c d = ring-at (a ∷ b ∷ c ∷ d ∷ []) (search reify depth 30) refl

r* : (a b c d : ℤ) → (a -ℤ b) *ℤ (c -ℤ d) ≡ (a *ℤ c +ℤ b *ℤ d) -ℤ (a *ℤ d +ℤ b *ℤ c)
r* a b c d = ring-at (a ∷ b ∷ c ∷ d ∷ []) (search reify depth 30) refl

r~ : (a b : ℤ) → neg_ℤ (a -ℤ b) ≡ b -ℤ a
r~ a b = ring-at (a ∷ b ∷ []) (search reify depth 30) refl

n0 : (n : ℕ) → pos n ≡ pos n -ℤ pos 0
n0 n = ap pos (omega arith)

n1 : (n : ℕ) → negsuc n ≡ pos 0 -ℤ pos (suc n)
n1 n = ring-at (pos (suc n) ∷ []) {x = neg_ℤ (pos (suc n))} {y = pos 0 -ℤ pos (suc n)} (search reify·atoms depth 30)
    refl

PM : (ρ : List ℤ) (e : Expr) → eval ρ e ≡ pos (P ρ e) -ℤ pos (M ρ e)
PM ρ (var i) = parts (atom_at ρ i)
PM ρ (con (pos n)) = n0 n
PM ρ (con (negsuc n)) = n1 n
PM ρ (a ⊕ b) = ap₂ (λ x y. x +ℤ y) (PM ρ a) (PM ρ b) ∙ r+ (pos (P ρ a)) (pos (M ρ a)) (pos (P ρ b)) (pos (M ρ b))
PM ρ (a ⊖ b) = ap₂ (λ x y. x -ℤ y) (PM ρ a) (PM ρ b) ∙ r- (pos (P ρ a)) (pos (M ρ a)) (pos (P ρ b)) (pos (M ρ b))
PM ρ (a ⊗ b) = ap₂ (λ x y. x *ℤ y) (PM ρ a) (PM ρ b) ∙ r* (pos (P ρ a)) (pos (M ρ a)) (pos (P ρ b)) (pos (M ρ b))
PM ρ (⊝ a) = ap neg_ℤ (PM ρ a) ∙ r~ (pos (P ρ a)) (pos (M ρ a))

le-nat : {m n : ℕ} → NN (pos n -ℤ pos m) → m ≤ n
le-nat {m} {n} h = leb→le m n (to_le {a = pos m} {b = pos n} h).le

nat_le : {m n : ℕ} → m ≤ n → NN (pos n -ℤ pos m)
nat_le {m} {n} h = of_le {a = pos m} {b = pos n} (record { le = le→leb m n h })

-- ---- one search for each fact: `out ρ (of_le h) (search reify depth 30) : M .. ≤ P ..`
pub out : (ρ : List ℤ) {z : ℤ} → NN z → (q : Q ρ z) → M ρ q.ex ≤ P ρ q.ex
out ρ h q = le-nat (subst NN (sym q.ex-ok ∙ PM ρ q.ex) h)

into : (ρ : List ℤ) {z : ℤ} (q : Q ρ z) → M ρ q.ex ≤ P ρ q.ex → NN z
into ρ q h = subst NN (sym (sym q.ex-ok ∙ PM ρ q.ex)) (nat_le h)

pub le-ω : (ρ : List ℤ) {a b : ℤ} (q : Q ρ (b -ℤ a)) → M ρ q.ex ≤ P ρ q.ex → a ≤ℤ b
le-ω ρ q h = to_le (into ρ q h)
