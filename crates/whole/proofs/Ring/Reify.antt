-- The syntax of an integer expression, found by `search`: an element of `Q ρ z` is an Expr whose value over ρ is z.
use mathlib.Core.Path.{◌≡◌, refl, sym, ◌∙◌, ap, ap₂}
use mathlib.Core.List.{List, ◌∷◌}
use Prim.Native.Nat.{ℕ, zero, suc, ◌+◌, ◌*◌}
use lib.IntN.{ℤ, pos, negsuc, neg_ℤ, ◌+ℤ◌, ◌*ℤ◌}
use Rattle.whole.proofs.Ring.Normal.{Expr, var, con, ◌⊕◌, ◌⊗◌, ⊝, atom_at, eval, norm, ring}

pub record At (a : ℤ) (ρ : List ℤ) : Type 0 where
  pub ix : ℕ
  pub ix-ok : atom_at ρ ix ≡ a

abbrev pub here : {a : ℤ} {ρ : List ℤ} → At a (a ∷ ρ)
here = record { ix = zero; ix-ok = refl }

abbrev pub there : {a b : ℤ} {ρ : List ℤ} → At a ρ → At a (b ∷ ρ)
there h = record { ix = suc h.ix; ix-ok = h.ix-ok }

pub record Q (ρ : List ℤ) (z : ℤ) : Type 0 where
  pub ex : Expr
  pub ex-ok : eval ρ ex ≡ z

module _ {ρ : List ℤ} where
  abbrev pub qv : {a : ℤ} → At a ρ → Q ρ a
  qv h = record { ex = var h.ix; ex-ok = h.ix-ok }

  abbrev pub qp : {n : ℕ} → Q ρ (pos n)
  qp {n} = record { ex = con (pos n); ex-ok = refl }

  abbrev pub qn : {n : ℕ} → Q ρ (negsuc n)
  qn {n} = record { ex = con (negsuc n); ex-ok = refl }

  abbrev pub q+ : {a b : ℤ} → Q ρ a → Q ρ b → Q ρ (a +ℤ b)
  q+ p q = record { ex = p.ex ⊕ q.ex; ex-ok = ap₂ (λ x y. x +ℤ y) p.ex-ok q.ex-ok }

  abbrev pub q* : {a b : ℤ} → Q ρ a → Q ρ b → Q ρ (a *ℤ b)
  q* p q = record { ex = p.ex ⊗ q.ex; ex-ok = ap₂ (λ x y. x *ℤ y) p.ex-ok q.ex-ok }

  abbrev pub q~ : {a : ℤ} → Q ρ a → Q ρ (neg_ℤ a)
  q~ p = record { ex = ⊝ p.ex; ex-ok = ap neg_ℤ p.ex-ok }

  -- for terms with `pos n`, n open, as an atom of ρ: only small constants are read as constants,
  -- and pos of a sum, a product, a successor is taken apart (definitionally a sum, a product in ℤ)
  abbrev pub q0 : Q ρ (pos 0)
  q0 = qp

  abbrev pub q1 : Q ρ (pos 1)
  q1 = qp

  abbrev pub q2 : Q ρ (pos 2)
  q2 = qp

  abbrev pub q_1 : Q ρ (negsuc 0)
  q_1 = qn

  abbrev pub qp+ : {m n : ℕ} → Q ρ (pos m) → Q ρ (pos n) → Q ρ (pos (m + n))
  qp+ p q = q+ p q

  abbrev pub qp* : {m n : ℕ} → Q ρ (pos m) → Q ρ (pos n) → Q ρ (pos (m * n))
  qp* p q = q* p q

pub ruleset reify = (q+, q*, q~, qp, qn, qv, here, there)

pub ruleset reify·atoms = (q+, q*, q~, q0, q1, q2, q_1, qp+, qp*, qv, here, there)

-- ring! ρ (search reify depth 30) (search reify depth 30) refl
pub ring! : (ρ : List ℤ) {x y : ℤ} (p : Q ρ x) (q : Q ρ y) → norm p.ex ≡ norm q.ex → x ≡ y
ring! ρ p q h = sym p.ex-ok ∙ ring ρ p.ex q.ex h ∙ q.ex-ok
