-- The relation of a row, and the pivot that it makes: the solved rows hold of every solution of the rows before.
--   relation-own, relation-off    minus D at the row's own variable, its entries elsewhere
--   balanced                      the sum of the relation, of a solution of the rows, is 0
--   solved-holds                  a row of `solved` holds of x where the rows of the tableau do
use mathlib.Core.Bool.{Bool, cond, false, true}
use mathlib.Core.Logic.{◌≢◌}
use mathlib.Core.Path.{ap, refl, sym, ◌∙◌, ◌≡◌}
use Prim.Native.Nat.{ℕ, ◌<◌}
use lib.Dec.{T, eqb, eqb_refl, eqb→eq}
use lib.IntN.{*ℤ-zero, +ℤ_idr, +ℤ_invl, +ℤ_invr, -ℤ-+ℤ_cancel, neg_ℤ, pos, zero-*ℤ, ℤ, ◌*ℤ◌, ◌+ℤ◌, ◌-ℤ◌}
use Rattle.whole.proofs.Ring.Laws.{*ℤ-assoc, *ℤ-distribr, neg-*ℤ}
use Rattle.whole.proofs.Numbers.Sums.{sum_one, sum-plus, sum_same, sum-times}
use Rattle.whole.proofs.Lists.Tables.{matrix-at}
use Rattle.whole.specs.Sums.{sum}
use Rattle.rules.specs.Tableau.{Tableau, entry, relation, solved}

pub relation-own : (t : Tableau) (r : ℕ) → relation t r r ≡ neg_ℤ t.common
unfolding relation
relation-own t r = go (eqb r r) refl (eqb_refl r)
  where
    go : (b : Bool) → eqb r r ≡ b → T b → cond b (neg_ℤ t.common) (entry t r r) ≡ neg_ℤ t.common
    go true e h = refl
    go false e h = absurd h

pub relation-off : (t : Tableau) (r u : ℕ) → u ≢ r → relation t r u ≡ entry t r u
unfolding relation
relation-off t r u n = go (eqb u r) refl
  where
    go : (b : Bool) → eqb u r ≡ b → cond b (neg_ℤ t.common) (entry t r u) ≡ entry t r u
    go true e = absurd (n (eqb→eq u r (rw e tt)))
    go false e = refl

-- ---- the pivot: the rows hold of every solution x of the rows before

module _ (N : ℕ) (t : Tableau) (r w : ℕ) (r-var : r < N) (w-var : w < N) (x : ℕ → ℤ)
    (holds : (v : ℕ) → v < N → t.common *ℤ x v ≡ sum N (λ u. entry t v u *ℤ x u))
    (basic : (v : ℕ) → v < N → entry t v r ≡ pos 0) where
  -- what the relation adds to row r: minus common at r, and nothing elsewhere
  extra : ℕ → ℤ
  extra u = relation t r u *ℤ x u -ℤ entry t r u *ℤ x u

  extra-sum : sum N extra ≡ neg_ℤ (t.common *ℤ x r)
  unfolding extra
  extra-sum = sum_one N r extra r-var (λ u h n. rw (relation-off t r u n) (+ℤ_invr (entry t r u *ℤ x u)))
      ∙ (rw (relation-own t r, basic r r-var, zero-*ℤ (x r))
      (+ℤ_idr (neg_ℤ t.common *ℤ x r) ∙ neg-*ℤ t.common (x r)))

  -- the relation's sum is 0
  pub balanced : sum N (λ u. relation t r u *ℤ x u) ≡ pos 0
  unfolding extra
  balanced =
      sum_same N (λ u. relation t r u *ℤ x u) (λ u. extra u +ℤ entry t r u *ℤ x u)
      (λ u h. sym (-ℤ-+ℤ_cancel (relation t r u *ℤ x u) (entry t r u *ℤ x u)))
      ∙ sum-plus N extra (λ u. entry t r u *ℤ x u)
      ∙ (rw (extra-sum, ← holds r r-var) (+ℤ_invl (t.common *ℤ x r)))

  -- (p m - c y) z = p (m z) - c (y z)
  spread : (p m c y z : ℤ) → (p *ℤ m -ℤ c *ℤ y) *ℤ z ≡ p *ℤ (m *ℤ z) +ℤ neg_ℤ c *ℤ (y *ℤ z)
  spread p m c y z =
      *ℤ-distribr (p *ℤ m) (neg_ℤ (c *ℤ y)) z
      ∙ (rw (*ℤ-assoc p m z, neg-*ℤ (c *ℤ y) z, *ℤ-assoc c y z, ← neg-*ℤ c (y *ℤ z)) refl)

  pub solved-holds : (v : ℕ) → v < N → (solved N t r w).common *ℤ x v ≡ sum N (λ u. entry (solved N t r w) v u *ℤ x u)
  unfolding solved
  solved-holds v h = sym (
      sum_same N (λ u. entry (solved N t r w) v u *ℤ x u)
      (λ u. p *ℤ (entry t v u *ℤ x u) +ℤ neg_ℤ c *ℤ (relation t r u *ℤ x u))
      (λ u k. ap (λ e. e *ℤ x u) (matrix-at N (λ v u. p *ℤ entry t v u -ℤ entry t v w *ℤ relation t r u) v u h k)
      ∙ spread p (entry t v u) c (relation t r u) (x u))
      ∙ sum-plus N (λ u. p *ℤ (entry t v u *ℤ x u)) (λ u. neg_ℤ c *ℤ (relation t r u *ℤ x u))
      ∙ (rw (
        sum-times N p (λ u. entry t v u *ℤ x u),
        sum-times N (neg_ℤ c) (λ u. relation t r u *ℤ x u),
        balanced,
        *ℤ-zero (neg_ℤ c),
        ← holds v h,
      )
      (+ℤ_idr (p *ℤ (t.common *ℤ x v)) ∙ sym (*ℤ-assoc p t.common (x v)))))
    where
      p : ℤ
      p = entry t r w

      c : ℤ
      c = entry t v w
