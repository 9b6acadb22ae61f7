-- A pivot keeps the rows: afterwards D is above 0, rows and columns hold, and seats and zeros agree.
-- N variables; q leaves, w enters, p is the pivot; t1 is the tableau before reduction, t2 the one in lowest common
-- form.
--   pivot-nonzero          the pivot is not 0
--   was-some, was-none     what is seated, and what is basic, afterwards
--   rowed-moved            `Rowed` of the next state
--   lowest-moved           its tableau is in lowest common form
use mathlib.Core.List.{[], ◌∷◌}
use mathlib.Core.Logic.{inl, inr, ◌≢◌, ◌⊎◌}
use mathlib.Core.Option.{none-ne-some, none, some}
use mathlib.Core.Path.{ap, refl, sym, ◌∙◌, ◌≡◌}
use Prim.Native.Nat.{suc, zero, ℕ, ◌+◌, ◌<◌}
use native.Mathlib.Decide.{ℕ_discrete}
use native.Mathlib.Omega.{arith}
use lib.Dec.{ltb→lt, lt→ltb}
use lib.IntN.{*ℤ_comm, *ℤ-zero, +ℤ_idl, +ℤ_idr, +ℤ_invr, negsuc, neg_ℤ, neg_ℤ-neg_ℤ, pos, zero-*ℤ, ℤ, ◌*ℤ◌, ◌+ℤ◌, ◌-ℤ◌}
use lib.ListN.{length-set, set}
use lib.Signed.{<ℤ_irrefl, ◌<ℤ◌}
use Rattle.whole.proofs.Numbers.Order.{Nonzero, cancel, nonzero-ne, product-sign, quotient-up}
use Rattle.whole.proofs.Ring.Reify.{reify}
use Rattle.whole.proofs.Ring.Laws.{*ℤ-assoc, *ℤ-left-comm, *ℤ-neg, neg-*ℤ}
use Rattle.whole.proofs.Numbers.Sums.{sum-plus, sum_same, sum-times}
use Rattle.whole.proofs.Lists.Tables.{matrix-at}
use Rattle.whole.proofs.Ring.Tools.{ring-at}
use Rattle.whole.specs.Sums.{sum}
use Rattle.whole.specs.Values.{Values, whole}
use Rattle.rules.proofs.Step.Entering.{swap}
use Rattle.rules.proofs.Tableau.Lowest.{Factored, factored, reduced-one}
use Rattle.rules.proofs.Tableau.Relation.{relation-off, relation-own, solved-holds}
use Rattle.rules.specs.Evidence.{Rows, row_sum}
use Rattle.rules.specs.Problem.{Problem, vars}
use Rattle.rules.specs.Facts.Rule.{Entered, Left, Suits, Swap, may-go-down, may-go-up}
use Rattle.rules.specs.Facts.State.{Rowed}
use Rattle.rules.specs.Step.{Leaving, Side, State, above, below, common, limit_at, moved, pull, seat}
use Rattle.rules.specs.Tableau.{Tableau, divisor_size, entry, pivot, reduced, relation, solved}

pub pivot-nonzero : {X : Type 0} (𝓥 : Values X) (P : Problem X) (σ : Side) (w : ℕ) (a : ℤ) (x : X) →
    Suits 𝓥 P w (pull σ a) x → Nonzero a
unfolding pull
pivot-nonzero 𝓥 P below w a x (may-go-up h f) = inl h
pivot-nonzero 𝓥 P below w a x (may-go-down h f) = inr h
pivot-nonzero 𝓥 P above w (pos zero) x (may-go-up h f) = absurd (<ℤ_irrefl h)
pivot-nonzero 𝓥 P above w (pos (suc k)) x (may-go-up h f) = absurd h.lt
pivot-nonzero 𝓥 P above w (negsuc k) x (may-go-up h f) = inr (record { lt = tt })
pivot-nonzero 𝓥 P above w (pos zero) x (may-go-down h f) = absurd (<ℤ_irrefl h)
pivot-nonzero 𝓥 P above w (pos (suc k)) x (may-go-down h f) = inl (record { lt = lt→ltb 0 (suc k) (omega arith) })
pivot-nonzero 𝓥 P above w (negsuc k) x (may-go-down h f) = let q : suc k < 0 = ltb→lt (suc k) 0 h.lt in
    let z : ⊥ = omega arith in absurd z

module _ {X : Type 0} (𝓥 : Values X) where
  module _ (P : Problem X) (s : State X) (S : Rowed 𝓥 P s) (r : Leaving X) (w : ℕ) (L : Left 𝓥 P s r)
      (E : Entered 𝓥 P s r w) where
    abbrev N : ℕ
    N = vars P

    abbrev q : ℕ
    q = r.variable

    abbrev t : Tableau
    t = s.tableau

    abbrev p : ℤ
    p = entry t q w

    t1 : Tableau
    t1 = solved N t q w

    t2 : Tableau
    t2 = reduced N t1

    p-nonzero : Nonzero p
    p-nonzero = pivot-nonzero 𝓥 P r.side w p E.value E.suits

    common1 : t1.common ≡ p *ℤ common s
    unfolding t1 solved
    common1 = refl

    common1-nonzero : Nonzero t1.common
    common1-nonzero = rw common1 (product-sign p (common s) S.positive p-nonzero)

    F : Factored N t1
    F = factored N t1 (nonzero-ne t1.common common1-nonzero)

    by-nonzero : Nonzero F.by
    by-nonzero = go common1-nonzero
      where
        go : Nonzero t1.common → Nonzero F.by
        go (inl h) = inl (F.sign-up h)
        go (inr h) = inr (F.sign-down h)

    entry1 : (v u : ℕ) → v < N → u < N → entry t1 v u ≡ p *ℤ entry t v u -ℤ entry t v w *ℤ relation t q u
    unfolding t1 solved
    entry1 v u h k = matrix-at N (λ v u. p *ℤ entry t v u -ℤ entry t v w *ℤ relation t q u) v u h k

    -- an entry of the lowest form from one before it
    entry2 : (v u : ℕ) (z : ℤ) → v < N → u < N → entry t1 v u ≡ F.by *ℤ z → entry t2 v u ≡ z
    unfolding t2
    entry2 v u z h k e = cancel F.by (entry t2 v u) z by-nonzero (F.of_entry v u h k ∙ e)

    positive2 : pos 0 <ℤ t2.common
    unfolding t2
    positive2 = quotient-up F.by t2.common (rw F.of-common common1-nonzero)
        (λ h. F.sign-up (rw F.of-common at h)) (λ h. F.sign-down (rw F.of-common at h))

    holds2 : (x : ℕ → ℤ) → Rows whole P x → (v : ℕ) → v < N → t2.common *ℤ x v ≡ sum N (λ u. entry t2 v u *ℤ x u)
    unfolding t2 t1
    holds2 x X v h = cancel F.by (t2.common *ℤ x v) (sum N (λ u. entry t2 v u *ℤ x u)) by-nonzero (
        sym (*ℤ-assoc F.by t2.common (x v)) ∙ ap (λ d. d *ℤ x v) F.of-common
        ∙ solved-holds N t q w L.variable E.variable x (S.holds x X)
        (λ v k. S.basic-zero v q k L.variable L.was-basic) v h
        ∙ sum_same N (λ u. entry t1 v u *ℤ x u) (λ u. F.by *ℤ (entry t2 v u *ℤ x u))
        (λ u k. ap (λ e. e *ℤ x u) (sym (F.of_entry v u h k)) ∙ *ℤ-assoc F.by (entry t2 v u) (x u))
        ∙ sum-times N F.by (λ u. entry t2 v u *ℤ x u))

    -- c (p m - n y) = p (c m) - y (c n)
    mix : (c k m n y : ℤ) → c *ℤ (k *ℤ m -ℤ n *ℤ y) ≡ k *ℤ (c *ℤ m) +ℤ neg_ℤ y *ℤ (c *ℤ n)
    mix c k m n y = ring-at (c ∷ k ∷ m ∷ n ∷ y ∷ []) (search reify depth 30) refl

    columns1 : (u : ℕ) → u < N → Rows whole P (λ v. entry t1 v u)
    columns1 u k i h =
        entry1 (P.n + i) u (omega arith) k
        ∙ ap (λ z. p *ℤ z -ℤ entry t (P.n + i) w *ℤ y) (S.columns u k i h)
        ∙ ap (λ z. p *ℤ row_sum whole P (λ v. entry t v u) i -ℤ z *ℤ y) (S.columns w E.variable i h)
        ∙ ap (λ z. p *ℤ row_sum whole P (λ v. entry t v u) i +ℤ z)
        (ap neg_ℤ (*ℤ_comm (row_sum whole P (λ v. entry t v w) i) y)
        ∙ sym (neg-*ℤ y (row_sum whole P (λ v. entry t v w) i)))
        ∙ ap (λ z. z +ℤ neg_ℤ y *ℤ row_sum whole P (λ v. entry t v w) i)
        (sym (sum-times P.n p (λ j. P.coefficient i j *ℤ entry t j u)))
        ∙ ap (λ z. sum P.n (λ j. p *ℤ (P.coefficient i j *ℤ entry t j u)) +ℤ z)
        (sym (sum-times P.n (neg_ℤ y) (λ j. P.coefficient i j *ℤ entry t j w)))
        ∙ sym (sum-plus P.n (λ j. p *ℤ (P.coefficient i j *ℤ entry t j u))
        (λ j. neg_ℤ y *ℤ (P.coefficient i j *ℤ entry t j w)))
        ∙ sum_same P.n _ (λ j. P.coefficient i j *ℤ entry t1 j u)
        (λ j g. sym (mix (P.coefficient i j) p (entry t j u) (entry t j w) y)
        ∙ ap (λ z. P.coefficient i j *ℤ z) (sym (entry1 j u (omega arith) k)))
      where
        y : ℤ
        y = relation t q u

    swap-front : (a b c : ℤ) → a *ℤ (b *ℤ c) ≡ b *ℤ (a *ℤ c)
    swap-front a b c = *ℤ-left-comm a b c

    columns2 : (u : ℕ) → u < N → Rows whole P (λ v. entry t2 v u)
    unfolding t2
    columns2 u k i h = entry2 (P.n + i) u (row_sum whole P (λ v. entry t2 v u) i) (omega arith) k (
        columns1 u k i h
        ∙ sum_same P.n (λ j. P.coefficient i j *ℤ entry t1 j u) (λ j. F.by *ℤ (P.coefficient i j *ℤ entry t2 j u))
        (λ j g. ap (λ z. P.coefficient i j *ℤ z) (sym (F.of_entry j u (omega arith) k))
        ∙ swap-front (P.coefficient i j) F.by (entry t2 j u))
        ∙ sum-times P.n F.by (λ j. P.coefficient i j *ℤ entry t2 j u))

    w-not-q : w ≢ q
    w-not-q e = none-ne-some E.value (sym L.was-basic ∙ (rw e at E.was-seated))

    zero2 : (v u : ℕ) → v < N → u < N → entry t1 v u ≡ pos 0 → entry t2 v u ≡ pos 0
    zero2 v u h k e = entry2 v u (pos 0) h k (e ∙ sym (*ℤ-zero F.by))

    at-w : (v : ℕ) → v < N → entry t2 v w ≡ pos 0
    at-w v h = zero2 v w h E.variable
        (entry1 v w h E.variable ∙ (rw (relation-off t q w w-not-q, *ℤ_comm p (entry t v w))
        (+ℤ_invr (entry t v w *ℤ p))))

    at-basic : (v u : ℕ) → v < N → u < N → u ≢ q → seat s u ≡ none → entry t2 v u ≡ pos 0
    at-basic v u h k n e = zero2 v u h k
        (entry1 v u h k ∙ (rw (
          relation-off t q u n,
          S.basic-zero v u h k e,
          S.basic-zero q u L.variable k e,
          *ℤ-zero p,
          *ℤ-zero (entry t v w),
        ) refl))

    own-q : entry t2 q q ≡ t2.common
    unfolding t2
    own-q = entry2 q q t2.common L.variable L.variable
        (entry1 q q L.variable L.variable
        ∙ (rw (
          relation-own t q,
          S.basic-zero q q L.variable L.variable L.was-basic,
          *ℤ-zero p,
          *ℤ-neg p (common s),
          neg_ℤ-neg_ℤ (p *ℤ common s),
        ) (+ℤ_idl (p *ℤ common s)))
        ∙ sym common1 ∙ sym F.of-common)

    own_old : (v : ℕ) (x : X) → v < N → v ≢ q → v ≢ w → seat s v ≡ some x → entry t2 v v ≡ t2.common
    unfolding t2
    own_old v x h n k e = entry2 v v t2.common h h
        (entry1 v v h h
        ∙ (rw (S.own v x h e, S.own-zero v w x h E.variable e (λ z. k (sym z)), zero-*ℤ (relation t q v))
        (+ℤ_idr (p *ℤ common s)))
        ∙ sym common1 ∙ sym F.of-common)

    own-zero-q : (u : ℕ) → u < N → u ≢ q → entry t2 q u ≡ pos 0
    own-zero-q u k n = zero2 q u L.variable k
        (entry1 q u L.variable k ∙ (rw (relation-off t q u n) (+ℤ_invr (p *ℤ entry t q u))))

    own-zero-old : (v u : ℕ) (x : X) → v < N → u < N → v ≢ q → v ≢ w → seat s v ≡ some x → u ≢ v → entry t2 v u ≡ pos 0
    own-zero-old v u x h k n m e d = zero2 v u h k (entry1 v u h k
        ∙ (rw (
          S.own-zero v u x h k e d,
          S.own-zero v w x h E.variable e (λ z. m (sym z)),
          *ℤ-zero p,
          zero-*ℤ (relation t q u),
        ) refl))

    W : Swap (seat s) (seat (moved 𝓥 P s r w)) q w (limit_at 𝓥 P r)
    W = swap 𝓥 P s r w S.seats-many L E

    -- what is seated, or basic, afterwards
    pub was-some : (v : ℕ) (x : X) → seat (moved 𝓥 P s r w) v ≡ some x →
        ((v ≡ q) × (x ≡ limit_at 𝓥 P r)) ⊎ ((v ≢ q) × (v ≢ w) × (seat s v ≡ some x))
    was-some v x e = go (ℕ_discrete v q) (ℕ_discrete v w)
      where
        go : Dec (v ≡ q) → Dec (v ≡ w) → ((v ≡ q) × (x ≡ limit_at 𝓥 P r)) ⊎ ((v ≢ q) × (v ≢ w) × (seat s v ≡ some x))
        go (yes z) d = let a : some (limit_at 𝓥 P r) ≡ some x = sym W.set_to ∙ (rw z at e) in inl (z, (cc))
        go (no n) (yes z) = absurd (none-ne-some x (sym W.now-basic ∙ (rw z at e)))
        go (no n) (no m) = inr (n, m, sym (W.others v n m) ∙ e)

    pub was-none : (v : ℕ) → seat (moved 𝓥 P s r w) v ≡ none → (v ≡ w) ⊎ ((v ≢ q) × (seat s v ≡ none))
    was-none v e = go (ℕ_discrete v q) (ℕ_discrete v w)
      where
        go : Dec (v ≡ q) → Dec (v ≡ w) → (v ≡ w) ⊎ ((v ≢ q) × (seat s v ≡ none))
        go (yes z) d = absurd (none-ne-some (limit_at 𝓥 P r) (sym (rw z at e) ∙ W.set_to))
        go (no n) (yes z) = inl z
        go (no n) (no m) = inr (n, sym (W.others v n m) ∙ e)

    pub rowed-moved : Rowed 𝓥 P (moved 𝓥 P s r w)
    unfolding moved pivot t1 t2
    rowed-moved = record {
      seats-many = length-set (set s.seats w none) q (some (limit_at 𝓥 P r)) ∙ length-set s.seats w none
          ∙ S.seats-many;
      positive = positive2;
      columns = columns2;
      holds = holds2;
      basic-zero = λ v u h k e. zeros v u h k (was-none u e);
      own = λ v x h e. owns v x h (was-some v x e);
      own-zero = λ v u x h k e d. own-zeros v u x h k d (was-some v x e);
    }
      where
        zeros : (v u : ℕ) → v < N → u < N → (u ≡ w) ⊎ ((u ≢ q) × (seat s u ≡ none)) → entry t2 v u ≡ pos 0
        zeros v u h k (inl e) = rw e (at-w v h)
        zeros v u h k (inr e) = at-basic v u h k e.0 e.1

        owns : (v : ℕ) (x : X) → v < N → ((v ≡ q) × (x ≡ limit_at 𝓥 P r)) ⊎ ((v ≢ q) × (v ≢ w) × (seat s v ≡ some x)) →
            entry t2 v v ≡ t2.common
        owns v x h (inl e) = rw e.0 own-q
        owns v x h (inr e) = own_old v x h e.0 e.1 e.2

        own-zeros : (v u : ℕ) (x : X) → v < N → u < N → u ≢ v →
            ((v ≡ q) × (x ≡ limit_at 𝓥 P r)) ⊎ ((v ≢ q) × (v ≢ w) × (seat s v ≡ some x)) → entry t2 v u ≡ pos 0
        own-zeros v u x h k d (inl e) = rw e.0 (own-zero-q u k (λ z. d (z ∙ sym e.0)))
        own-zeros v u x h k d (inr e) = own-zero-old v u x h k e.0 e.1 e.2 d

    pub lowest-moved : divisor_size N (moved 𝓥 P s r w).tableau ≡ 1
    unfolding moved pivot t1
    lowest-moved = reduced-one N t1 (nonzero-ne t1.common common1-nonzero)
