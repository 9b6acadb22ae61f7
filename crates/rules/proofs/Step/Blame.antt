-- The multipliers of a violated row that nothing can move are those of the plain words (specs/Facts/Blame).
--   blame          `Blame` of the lists of `evidence`
--   cannot-blames  `Blamed` of every step that ends in `cannot`: who leaves, that none enters, and the blame
use mathlib.Core.Bool.{cond}
use mathlib.Core.List.{List}
use mathlib.Core.Logic.{◌≢◌}
use mathlib.Core.Option.{none, some}
use mathlib.Core.Path.{ap, refl, subst₂, sym, ◌∙◌, ◌≡◌}
use Prim.Native.Nat.{ℕ, ◌<◌}
use lib.IntN.{nat_abs, negsuc, neg_ℤ, neg_ℤ-neg_ℤ, pos, ℤ}
use lib.Signed.{◌<ℤ◌, ◌≤ℤ◌}
use Rattle.whole.proofs.Numbers.Order.{<ℤ→≤ℤ, le→false, lt→true, neg-down, neg-up}
use Rattle.whole.proofs.Numbers.Sizes.{abs_neg}
use Rattle.whole.proofs.Lists.Tables.{table_at, table-length}
use Rattle.whole.proofs.Numbers.Tests.{own-size}
use Rattle.whole.specs.Tables.{table}
use Rattle.whole.specs.Values.{Values}
use Rattle.rules.proofs.Step.Leaving.{left}
use Rattle.rules.proofs.Step.Cases.{step-cannot}
use Rattle.rules.proofs.Tableau.Relation.{relation-off, relation-own}
use Rattle.rules.specs.Facts.Blame.{Blame, Blamed}
use Rattle.rules.specs.Problem.{Problem, vars, word}
use Rattle.rules.specs.Facts.State.{Rowed}
use Rattle.rules.specs.Step.{Leaving, Side, State, above, below, cannot, entering, evidence, leaving, positive}
use Rattle.rules.specs.Step.{pull, step}
use Rattle.rules.specs.Tableau.{Tableau, entry, relation}

-- ---- one number

positive-up : (a : ℤ) → pos 0 <ℤ a → positive a ≡ pos (nat_abs a)
positive-up (pos n) h = ap (λ b. cond b (pos n) (pos 0)) (lt→true h)
positive-up (negsuc n) h = absurd h.lt

pub positive-down : (a : ℤ) → a ≤ℤ pos 0 → positive a ≡ pos 0
positive-down a h = ap (λ b. cond b a (pos 0)) (le→false h)

size-pull : (σ : Side) (a : ℤ) → nat_abs (pull σ a) ≡ nat_abs a
unfolding pull
size-pull below a = refl
size-pull above a = abs_neg a

pull-zero : (σ : Side) → pull σ (pos 0) ≡ pos 0
unfolding pull
pull-zero below = refl
pull-zero above = refl

-- the two multipliers of a number: above 0 it goes to the upper limit, below 0 to the lower
up-pair : (a : ℤ) → pos 0 <ℤ a → (positive a ≡ pos (nat_abs a)) × (positive (neg_ℤ a) ≡ pos 0)
up-pair a h = (positive-up a h, positive-down (neg_ℤ a) (<ℤ→≤ℤ (neg-up a h)))

down-pair : (a : ℤ) → a <ℤ pos 0 → (positive (neg_ℤ a) ≡ pos (nat_abs a)) × (positive a ≡ pos 0)
down-pair a h = (positive-up (neg_ℤ a) (neg-down a h) ∙ ap pos (abs_neg a), positive-down a (<ℤ→≤ℤ h))

-- ---- the lists

module _ (N : ℕ) (σ : Side) (r : ℕ) (t : Tableau) (r-var : r < N) (D-pos : pos 0 <ℤ t.common) where
  abbrev y : ℕ → ℤ
  y v = pull σ (relation t r v)

  abbrev lowers : List ℤ
  lowers = table N (λ v. positive (neg_ℤ (y v)))

  abbrev uppers : List ℤ
  uppers = table N (λ v. positive (y v))

  lower-at : (v : ℕ) → v < N → word lowers v ≡ positive (neg_ℤ (y v))
  lower-at v h = table_at N (λ v. positive (neg_ℤ (y v))) (pos 0) v h

  upper-at : (v : ℕ) → v < N → word uppers v ≡ positive (y v)
  upper-at v h = table_at N (λ v. positive (y v)) (pos 0) v h

  at_other : (v : ℕ) → v ≢ r → y v ≡ pull σ (entry t r v)
  at_other v n = ap (pull σ) (relation-off t r v n)

  own_below : σ ≡ below → y r ≡ neg_ℤ t.common
  unfolding pull
  own_below e = ap (λ τ. pull τ (relation t r r)) e ∙ relation-own t r

  own-above : σ ≡ above → y r ≡ t.common
  unfolding pull
  own-above e = ap (λ τ. pull τ (relation t r r)) e ∙ ap neg_ℤ (relation-own t r) ∙ neg_ℤ-neg_ℤ t.common

  D-size : pos (nat_abs t.common) ≡ t.common
  D-size = sym (own-size 0 t.common (<ℤ→≤ℤ D-pos))

  blame : Blame N σ r t lowers uppers
  blame = record {
    many-lowers = table-length N (λ v. positive (neg_ℤ (y v)));
    many-uppers = table-length N (λ v. positive (y v));
    violated-lower = λ e. let p = down-pair (y r) (rw (own_below e) (neg-up t.common D-pos)) in (
      lower-at r r-var ∙ p.0 ∙ ap pos (ap nat_abs (own_below e) ∙ abs_neg t.common) ∙ D-size,
      upper-at r r-var ∙ p.1,
    );
    violated-upper = λ e. let p = up-pair (y r) (rw (own-above e) D-pos) in
        (upper-at r r-var ∙ p.0 ∙ ap (λ z. pos (nat_abs z)) (own-above e) ∙ D-size, lower-at r r-var ∙ p.1);
    to-increase = λ v h n q. let p = up-pair (y v) (rw (at_other v n) q) in
        (upper-at v h ∙ p.0 ∙ ap pos (ap nat_abs (at_other v n) ∙ size-pull σ (entry t r v)), lower-at v h ∙ p.1);
    to-decrease = λ v h n q. let p = down-pair (y v) (rw (at_other v n) q) in
        (lower-at v h ∙ p.0 ∙ ap pos (ap nat_abs (at_other v n) ∙ size-pull σ (entry t r v)), upper-at v h ∙ p.1);
    elsewhere = λ v h n e. let z : y v ≡ pos 0 = at_other v n ∙ ap (pull σ) e ∙ pull-zero σ in
        (lower-at v h ∙ ap (λ a. positive (neg_ℤ a)) z, upper-at v h ∙ ap positive z);
  }

-- ---- the step that ends so

pub cannot-blames : {X : Type 0} (𝓥 : Values X) (P : Problem X) (s : State X) (ls us : List ℤ) → Rowed 𝓥 P s →
    step 𝓥 P s ≡ cannot ls us → Blamed 𝓥 P s ls us
unfolding evidence
cannot-blames {X} 𝓥 P s ls us S e = go ((step-cannot 𝓥 P s ls us).0 e)
  where
    lows : Leaving X → List ℤ
    lows r = table (vars P) (λ v. positive (neg_ℤ (pull r.side (relation s.tableau r.variable v))))

    ups : Leaving X → List ℤ
    ups r = table (vars P) (λ v. positive (pull r.side (relation s.tableau r.variable v)))

    go : (r : Leaving X) × (leaving 𝓥 P s ≡ some r) × (entering 𝓥 P s r ≡ none)
        × (evidence {X = X} (vars P) r.side (relation s.tableau r.variable) ≡ cannot ls us) →
        Blamed 𝓥 P s ls us
    go (r, q, n, z) =
        let a : lows r ≡ ls = cc in
        let b : ups r ≡ us = cc in
        record {
          out = r;
          leaves = q;
          none-enters = n;
          blame = subst₂ (Blame (vars P) r.side r.variable s.tableau) a b
              (blame (vars P) r.side r.variable s.tableau (left 𝓥 P s r q).variable S.positive);
        }
