-- Where a variable leaves and none can enter, the limits, each times its multiplier, sum above 0; over any values. A
-- nonbasic variable that cannot move has the limit that stops it, and sits at it or beyond, so the sum is no less than
-- what the row is violated by.
--   Stops                        what stops a variable
--   low-missing, high-missing    where a limit is missing the multiplier is 0
--   gain                         the sum of what they give (`gives`)
use mathlib.Core.Bool.{cond}
use mathlib.Core.List.{[], ◌∷◌}
use mathlib.Core.Logic.{◌≢◌}
use mathlib.Core.Option.{Option, none-ne-some, none, some}
use mathlib.Core.Path.{ap, ap₂, refl, subst, sym, ◌∙◌, ◌≡◌}
use Prim.Native.Nat.{ℕ, ◌<◌}
use native.Mathlib.Decide.{ℕ_discrete}
use lib.Dec.{eqb}
use lib.IntN.{*ℤ-zero, negsuc, neg_ℤ, neg_ℤ-neg_ℤ, pos, ℤ, ◌*ℤ◌}
use lib.Signed.{<ℤ_irrefl, <ℤ-≤ℤ_trans, ◌<ℤ◌}
use Rattle.whole.proofs.Numbers.Order.{<ℤ→≤ℤ, Sign, minus, neg-down, neg-up, null, plus, sign}
use Rattle.whole.proofs.Ring.Reify.{reify}
use Rattle.whole.proofs.Tells.{tells-eq, tells-false, tells-true}
use Rattle.whole.proofs.Ring.Tools.{ring-at}
use Rattle.whole.proofs.Values.Laws.{down, le_refl, lt-le-trans, nil-plus, same-le, scale-nil, scale-total, total-le}
use Rattle.whole.proofs.Values.Laws.{total-one, total-plus, total-same, up}
use Rattle.whole.specs.Values.{Laws, Le, Lt, Values, total}
use Rattle.rules.proofs.Step.Blame.{positive-down}
use Rattle.rules.proofs.Step.Entering.{none-enters}
use Rattle.rules.proofs.Evidence.Own.Terms.{positive-yes, pull-is, turn}
use Rattle.rules.proofs.Step.Gaps.{gap-less, gap_more}
use Rattle.rules.proofs.Tableau.Relation.{relation-off, relation-own}
use Rattle.rules.proofs.Tableau.Units.{same-off, same_self}
use Rattle.rules.specs.Problem.{Problem, vars}
use Rattle.rules.specs.Facts.Rule.{Left, Outside, too-high, too-low}
use Rattle.rules.specs.Facts.State.{Rowed}
use Rattle.rules.specs.Step.{Leaving, Side, gap, State, common, entering, limit_at, positive, pull, same, scaled}
use Rattle.rules.specs.Step.{seat, seated}
use Rattle.rules.specs.Tableau.{entry, relation}

-- what two limits give, each times its multiplier: the lower one added, the upper one taken away
abbrev pub gives : {X : Type 0} → Values X → Option X → Option X → ℤ → ℤ → X
gives 𝓥 low high lo hi = 𝓥.plus (𝓥.scale lo (seated 𝓥 low)) (𝓥.scale (neg_ℤ hi) (seated 𝓥 high))

module _ {X : Type 0} (𝓥 : Values X) (law : Laws 𝓥) where
  open 𝓥 use {nil, scale}

  -- what would have to fall has a lower limit, and is at it or beyond; what would have to rise, an upper one
  record Stops (low high : Option X) (z : ℤ) (e : X) : Type 0 where
    falls : z <ℤ pos 0 → (l : X) × (low ≡ some l) × Le 𝓥 e l
    rises : pos 0 <ℤ z → (u : X) × (high ≡ some u) × Le 𝓥 u e

  least : (low high : Option X) (z : ℤ) (e : X) → Stops low high z e →
      Le 𝓥 (scale (neg_ℤ z) e) (gives 𝓥 low high (positive (neg_ℤ z)) (positive z))
  unfolding seated
  least low high z e S = go (sign z)
    where
      go : Sign z → Le 𝓥 (scale (neg_ℤ z) e) (gives 𝓥 low high (positive (neg_ℤ z)) (positive z))
      go (plus h) = let (u, p, k) = S.rises h in
          subst (Le 𝓥 (scale (neg_ℤ z) e))
          (sym (ap₂ 𝓥.plus
          (ap (λ a. scale a (seated 𝓥 low)) (positive-down (neg_ℤ z) (<ℤ→≤ℤ (neg-up z h)))
          ∙ law.zero-scale (seated 𝓥 low))
          (ap₂ (λ a o. scale (neg_ℤ a) (seated 𝓥 o)) (positive-yes z h) p)
          ∙ nil-plus law (scale (neg_ℤ z) u)))
          (down law (neg-up z h) k)
      go (null p) = subst (λ z. Le 𝓥 (scale (neg_ℤ z) e) (gives 𝓥 low high (positive (neg_ℤ z)) (positive z))) (sym p)
          (same-le law (law.zero-scale e
          ∙ sym (ap₂ 𝓥.plus (law.zero-scale (seated 𝓥 low)) (law.zero-scale (seated 𝓥 high)) ∙ law.plus_nil nil)))
      go (minus h) = let (l, p, k) = S.falls h in
          subst (Le 𝓥 (scale (neg_ℤ z) e))
          (sym (ap₂ 𝓥.plus
          (ap₂ (λ a o. scale a (seated 𝓥 o)) (positive-yes (neg_ℤ z) (neg-down z h)) p)
          (ap (λ a. scale (neg_ℤ a) (seated 𝓥 high)) (positive-down z (<ℤ→≤ℤ h)) ∙ law.zero-scale (seated 𝓥 high))
          ∙ law.plus_nil (scale (neg_ℤ z) l)))
          (up law (neg-down z h) k)

  low-present : (low high : Option X) (z : ℤ) (e : X) → Stops low high z e → low ≡ none → positive (neg_ℤ z) ≡ pos 0
  low-present low high z e S q = go (sign z)
    where
      go : Sign z → positive (neg_ℤ z) ≡ pos 0
      go (plus h) = positive-down (neg_ℤ z) (<ℤ→≤ℤ (neg-up z h))
      go (null p) = rw p refl
      go (minus h) = let (l, f, k) = S.falls h in absurd (none-ne-some l (sym q ∙ f))

  high-present : (low high : Option X) (z : ℤ) (e : X) → Stops low high z e → high ≡ none → positive z ≡ pos 0
  high-present low high z e S q = go (sign z)
    where
      go : Sign z → positive z ≡ pos 0
      go (plus h) = let (u, f, k) = S.rises h in absurd (none-ne-some u (sym q ∙ f))
      go (null p) = rw p refl
      go (minus h) = positive-down z (<ℤ→≤ℤ h)

  module _ (P : Problem X) (s : State X) (R : Rowed 𝓥 P s) (r : Leaving X) (L : Left 𝓥 P s r)
      (none-enter : entering 𝓥 P s r ≡ none) where
    abbrev q : ℕ
    q = r.variable

    abbrev limit : X
    limit = limit_at 𝓥 P r

    abbrev y : ℕ → ℤ
    y v = relation s.tableau q v

    abbrev z : ℕ → ℤ
    z v = pull r.side (y v)

    -- the value of a nonbasic variable; of the violated one the violated limit
    e : ℕ → X
    e v = cond (eqb v q) limit (seated 𝓥 (seat s v))

    e-own : e q ≡ limit
    unfolding e
    e-own = ap (λ b. cond b limit (seated 𝓥 (seat s q))) (tells-true (tells-eq q q) refl)

    e-off : (v : ℕ) → v ≢ q → e v ≡ seated 𝓥 (seat s v)
    unfolding e
    e-off v n = ap (λ b. cond b limit (seated 𝓥 (seat s v))) (tells-false (tells-eq v q) n)

    own-stops : {σ : Side} {l : X} → Outside 𝓥 P s q σ l → Stops (P.lower q) (P.upper q) (pull σ (neg_ℤ (common s))) l
    unfolding pull
    own-stops {l = l} (too-low p h) = record {
      falls = λ k. (l, p, le_refl law l);
      rises = λ k. absurd (<ℤ_irrefl (<ℤ-≤ℤ_trans k (<ℤ→≤ℤ (neg-up (common s) R.positive))));
    }
    own-stops {l = l} (too-high p h) = record {
      falls = λ k. absurd (<ℤ_irrefl (<ℤ-≤ℤ_trans R.positive (<ℤ→≤ℤ (rw (neg_ℤ-neg_ℤ (common s)) at k))));
      rises = λ k. (l, p, le_refl law l);
    }

    stops : (v : ℕ) → v < vars P → Stops (P.lower v) (P.upper v) (z v) (e v)
    unfolding seated
    stops v h = go (ℕ_discrete v q)
      where
        sits : (o : Option X) → seat s v ≡ o →
            Stops (P.lower v) (P.upper v) (pull r.side (entry s.tableau q v)) (seated 𝓥 (seat s v))
        sits none p =
            let zero-there : pull r.side (entry s.tableau q v) ≡ pos 0 =
            ap (pull r.side) (R.basic-zero q v L.variable h p) ∙ pull-is r.side (pos 0)
            ∙ *ℤ-zero (turn r.side) in
            rw zero-there (record { falls = λ k. absurd (<ℤ_irrefl k); rises = λ k. absurd (<ℤ_irrefl k) })
        sits (some x) p = let S = none-enters 𝓥 P s r none-enter v x h p in
            rw p (record { falls = λ k. S.no-fall k; rises = λ k. S.no-rise k })

        go : Dec (v ≡ q) → Stops (P.lower v) (P.upper v) (z v) (e v)
        go (yes c) = rw (c, relation-own s.tableau q, e-own) (own-stops L.outside)
        go (no n) = rw (relation-off s.tableau q v n, e-off v n) (sits (seat s v) refl)

    pub low-missing : (v : ℕ) → v < vars P → P.lower v ≡ none → positive (neg_ℤ (z v)) ≡ pos 0
    low-missing v h = low-present (P.lower v) (P.upper v) (z v) (e v) (stops v h)

    pub high-missing : (v : ℕ) → v < vars P → P.upper v ≡ none → positive (z v) ≡ pos 0
    high-missing v h = high-present (P.lower v) (P.upper v) (z v) (e v) (stops v h)

    -- ---- the row, of those values

    abbrev owed : X
    owed = scale (negsuc 0) (scale (common s) limit)

    share : (v : ℕ) → v < vars P →
        scale (y v) (e v) ≡ 𝓥.plus (scale (entry s.tableau q v) (seated 𝓥 (seat s v))) (scale (same v q) owed)
    share v h = go (ℕ_discrete v q)
      where
        around : (d : ℤ) → neg_ℤ d ≡ negsuc 0 *ℤ d
        around d = ring-at (d ∷ []) (search reify depth 30) refl

        go : Dec (v ≡ q) → scale (y v) (e v)
            ≡ 𝓥.plus (scale (entry s.tableau q v) (seated 𝓥 (seat s v))) (scale (same v q) owed)
        go (yes c) = rw (
          c,
          relation-own s.tableau q,
          e-own,
          R.basic-zero q q L.variable L.variable L.was-basic,
          same_self q,
        )
            (ap (λ a. scale a limit) (around (common s)) ∙ law.scale-times (negsuc 0) (common s) limit
            ∙ sym (ap₂ 𝓥.plus (law.zero-scale (seated 𝓥 (seat s q))) (law.one-scale owed) ∙ nil-plus law owed))
        go (no n) = rw (relation-off s.tableau q v n, e-off v n, same-off v q n)
            (sym (ap (𝓥.plus (scale (entry s.tableau q v) (seated 𝓥 (seat s v)))) (law.zero-scale owed)
            ∙ law.plus_nil (scale (entry s.tableau q v) (seated 𝓥 (seat s v)))))

    row-sum : total 𝓥 (vars P) (λ v. scale (y v) (e v)) ≡ 𝓥.plus (scaled 𝓥 P s q) owed
    unfolding scaled
    row-sum =
        total-same law (vars P) (λ v. scale (y v) (e v)) (λ v. 𝓥.plus (terms v) (scale (same v q) owed)) share
        ∙ total-plus law (vars P) terms (λ v. scale (same v q) owed)
        ∙ ap (𝓥.plus (total 𝓥 (vars P) terms)) (total-one law (vars P) q (λ v. scale (same v q) owed) L.variable
        (λ v h n. ap (λ a. scale a owed) (same-off v q n) ∙ law.zero-scale owed)
        ∙ ap (λ a. scale a owed) (same_self q) ∙ law.one-scale owed)
      where
        terms : ℕ → X
        terms v = scale (entry s.tableau q v) (seated 𝓥 (seat s v))

    turned-sum : total 𝓥 (vars P) (λ v. scale (neg_ℤ (z v)) (e v))
        ≡ scale (neg_ℤ (turn r.side)) (𝓥.plus (scaled 𝓥 P s q) owed)
    turned-sum =
        total-same law (vars P) _ (λ v. scale (neg_ℤ (turn r.side)) (scale (y v) (e v)))
        (λ v h. ap (λ a. scale a (e v)) (ap neg_ℤ (pull-is r.side (y v)) ∙ around (turn r.side) (y v))
        ∙ law.scale-times (neg_ℤ (turn r.side)) (y v) (e v))
        ∙ sym (scale-total law (neg_ℤ (turn r.side)) (vars P) (λ v. scale (y v) (e v)))
        ∙ ap (scale (neg_ℤ (turn r.side))) row-sum
      where
        around : (a b : ℤ) → neg_ℤ (a *ℤ b) ≡ neg_ℤ a *ℤ b
        around a b = ring-at (a ∷ b ∷ []) (search reify depth 30) refl

    -- what the row is violated by
    violated : {σ : Side} {l : X} → Outside 𝓥 P s q σ l →
        Lt 𝓥 nil (scale (neg_ℤ (turn σ)) (gap 𝓥 (scaled 𝓥 P s q) (scale (common s) l)))
    violated {l = l} (too-low p h) =
        ap (λ a. 𝓥.less a (scale (negsuc 0) lacks)) (sym (scale-nil law (negsuc 0)))
        ∙ law.less-down (negsuc 0) nil lacks (record { lt = tt })
        ∙ gap-less 𝓥 law (scaled 𝓥 P s q) (scale (common s) l) ∙ h
      where
        lacks : X
        lacks = gap 𝓥 (scaled 𝓥 P s q) (scale (common s) l)
    violated {l = l} (too-high p h) =
        ap (𝓥.less nil) (law.one-scale (gap 𝓥 (scaled 𝓥 P s q) (scale (common s) l)))
        ∙ gap_more 𝓥 law (scaled 𝓥 P s q) (scale (common s) l) ∙ h

    pub gain :
        Lt 𝓥 nil (total 𝓥 (vars P) (λ v. gives 𝓥 (P.lower v) (P.upper v)
        (positive (neg_ℤ (pull r.side (relation s.tableau r.variable v))))
        (positive (pull r.side (relation s.tableau r.variable v)))))
    gain = lt-le-trans law (rw turned-sum (violated L.outside))
        (total-le law (vars P) (λ v. scale (neg_ℤ (z v)) (e v)) _ (λ v h.
        least (P.lower v) (P.upper v) (z v) (e v) (stops v h)))
