-- The part of the proof of termination that is about numbers: two steps do not clash. Stated over any ordered values on
-- which whole numbers act, so that it serves either side (a variable that must fall is one that must rise in the order
-- turned round). The row of p, which leaves at T, is compared with the values at S, term by term: unmoved variables
-- agree, a variable below r did not suit at T and is within its limits at S, and r itself is on the wrong side at S. So
-- p is further outside at S than at T; but p is below r.
--   no-clash    of `Facts`, what steps S and T know of each other
--   barred      of `Barred`: a violated row that nothing can move bars every x that would meet the limits
use mathlib.Core.Logic.{inl, inr, ◌⊎◌}
use mathlib.Core.Option.{Option, none, some}
use mathlib.Core.Path.{ap, refl, subst, sym, ◌∙◌, ◌≡◌}
use Prim.Native.Nat.{ℕ, ◌<◌}
use native.Mathlib.Decide.{dec_lt, ℕ_discrete}
use native.Mathlib.Omega.{arith}
use lib.IntN.{pos, ℤ}
use lib.Signed.{◌<ℤ◌}
use Rattle.whole.proofs.Numbers.Order.{Sign, minus, null, plus, sign}
use Rattle.whole.proofs.Values.Laws.{down, down-strict, le-le, le_lt_trans, lt_irrefl, lt-le-trans, same-le, scale-comm}
use Rattle.whole.proofs.Values.Laws.{scale-total, total-le, total-lt, total-same, up, up_strict, weaken}
use Rattle.whole.specs.Values.{Laws, Le, Lt, Values, total}
use Rattle.rules.specs.Step.{seated}

module _ {X : Type 0} (𝓥 : Values X) where
  open 𝓥 use {scale}

  abbrev le : X → X → Type 0
  le x y = Le 𝓥 x y

  abbrev lt : X → X → Type 0
  lt x y = Lt 𝓥 x y

  -- what steps S and T know of each other, where what leaves at T must rise
  pub record Facts : Type 0 where
    pub N : ℕ
    pub lower : ℕ → Option X
    pub upper : ℕ → Option X
    pub r : ℕ
    pub p : ℕ
    pub r-var : r < N
    pub p-below : p < r
    -- step S: common, common times each value, the seats
    pub d_s : ℤ
    pub d_s-pos : pos 0 <ℤ d_s
    pub y_s : ℕ → X
    pub seat_s : ℕ → Option X
    pub seated_s : (w : ℕ) (x : X) → w < N → seat_s w ≡ some x → y_s w ≡ scale d_s x
    pub low_ok : (v : ℕ) (l : X) → v < r → lower v ≡ some l → le (scale d_s l) (y_s v)
    pub high-ok : (v : ℕ) (u : X) → v < r → upper v ≡ some u → le (y_s v) (scale d_s u)
    -- step T: common, row p, the seats
    pub d_t : ℤ
    pub d_t-pos : pos 0 <ℤ d_t
    pub a : ℕ → ℤ
    pub seat_t : ℕ → Option X
    pub basic-zero : (w : ℕ) → w < N → seat_t w ≡ none → a w ≡ pos 0
    pub row-of-S : scale d_t (y_s p) ≡ total 𝓥 N (λ w. scale (a w) (y_s w))
    pub no-rise : (w : ℕ) (x : X) → w < r → seat_t w ≡ some x → pos 0 <ℤ a w → (u : X) × (upper w ≡ some u) × le u x
    pub no-fall : (w : ℕ) (x : X) → w < r → seat_t w ≡ some x → a w <ℤ pos 0 → (l : X) × (lower w ≡ some l) × le x l
    pub lp : X
    pub lp-is : lower p ≡ some lp
    pub p-broken : lt (total 𝓥 N (λ w. scale (a w) (seated 𝓥 (seat_t w)))) (scale d_t lp)
    -- r left at S, and enters at T with the limit that it got
    pub xr : X
    pub xr-is : seat_t r ≡ some xr
    pub suits-r : (pos 0 <ℤ a r × ((u : X) → upper r ≡ some u → lt xr u))
        ⊎ (a r <ℤ pos 0 × ((l : X) → lower r ≡ some l → lt l xr))
    pub left_r : ((lower r ≡ some xr) × lt (y_s r) (scale d_s xr)) ⊎ ((upper r ≡ some xr) × lt (scale d_s xr) (y_s r))
    pub above : (w : ℕ) (x : X) → r < w → seat_t w ≡ some x → seat_s w ≡ some x

  module _ (L : Laws 𝓥) (F : Facts) where
    open F use {N, r, p, d_s, d_t, a, y_s, seat_s, seat_t, xr, lp}

    abbrev left : ℕ → X
    left w = scale (a w) (y_s w)

    abbrev right : ℕ → X
    right w = scale (a w) (scale d_s (seated 𝓥 (seat_t w)))

    strict-at-r : lt (left r) (right r)
    unfolding seated
    strict-at-r = subst (λ o. lt (left r) (scale (a r) (scale d_s (seated 𝓥 o)))) (sym F.xr-is)
        (go F.suits-r F.left_r)
      where
        go : (pos 0 <ℤ a r × ((u : X) → F.upper r ≡ some u → lt xr u))
            ⊎ (a r <ℤ pos 0 × ((l : X) → F.lower r ≡ some l → lt l xr)) →
            ((F.lower r ≡ some xr) × lt (y_s r) (scale d_s xr)) ⊎ ((F.upper r ≡ some xr) × lt (scale d_s xr) (y_s r)) →
            lt (scale (a r) (y_s r)) (scale (a r) (scale d_s xr))
        go (inl s) (inl v) = up_strict L s.0 v.1
        go (inl s) (inr v) = absurd (lt_irrefl L (s.1 xr v.0))
        go (inr s) (inl v) = absurd (lt_irrefl L (s.1 xr v.0))
        go (inr s) (inr v) = down-strict L s.0 v.1

    basic-le : (w : ℕ) → a w ≡ pos 0 → le (left w) (right w)
    basic-le w e = same-le L (none_of (y_s w) ∙ sym (none_of (scale d_s (seated 𝓥 (seat_t w)))))
      where
        none_of : (x : X) → scale (a w) x ≡ 𝓥.nil
        none_of x = ap (λ z. scale z x) e ∙ L.zero-scale x

    below-le : (w : ℕ) (x : X) → w < r → seat_t w ≡ some x → le (scale (a w) (y_s w)) (scale (a w) (scale d_s x))
    below-le w x h e = go (sign (a w))
      where
        go : Sign (a w) → le (scale (a w) (y_s w)) (scale (a w) (scale d_s x))
        go (plus q) = let u = F.no-rise w x h e q in
            up L q (le-le L (F.high-ok w u.0 h u.1) (up L F.d_s-pos u.2))
        go (null z) = same-le L (rw z (L.zero-scale (y_s w) ∙ sym (L.zero-scale (scale d_s x))))
        go (minus q) = let l = F.no-fall w x h e q in
            down L q (le-le L (up L F.d_s-pos l.2) (F.low_ok w l.0 h l.1))

    le-at : (w : ℕ) → w < N → le (left w) (right w)
    unfolding seated
    le-at w h = go (seat_t w) refl (dec_lt w r) (ℕ_discrete w r)
      where
        go : (o : Option X) → seat_t w ≡ o → Dec (w < r) → Dec (w ≡ r) → le (left w) (right w)
        go none e d c = basic-le w (F.basic-zero w h e)
        go (some x) e (yes l) c = subst (λ o. le (left w) (scale (a w) (scale d_s (seated 𝓥 o)))) (sym e)
            (below-le w x l e)
        go (some x) e (no n) (yes c) = rw c (weaken L strict-at-r)
        go (some x) e (no n) (no c) = same-le L
            (ap (scale (a w)) (F.seated_s w x h (F.above w x (omega arith) e)
            ∙ ap (λ o. scale d_s (seated 𝓥 o)) (sym e)))

    sum-T : X
    sum-T = total 𝓥 N (λ w. scale (a w) (seated 𝓥 (seat_t w)))

    total_right : total 𝓥 N right ≡ scale d_s sum-T
    unfolding sum-T
    total_right = total-same L N right (λ w. scale d_s (scale (a w) (seated 𝓥 (seat_t w))))
        (λ w h. scale-comm L (a w) d_s _) ∙ sym (scale-total L d_s N _)

    further : lt (scale d_t (y_s p)) (scale d_s sum-T)
    further = rw (F.row-of-S, ← total_right) (total-lt L N r left right F.r-var strict-at-r le-at)

    pub no-clash : ⊥
    unfolding sum-T
    no-clash = lt_irrefl L (lt-le-trans L further (le-le L (weaken L (up_strict L F.d_s-pos F.p-broken)) last))
      where
        last : le (scale d_s (scale d_t lp)) (scale d_t (y_s p))
        last = rw (scale-comm L d_s d_t lp) (up L F.d_t-pos (F.low_ok p lp F.p-below F.lp-is))

  -- a violated row that nothing can move bars every x that would meet the limits (over the denominator d)
  pub record Barred : Type 0 where
    pub N : ℕ
    pub lower : ℕ → Option X
    pub upper : ℕ → Option X
    pub p : ℕ
    pub p-var : p < N
    pub d : ℤ
    pub d-pos : pos 0 <ℤ d
    pub x : ℕ → X
    pub low_ok : (v : ℕ) (l : X) → v < N → lower v ≡ some l → le (scale d l) (x v)
    pub high-ok : (v : ℕ) (u : X) → v < N → upper v ≡ some u → le (x v) (scale d u)
    pub d_t : ℤ
    pub d_t-pos : pos 0 <ℤ d_t
    pub a : ℕ → ℤ
    pub seat_t : ℕ → Option X
    pub basic-zero : (w : ℕ) → w < N → seat_t w ≡ none → a w ≡ pos 0
    pub row-of-x : scale d_t (x p) ≡ total 𝓥 N (λ w. scale (a w) (x w))
    pub no-rise : (w : ℕ) (y : X) → w < N → seat_t w ≡ some y → pos 0 <ℤ a w → (u : X) × (upper w ≡ some u) × le u y
    pub no-fall : (w : ℕ) (y : X) → w < N → seat_t w ≡ some y → a w <ℤ pos 0 → (l : X) × (lower w ≡ some l) × le y l
    pub lp : X
    pub lp-is : lower p ≡ some lp
    pub p-broken : lt (total 𝓥 N (λ w. scale (a w) (seated 𝓥 (seat_t w)))) (scale d_t lp)

  module _ (L : Laws 𝓥) (B : Barred) where
    open B use {N, p, d, d_t, a, x, seat_t, lp}

    bar-at : (w : ℕ) → w < N → le (scale (a w) (x w)) (scale (a w) (scale d (seated 𝓥 (seat_t w))))
    unfolding seated
    bar-at w h = go (seat_t w) refl
      where
        go : (o : Option X) → seat_t w ≡ o → le (scale (a w) (x w)) (scale (a w) (scale d (seated 𝓥 o)))
        go none e = same-le L (rw (B.basic-zero w h e) (L.zero-scale (x w) ∙ sym (L.zero-scale (scale d 𝓥.nil))))
        go (some y) e = by_sign (sign (a w))
          where
            by_sign : Sign (a w) → le (scale (a w) (x w)) (scale (a w) (scale d y))
            by_sign (plus q) = let u = B.no-rise w y h e q in
                up L q (le-le L (B.high-ok w u.0 h u.1) (up L B.d-pos u.2))
            by_sign (null z) = same-le L (rw z (L.zero-scale (x w) ∙ sym (L.zero-scale (scale d y))))
            by_sign (minus q) = let l = B.no-fall w y h e q in
                down L q (le-le L (up L B.d-pos l.2) (B.low_ok w l.0 h l.1))

    pub barred : ⊥
    barred = lt_irrefl L (le_lt_trans L first (lt-le-trans L (up_strict L B.d-pos B.p-broken) last))
      where
        sum-B : X
        sum-B = total 𝓥 N (λ w. scale (a w) (seated 𝓥 (seat_t w)))

        first : le (scale d_t (x p)) (scale d sum-B)
        first = rw (B.row-of-x, scale-total L d N (λ w. scale (a w) (seated 𝓥 (seat_t w))))
            (le-le L (total-le L N (λ w. scale (a w) (x w)) (λ w. scale (a w) (scale d (seated 𝓥 (seat_t w)))) bar-at)
            (same-le L (total-same L N _ _ (λ w h. scale-comm L (a w) d (seated 𝓥 (seat_t w))))))

        last : le (scale d (scale d_t lp)) (scale d_t (x p))
        last = rw (scale-comm L d d_t lp) (up L B.d_t-pos (B.low_ok p lp B.p-var B.lp-is))
