-- What a switch hands back, by its number, and what that means.
--   refusal_is             the number is that of the rules
--   refused-unknown, refused-limit, done     the equation of the promise
--   settleable             the code may settle the variable
--   switches-as            what it means for every session of the rules that the struct stands for
use mathlib.Core.Bool.{Bool, true, false, not, ◌&&◌}
use mathlib.Core.List.{List, [], ◌∷◌}
use mathlib.Core.Logic.{◌≢◌}
use mathlib.Core.Option.{Option, none, some}
use mathlib.Core.Path.{◌≡◌, ap, ap₂, refl, subst, sym, ◌∙◌}
use Prim.Native.Nat.{ℕ, zero, suc, ◌<◌, ◌≤◌}
use native.Mathlib.Decide.{dec_lt, ℕ_discrete}
use native.Mathlib.Omega.{arith}
use borrow.Author.Tests.{le-ltb, lt-ltb}
use lib.Dec.{ltb}
use lib.IntN.{ℤ}
use lib.ListN.{get_or, length, length-set, set}
use lib.Seq.{get_or-set_other, get_or-set_same}
use Rattle.whole.specs.Values.{pairs}
use Rattle.whole.proofs.Values.Beside.{pairs-laws}
use Rattle.whole.proofs.Bools.{true-false}
use Rattle.rules.proofs.Refusal.First.{first-hit, first-skip}
use Rattle.rules.proofs.Runs.Session.Fair.{fair-switched}
use Rattle.rules.proofs.Runs.Session.Switched.{settled-one, switched-done, switched-refused}
use Rattle.rules.specs.Facts.Runs.Session.{Fair}
use Rattle.rules.specs.Keeping.Limits.{limit_of}
use Rattle.rules.specs.Limit.{Limit, lower_pair, present, upper_pair}
use Rattle.rules.specs.Problem.{mapped, vars}
use Rattle.rules.specs.Refusal.{first}
use Rattle.rules.specs.Runs.Session.{flagged, is_missing, is_on, live_of, all_inside, switch_refusal, switch_tests}
use Rattle.rules.specs.Sizes.{most_columns, most_variables}
use Rattle.rules.specs.Step.{above, below, seat}
use Rattle.rules.specs.Runs.Session as rules
use Rattle.amounts.specs.declared.Given.{Given}
use Rattle.amounts.specs.Amounts.{absent}
use Rattle.tableau.specs.declared.Tableau.{Tableau}
use Rattle.tableau.specs.Parts.{column_of, lower_given, seat_at, upper_given}
use Rattle.search.proofs.Laws.Stands.{all-vars}
use Rattle.solver.specs.Spend.{many_of}
use Rattle.session.specs.declared.Session.{Session}
use Rattle.session.specs.declared.Switched.{Switched}
use Rattle.session.specs.Sessions.{SessionHolds, SessionStanding, SwitchMeans, SwitchesAs, switched_at, switched_by}
use Rattle.session.specs.Switching.{Settleable, flagged_at, given_at, handed_in, limit_refusal, limit_tests}
use Rattle.session.specs.Switching.{refusal_at, side_told, switched_to, turned_at}
use Rattle.session.proofs.Laws.Stands.Settled.{holds-settled}

-- ---- the number

missing-is : (f : Limit → ℤ × ℤ) (b : Bool) (l : Limit) → is_missing (mapped f (present b l)) ≡ not b
unfolding present mapped
missing-is f true l = refl
missing-is f false l = refl

-- one list with one limit set
module _ (gs : List Given) (v : ℕ) (on : Bool) (long : v < length gs) where
  abbrev turned-there : List Given
  turned-there = set gs v (switched_to (get_or gs v absent) on)

  set_there : get_or turned-there v absent ≡ switched_to (get_or gs v absent) on
  set_there = get_or-set_same gs v (switched_to (get_or gs v absent) on) absent long

  set_else : (w : ℕ) → w ≢ v → get_or turned-there w absent ≡ get_or gs w absent
  set_else w n = get_or-set_other gs v w (switched_to (get_or gs v absent) on) absent n

  -- every limit is what it was, on or off
  set_same : (w : ℕ) → (b : Bool) × (get_or turned-there w absent ≡ switched_to (get_or gs w absent) b)
  set_same w = go (ℕ_discrete w v)
    where
      go : Dec (w ≡ v) → (b : Bool) × (get_or turned-there w absent ≡ switched_to (get_or gs w absent) b)
      go (yes e) = (
        on,
        ap (λ i. get_or turned-there i absent) e ∙ set_there ∙ ap (λ i. switched_to (get_or gs i absent) on) (sym e),
      )
      go (no n) = ((get_or gs w absent).on, set_else w n)

  set-handed : (w : ℕ) → handed_in (get_or gs w absent) ≡ handed_in (get_or turned-there w absent)
  set-handed w = sym (ap handed_in (set_same w).1)

  -- one that is on was given
  set-sworn : (get_or gs v absent).given ≡ true →
      ((w : ℕ) → (get_or gs w absent).on ≡ true → (get_or gs w absent).given ≡ true) →
      (w : ℕ) → (get_or turned-there w absent).on ≡ true → (get_or turned-there w absent).given ≡ true
  set-sworn there sworn w h = go (ℕ_discrete w v)
    where
      go : Dec (w ≡ v) → (get_or turned-there w absent).given ≡ true
      go (yes e) = ap (λ (g : Given). g.given) (set_same w).1 ∙ ap (λ i. (get_or gs i absent).given) e ∙ there
      go (no n) = ap (λ (g : Given). g.given) (set_else w n)
          ∙ sworn w (ap (λ (g : Given). g.on) (sym (set_else w n)) ∙ h)

  -- the flags of the session follow
  set-flags : (fs : List Bool) → v < length fs → (N : ℕ) →
      ((w : ℕ) → w < N → get_or fs w false ≡ (get_or gs w absent).on) →
      (w : ℕ) → w < N → get_or (set fs v on) w false ≡ (get_or turned-there w absent).on
  set-flags fs k N are w h = go (ℕ_discrete w v)
    where
      go : Dec (w ≡ v) → get_or (set fs v on) w false ≡ (get_or turned-there w absent).on
      go (yes e) = ap (λ i. get_or (set fs v on) i false) e ∙ get_or-set_same fs v on false k
          ∙ sym (ap (λ (g : Given). g.on) set_there) ∙ ap (λ i. (get_or turned-there i absent).on) (sym e)
      go (no n) = get_or-set_other fs v w on false n ∙ are w h ∙ sym (ap (λ (g : Given). g.on) (set_else w n))

module _ (s : Session) (v : ℕ) (upper on : Bool) where
  abbrev t : Tableau
  t = s.tableau

  abbrev g : Given
  g = given_at upper t.limits v

  -- ---- the equation

  by_number : (k : ℕ) → refusal_at t v upper on ≡ k → switched_by k s v upper on ≡ switched_at s v upper on
  unfolding switched_at
  by_number k q = ap (λ j. switched_by j s v upper on) (sym q)

  pub refused-unknown : many_of t ≤ v → record { refused = 41; session = s } ≡ switched_at s v upper on
  refused-unknown h =
      by_number 41 (unfold refusal_at in first-hit 41 (limit_tests g on) (ap not (le-ltb v (many_of t) h)))

  past_first : v < many_of t → refusal_at t v upper on ≡ limit_refusal g on
  unfolding refusal_at
  past_first h = first-skip 41 (limit_tests g on) (ap not (lt-ltb v (many_of t) h))

  pub refused-limit : v < many_of t → (k : ℕ) → k ≡ limit_refusal g on → k ≢ 0 →
      record { refused = k; session = s } ≡ switched_at s v upper on
  refused-limit h zero e n = absurd (n refl)
  refused-limit h (suc k) e n = by_number (suc k) (past_first h ∙ sym e)

  pub done : v < many_of t → (k : ℕ) → k ≡ limit_refusal g on → k ≡ 0 → (u : Tableau) → u ≡ turned_at t v upper on →
      record { refused = k; session = record { tableau = u } } ≡ switched_at s v upper on
  done h zero e z u f = ap (λ w. record { refused = 0; session = record { tableau = w } }) f
      ∙ by_number zero (past_first h ∙ sym e)
  done h (suc k) e z u f = let y : ⊥ = omega arith in absurd y

  -- ---- what it means

  module _ (A : rules.Session (ℤ × ℤ)) (H : SessionHolds A s) where
    abbrev N : ℕ
    N = vars A.given

    many : many_of t ≡ N
    many = all-vars (live_of A) t A.state H.stands H.fair.rowed

    few : v < N → v < most_variables
    few h = let a = H.stands.sized.few-rows in let b = H.stands.sized.few-columns in omega arith

    pub settleable : v < many_of t → Settleable t v
    settleable h = record { has-seat = few known; in-columns = λ e. go e (seat A.state v) refl }
      where
        known : v < N
        known = rw (← many) h

        go : (seat_at t v).basic ≡ false → (o : Option (ℤ × ℤ)) → seat A.state v ≡ o → column_of t v < most_columns
        go e none q = true-false (H.stands.placed.has-row v known q).flag e
        go e (some x) q = let a = (H.stands.placed.has-column v x known q).in-columns in
            let b = H.stands.sized.few-columns in omega arith

    limit_is : (b : Bool) → v < N → is_missing (limit_of A.given (side_told b) v) ≡ not (given_at b t.limits v).given
    limit_is true h = ap is_missing (H.offers.upper-given v h) ∙ missing-is upper_pair _ _
    limit_is false h = ap is_missing (H.offers.lower-given v h) ∙ missing-is lower_pair _ _

    flag_is : (b : Bool) → v < N → is_on A (side_told b) v ≡ (given_at b t.limits v).on
    flag_is true h = H.flags.uppers-are v h
    flag_is false h = H.flags.lowers-are v h

    refusal_is : refusal_at t v upper on ≡ switch_refusal A v (side_told upper) on
    unfolding refusal_at switch_refusal switch_tests limit_tests
    refusal_is = go (dec_lt v N)
      where
        go : Dec (v < N) → refusal_at t v upper on ≡ switch_refusal A v (side_told upper) on
        go (yes h) = ap₂ (λ (k : ℕ) (b : Bool). first ((not (ltb v k), 41) ∷ (b, 42) ∷ (on && g.on, 43)
            ∷ (not on && not g.on, 44) ∷ [])) many (sym (limit_is upper h))
            ∙ ap (λ (b : Bool). first ((not (ltb v N), 41) ∷ (is_missing (limit_of A.given (side_told upper) v), 42)
            ∷ (on && b, 43) ∷ (not on && not b, 44) ∷ [])) (sym (flag_is upper h))
        go (no h) = first-hit 41 _ (ap not (le-ltb v (many_of t) (rw many (omega arith))))
            ∙ sym (first-hit 41 _ (ap not (le-ltb v N (omega arith))))

    -- ---- not refused

    -- a limit that is not refused was given
    given-fine : (x : Given) → limit_refusal x on ≡ 0 → x.given ≡ true
    unfolding limit_tests
    given-fine x e = go x.given refl
      where
        go : (b : Bool) → x.given ≡ b → x.given ≡ true
        go true q = q
        go false q = let z : ◌≡◌ {A = ℕ} 42 0 = sym (first-hit 42 _ (ap not q)) ∙ e in absurd (omega arith)

    known-fine : refusal_at t v upper on ≡ 0 → v < many_of t
    unfolding refusal_at
    known-fine e = go (dec_lt v (many_of t))
      where
        go : Dec (v < many_of t) → v < many_of t
        go (yes h) = h
        go (no h) = let z : ◌≡◌ {A = ℕ} 41 0 =
            sym (first-hit 41 (limit_tests g on) (ap not (le-ltb v (many_of t) (omega arith)))) ∙ e in
            absurd (omega arith)

    -- the limit of one side, on or off
    change : (b : Bool) → v < N → (given_at b t.limits v).given ≡ true →
        Fair pairs (all_inside pairs (flagged A v (side_told b) on)) →
        SessionHolds (all_inside pairs (flagged A v (side_told b) on)) (record { tableau = turned_at t v b on })
    unfolding flagged flagged_at turned_at
    change false h there F =
        let l = t.limits in let O = H.offers in let Fl = H.flags in
        let long : v < length l.lower = rw O.lowers-long (few h) in
        holds-settled A s H (set A.lowers_on v on) A.uppers_on (flagged_at false l v on) v (record {
          is-variable = h;
          strict_same = refl;
          lower-same = set_same l.lower v on long;
          upper-same = λ w. ((upper_given l w).on, refl);
          offers = record {
            lower-given = λ w k. O.lower-given w k ∙ ap (mapped lower_pair) (set-handed l.lower v on long w);
            upper-given = O.upper-given;
            lowers-sworn = set-sworn l.lower v on long there O.lowers-sworn;
            uppers-sworn = O.uppers-sworn;
            lowers-long = length-set l.lower v (switched_to (lower_given l v) on) ∙ O.lowers-long;
            uppers-long = O.uppers-long;
          };
          flags = record {
            lowers-are = set-flags l.lower v on long A.lowers_on (rw Fl.lowers-many h) N Fl.lowers-are;
            uppers-are = Fl.uppers-are;
            lowers-many = length-set A.lowers_on v on ∙ Fl.lowers-many;
            uppers-many = Fl.uppers-many;
          };
          others-stay = settled-one pairs A v below on pairs-laws H.fair;
        }) F
    change true h there F =
        let l = t.limits in let O = H.offers in let Fl = H.flags in
        let long : v < length l.upper = rw O.uppers-long (few h) in
        holds-settled A s H A.lowers_on (set A.uppers_on v on) (flagged_at true l v on) v (record {
          is-variable = h;
          strict_same = refl;
          lower-same = λ w. ((lower_given l w).on, refl);
          upper-same = set_same l.upper v on long;
          offers = record {
            lower-given = O.lower-given;
            upper-given = λ w k. O.upper-given w k ∙ ap (mapped upper_pair) (set-handed l.upper v on long w);
            lowers-sworn = O.lowers-sworn;
            uppers-sworn = set-sworn l.upper v on long there O.uppers-sworn;
            lowers-long = O.lowers-long;
            uppers-long = length-set l.upper v (switched_to (upper_given l v) on) ∙ O.uppers-long;
          };
          flags = record {
            lowers-are = Fl.lowers-are;
            uppers-are = set-flags l.upper v on long A.uppers_on (rw Fl.uppers-many h) N Fl.uppers-are;
            lowers-many = Fl.lowers-many;
            uppers-many = length-set A.uppers_on v on ∙ Fl.uppers-many;
          };
          others-stay = settled-one pairs A v above on pairs-laws H.fair;
        }) F

    -- ---- both

    means-by : (k : ℕ) → refusal_at t v upper on ≡ k → SwitchMeans A v upper on (switched_by k s v upper on)
    means-by zero q =
        let e = sym refusal_is ∙ q in let h = known-fine q in let d = switched-done pairs A v (side_told upper) on e in
        record {
          number = sym e;
          state = subst (λ X. SessionHolds X (record { tableau = turned_at t v upper on })) (sym d)
              (change upper (rw (← many) h) (given-fine g (sym (past_first h) ∙ q))
              (subst (Fair pairs) d (fair-switched pairs pairs-laws A v (side_told upper) on H.fair)));
        }
    means-by (suc k) q =
        let e = sym refusal_is ∙ q in let d = switched-refused pairs A v (side_told upper) on k e in
        record { number = sym e; state = subst (λ X. SessionHolds X s) (sym d) H }

    means-at : SwitchMeans A v upper on (switched_at s v upper on)
    unfolding switched_at
    means-at = means-by (refusal_at t v upper on) refl

  pub switches-as : SessionStanding s → {r : Switched} → r ≡ switched_at s v upper on → SwitchesAs s v upper on r
  switches-as T {r} e = record {
    means = meant;
    standing = record { session = _; holds = (meant T.session T.holds).state };
  }
    where
      meant : (A : rules.Session (ℤ × ℤ)) → SessionHolds A s → SwitchMeans A v upper on r
      meant A H = subst (SwitchMeans A v upper on) (sym e) (means-at A H)
