-- Every session that opening or an operation handed back is `Fair` (specs/Facts/Runs/Session): a check may start from
-- it, whatever is on.
--   rows-kept, numbers-kept    rows and numbers do not ask which limits count
--   Alike, rowed-alike, kept-alike    the same tableau, and the same variables basic
--   fair-ready                 from a session of which this is known a check may start
--   seat-settled, came_from         where a switch seats a variable, and where it came from
--   rested-run, rested-crossed, rested-after    what a check keeps: the state at the end of its run
--   fair-opened, fair-switched, fair-rested, handed-fair
use mathlib.Core.Bool.{Bool}
use mathlib.Core.List.{List, [], ◌∷◌}
use mathlib.Core.Option.{Option, none-ne-some, some-ne-none, none, some}
use mathlib.Core.Path.{ap, refl, subst, sym, ◌∙◌, ◌≡◌}
use Prim.Native.Nat.{suc, zero, ℕ, ◌+◌, ◌<◌}
use native.Mathlib.Omega.{arith}
use lib.ListN.{get_or, length}
use Rattle.whole.proofs.Lists.Tables.{table_at, table-length}
use Rattle.whole.specs.Numbers.{Within}
use Rattle.whole.specs.Tables.{table, table_from}
use Rattle.whole.specs.Values.{Laws, Values}
use Rattle.rules.proofs.Answer.Run.{ending-crossed, ending-run}
use Rattle.rules.proofs.Run.Numbers.{kept-after, kept-start}
use Rattle.rules.proofs.Run.Start.{no-conflict}
use Rattle.rules.proofs.Run.State.{housed-of, ready-sound}
use Rattle.rules.proofs.Run.Steady.{rowed-after, sound-after}
use Rattle.rules.proofs.Runs.Session.Inside.{inside-high, inside-low}
use Rattle.rules.proofs.Runs.Session.Opened.{opened-so}
use Rattle.rules.proofs.Termination.Ends.{ends, ready-start}
use Rattle.rules.specs.Facts.Runs.Session.{Fair}
use Rattle.rules.specs.Facts.State.{Housed, Kept, Ready, Rowed, how_many_seated}
use Rattle.rules.specs.Keeping.Limits.{keeping, kept}
use Rattle.rules.specs.Problem.{Problem, vars}
use Rattle.rules.specs.Run.{Ends, after, conflict}
use Rattle.rules.specs.Runs.Session.{Handed, Session, with_state, flagged, from-check, from-opening, from-switch}
use Rattle.rules.specs.Runs.Session.{inside}
use Rattle.rules.specs.Runs.Session.{inside_seat, is_on, live_of, none_on, opened, rested, all_inside, switch_refusal}
use Rattle.rules.specs.Runs.Session.{switched}
use Rattle.rules.specs.Sizes.{largest_coefficient}
use Rattle.rules.specs.Step.{Side, State, above, below, seat}

module _ {X : Type 0} (𝓥 : Values X) where
  -- ---- another choice of limits

  module _ (P : Problem X) (on also : Side → ℕ → Bool) (s : State X) where
    rows-kept : Rowed 𝓥 (keeping on P) s → Rowed 𝓥 (keeping also P) s
    rows-kept R = record {
      seats-many = R.seats-many;
      positive = R.positive;
      columns = R.columns;
      holds = R.holds;
      basic-zero = R.basic-zero;
      own = R.own;
      own-zero = R.own-zero;
    }

    numbers-kept : Kept 𝓥 (keeping on P) s → Kept 𝓥 (keeping also P) s
    numbers-kept K = record { lowest-form = K.lowest-form; in-range = K.in-range; seated-many = K.seated-many }

  -- ---- the same tableau, the same variables basic

  data SameKind : Option X → Option X → Type 0 where
    both-basic : SameKind none none
    both-seated : (x y : X) → SameKind (some x) (some y)

  kind-none : {o p : Option X} → SameKind o p → p ≡ none → o ≡ none
  kind-none both-basic e = refl
  kind-none (both-seated x y) e = absurd (some-ne-none y e)

  kind-some : {o p : Option X} {x : X} → SameKind o p → p ≡ some x → (y : X) × (o ≡ some y)
  kind-some {x = x} both-basic e = absurd (none-ne-some x e)
  kind-some (both-seated x y) e = (x, refl)

  record Alike (N : ℕ) (s t : State X) : Type 0 where
    pub tableau-is : t.tableau ≡ s.tableau
    pub seats-many : length t.seats ≡ N
    pub kinds : (v : ℕ) → v < N → SameKind (seat s v) (seat t v)
    pub as_many : how_many_seated t.seats ≡ how_many_seated s.seats

  module _ (P : Problem X) (s t : State X) (A : Alike (vars P) s t) where
    rowed-alike : Rowed 𝓥 P s → Rowed 𝓥 P t
    rowed-alike R = record {
      seats-many = A.seats-many;
      positive = rw A.tableau-is R.positive;
      columns = λ w h. rw A.tableau-is (R.columns w h);
      holds = λ x e v h. rw A.tableau-is (R.holds x e v h);
      basic-zero = λ v w h k e. rw A.tableau-is (R.basic-zero v w h k (kind-none (A.kinds w k) e));
      own = λ v x h e. let y = kind-some (A.kinds v h) e in rw A.tableau-is (R.own v y.0 h y.1);
      own-zero = λ v w x h k e d. let y = kind-some (A.kinds v h) e in
          rw A.tableau-is (R.own-zero v w y.0 h k y.1 d);
    }

    kept-alike : Kept 𝓥 P s → Kept 𝓥 P t
    kept-alike K = record {
      lowest-form = rw A.tableau-is K.lowest-form;
      in-range = rw A.tableau-is K.in-range;
      seated-many = A.as_many ∙ K.seated-many;
    }

  seated-alike : (l : List (Option X)) (a : ℕ) (f : ℕ → Option X) →
      ((i : ℕ) → i < length l → SameKind (get_or l i none) (f (a + i))) →
      how_many_seated (table_from a (length l) f) ≡ how_many_seated l
  unfolding table_from
  seated-alike [] a f h = refl
  seated-alike (o ∷ l) a f h = go
      (let z : a + 0 ≡ a = omega arith in subst (λ i. SameKind o (f i)) z (h 0 (omega arith)))
      (seated-alike l (suc a) f (λ i k. let z : a + suc i ≡ suc a + i = omega arith in
      subst (λ j. SameKind (get_or l i none) (f j)) z (h (suc i) (omega arith))))
    where
      go : {o p : Option X} → SameKind o p → how_many_seated (table_from (suc a) (length l) f) ≡ how_many_seated l →
          how_many_seated (p ∷ table_from (suc a) (length l) f) ≡ how_many_seated (o ∷ l)
      go both-basic e = e
      go (both-seated x y) e = ap suc e

  -- ---- what is known of a session

  pub fair-ready : (A : Session X) → Fair 𝓥 A → Ready 𝓥 (live_of A) A.state
  fair-ready A F = record { rowed = F.rowed; housed = F.housed; seated-many = F.kept.seated-many }

  -- ---- a switch

  inside-kind : (l u o : Option X) → SameKind o (inside_seat 𝓥 l u o)
  unfolding inside_seat
  inside-kind l u none = both-basic
  inside-kind l u (some x) = both-seated x (inside 𝓥 l u x)

  seated-inside : (l u o : Option X) (y : X) → inside_seat 𝓥 l u o ≡ some y →
      (x : X) × (o ≡ some x) × (y ≡ inside 𝓥 l u x)
  unfolding inside_seat
  seated-inside l u none y e = absurd (none-ne-some y e)
  seated-inside l u (some x) y e = (x, refl, cc)

  module _ (A : Session X) where
    abbrev pub inside_of : ℕ → Option X
    inside_of v = inside_seat 𝓥 ((live_of A).lower v) ((live_of A).upper v) (seat A.state v)

    pub seat-settled : (v : ℕ) → v < vars A.given → seat (all_inside 𝓥 A).state v ≡ inside_of v
    unfolding all_inside
    seat-settled v h = table_at (vars A.given) inside_of none v h

    alike-settled : length A.state.seats ≡ vars A.given →
        Alike (vars A.given) A.state (all_inside 𝓥 A).state
    unfolding all_inside
    alike-settled e = record {
      tableau-is = refl;
      seats-many = table-length (vars A.given) inside_of;
      kinds = λ v h. rw (seat-settled v h) (inside-kind ((live_of A).lower v) ((live_of A).upper v) (seat A.state v));
      as_many = ap (λ k. how_many_seated (table k inside_of)) (sym e)
          ∙ seated-alike A.state.seats 0 inside_of (λ i h. let z : 0 + i ≡ i = omega arith in
          rw z (inside-kind ((live_of A).lower i) ((live_of A).upper i) (seat A.state i)));
    }

    -- a value after a switch came from one before it
    pub came_from : (v : ℕ) (y : X) → v < vars A.given → seat (all_inside 𝓥 A).state v ≡ some y →
        (x : X) × (seat A.state v ≡ some x) × (y ≡ inside 𝓥 ((live_of A).lower v) ((live_of A).upper v) x)
    came_from v y h e = seated-inside ((live_of A).lower v) ((live_of A).upper v)
        (seat A.state v) y (sym (seat-settled v h) ∙ e)

    housed-settled : Laws 𝓥 → Housed 𝓥 (live_of A) (all_inside 𝓥 A).state
    housed-settled law = record {
      low = λ v y l h c e k. let (x, q, z) = came_from v y h e in
          rw z (inside-low 𝓥 law ((live_of A).lower v) ((live_of A).upper v) x l c k);
      high = λ v y u h c e k. let (x, q, z) = came_from v y h e in
          rw z (inside-high 𝓥 law ((live_of A).lower v) ((live_of A).upper v) x u c k);
    }

    -- settling keeps rows and numbers, and houses every variable
    fair-settled : Laws 𝓥 → Rowed 𝓥 (live_of A) A.state → Kept 𝓥 (live_of A) A.state → Fair 𝓥 (all_inside 𝓥 A)
    unfolding all_inside
    fair-settled law R K = record {
      rowed = rowed-alike (live_of A) A.state (all_inside 𝓥 A).state like R;
      housed = housed-settled law;
      kept = kept-alike (live_of A) A.state (all_inside 𝓥 A).state like K;
    }
      where
        like : Alike (vars A.given) A.state (all_inside 𝓥 A).state
        like = alike-settled R.seats-many

  fair-flagged : Laws 𝓥 → (A : Session X) (v : ℕ) (σ : Side) (on : Bool) → Fair 𝓥 A →
      Fair 𝓥 (all_inside 𝓥 (flagged A v σ on))
  unfolding flagged
  fair-flagged law A v below on F = let B : Session X = flagged A v below on in
      fair-settled B law (rows-kept A.given (is_on A) (is_on B) A.state F.rowed)
      (numbers-kept A.given (is_on A) (is_on B) A.state F.kept)
  fair-flagged law A v above on F = let B : Session X = flagged A v above on in
      fair-settled B law (rows-kept A.given (is_on A) (is_on B) A.state F.rowed)
      (numbers-kept A.given (is_on A) (is_on B) A.state F.kept)

  pub fair-switched : Laws 𝓥 → (A : Session X) (v : ℕ) (σ : Side) (on : Bool) → Fair 𝓥 A → Fair 𝓥 (switched 𝓥 A v σ on)
  unfolding switched
  fair-switched law A v σ on F = go (switch_refusal A v σ on) refl
    where
      go : (k : ℕ) → switch_refusal A v σ on ≡ k → Fair 𝓥 (switched 𝓥 A v σ on)
      go zero e = rw (e, switched) (fair-flagged law A v σ on F)
      go (suc k) e = rw (e, switched) F

  -- ---- a check

  module _ (law : Laws 𝓥) (A : Session X) (F : Fair 𝓥 A) where
    abbrev P : Problem X
    P = live_of A

    abbrev s : State X
    s = A.state

    -- a check keeps the state at the end of its run; while limits conflict, the session as it was
    pub rested-run : conflict 𝓥 P ≡ none → (k : ℕ) → Ends 𝓥 P s k → rested 𝓥 A ≡ with_state A (after 𝓥 P s k)
    unfolding rested
    rested-run e k E = ap (λ y. with_state A y.last) (ending-run 𝓥 law P s e
        (ready-sound 𝓥 P s (no-conflict 𝓥 P e) (fair-ready A F)) F.kept.seated-many k E)

    pub rested-crossed : (v : ℕ) → conflict 𝓥 P ≡ some v → rested 𝓥 A ≡ A
    unfolding rested
    rested-crossed v e = ap (λ y. with_state A y.last) (ending-crossed 𝓥 P s v e)

    the_end : conflict 𝓥 P ≡ none → (k : ℕ) × Ends 𝓥 P s k
    the_end e = ends 𝓥 law P s (no-conflict 𝓥 P e) (ready-sound 𝓥 P s (no-conflict 𝓥 P e) (fair-ready A F))
        F.kept.seated-many

    -- so, in all, one after some pivots
    pub rested-after : (k : ℕ) × ((rested 𝓥 A).state ≡ after 𝓥 P s k)
    unfolding after
    rested-after = go (conflict 𝓥 P) refl
      where
        go : (o : Option ℕ) → conflict 𝓥 P ≡ o → (k : ℕ) × ((rested 𝓥 A).state ≡ after 𝓥 P s k)
        go (some v) e = (0, ap (λ B. B.state) (rested-crossed v e))
        go none e = let (k, E) = the_end e in (k, ap (λ B. B.state) (rested-run e k E))

    fair-after : conflict 𝓥 P ≡ none → (k : ℕ) → Fair 𝓥 (with_state A (after 𝓥 P s k))
    fair-after e k = record {
      rowed = rowed-after 𝓥 P s F.rowed k;
      housed = housed-of 𝓥 P (after 𝓥 P s k) (sound-after 𝓥 law P s (no-conflict 𝓥 P e)
          (ready-sound 𝓥 P s (no-conflict 𝓥 P e) (fair-ready A F)) k);
      kept = kept-after 𝓥 P s F.rowed F.kept k;
    }

    pub fair-rested : Fair 𝓥 (rested 𝓥 A)
    fair-rested = go (conflict 𝓥 P) refl
      where
        go : (o : Option ℕ) → conflict 𝓥 P ≡ o → Fair 𝓥 (rested 𝓥 A)
        go (some v) e = subst (Fair 𝓥) (sym (rested-crossed v e)) F
        go none e = let (k, E) = the_end e in subst (Fair 𝓥) (sym (rested-run e k E)) (fair-after e k)

  -- ---- opening, and every session handed back

  module _ (law : Laws 𝓥) (P : Problem X)
      (C : (i j : ℕ) → i < P.m → j < P.n → Within (P.coefficient i j) largest_coefficient) where
    pub fair-opened : Fair 𝓥 (opened 𝓥 P)
    unfolding opened
    fair-opened = record {
      rowed = rows-kept P none_on (is_on (opened 𝓥 P)) (opened 𝓥 P).state (ready-start 𝓥 law (keeping none_on P)).rowed;
      housed = record {
        low = λ v x l h c e k. absurd (none-ne-some l (sym (off below v (P.lower v)) ∙ k));
        high = λ v x u h c e k. absurd (none-ne-some u (sym (off above v (P.upper v)) ∙ k));
      };
      kept = numbers-kept P none_on (is_on (opened 𝓥 P)) (opened 𝓥 P).state (kept-start 𝓥 (keeping none_on P) C);
    }
      where
        off : (σ : Side) (v : ℕ) (o : Option X) → kept (is_on (opened 𝓥 P) σ v) o ≡ none
        off σ v o = ap (λ b. kept b o) ((opened-so 𝓥 P).all-off σ v) ∙ (unfold kept in refl)

    pub handed-fair : (A : Session X) → Handed 𝓥 P A → Fair 𝓥 A
    handed-fair A (from-opening) = fair-opened
    handed-fair A (from-switch {A = B} v σ on H) = fair-switched law B v σ on (handed-fair B H)
    handed-fair A (from-check {A = B} H) = fair-rested law B (handed-fair B H)
