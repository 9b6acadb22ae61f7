-- From sound states no arrangement comes twice: two steps of a run would clash (Return, Clash).
--   no-arrangement-twice
use mathlib.Core.Logic.{◌≢◌}
use mathlib.Core.Option
use mathlib.Core.Option.{Option, none, some}
use mathlib.Core.Path.{ap, refl, ◌∙◌, ◌≡◌}
use Prim.Native.Nat.{suc, ℕ, ◌<◌}
use native.Mathlib.Omega.{arith}
use lib.ListN.{get_or}
use Rattle.whole.proofs.Values.Laws.{up}
use Rattle.whole.specs.Values.{Laws, Le, Values}
use Rattle.rules.proofs.Termination.Clash.{Facts, no-clash}
use Rattle.rules.proofs.Step.Entering.{entered, swap}
use Rattle.rules.proofs.Step.Leaving.{left}
use Rattle.rules.proofs.Step.Cases.{Goes, step-goes}
use Rattle.rules.proofs.Run.Once.{next-after}
use Rattle.rules.proofs.Step.Sides.{either-by, far, far-by, near, near_by, no-fall-by, no-rise-by, outside-by}
use Rattle.rules.proofs.Step.Sides.{sided, sided-laws, suits-by}
use Rattle.rules.proofs.Run.State.{row-holds, seated-scaled, values-solve}
use Rattle.rules.proofs.Termination.Return.{ClashingSteps, clash}
use Rattle.rules.specs.Problem.{Problem, vars}
use Rattle.rules.specs.Facts.Rule.{Entered, Left, Swap}
use Rattle.rules.specs.Run.{Moves, Runs, after}
use Rattle.rules.specs.Facts.State.{Sound}
use Rattle.rules.specs.Step.{Leaving, Side, State, below, common, entering, leaves, leaving, limit_at}
use Rattle.rules.specs.Step.{scaled, seat, seated, step}
use Rattle.rules.specs.Tableau.{entry}

module _ {X : Type 0} (𝓥 : Values X) where
  module _ (L : Laws 𝓥) (P : Problem X) (A : State X) (SA : Sound 𝓥 P A) (r : Leaving X) (LA : Left 𝓥 P A r) where
    low-fine : (v : ℕ) (l : X) → v < r.variable → P.lower v ≡ some l → Le 𝓥 (𝓥.scale (common A) l) (scaled 𝓥 P A v)
    low-fine v l h e = go (seat A v) refl
      where
        var : v < vars P
        var = let k = LA.variable in omega arith

        go : (o : Option X) → seat A v ≡ o → Le 𝓥 (𝓥.scale (common A) l) (scaled 𝓥 P A v)
        go none q = (LA.inside v h q).low l e
        go (some x) q = rw (seated-scaled 𝓥 L P A SA.rowed v x var q)
            (up L SA.rowed.positive (SA.lowers v x l var q e))

    high-fine : (v : ℕ) (u : X) → v < r.variable → P.upper v ≡ some u → Le 𝓥 (scaled 𝓥 P A v) (𝓥.scale (common A) u)
    high-fine v u h e = go (seat A v) refl
      where
        var : v < vars P
        var = let k = LA.variable in omega arith

        go : (o : Option X) → seat A v ≡ o → Le 𝓥 (scaled 𝓥 P A v) (𝓥.scale (common A) u)
        go none q = (LA.inside v h q).high u e
        go (some x) q = rw (seated-scaled 𝓥 L P A SA.rowed v x var q)
            (up L SA.rowed.positive (SA.uppers v x u var q e))

    module _ (B : State X) (SB : Sound 𝓥 P B) (value : seat B r.variable ≡ some (limit_at 𝓥 P r))
        (Above-same : (w : ℕ) (x : X) → r.variable < w → seat B w ≡ some x → seat A w ≡ some x) where
      facts : (σ : Side) (p : ℕ) (x : X) → p < r.variable → Left 𝓥 P B (leaves p σ x) →
          Entered 𝓥 P B (leaves p σ x) r.variable → Facts (sided σ 𝓥)
      unfolding scaled seated
      facts σ p x h LB EB = record {
        N = vars P;
        lower = near σ P;
        upper = far σ P;
        r = r.variable;
        p = p;
        r-var = LA.variable;
        p-below = h;
        d_s = common A;
        d_s-pos = SA.rowed.positive;
        y_s = scaled 𝓥 P A;
        seat_s = seat A;
        seated_s = λ w x k e. seated-scaled 𝓥 L P A SA.rowed w x k e;
        low_ok = λ v l k. near_by 𝓥 P σ (common A) v (scaled 𝓥 P A v) (λ l. low-fine v l k) (λ u. high-fine v u k) l;
        high-ok = λ v u k. far-by 𝓥 P σ (common A) v (scaled 𝓥 P A v) (λ l. low-fine v l k) (λ u. high-fine v u k) u;
        d_t = common B;
        d_t-pos = SB.rowed.positive;
        a = λ w. entry B.tableau p w;
        seat_t = seat B;
        basic-zero = λ w k e. SB.rowed.basic-zero p w LB.variable k e;
        row-of-S = row-holds 𝓥 L P B SB.rowed (scaled 𝓥 P A) (values-solve 𝓥 L P A SA.rowed) p LB.variable;
        no-rise = λ w x k e. no-rise-by 𝓥 P σ w (entry B.tableau p w) x (EB.stuck w x k e);
        no-fall = λ w x k e. no-fall-by 𝓥 P σ w (entry B.tableau p w) x (EB.stuck w x k e);
        lp = limit_at 𝓥 P (leaves p σ x);
        lp-is = (outside-by 𝓥 P LB.outside).0;
        p-broken = (outside-by 𝓥 P LB.outside).1;
        xr = limit_at 𝓥 P r;
        xr-is = value;
        suits-r = let z : EB.value ≡ limit_at 𝓥 P r = same-value EB.value EB.was-seated in
            suits-by 𝓥 P σ r.variable (entry B.tableau p r.variable) (limit_at 𝓥 P r) (rw z at EB.suits);
        left_r = either-by 𝓥 P σ LA.outside;
        above = Above-same;
      }
        where
          same-value : (x : X) → seat B r.variable ≡ some x → x ≡ limit_at 𝓥 P r
          same-value x e = cc

      -- the steps at A and at B do not clash
      pub apart : (q : Leaving X) → q.variable < r.variable → Left 𝓥 P B q → Entered 𝓥 P B q r.variable → ⊥
      apart q h LB EB = no-clash (sided q.side 𝓥) (sided-laws q.side L)
          (facts q.side q.variable q.shortfall h LB EB)

  -- ---- no arrangement comes twice

  module _ (L : Laws 𝓥) (P : Problem X) (s : State X) (sound : (k : ℕ) → Sound 𝓥 P (after 𝓥 P s k)) where
    leaves_at : ℕ → Leaving X
    leaves_at k = Option.get_or (leaving 𝓥 P (after 𝓥 P s k)) (leaves 0 below 𝓥.nil)

    enters-at : ℕ → ℕ
    enters-at k = Option.get_or (entering 𝓥 P (after 𝓥 P s k) (leaves_at k)) 0

    record Step (k : ℕ) : Type 0 where
      pub out : Left 𝓥 P (after 𝓥 P s k) (leaves_at k)
      pub into : Entered 𝓥 P (after 𝓥 P s k) (leaves_at k) (enters-at k)
      pub swaps : Swap (seat (after 𝓥 P s k)) (seat (after 𝓥 P s (suc k))) (leaves_at k).variable (enters-at k)
          (limit_at 𝓥 P (leaves_at k))

    make : (k : ℕ) (r : Leaving X) (w : ℕ) → leaves_at k ≡ r → enters-at k ≡ w → Left 𝓥 P (after 𝓥 P s k) r →
        Entered 𝓥 P (after 𝓥 P s k) r w →
        Swap (seat (after 𝓥 P s k)) (seat (after 𝓥 P s (suc k))) r.variable w (limit_at 𝓥 P r) → Step k
    make k r w e f L E W = record { out = rw e L; into = rw (e, f) E; swaps = rw (e, f) W }

    step-at : (k : ℕ) → Moves (step 𝓥 P (after 𝓥 P s k)) → Step k
    unfolding leaves_at enters-at
    step-at k m = from_goes (step-goes 𝓥 P (after 𝓥 P s k) (after 𝓥 P s (suc k)) (next-after 𝓥 P s k m))
      where
        from_goes : Goes 𝓥 P (after 𝓥 P s k) (after 𝓥 P s (suc k)) → Step k
        from_goes g =
            let e : leaves_at k ≡ g.out = ap (λ o. Option.get_or o (leaves 0 below 𝓥.nil)) g.leaves in
            let f : enters-at k ≡ g.into = ap (λ r. Option.get_or (entering 𝓥 P (after 𝓥 P s k) r) 0) e
            ∙ ap (λ o. Option.get_or o 0) g.enters in
            let L = left 𝓥 P (after 𝓥 P s k) g.out g.leaves in
            let E = entered 𝓥 P (after 𝓥 P s k) g.out g.into g.enters in
            make k g.out g.into e f L E
            (rw g.next-is (swap 𝓥 P (after 𝓥 P s k) g.out g.into (sound k).rowed.seats-many L E))

    pub no-arrangement-twice : (i j : ℕ) → i < j → Runs 𝓥 P s j → (after 𝓥 P s i).seats ≢ (after 𝓥 P s j).seats
    no-arrangement-twice i j h runs e = use-it
        (clash seats (λ k. (leaves_at k).variable) enters-at (λ k. limit_at 𝓥 P (leaves_at k)) i j
        (λ k p q. (step-at k (runs k q)).swaps) h
        (λ v. ap (λ l. get_or l v none) e))
      where
        seats : ℕ → ℕ → Option X
        seats k v = seat (after 𝓥 P s k) v

        use-it : ClashingSteps seats (λ k. (leaves_at k).variable) enters-at (λ k. limit_at 𝓥 P (leaves_at k)) i j → ⊥
        use-it c =
            let A = step-at c.S (runs c.S c.S-in.1) in
            let B = step-at c.T (runs c.T c.T-in.1) in
            apart L P (after 𝓥 P s c.S) (sound c.S) (leaves_at c.S) A.out (after 𝓥 P s c.T)
            (sound c.T) c.value c.above
            (leaves_at c.T) c.lower B.out (rw c.again at B.into)
