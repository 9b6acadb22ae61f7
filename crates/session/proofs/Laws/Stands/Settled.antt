-- Other limits on, and one variable settled by them: what stood for a session stands for the settled one.
--   Change           what may change: which limits are on, and where one variable is
--   holds-settled    the tableau with that variable settled stands for the session with all of them settled
use mathlib.Core.Bool.{Bool, true, false}
use mathlib.Core.List.{List}
use mathlib.Core.Logic.{◌≢◌}
use mathlib.Core.Option.{Option, none-ne-some, some-ne-none, none, some}
use mathlib.Core.Path.{◌≡◌, ap, ap₂, refl, subst, sym, ◌∙◌}
use Prim.Native.Nat.{ℕ, ◌<◌}
use native.Mathlib.Decide.{ℕ_discrete}
use native.Mathlib.Omega.{arith}
use lib.IntN.{ℤ, neg_ℤ, pos}
use lib.ListN.{get_or, length-set, set}
use lib.Seq.{get_or-set_other, get_or-set_same}
use Rattle.whole.specs.Numbers.{Within}
use Rattle.whole.specs.Values.{pairs}
use Rattle.rules.proofs.Runs.Session.Fair.{seat-settled}
use Rattle.rules.specs.Facts.Runs.Session.{Fair}
use Rattle.rules.specs.Keeping.Limits.{kept}
use Rattle.rules.specs.Limit.{Limit, inset, lower_pair, present, upper_pair}
use Rattle.rules.specs.Problem.{Problem, mapped, vars}
use Rattle.rules.specs.Runs.Session.{inside, inside_seat, is_on, live_of, all_inside}
use Rattle.rules.specs.Sizes.{largest_limit, most_columns}
use Rattle.rules.specs.Step.{seat}
use Rattle.rules.specs.Runs.Session as rules
use Rattle.amounts.specs.declared.Given.{Given}
use Rattle.amounts.specs.Amounts.{given_lower, given_upper, limit_in}
use Rattle.tableau.specs.declared.Limits.{Limits}
use Rattle.tableau.specs.declared.Tableau.{Tableau}
use Rattle.tableau.specs.Parts.{column_of, lower_given, nonbasic_at, upper_given, value_at}
use Rattle.tableau.specs.Stands.{HasColumn, Ranged, Serves, Stands}
use Rattle.rules.proofs.Refusal.Accepted.{inset-within, outset-within}
use Rattle.session.specs.declared.Session.{Session}
use Rattle.session.specs.Sessions.{Flags, SessionHolds, Offers}
use Rattle.session.specs.Switching.{furnished, handed_in, inside_at, settled_at, settled_by, switched_to}
use Rattle.session.proofs.Laws.Stands.Furnished.{stands-furnished}
use Rattle.session.proofs.Laws.Inside.{inside-each}

-- a limit that is on is one that was given: what is kept of it is what the run reads
kept-is : (f : Limit → ℤ × ℤ) (g : Given) (o : Option (ℤ × ℤ)) → o ≡ mapped f (handed_in g) → (b : Bool) → b ≡ g.on →
    (g.on ≡ true → g.given ≡ true) → kept b o ≡ mapped f (limit_in g)
unfolding kept present mapped
kept-is f g o e b q sworn =
    ap₂ (λ c p. kept c p) q e ∙ go g.on g.given (record { plain = g.plain; strict = g.strict }) sworn
  where
    go : (on given : Bool) (l : Limit) → (on ≡ true → given ≡ true) →
        kept on (mapped f (present given l)) ≡ mapped f (present on l)
    go true given l s = ap (λ c. mapped f (present c l)) (s refl)
    go false given l s = refl

module _ (A : rules.Session (ℤ × ℤ)) (s : Session) (H : SessionHolds A s) (lowers uppers : List Bool) (l : Limits)
    (v : ℕ) where
  abbrev t : Tableau
  t = s.tableau

  abbrev G : Problem (ℤ × ℤ)
  G = A.given

  -- the session with other limits on
  abbrev B : rules.Session (ℤ × ℤ)
  B = record { given = G; lowers_on = lowers; uppers_on = uppers; state = A.state }

  abbrev C : rules.Session (ℤ × ℤ)
  C = all_inside pairs B

  pub record Change : Type 0 where
    pub is-variable : v < vars G
    pub strict_same : l.strict ≡ t.limits.strict
    -- a limit is what it was, on or off
    pub lower-same : (w : ℕ) → (b : Bool) × (lower_given l w ≡ switched_to (lower_given t.limits w) b)
    pub upper-same : (w : ℕ) → (b : Bool) × (upper_given l w ≡ switched_to (upper_given t.limits w) b)
    pub offers : Offers G l
    pub flags : Flags (vars G) lowers uppers l
    -- no other variable moves
    pub others-stay : (w : ℕ) → w < vars G → w ≢ v → seat C.state w ≡ seat A.state w

  module _ (K : Change) (F : Fair pairs C) where
    -- ---- limits

    serves_on : Serves (live_of B) l
    serves_on = let S = H.stands.serves in record {
      lower-is = λ w h. kept-is lower_pair (lower_given l w) (G.lower w) (K.offers.lower-given w h)
          (get_or lowers w false) (K.flags.lowers-are w h) (K.offers.lowers-sworn w);
      upper_is = λ w h. kept-is upper_pair (upper_given l w) (G.upper w) (K.offers.upper-given w h)
          (get_or uppers w false) (K.flags.uppers-are w h) (K.offers.uppers-sworn w);
      lowers-within = λ w. subst (λ (g : Given). Within g.plain largest_limit) (sym (K.lower-same w).1)
          (S.lowers-within w);
      uppers-within = λ w. subst (λ (g : Given). Within g.plain largest_limit) (sym (K.upper-same w).1)
          (S.uppers-within w);
      lowers-plain = λ e w. ap (λ (g : Given). g.strict) (K.lower-same w).1
          ∙ S.lowers-plain (sym K.strict_same ∙ e) w;
      uppers-plain = λ e w. ap (λ (g : Given). g.strict) (K.upper-same w).1
          ∙ S.uppers-plain (sym K.strict_same ∙ e) w;
    }

    -- ---- values by the rules

    seat-now : (w : ℕ) → w < vars G →
        seat C.state w ≡ inside_seat pairs ((live_of B).lower w) ((live_of B).upper w) (seat A.state w)
    seat-now w h = seat-settled pairs B w h

    seat-basic : (w : ℕ) → w < vars G → seat A.state w ≡ none → seat C.state w ≡ none
    unfolding inside_seat
    seat-basic w h e = seat-now w h ∙ ap (inside_seat pairs ((live_of B).lower w) ((live_of B).upper w)) e

    seat-seated : (w : ℕ) (x : ℤ × ℤ) → w < vars G → seat A.state w ≡ some x →
        seat C.state w ≡ some (inside pairs ((live_of B).lower w) ((live_of B).upper w) x)
    unfolding inside_seat
    seat-seated w x h e = seat-now w h ∙ ap (inside_seat pairs ((live_of B).lower w) ((live_of B).upper w)) e

    was-basic : (w : ℕ) → w < vars G → seat C.state w ≡ none → seat A.state w ≡ none
    was-basic w h e = go (seat A.state w) refl
      where
        go : (o : Option (ℤ × ℤ)) → seat A.state w ≡ o → seat A.state w ≡ none
        go none q = q
        go (some x) q = absurd (some-ne-none _ (sym (seat-seated w x h q) ∙ e))

    -- ---- the tableau

    abbrev on-now : Tableau
    on-now = furnished t t.values t.smalls l

    abbrev Held : Tableau → Type 0
    Held u = Stands (live_of C) u C.state × Ranged u × (u.limits ≡ l)

    -- where the variable is basic no value changes
    basic-held : seat A.state v ≡ none → Held on-now
    unfolding all_inside
    basic-held e = (
      stands-furnished G (is_on A) (is_on B) H.stands (record {
        tableau-is = refl;
        basic-before = was-basic;
        basic-after = seat-basic;
        column-value = λ j h. let a = H.stands.placed.in-column j h in
            K.others-stay (nonbasic_at t j) a.variable-in
            (λ q. none-ne-some (value_at t j) (sym e ∙ ap (seat A.state) (sym q) ∙ a.is-seated))
            ∙ a.is-seated;
        values-many = H.stands.sized.values-long;
        smalls-many = H.stands.sized.smalls-long;
        limits-serve = serves_on;
      }),
      record {
        cells = record {
          common-within = H.ranged.cells.common-within;
          cell-within = H.ranged.cells.cell-within;
        };
        values-within = H.ranged.values-within;
        smalls-within = H.ranged.smalls-within;
        smalls-plain = λ q. H.ranged.smalls-plain (sym K.strict_same ∙ q);
      },
      refl,
    )

    -- where it is not, it goes inside its limits
    module _ (E : HasColumn (live_of A) t v) where
      abbrev q : ℕ
      q = column_of t v

      abbrev y : ℤ × ℤ
      y = inside_at l v (value_at t q)

      abbrev u : Tableau
      u = furnished t (set t.values q y.0) (set t.smalls q y.1) l

      in_place : q < most_columns
      in_place = let a = E.in-columns in let b = H.stands.sized.few-columns in omega arith

      value-here : value_at u q ≡ y
      value-here = ap₂ (λ (a b : ℤ). (a, b))
          (get_or-set_same t.values q y.0 (pos 0) (rw H.stands.sized.values-long in_place))
          (get_or-set_same t.smalls q y.1 (pos 0) (rw H.stands.sized.smalls-long in_place))

      value-else : (j : ℕ) → j ≢ q → value_at u j ≡ value_at t j
      value-else j n = ap₂ (λ (a b : ℤ). (a, b)) (get_or-set_other t.values q j y.0 (pos 0) n)
          (get_or-set_other t.smalls q j y.1 (pos 0) n)

      moves-to : seat C.state v ≡ some y
      moves-to = seat-seated v (value_at t q) K.is-variable
          (ap (seat A.state) (sym E.holds) ∙ (H.stands.placed.in-column q E.in-columns).is-seated)
          ∙ ap₂ (λ o p. some (inside pairs o p (value_at t q))) (serves_on.lower-is v K.is-variable)
          (serves_on.upper_is v K.is-variable)

      column-now : (j : ℕ) → j < G.n → seat C.state (nonbasic_at t j) ≡ some (value_at u j)
      column-now j h = go (ℕ_discrete j q)
        where
          go : Dec (j ≡ q) → seat C.state (nonbasic_at t j) ≡ some (value_at u j)
          go (yes e) = ap (λ i. seat C.state (nonbasic_at t i)) e ∙ ap (seat C.state) E.holds ∙ moves-to
              ∙ ap some (sym value-here) ∙ ap (λ i. some (value_at u i)) (sym e)
          go (no n) = let a = H.stands.placed.in-column j h in
              K.others-stay (nonbasic_at t j) a.variable-in (λ e. n (sym a.back ∙ ap (column_of t) e))
              ∙ a.is-seated ∙ ap some (sym (value-else j n))

      -- what holds of every value and of both limits holds of every value then
      each-value : (Q : ℤ × ℤ → Type 0) → ((j : ℕ) → Q (value_at t j)) → Q (given_lower (lower_given l v)) →
          Q (given_upper (upper_given l v)) → (j : ℕ) → Q (value_at u j)
      each-value Q h a b j = go (ℕ_discrete j q)
        where
          go : Dec (j ≡ q) → Q (value_at u j)
          go (yes e) = subst Q (sym (ap (value_at u) e ∙ value-here))
              (inside-each (lower_given l v) (upper_given l v) (value_at t q) Q (h q) a b)
          go (no n) = subst Q (sym (value-else j n)) (h j)

      column-held : Held u
      unfolding all_inside
      column-held = (
        stands-furnished G (is_on A) (is_on B) H.stands (record {
          tableau-is = refl;
          basic-before = was-basic;
          basic-after = seat-basic;
          column-value = column-now;
          values-many = length-set t.values q y.0 ∙ H.stands.sized.values-long;
          smalls-many = length-set t.smalls q y.1 ∙ H.stands.sized.smalls-long;
          limits-serve = serves_on;
        }),
        record {
          cells = record {
            common-within = H.ranged.cells.common-within;
            cell-within = H.ranged.cells.cell-within;
          };
          values-within = each-value (λ z. Within z.0 largest_limit) H.ranged.values-within
              (serves_on.lowers-within v) (serves_on.uppers-within v);
          smalls-within = each-value (λ z. Within z.1 1) H.ranged.smalls-within
              (inset-within (lower_given l v).strict) (outset-within (upper_given l v).strict);
          smalls-plain = λ e. each-value (λ z. z.1 ≡ pos 0)
              (H.ranged.smalls-plain (sym K.strict_same ∙ e)) (ap inset (serves_on.lowers-plain e v))
              (ap (λ b. neg_ℤ (inset b)) (serves_on.uppers-plain e v));
        },
        refl,
      )

    settled-held : Held (settled_at on-now v)
    unfolding settled_at
    settled-held = go (seat A.state v) refl
      where
        go : (o : Option (ℤ × ℤ)) → seat A.state v ≡ o → Held (settled_at on-now v)
        go none e = subst Held (ap (λ b. settled_by b on-now v)
            (sym (H.stands.placed.has-row v K.is-variable e).flag)) (basic-held e)
        go (some x) e = let E = H.stands.placed.has-column v x K.is-variable e in
            subst Held (ap (λ b. settled_by b on-now v) (sym E.flag)) (column-held E)

    pub holds-settled : SessionHolds C (record { tableau = settled_at on-now v })
    unfolding all_inside
    holds-settled = let (St, R, e) = settled-held in record {
      stands = St;
      ranged = R;
      offers = subst (Offers G) (sym e) K.offers;
      flags = subst (Flags (vars G) lowers uppers) (sym e) K.flags;
      fair = F;
    }
