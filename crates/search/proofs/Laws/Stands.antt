-- The search by place is the rules': of a tableau that stands for a state the same one leaves, and the same one enters.
--   all-vars                                as many variables as rows and columns
--   leaving-is, entering-is                 by variable
--   next-none, next-blocked, next-chosen    none leaves, none enters, or a row and a column
use mathlib.Core.Bool.{Bool, cond, false, true}
use mathlib.Core.Option.{Option, none, some}
use mathlib.Core.Path.{◌≡◌, refl, sym, ap, ap₂, ◌∙◌}
use Prim.Native.Nat.{ℕ, ◌+◌, ◌<◌}
use native.Mathlib.Nat.{add_comm}
use lib.IntN.{ℤ}
use Rattle.whole.specs.Below.{lowest}
use Rattle.whole.specs.Values.{pairs}
use Rattle.whole.proofs.Lists.Turns.{lowest-same}
use Rattle.rules.specs.Problem.{Problem, vars}
use Rattle.rules.specs.Step.{Leaving, Side, State, above, below, broken, common, entering, leaves, leaving, over, pull}
use Rattle.rules.specs.Step.{scaled, seat, shortfall_of, suits, under}
use Rattle.rules.specs.Tableau.{entry}
use Rattle.rules.specs.Facts.Rule.{Left}
use Rattle.rules.proofs.Step.Leaving.{left}
use Rattle.rules.specs.Facts.State.{Rowed}
use Rattle.tableau.specs.declared.Tableau.{Tableau}
use Rattle.tableau.specs.Parts.{cell_at, value_at, seat_at, row_of, column_of}
use Rattle.tableau.specs.Stands.{HasRow, Stands}
use Rattle.sides.specs.Sides.{side_from, side_of}
use Rattle.search.specs.declared.Next.TheVariants as variants
use Rattle.search.specs.Search.{short_at, side_at, tagged, broken_at, broken_laid, leaving_at, leaving_laid, fitting}
use Rattle.search.specs.Search.{entering_of, enters_laid, entering_at, entering_laid, blocked_at, choice_at, move_by}
use Rattle.search.specs.Search.{next_by, next_by_laid, next_at, next_laid}
use Rattle.search.proofs.Laws.Turns.{enters-basic}
use Rattle.search.proofs.Laws.Rows.{row_is}

-- the two ways to write the side and the shortfall
by_tests_lem : (v : ℕ) (a b : Bool) (short : Side → ℤ × ℤ) →
    tagged v (side_from a b) short ≡ elim a [
      | true ↦ some (leaves v below (short below))
      | false ↦ elim b [ true ↦ some (leaves v above (short above)) | false ↦ none ]
    ]
by_tests_lem v true b short = refl
by_tests_lem v false true short = refl
by_tests_lem v false false short = refl

none-suits : (w : ℕ) (l u : Option (ℤ × ℤ)) (a : ℤ) → none ≡ cond (suits pairs a none l u) (some w) none
unfolding suits
none-suits w l u a = refl

module _ (P : Problem (ℤ × ℤ)) (t : Tableau) (s : State (ℤ × ℤ)) (St : Stands P t s) (R : Rowed pairs P s) where
  pub all-vars : t.rows + t.columns ≡ vars P
  all-vars = ap₂ (λ a b. a + b) St.sized.rows_is St.sized.columns-is ∙ add_comm P.m P.n

  module _ (v : ℕ) (h : v < vars P) (e : seat s v ≡ none) where
    side-is : side_at t v ≡ side_from (under pairs (common s) (scaled pairs P s v) (P.lower v))
        (over pairs (common s) (scaled pairs P s v) (P.upper v))
    unfolding side_of
    side-is = rw (
      St.serves.lower-is v h,
      St.serves.upper_is v h,
      ← row_is P t s St R v h e,
      ← St.numbers.common-is,
    ) refl

    short-is : short_at t v ≡ shortfall_of pairs P s v
    short-is = rw (
      St.serves.lower-is v h,
      St.serves.upper_is v h,
      ← row_is P t s St R v h e,
      ← St.numbers.common-is,
    ) refl

  broken-is : (v : ℕ) → v < vars P → broken_at t v ≡ broken pairs P s v (seat s v)
  unfolding broken_laid broken
  broken-is v h = go (seat s v) refl
    where
      go : (o : Option (ℤ × ℤ)) → seat s v ≡ o →
          cond (seat_at t v).basic (tagged v (side_at t v) (short_at t v)) none ≡ broken pairs P s v o
      go none e = ap₂ (λ b o. cond b (tagged v o (short_at t v)) none) (St.placed.has-row v h e).flag (side-is v h e)
          ∙ ap (tagged v (side_from low high)) (short-is v h e)
          ∙ by_tests_lem v low high (shortfall_of pairs P s v)
        where
          low : Bool
          low = under pairs (common s) (scaled pairs P s v) (P.lower v)

          high : Bool
          high = over pairs (common s) (scaled pairs P s v) (P.upper v)
      go (some x) e = ap (λ b. cond b (tagged v (side_at t v) (short_at t v)) none) (St.placed.has-column v x h e).flag

  pub leaving-is : leaving_at t ≡ leaving pairs P s
  unfolding leaving_laid leaving
  leaving-is = ap (λ k. lowest k (broken_at t)) all-vars
      ∙ lowest-same (broken_at t) (λ v. broken pairs P s v (seat s v)) (vars P) broken-is

  module _ (r : Leaving (ℤ × ℤ)) (L : Left pairs P s r) where
    its : HasRow P t r.variable
    its = St.placed.has-row r.variable L.variable L.was-basic

    abbrev test : ℕ → Option (ℤ × ℤ) → Bool
    test w o = suits pairs (pull r.side (entry s.tableau r.variable w)) o (P.lower w) (P.upper w)

    fitting-is : (w : ℕ) (x : ℤ × ℤ) → w < vars P → seat s w ≡ some x →
        fitting t (row_of t r.variable) r.side w ≡ test w (some x)
    fitting-is w x h e =
        let a = St.placed.has-column w x h e in
        let k : cell_at t (row_of t r.variable) (column_of t w) ≡ entry s.tableau r.variable w =
        St.numbers.cell-is (row_of t r.variable) (column_of t w) its.in_rows a.in-columns
        ∙ ap₂ (entry s.tableau) its.holds a.holds in
        let y : some (value_at t (column_of t w)) ≡ some x =
        sym (St.placed.in-column (column_of t w) a.in-columns).is-seated ∙ ap (seat s) a.holds ∙ e in
        rw (k, y, St.serves.lower-is w h, St.serves.upper_is w h) refl

    entering-one : (w : ℕ) → w < vars P →
        entering_of t (row_of t r.variable) r.side w ≡ cond (test w (seat s w)) (some w) none
    unfolding enters_laid
    entering-one w h = go (seat s w) refl
      where
        go : (o : Option (ℤ × ℤ)) → seat s w ≡ o →
            entering_of t (row_of t r.variable) r.side w ≡ cond (test w o) (some w) none
        go none e = enters-basic t (row_of t r.variable) r.side w (St.placed.has-row w h e).flag
            ∙ none-suits w (P.lower w) (P.upper w) (pull r.side (entry s.tableau r.variable w))
        go (some x) e = ap₂ (λ b g. cond b none (cond g (some w) none)) (St.placed.has-column w x h e).flag
            (fitting-is w x h e)

    entering-is : entering_at t (row_of t r.variable) r.side ≡ entering pairs P s r
    unfolding entering_laid entering
    entering-is = ap (λ k. lowest k (entering_of t (row_of t r.variable) r.side)) all-vars
        ∙ lowest-same (entering_of t (row_of t r.variable) r.side) (λ w. cond (test w (seat s w)) (some w) none)
        (vars P) entering-one

  -- ---- what the search comes to, by the choices of the rules

  pub next-none : leaving pairs P s ≡ none → next_at t ≡ variants.Within
  unfolding next_laid next_by_laid
  next-none e = ap (next_by t) (leaving-is ∙ e)

  module _ (r : Leaving (ℤ × ℤ)) (e : leaving pairs P s ≡ some r) where
    by_row : next_at t ≡ move_by t r (entering pairs P s r)
    unfolding next_laid next_by_laid
    by_row = ap (next_by t) (leaving-is ∙ e) ∙ ap (move_by t r) (entering-is r (left pairs P s r e))

    pub next-blocked : entering pairs P s r ≡ none → next_at t ≡ variants.Stuck (blocked_at t r)
    unfolding move_by
    next-blocked f = by_row ∙ ap (move_by t r) f

    pub next-chosen : (w : ℕ) → entering pairs P s r ≡ some w → next_at t ≡ variants.Pivot (choice_at t r w)
    unfolding move_by
    next-chosen w f = by_row ∙ ap (move_by t r) f
