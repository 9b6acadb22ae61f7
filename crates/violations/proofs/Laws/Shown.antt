-- What the search finds in a tableau that stands for a state is what the rules show of that state.
--   next-shown       by place: the row's variable is the leaving one
--   violation-is     by variable
--   row-stuck, row-chosen    the row that is found is a place
--   start-held, start-shown, start-refused    the start of accepted words, what is shown of it; words that are refused
--   shows-as    of a session
use mathlib.Core.Bool.{true}
use mathlib.Core.List.{List}
use mathlib.Core.Logic.{◌≢◌}
use mathlib.Core.Option.{Option, none, some}
use mathlib.Core.Path.{◌≡◌, ap, ap₂, refl, subst, sym, ◌∙◌}
use Prim.Native.Nat.{ℕ, suc, zero, ◌<◌}
use native.Mathlib.Omega.{arith}
use lib.IntN.{ℤ}
use Rattle.whole.proofs.Bools.{zero_one}
use Rattle.whole.specs.Values.{pairs}
use Rattle.rules.proofs.Runs.Slices.{on-way-rowed}
use Rattle.rules.proofs.Step.Leaving.{left}
use Rattle.rules.specs.Facts.Rule.{Left}
use Rattle.rules.specs.Facts.State.{Rowed}
use Rattle.rules.specs.Problem.{Problem, inner, problem}
use Rattle.rules.specs.Refusal.{problem_refusal}
use Rattle.rules.specs.Runs.Session.{live_of}
use Rattle.rules.specs.Runs.Slices.{begun}
use Rattle.rules.specs.Runs.Violation.{first_violation, has_to_rise, shown_by, start_shown, violation_of}
use Rattle.rules.specs.Sizes.{most_rows}
use Rattle.rules.specs.Step.{Leaving, Side, State, above, below, entering, leaving, start}
use Rattle.tableau.specs.declared.Tableau.{Tableau}
use Rattle.tableau.specs.Parts.{row_of}
use Rattle.tableau.specs.Stands.{HasRow, Stands}
use Rattle.tableau.specs.Start.{start_tableau}
use Rattle.search.specs.declared.Blocked.{Blocked}
use Rattle.search.specs.declared.Choice.{Choice}
use Rattle.search.specs.declared.Next.{Next}
use Rattle.search.specs.declared.Next.TheVariants as nexts
use Rattle.search.specs.Search.{blocked_at, next_at}
use Rattle.search.proofs.Laws.Stands.{leaving-is, next-blocked, next-chosen, next-none}
use Rattle.sides.specs.Sides.{rising}
use Rattle.steps.specs.Step.{Held}
use Rattle.solver.specs.Spend.{Holds}
use Rattle.solver.proofs.Laws.Refusals.{holds-start}
use Rattle.session.specs.declared.Session.{Session}
use Rattle.violations.specs.declared.Violation.{Violation}
use Rattle.violations.specs.Violations.{ShowsAs, nothing_at, shown_at, shown_next, shown_as, violation_at}

rising-is : (σ : Side) → rising σ ≡ has_to_rise σ
rising-is below = refl
rising-is above = refl

-- ---- by variable

module _ (P : Problem (ℤ × ℤ)) (t : Tableau) (s : State (ℤ × ℤ)) (St : Stands P t s) (R : Rowed pairs P s) where
  pub violation-is : violation_at t ≡ shown_as (violation_of P s)
  unfolding violation_at violation_of
  violation-is = ap₂ (λ d o. shown_as (shown_by d o)) St.numbers.common-is (leaving-is P t s St R)

  -- ---- by place

  module _ (r : Leaving (ℤ × ℤ)) (e : leaving pairs P s ≡ some r) where
    its : HasRow P t r.variable
    its = let L : Left pairs P s r = left pairs P s r e in
        St.placed.has-row r.variable L.variable L.was-basic

    found-is : shown_at t.basic t.common (blocked_at t r) ≡ violation_at t
    unfolding violation_at shown_by
    found-is = ap₂ (λ v b. record {
      refused = 0;
      variable = v;
      violated = true;
      rises = b;
      denominator = t.common;
      shortfall = r.shortfall.0;
      small = r.shortfall.1;
    }) its.holds (rising-is r.side) ∙ ap (λ o. shown_as (shown_by t.common o)) (sym (leaving-is P t s St R ∙ e))

    row_in : row_of t r.variable < most_rows
    row_in = let a = its.in_rows in let b = St.sized.few-rows in omega arith

  -- what is found, and that its row is one
  Found : Next → Type 0
  Found n = (shown_next t n ≡ violation_at t) × ((b : Blocked) → n ≡ nexts.Stuck b → b.row.0 < most_rows)
      × ((c : Choice) → n ≡ nexts.Pivot c → c.row.0 < most_rows)

  found : Found (next_at t)
  unfolding Found violation_at shown_by
  found = go (leaving pairs P s) refl
    where
      stuck : (r : Leaving (ℤ × ℤ)) → leaving pairs P s ≡ some r → (o : Option ℕ) → entering pairs P s r ≡ o →
          Found (next_at t)
      stuck r e none f = subst Found (sym (next-blocked P t s St R r e f)) (
        found-is r e,
        (λ b z. let y : blocked_at t r ≡ b = cc in subst (λ b. b.row.0 < most_rows) y (row_in r e)),
        (λ c z. let y : ◌≡◌ {A = ℕ} 0 1 = cc in zero_one y),
      )
      stuck r e (some w) f = subst Found (sym (next-chosen P t s St R r e w f)) (
        found-is r e,
        (λ b z. let y : ◌≡◌ {A = ℕ} 0 1 = cc in zero_one y),
        (λ c z. let y : row_of t r.variable ≡ c.row.0 = cc in subst (λ i. i < most_rows) y (row_in r e)),
      )

      go : (o : Option (Leaving (ℤ × ℤ))) → leaving pairs P s ≡ o → Found (next_at t)
      go none e = subst Found (sym (next-none P t s St R e)) (
        ap (λ o. shown_as (shown_by t.common o)) (sym (leaving-is P t s St R ∙ e)),
        (λ b z. let y : ◌≡◌ {A = ℕ} 0 1 = cc in zero_one y),
        (λ c z. let y : ◌≡◌ {A = ℕ} 0 1 = cc in zero_one y),
      )
      go (some r) e = stuck r e (entering pairs P s r) refl

-- ---- what the calls need

module _ {t : Tableau} (H : Held t) where
  pub next-shown : (n : Next) → next_at t ≡ n → shown_next t n ≡ violation_at t
  unfolding Found
  next-shown n e = subst (λ m. shown_next t m ≡ violation_at t) e
      (found H.problem t H.state H.stands H.rowed).0

  pub row-stuck : (b : Blocked) → next_at t ≡ nexts.Stuck b → b.row.0 < most_rows
  unfolding Found
  row-stuck = (found H.problem t H.state H.stands H.rowed).1

  pub row-chosen : (c : Choice) → next_at t ≡ nexts.Pivot c → c.row.0 < most_rows
  unfolding Found
  row-chosen = (found H.problem t H.state H.stands H.rowed).2

-- ---- of words

module _ (ws : List ℤ) where
  module _ (t : Tableau) (e : t ≡ start_tableau (problem ws)) (f : problem_refusal ws ≡ 0) where
    abbrev holds : Holds (begun pairs (inner (problem ws))) t 0
    holds = holds-start ws t e f

    pub start-held : Held t
    unfolding begun
    start-held = record {
      problem = inner (problem ws);
      state = start pairs (inner (problem ws));
      stands = holds.stands;
      rowed = on-way-rowed (begun pairs (inner (problem ws))) holds.on-way;
      ranged = holds.ranged;
    }

    pub start-shown : violation_at t ≡ shown_as (first_violation ws)
    unfolding begun first_violation
    start-shown = violation-is (inner (problem ws)) t (start pairs (inner (problem ws))) holds.stands
        (on-way-rowed (begun pairs (inner (problem ws))) holds.on-way)
        ∙ ap shown_as (by_number (problem_refusal ws) f)
      where
        by_number : (k : ℕ) → k ≡ 0 → violation_of (inner (problem ws)) (start pairs (inner (problem ws)))
            ≡ start_shown k ws
        by_number zero e = refl
        by_number (suc k) e = let y : ⊥ = omega arith in absurd y

  pub start-refused : (k : ℕ) → k ≡ problem_refusal ws → k ≢ 0 → nothing_at k ≡ shown_as (first_violation ws)
  unfolding first_violation
  start-refused zero e n = absurd (n refl)
  start-refused (suc k) e n = ap (λ k. shown_as (start_shown k ws)) e

-- ---- of a session

module _ (s : Session) where
  pub shows-as : (r : Violation) → r ≡ violation_at s.tableau → ShowsAs s r
  shows-as r e A H = e ∙ violation-is (live_of A) s.tableau A.state H.stands H.fair.rowed
