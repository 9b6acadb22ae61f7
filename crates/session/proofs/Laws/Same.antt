-- A struct holds its session: two sessions of the rules that it stands for are the same, up to what their sizes leave
-- open.
--   session-only    one problem, the same limits on, and the same state: `SameSession` of specs/Same
use mathlib.Core.Option.{Option, none, some}
use mathlib.Core.Path.{◌≡◌, ap, refl, sym, ◌∙◌}
use Prim.Native.Nat.{ℕ, ◌<◌}
use native.Mathlib.Omega.{arith}
use lib.IntN.{ℤ}
use Rattle.rules.specs.Problem.{Problem, vars}
use Rattle.rules.specs.Runs.Session.{live_of}
use Rattle.rules.specs.Step.{State, seat}
use Rattle.rules.specs.Runs.Session as rules
use Rattle.tableau.specs.declared.Tableau.{Tableau}
use Rattle.tableau.specs.Parts.{column_of, value_at}
use Rattle.tableau.specs.Stands.{Stands}
use Rattle.slices.proofs.Laws.Problem.{basic-too, common-same, entries-same, same-problem, seated-too}
use Rattle.slices.specs.Slices.{SameProblem}
use Rattle.session.specs.declared.Session.{Session}
use Rattle.session.specs.Same.{SameSession}
use Rattle.session.specs.Sessions.{SessionHolds}

-- a nonbasic variable has the value of its column place
value_of : {P : Problem (ℤ × ℤ)} {t : Tableau} {s : State (ℤ × ℤ)} → Stands P t s → (v : ℕ) (y : ℤ × ℤ) → v < vars P →
    seat s v ≡ some y → seat s v ≡ some (value_at t (column_of t v))
value_of {t = t} {s = s} S v y h e = let E = S.placed.has-column v y h e in
    ap (seat s) (sym E.holds) ∙ (S.placed.in-column (column_of t v) E.in-columns).is-seated

module _ (A B : rules.Session (ℤ × ℤ)) (s : Session) (H : SessionHolds A s) (K : SessionHolds B s) where
  same : SameProblem (live_of A) (live_of B)
  same = same-problem H.stands K.stands H.fair.rowed K.fair.rowed

  in_both : {v : ℕ} → v < vars A.given → v < vars B.given
  in_both h = let a = same.columns-same in let b = same.rows_same in omega arith

  seat-same : (v : ℕ) → v < vars A.given → (o : Option (ℤ × ℤ)) → seat A.state v ≡ o →
      seat A.state v ≡ seat B.state v
  seat-same v h none e = e ∙ sym (basic-too H.stands K.stands H.fair.rowed K.fair.rowed v h e)
  seat-same v h (some y) e =
      let (z, f) = seated-too H.stands K.stands H.fair.rowed K.fair.rowed v y h e in
      value_of H.stands v y h e ∙ sym (value_of K.stands v z (in_both h) f)

  pub session-only : SameSession A B
  session-only = record {
    problem = record {
      columns-same = same.columns-same;
      rows_same = same.rows_same;
      coefficients = same.coefficients;
      lowers = λ v h. H.offers.lower-given v h ∙ sym (K.offers.lower-given v (in_both h));
      uppers = λ v h. H.offers.upper-given v h ∙ sym (K.offers.upper-given v (in_both h));
    };
    lowers-on = λ v h. H.flags.lowers-are v h ∙ sym (K.flags.lowers-are v (in_both h));
    uppers-on = λ v h. H.flags.uppers-are v h ∙ sym (K.flags.uppers-are v (in_both h));
    seats = λ v h. seat-same v h (seat A.state v) refl;
    common-is = common-same H.stands K.stands H.fair.rowed K.fair.rowed;
    entries = λ v w h k. entries-same H.stands K.stands H.fair.rowed K.fair.rowed v w h k;
  }
