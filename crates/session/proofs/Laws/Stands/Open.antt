-- What opening hands back stands for the session of the problem with every limit off.
--   bare-fits      a problem without its limits is within the sizes
--   holds-quiet    its tableau, with every limit of the problem there and off, stands for the session
--   opens_as       what opening means
use mathlib.Core.Bool.{false}
use mathlib.Core.List.{List}
use mathlib.Core.Option.{Option, none-ne-some, none, some}
use mathlib.Core.Path.{◌≡◌, ap, ap₂, refl, subst, sym, ◌∙◌}
use Prim.Native.Nat.{ℕ, ◌<◌}
use native.Mathlib.Omega.{arith}
use lib.IntN.{ℤ, pos}
use lib.ListN.{get_or, length-replicate, replicate}
use Rattle.whole.specs.Numbers.{Within}
use Rattle.whole.specs.Tables.{filled}
use Rattle.whole.specs.Values.{pairs}
use Rattle.whole.proofs.Values.Beside.{pairs-laws}
use Rattle.whole.proofs.Bools.{true-false}
use Rattle.whole.proofs.Lists.Tables.{filled-each, filled_in, filled-length, replicate-at}
use Rattle.rules.proofs.Runs.Session.Fair.{fair-opened}
use Rattle.rules.specs.Keeping.Limits.{keeping, kept}
use Rattle.rules.specs.Limit.{Limit, lower_pair, present, upper_pair}
use Rattle.rules.specs.Problem.{Problem, inner, mapped, problem, vars}
use Rattle.rules.specs.Refusal.{problem_refusal}
use Rattle.rules.specs.Runs.Session.{is_on, live_of, none_on, opened}
use Rattle.rules.specs.Sizes.{largest_limit, most_columns, most_variables}
use Rattle.rules.specs.Step.{start, start_value}
use Rattle.rules.specs.Runs.Session as rules
use Rattle.amounts.specs.declared.Given.{Given}
use Rattle.amounts.specs.Amounts.{absent, limit_in}
use Rattle.tableau.specs.declared.Limits.{Limits}
use Rattle.tableau.specs.declared.Tableau.{Tableau}
use Rattle.tableau.specs.Parts.{lower_given, upper_given, value_at}
use Rattle.tableau.specs.Stands.{Ranged, Serves, Stands}
use Rattle.tableau.specs.Start.{given_of, limits_for, start_laid, start_of, start_tableau}
use Rattle.tableau.proofs.Laws.Fits.{Fitting, fitting-accepted, ranged-start, serves-start}
use Rattle.tableau.proofs.Laws.Stands.Start.{stands-start}
use Rattle.solver.proofs.Laws.Refusals.{accepted-of}
use Rattle.slices.specs.Slices.{started_problem, started_words}
use Rattle.slices.proofs.Laws.Stands.Start.{started-fine}
use Rattle.session.specs.declared.Opened.{Opened}
use Rattle.session.specs.Sessions.{Flags, SessionHolds, Offers, OpensAs, opened_at}
use Rattle.session.specs.Switching.{all_off, handed_in, zero_values, off_limits, quiet_at, switched_to}
use Rattle.session.proofs.Laws.Stands.Furnished.{stands-furnished}

zero-within : {n : ℕ} → Within (pos 0) n
zero-within = record { within = omega arith }

-- a limit that is off is no limit
off-none : (f : Limit → ℤ × ℤ) (g : Given) → g.on ≡ false → none ≡ mapped f (limit_in g)
unfolding present mapped
off-none f g e = ap (λ b. mapped f (present b (record { plain = g.plain; strict = g.strict }))) (sym e)

handed-back : (o : Option Limit) → o ≡ handed_in (given_of o)
unfolding present
handed-back none = refl
handed-back (some l) = refl

nought-at : (j : ℕ) → get_or zero_values j (pos 0) ≡ pos 0
nought-at j = replicate-at most_columns (pos 0) j

module _ (P : Problem Limit) (F : Fitting P) where
  abbrev I : Problem (ℤ × ℤ)
  I = inner P

  abbrev bare : Problem Limit
  bare = keeping none_on P

  abbrev A : rules.Session (ℤ × ℤ)
  A = opened pairs I

  abbrev off : Limits
  off = off_limits (limits_for P)

  -- ---- without limits

  bare-fits : Fitting bare
  unfolding kept
  bare-fits = record {
    few-rows = F.few-rows;
    few-columns = F.few-columns;
    coefficient-within = F.coefficient-within;
    lower-within = λ v l h e. absurd (none-ne-some l e);
    upper-within = λ v u h e. absurd (none-ne-some u e);
  }

  stands-bare : Stands (keeping none_on I) (start_tableau bare) (start pairs (keeping none_on I))
  unfolding kept mapped
  stands-bare = stands-start bare bare-fits

  value-nought : (j : ℕ) → value_at (start_tableau bare) j ≡ (pos 0, pos 0)
  unfolding start_laid start_value kept mapped
  value-nought j = ap₂ (λ (a b : ℤ). (a, b)) (all (λ z. z.0) refl) (all (λ z. z.1) refl)
    where
      all : (f : ℤ × ℤ → ℤ) → f (pos 0, pos 0) ≡ pos 0 →
          get_or (filled most_columns (pos 0) P.n (λ j. f (start_of bare j))) j (pos 0) ≡ pos 0
      all f e = filled-each most_columns (pos 0) P.n (λ j. f (start_of bare j)) (λ z. z ≡ pos 0) refl (λ i h. e) j

  -- ---- every limit off

  off-each : (Q : Given → Type 0) → Q absent → (l : List Given) →
      ((v : ℕ) → Q (switched_to (get_or l v absent) false)) → (v : ℕ) → Q (get_or (all_off l) v absent)
  off-each Q z l h = filled-each most_variables absent most_variables (λ v. switched_to (get_or l v absent) false) Q z
      (λ v k. h v)

  lower-off : (v : ℕ) → (lower_given off v).on ≡ false
  lower-off = off-each (λ g. g.on ≡ false) refl (limits_for P).lower (λ v. refl)

  upper-off : (v : ℕ) → (upper_given off v).on ≡ false
  upper-off = off-each (λ g. g.on ≡ false) refl (limits_for P).upper (λ v. refl)

  -- no flag of the session is set
  flag_off : (v : ℕ) → get_or (replicate (vars I) false) v false ≡ false
  flag_off v = replicate-at (vars I) false v

  kept_off : (v : ℕ) (o : Option (ℤ × ℤ)) → kept (get_or (replicate (vars I) false) v false) o ≡ none
  unfolding kept
  kept_off v o = ap (λ b. kept b o) (flag_off v)

  serves-off : Serves (live_of A) off
  unfolding opened
  serves-off = let S = serves-start P F in record {
    lower-is = λ v h. kept_off v (I.lower v) ∙ off-none lower_pair (lower_given off v) (lower-off v);
    upper_is = λ v h. kept_off v (I.upper v) ∙ off-none upper_pair (upper_given off v) (upper-off v);
    lowers-within = off-each (λ g. Within g.plain largest_limit) zero-within (limits_for P).lower S.lowers-within;
    uppers-within = off-each (λ g. Within g.plain largest_limit) zero-within (limits_for P).upper S.uppers-within;
    lowers-plain = λ e. off-each (λ g. g.strict ≡ false) refl (limits_for P).lower (S.lowers-plain e);
    uppers-plain = λ e. off-each (λ g. g.strict ≡ false) refl (limits_for P).upper (S.uppers-plain e);
  }

  few : {v : ℕ} → v < vars P → v < most_variables
  few h = let a = F.few-rows in let b = F.few-columns in omega arith

  -- what was handed in is there
  lower-there : (v : ℕ) → v < vars P → I.lower v ≡ mapped lower_pair (handed_in (lower_given off v))
  unfolding limits_for
  lower-there v h = ap (mapped lower_pair) (handed-back (P.lower v)
      ∙ sym (ap handed_in (filled_in most_variables absent (vars P) (λ u. given_of (P.lower u)) v h))
      ∙ sym (ap handed_in (filled_in most_variables absent most_variables
      (λ u. switched_to (lower_given (limits_for P) u) false) v (few h))))

  upper-there : (v : ℕ) → v < vars P → I.upper v ≡ mapped upper_pair (handed_in (upper_given off v))
  unfolding limits_for
  upper-there v h = ap (mapped upper_pair) (handed-back (P.upper v)
      ∙ sym (ap handed_in (filled_in most_variables absent (vars P) (λ u. given_of (P.upper u)) v h))
      ∙ sym (ap handed_in (filled_in most_variables absent most_variables
      (λ u. switched_to (upper_given (limits_for P) u) false) v (few h))))

  offers-off : Offers I off
  offers-off = record {
    lower-given = lower-there;
    upper-given = upper-there;
    lowers-sworn = λ v e. true-false e (lower-off v);
    uppers-sworn = λ v e. true-false e (upper-off v);
    lowers-long = filled-length most_variables absent most_variables _ (omega arith);
    uppers-long = filled-length most_variables absent most_variables _ (omega arith);
  }

  flags-off : Flags (vars I) (replicate (vars I) false) (replicate (vars I) false) off
  flags-off = record {
    lowers-are = λ v h. flag_off v ∙ sym (lower-off v);
    uppers-are = λ v h. flag_off v ∙ sym (upper-off v);
    lowers-many = length-replicate (vars I) false;
    uppers-many = length-replicate (vars I) false;
  }

  -- ---- the whole

  abbrev t : Tableau
  t = quiet_at (start_tableau P)

  stands-quiet : Stands (live_of A) t A.state
  unfolding quiet_at start_laid opened
  stands-quiet = stands-furnished I none_on (is_on A) stands-bare (record {
    tableau-is = refl;
    basic-before = λ v h e. e;
    basic-after = λ v h e. e;
    column-value = λ j h. (stands-bare.placed.in-column j h).is-seated ∙ ap some (value-nought j
        ∙ sym (ap₂ (λ (a b : ℤ). (a, b)) (nought-at j) (nought-at j)));
    values-many = length-replicate most_columns (pos 0);
    smalls-many = length-replicate most_columns (pos 0);
    limits-serve = serves-off;
  })

  ranged-quiet : Ranged t
  unfolding quiet_at start_laid
  ranged-quiet = let R = ranged-start P F in record {
    cells = record { common-within = R.cells.common-within; cell-within = R.cells.cell-within };
    values-within = λ j. rw (nought-at j) zero-within;
    smalls-within = λ j. rw (nought-at j) zero-within;
    smalls-plain = λ e j. nought-at j;
  }

  holds-quiet : SessionHolds A (record { tableau = t })
  unfolding quiet_at start_laid opened
  holds-quiet = record {
    stands = stands-quiet;
    ranged = ranged-quiet;
    offers = offers-off;
    flags = flags-off;
    fair = fair-opened pairs pairs-laws I F.coefficient-within;
  }

-- ---- of words

module _ (ws : List ℤ) where
  opened-holds : SessionHolds (opened pairs (inner (started_problem ws))) (opened_at ws).session
  unfolding opened_at
  opened-holds = let us : List ℤ = started_words (problem_refusal ws) ws in
      holds-quiet (problem us) (fitting-accepted us (accepted-of us (started-fine ws)))

  opened-as : OpensAs ws (opened_at ws)
  unfolding opened_at
  opened-as = record { number = refl; state = opened-holds; standing = record { session = _; holds = opened-holds } }

  pub opens_as : (r : Opened) → r ≡ opened_at ws → OpensAs ws r
  opens_as r e = subst (OpensAs ws) (sym e) opened-as
