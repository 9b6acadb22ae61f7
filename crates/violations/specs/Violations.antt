-- docs/RULES.md, "The first violation", over the structs of the code.
--   shown_as          the rules' violation, as the struct
--   nothing_at        nothing is shown
--   shown_at          by the row that the search found
--   shown_next        by all that it found
--   violation_at      of a tableau, by place
--   ShowsAs          of a session that the struct stands for
use Rattle.std.specs.Prelude.{true, List, ◌≡◌, ℕ, ℤ, get_or}
use Rattle.rules.specs.Runs.Session as sessions
use Rattle.rules.specs.Runs.Violation as rules
use Rattle.rules.specs.Runs.Violation.{nothing_shown, session_violation, shown_by}
use Rattle.tableau.specs.declared.Tableau.{Tableau}
use Rattle.tableau.specs.declared.Variable.{Variable}
use Rattle.tableau.specs.Parts.{variable}
use Rattle.search.specs.declared.Blocked.{Blocked}
use Rattle.search.specs.declared.Next.{Next}
use Rattle.search.specs.declared.Next.TheVariants as nexts
use Rattle.search.specs.Search.{leaving_at}
use Rattle.session.specs.declared.Session.{Session}
use Rattle.session.specs.Sessions.{SessionHolds}
use Rattle.violations.specs.declared.Violation.{Violation}

abbrev pub shown_as : rules.Violation → Violation
shown_as f = record {
  refused = f.refused;
  variable = f.variable;
  violated = f.violated;
  rises = f.rises;
  denominator = f.denominator;
  shortfall = f.shortfall;
  small = f.small;
}

abbrev pub nothing_at : ℕ → Violation
nothing_at k = shown_as (nothing_shown k)

-- the variables of all rows, the common number, and the row with its side and its shortfall
abbrev pub shown_at : List Variable → ℤ → Blocked → Violation
shown_at basic d b = record {
  refused = 0;
  variable = (get_or basic b.row.0 (variable 0)).0;
  violated = true;
  rises = b.rises;
  denominator = d;
  shortfall = b.shortfall.plain;
  small = b.shortfall.small;
}

abbrev pub shown_next : Tableau → Next → Violation
shown_next t nexts.Within = nothing_at 0
shown_next t (nexts.Stuck b) = shown_at t.basic t.common b
shown_next t (nexts.Pivot c) = shown_at t.basic t.common
    (record { row = c.row; rises = c.rises; shortfall = c.shortfall })

unfoldable pub violation_at : Tableau → Violation
violation_at t = shown_as (shown_by t.common (leaving_at t))

abbrev pub ShowsAs : Session → Violation → Type 0
ShowsAs s r = (A : sessions.Session (ℤ × ℤ)) → SessionHolds A s → r ≡ shown_as (session_violation A)
