-- docs/RULES.md, "Runs worked by hand": all cases and edges as one list. One theorem says that all are right
-- (proofs/Worked/All.antt).
use Rattle.std.specs.Prelude.{List, ◌++◌}
use Rattle.rules.specs.Cases.Evidence.{evidence_cases, wide_cases}
use Rattle.rules.specs.Cases.Expected.{Case}
use Rattle.rules.specs.Cases.Limits.{limit_cases}
use Rattle.rules.specs.Cases.Times.{time_cases, time_checks}

unfoldable pub cases : List Case
cases = limit_cases ++ evidence_cases ++ wide_cases ++ time_cases ++ time_checks
