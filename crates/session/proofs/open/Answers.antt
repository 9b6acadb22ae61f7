-- `session::open` meets its contract: the first state of a run in slices, with every limit off and every value 0.
-- Assumes nothing.
use mathlib.Core.Path.{◌≡◌, ap, ◌∙◌}
use Rattle.tableau.specs.declared.Tableau.{Tableau}
use Rattle.slices.specs.declared.Begun.{Begun}
use Rattle.slices.specs.Slices.{begun_at}
use Rattle.session.specs.declared.Opened.{Opened}
use Rattle.session.specs.Sessions.{opened_at}
use Rattle.session.specs.Switching.{quiet_at}
use Rattle.session.proofs.Laws.Stands.Open.{opens_as}
use Rattle.session.proofs.open.Goals as goal
use Rattle.session.proofs.open.Goals.{After-quiet}

-- what is handed back, by what the start of a run hands back
abbrev opened-by : Begun → Tableau → Opened
opened-by r t = record { refused = r.refused; session = record { tableau = t } }

opened-is : (c : After-quiet) →
    opened-by c.start-begun.result c.quiet.result
    ≡ opened_at c.args.words.now
unfolding begun_at opened_at
opened-is c = ap (opened-by c.start-begun.result) c.quiet.ensures
    ∙ ap (λ (r : Begun). opened-by r (quiet_at r.slice.tableau)) c.start-begun.ensures.exact

pub returns : goal.returns
returns c = record { exact = opened-is c; meaning = opens_as c.args.words.now _ (opened-is c) }
