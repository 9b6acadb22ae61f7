-- The layout changes no check of a session either. The session's tableau holds its entries in the order in use; t holds
-- the same in any order.
--   check-same-run      at every step of the check's run the two tableaux are the same
--   check-same-words    so its words are those of the rules, in whatever order the entries lie
--   same-limits         limits that cross are told by the limits alone, and those are the same
use mathlib.Core.Option.{none}
use mathlib.Core.Path.{◌≡◌, ◌∙◌, ap, sym}
use Prim.Native.Nat.{ℕ, ◌+◌}
use lib.IntN.{ℤ}
use Rattle.whole.specs.Values.{pairs}
use Rattle.rules.proofs.Runs.Session.Fair.{fair-ready}
use Rattle.rules.specs.Run.{conflict}
use Rattle.rules.specs.Runs.Session.{check_answer, live_of}
use Rattle.rules.specs.Runs.Session as rules
use Rattle.layout.specs.Layout.{Order, in_use}
use Rattle.tableau.specs.declared.Tableau.{Tableau}
use Rattle.tableau.specs.TwoOrders.{SameTableau}
use Rattle.steps.specs.declared.End.{End}
use Rattle.solver.specs.Run.{Begun, Finished, FinishedLaid, GoesOn, Startable, after_at, end_words, words_laid}
use Rattle.solver.specs.TwoOrders.{SameAfter}
use Rattle.solver.proofs.Laws.Stands.Told.{last-many, told-answer}
use Rattle.solver.proofs.Laws.TwoOrders.{finish-back, same_answer, same-run}
use Rattle.session.specs.declared.Session.{Session}
use Rattle.session.specs.Sessions.{SessionHolds}

pub same-limits : {o u : Order} {t s : Tableau} → SameTableau o u t s → s.limits ≡ t.limits
same-limits Q = ap (λ (x : Tableau). x.limits) Q.same_rest

module _ (A : rules.Session (ℤ × ℤ)) (s : Session) (H : SessionHolds A s) where
  begun : Begun s.tableau
  begun = record {
    problem = live_of A;
    state = A.state;
    stands = H.stands;
    ready = fair-ready pairs A H.fair;
    ranged = H.ranged;
  }

  module _ {o : Order} {t : Tableau} (Q : SameTableau in_use o s.tableau t) where
    pub check-same-run : (k : ℕ) → GoesOn s.tableau k → SameAfter in_use o s.tableau t k
    check-same-run = same-run begun Q

    pub check-same-words : conflict pairs (live_of A) ≡ none →
        {e : End} {k : ℕ} {w : Tableau} → FinishedLaid o t e k w →
        words_laid o e k w (s.tableau.rows + s.tableau.columns) ≡ check_answer A
    unfolding check_answer begun
    check-same-words c {e} {k} {w} F =
        same_answer T Q F (s.tableau.rows + s.tableau.columns)
        ∙ ap (end_words e k (after_at s.tableau k)) (sym (last-many T finished)) ∙ told-answer T finished
      where
        T : Startable s.tableau
        T = record { begun = begun; uncrossed = c }

        finished : Finished s.tableau e k (after_at s.tableau k)
        finished = finish-back begun Q F
