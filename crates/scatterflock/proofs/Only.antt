-- Two results that the promise of an entry point allows are equal, but for which bad cycle `scatterflock_times` names.
-- The contracts themselves are compared: κs are lifetimes, x the arguments, e what lent words hold at the exit.
--   scatterflock-solve-only    the number, and every word of the output
--   scatterflock-solve-within-only    the same within fewer rows
--   scatterflock-check-only, scatterflock-check-wide-only, scatterflock-check-times-only    the number
--   scatterflock-slice-start-only       the number and the state
--   scatterflock-slice-continue-only    the number, whether there is an answer, the state, and every word of the output
--   scatterflock-replay-only            what a trace comes to, in numbers
--   scatterflock-trace-only             the number, how many words were written, and every word of the room
--   scatterflock-session-open-only, scatterflock-session-switch-only    the number and the session
--   scatterflock-session-check-only     the number, the session, and every word of the output
--   scatterflock-first-violation-only, scatterflock-session-violation-only    what is shown
--   scatterflock-bundle-read-only      what is told, and every word of both outputs
--   scatterflock-bundle-write-only     the number, and every byte of the file
--   scatterflock-day-only     the length of the text, and every byte of the slice
--   scatterflock-smtlib-write-only      the number, the count, and every byte of the slice
--   scatterflock-smtlib-read-only       the number, the count or the place, and every word of the slice
--   scatterflock-sheet-only    the length of the sheet, and every byte of the slice
--   scatterflock-times-only    the number, and every word of the output; or both name a bad cycle
use mathlib.Core.Logic.{◌⊎◌}
use mathlib.Core.Path.{◌≡◌, ap, sym, ◌∙◌}
use Rattle.rules.specs.Answer.{written}
use Rattle.rules.specs.Bundle.Writer.{file_left}
use Rattle.rules.specs.Times.Answer.{BothNamed}
use Rattle.rules.proofs.Times.Told.{told-only}
use Rattle.bundle.proofs.Only.{read_only}
use Rattle.scatterflock.proofs.scatterflock_solve.Reads as solve
use Rattle.scatterflock.proofs.scatterflock_solve_within.Reads as solve-within
use Rattle.scatterflock.proofs.scatterflock_check.Reads as check
use Rattle.scatterflock.proofs.scatterflock_bundle_read.Reads as bundle-read
use Rattle.scatterflock.proofs.scatterflock_bundle_write.Reads as bundle-write
use Rattle.scatterflock.proofs.scatterflock_day.Reads as day
use Rattle.scatterflock.proofs.scatterflock_first_violation.Reads as first-violation
use Rattle.scatterflock.proofs.scatterflock_replay.Reads as replay
use Rattle.scatterflock.proofs.scatterflock_sheet.Reads as sheet
use Rattle.scatterflock.proofs.scatterflock_check_times.Reads as check-times
use Rattle.scatterflock.proofs.scatterflock_check_wide.Reads as check-wide
use Rattle.scatterflock.proofs.scatterflock_session_check.Reads as session-check
use Rattle.scatterflock.proofs.scatterflock_session_open.Reads as session-open
use Rattle.scatterflock.proofs.scatterflock_session_switch.Reads as session-switch
use Rattle.scatterflock.proofs.scatterflock_session_violation.Reads as session-violation
use Rattle.scatterflock.proofs.scatterflock_slice_continue.Reads as slice-continue
use Rattle.scatterflock.proofs.scatterflock_slice_start.Reads as slice-start
use Rattle.scatterflock.proofs.scatterflock_smtlib_read.Reads as smtlib-read
use Rattle.scatterflock.proofs.scatterflock_smtlib_write.Reads as smtlib-write
use Rattle.scatterflock.proofs.scatterflock_times.Reads as times
use Rattle.scatterflock.proofs.scatterflock_trace.Reads as trace
use Rattle.traces.proofs.Laws.Only.{trace-only}

pub scatterflock-solve-only : (κs : _) (x : _) (a b : _) (e f : _) → solve.Post κs x a e → solve.Post κs x b f →
    (a ≡ b) × (e.1.0.now ≡ f.1.0.now)
scatterflock-solve-only κs x a b e f h k =
    let n : a ≡ b = h.0 ∙ sym k.0 in
    (n, h.1 ∙ ap (λ j. written j x.0.now x.1.0.now) n ∙ sym k.1)

pub scatterflock-solve-within-only : (κs : _) (x : _) (a b : _) (e f : _) →
    solve-within.Post κs x a e → solve-within.Post κs x b f → (a ≡ b) × (e.1.1.0.now ≡ f.1.1.0.now)
scatterflock-solve-within-only κs x a b e f h k =
    let n : a ≡ b = h.0 ∙ sym k.0 in
    (n, h.1 ∙ ap (λ j. written j x.1.0.now x.1.1.0.now) n ∙ sym k.1)

pub scatterflock-check-only : (κs : _) (x : _) (a b : _) (e : _) → check.Post κs x a e → check.Post κs x b e → a ≡ b
scatterflock-check-only κs x a b e h k = h ∙ sym k

pub scatterflock-check-wide-only : (κs : _) (x : _) (a b : _) (e : _) → check-wide.Post κs x a e →
    check-wide.Post κs x b e → a ≡ b
scatterflock-check-wide-only κs x a b e h k = h ∙ sym k

pub scatterflock-check-times-only : (κs : _) (x : _) (a b : _) (e : _) → check-times.Post κs x a e →
    check-times.Post κs x b e → a ≡ b
scatterflock-check-times-only κs x a b e h k = h ∙ sym k

pub scatterflock-slice-start-only : (κs : _) (x : _) (a b : _) (e f : _) →
    slice-start.Post κs x a e → slice-start.Post κs x b f → a ≡ b
scatterflock-slice-start-only κs x a b e f h k = h.0 ∙ sym k.0

pub scatterflock-slice-continue-only : (κs : _) (x : _) (a b : _) (e f : _) →
    slice-continue.Post κs x a e → slice-continue.Post κs x b f → (a ≡ b) × (e.1.1.0.now ≡ f.1.1.0.now)
scatterflock-slice-continue-only κs x a b e f h k = (h.0 ∙ sym k.0, h.1.0 ∙ sym k.1.0)

pub scatterflock-replay-only : (κs : _) (x : _) (a b : _) (e f : _) →
    replay.Post κs x a e → replay.Post κs x b f → a ≡ b
scatterflock-replay-only κs x a b e f h k = h ∙ sym k

pub scatterflock-trace-only : (κs : _) (x : _) (a b : _) (e f : _) → trace.Post κs x a e → trace.Post κs x b f →
    (a ≡ b) × (e.1.0.now ≡ f.1.0.now)
scatterflock-trace-only κs x a b e f h k = trace-only κs x a b e f h k

pub scatterflock-session-open-only : (κs : _) (x : _) (a b : _) (e f : _) →
    session-open.Post κs x a e → session-open.Post κs x b f → a ≡ b
scatterflock-session-open-only κs x a b e f h k = h.0 ∙ sym k.0

pub scatterflock-session-switch-only : (κs : _) (x : _) (a b : _) (e f : _) →
    session-switch.Post κs x a e → session-switch.Post κs x b f → a ≡ b
scatterflock-session-switch-only κs x a b e f h k = h.0 ∙ sym k.0

pub scatterflock-session-check-only : (κs : _) (x : _) (a b : _) (e f : _) →
    session-check.Post κs x a e → session-check.Post κs x b f → (a ≡ b) × (e.1.0.now ≡ f.1.0.now)
scatterflock-session-check-only κs x a b e f h k = (h.0 ∙ sym k.0, h.1.0 ∙ sym k.1.0)

pub scatterflock-first-violation-only : (κs : _) (x : _) (a b : _) (e f : _) →
    first-violation.Post κs x a e → first-violation.Post κs x b f → a ≡ b
scatterflock-first-violation-only κs x a b e f h k = h ∙ sym k

pub scatterflock-session-violation-only : (κs : _) (x : _) (a b : _) (e f : _) →
    session-violation.Post κs x a e → session-violation.Post κs x b f → a ≡ b
scatterflock-session-violation-only κs x a b e f h k = h.0 ∙ sym k.0

pub scatterflock-times-only : (κs : _) (x : _) (a b : _) (e f : _) → times.Post κs x a e → times.Post κs x b f →
    (a ≡ b) × ((e.1.0.now ≡ f.1.0.now) ⊎ BothNamed x.0.now a e.1.0.now f.1.0.now)
scatterflock-times-only κs x a b e f h k =
    told-only x.0.now x.1.0.now a b e.1.0.now f.1.0.now h k

pub scatterflock-bundle-read-only : (κs : _) (x : _) (a b : _) (e f : _) →
    bundle-read.Post κs x a e → bundle-read.Post κs x b f →
    (a ≡ b) × ((e.1.0.now ≡ f.1.0.now) × (e.1.1.0.now ≡ f.1.1.0.now))
scatterflock-bundle-read-only κs x a b e f h k = read_only κs x a b e f h k

pub scatterflock-bundle-write-only : (κs : _) (x : _) (a b : _) (e f : _) →
    bundle-write.Post κs x a e → bundle-write.Post κs x b f → (a ≡ b) × (e.1.1.1.0.now ≡ f.1.1.1.0.now)
scatterflock-bundle-write-only κs x a b e f h k = let n : a ≡ b = h.0 ∙ sym k.0 in
    (n, h.1 ∙ ap (λ j. file_left j x.0 x.1.0.now x.1.1.0.now x.1.1.1.0.now) n ∙ sym k.1)

pub scatterflock-day-only : (κs : _) (x : _) (a b : _) (e f : _) → day.Post κs x a e → day.Post κs x b f →
    (a ≡ b) × (e.1.0.now ≡ f.1.0.now)
scatterflock-day-only κs x a b e f h k = (h.0 ∙ sym k.0, h.1 ∙ sym k.1)

pub scatterflock-smtlib-write-only : (κs : _) (x : _) (a b : _) (e f : _) →
    smtlib-write.Post κs x a e → smtlib-write.Post κs x b f → (a ≡ b) × (e.1.0.now ≡ f.1.0.now)
scatterflock-smtlib-write-only κs x a b e f h k = (h.0 ∙ sym k.0, h.1 ∙ sym k.1)

pub scatterflock-smtlib-read-only : (κs : _) (x : _) (a b : _) (e f : _) →
    smtlib-read.Post κs x a e → smtlib-read.Post κs x b f → (a ≡ b) × (e.1.0.now ≡ f.1.0.now)
scatterflock-smtlib-read-only κs x a b e f h k = (h.0 ∙ sym k.0, h.1 ∙ sym k.1)

pub scatterflock-sheet-only : (κs : _) (x : _) (a b : _) (e f : _) → sheet.Post κs x a e → sheet.Post κs x b f →
    (a ≡ b) × (e.1.0.now ≡ f.1.0.now)
scatterflock-sheet-only κs x a b e f h k = (h.0 ∙ sym k.0, h.1 ∙ sym k.1)
