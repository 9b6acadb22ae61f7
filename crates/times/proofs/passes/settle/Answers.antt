-- `times::passes::settle` meets its contract. The invariant of its loop: k passes are done, and the way back is due
-- after a later one, among the first 64; that of the loop inside: a pass more has come as far as row i. The measure is
-- the passes left of 64. A way back that closed nothing has a place left, and no more places than are left of n passes:
-- so it is due again, and not past them. Assumes nothing.
use Rattle.std.proofs.Common.{◌≡◌, ◌<◌, List, ℕ, ℤ, arith, rules}
use Rattle.rules.specs.Problem.{m_of}
use Rattle.lengths.specs.declared.Length.{Length}
use Rattle.times.specs.Steps.{is_less, Pass}
use Rattle.times.proofs.Laws.Due.{due-start, due-first, due-next, due-again, pass_on}
use Rattle.times.proofs.Laws.Looks.{head-low, test-is, pass-more}
use Rattle.times.proofs.Laws.Passing.{looked-start, looked-modest, pass-start, pass-closing}
use Rattle.times.proofs.Laws.Passing.{pass-settled, settled-quiet}
use Rattle.times.proofs.passes.settle.Goals as goal

pub loop-i-init : goal.loop-i-init
loop-i-init c = (due-start, looked-start _ c.args.rows.now.fine)

pub loop-i-2-init : goal.loop-i-2-init
loop-i-2-init c = (c.loop-i.invariant.0, pass-start c.loop-i.invariant.1)

-- ---- a look

pub offer-offered-requires : goal.offer-offered-requires
offer-offered-requires c =
    let listed : c.loop-i-2.i < m_of c.args.rows.now.words.now = omega (arith, c.m-i-end.ensures) in
    (listed, looked-modest c.loop-i-2.invariant.1.looked (omega arith) _)

pub offset_bounds-best-y-in-loop-i-2 : goal.offset_bounds-best-y-in-loop-i-2
offset_bounds-best-y-in-loop-i-2 c =
    let low = head-low c.args.rows.now.fine (omega (arith, c.m-i-end.ensures)) c.head-y.ensures in omega arith

pub bounds-best-y-in-loop-i-2 : goal.bounds-best-y-in-loop-i-2
bounds-best-y-in-loop-i-2 c = head-low c.args.rows.now.fine (omega (arith, c.m-i-end.ensures)) c.head-y.ensures

pub offset_bounds-last-y : goal.offset_bounds-last-y
offset_bounds-last-y c =
    let low = head-low c.args.rows.now.fine (omega (arith, c.m-i-end.ensures)) c.head-y.ensures in omega arith

pub bounds-last-y : goal.bounds-last-y
bounds-last-y c = head-low c.args.rows.now.fine (omega (arith, c.m-i-end.ensures)) c.head-y.ensures

pub offset_bounds-last-y-in-loop-i-2 : goal.offset_bounds-last-y-in-loop-i-2
offset_bounds-last-y-in-loop-i-2 c =
    let low = head-low c.args.rows.now.fine (omega (arith, c.m-i-end.ensures)) c.head-y.ensures in omega arith

pub bounds-last-y-in-loop-i-2 : goal.bounds-last-y-in-loop-i-2
bounds-last-y-in-loop-i-2 c = head-low c.args.rows.now.fine (omega (arith, c.m-i-end.ensures)) c.head-y.ensures

pub loop-i-2-preserved : goal.loop-i-2-preserved
loop-i-2-preserved c =
    let listed : c.loop-i-2.i < m_of c.args.rows.now.words.now = omega (arith, c.m-i-end.ensures) in
    let same : is_less c.args.rows.now.words.now c.loop-i-2.best c.loop-i-2.i ≡ c.lt-is.result =
    test-is c.args.rows.now.words.now c.loop-i-2.best c.loop-i-2.i c.tail-x.ensures c.offer-offered.ensures
    c.head-y.ensures (search rules) in (
      c.loop-i-2.invariant.0,
      rw (c.select.ensures, c.select-in-loop-i-2.ensures, c.select-row.ensures)
          (pass-more c.loop-i-2.invariant.1 listed c.tail-x.ensures c.offer-offered.ensures c.head-y.ensures _ same),
    )

-- ---- a pass is done

all-rows : {ws : List ℤ} {k i : ℕ} {best : List Length} {last : List ℕ} {row : ℕ} → Pass ws k i best last row →
    i ≡ m_of ws → Pass ws k (m_of ws) best last row
all-rows p e = rw e at p

pub returns-then-row-eq-NO_ROW : goal.returns-then-row-eq-NO_ROW
returns-then-row-eq-NO_ROW c =
    let done = all-rows c.loop-i-2.invariant.1 (omega (arith, c.m-i-end.ensures)) in
    pass-settled done c.if-row-eq-NO_ROW.true

pub is_quiet-requires : goal.is_quiet-requires
is_quiet-requires c =
    let done = all-rows c.loop-i-2.invariant.1 (omega (arith, c.m-i-end.ensures)) in
    looked-modest done.looked (omega arith)

pub returns-then-is_quiet : goal.returns-then-is_quiet
returns-then-is_quiet c =
    let done = all-rows c.loop-i-2.invariant.1 (omega (arith, c.m-i-end.ensures)) in
    settled-quiet done c.if-is_quiet.true c.is_quiet.ensures

pub loop-i-preserved-then-k-eq1 : goal.loop-i-preserved-then-k-eq1
loop-i-preserved-then-k-eq1 c =
    let done = all-rows c.loop-i-2.invariant.1 (omega (arith, c.m-i-end.ensures)) in
    pass_on done (due-first c.loop-i-2.invariant.0 c.if-k-eq1.true)

pub loop-i-preserved-then-k-due : goal.loop-i-preserved-then-k-due
loop-i-preserved-then-k-due c =
    let done = all-rows c.loop-i-2.invariant.1 (omega (arith, c.m-i-end.ensures)) in
    pass_on done (due-next c.loop-i-2.invariant.0 c.if-k-due.true)

-- ---- the way back is due

pub way_back-requires : goal.way_back-requires
way_back-requires c =
    let done = all-rows c.loop-i-2.invariant.1 (omega (arith, c.m-i-end.ensures)) in
    (_, pass-closing done c.if-row-eq-NO_ROW.false c.head.ensures)

pub returns-in-Ok : goal.returns-in-Ok
returns-in-Ok c =
    let done = all-rows c.loop-i-2.invariant.1 (omega (arith, c.m-i-end.ensures)) in
    c.in-Ok.ensures _ (pass-closing done c.if-row-eq-NO_ROW.false c.head.ensures)

pub loop-i-preserved : goal.loop-i-preserved
loop-i-preserved c =
    let done = all-rows c.loop-i-2.invariant.1 (omega (arith, c.m-i-end.ensures)) in
    let spare = c.in-Err.ensures _ (pass-closing done c.if-row-eq-NO_ROW.false c.head.ensures) in
    pass_on done (rw c.min.ensures (due-again c.args.rows.now.fine spare))
