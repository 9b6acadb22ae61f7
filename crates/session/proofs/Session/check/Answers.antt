-- `session::Session::check` meets its contract: 7 where there is no room for an answer, else what the whole run from
-- the session's state comes to. Assumes nothing.
use mathlib.Core.Path.{ap, sym, ◌∙◌}
use borrow.Author.Tests.{ltb-false}
use Rattle.solver.specs.declared.spend.Spent.{Spent}
use Rattle.session.proofs.Laws.Stands.Check.{checks-as, check-long, check-short, slice_of}
use Rattle.session.proofs.Session.check.Goals as goal

pub returns-then-is_short : goal.returns-then-is_short
returns-then-is_short c = let a = c.args in
    let e = check-short a.self a.out.now (sym c.is_short.ensures ∙ c.if-is_short.true) in
    let r = ap (λ k. record { refused = k; session = a.self }) c.number.ensures ∙ e.0 in
    record { exact = r; output = e.1; meaning = checks-as a.self a.out.now c.requires r e.1 }

-- there is room
pub spend-spent-requires : goal.spend-spent-requires
spend-spent-requires c = let s = c.requires in
    record {
      standing = record { slice = _; holds = slice_of s.session c.args.self s.holds };
      columns_in_bounds = ltb-false _ _ (sym c.is_short.ensures ∙ c.if-is_short.false);
    }

pub returns : goal.returns
returns c = let a = c.args in
    let e = check-long a.self a.out.now (sym c.is_short.ensures ∙ c.if-is_short.false) in
    let r = ap (λ (p : Spent). record { refused = 0; session = record { tableau = p.tableau } })
    c.spend-spent.ensures.state ∙ e.0 in
    let l = c.spend-spent.ensures.output ∙ e.1 in
    record { exact = r; output = l; meaning = checks-as a.self a.out.now c.requires r l }
