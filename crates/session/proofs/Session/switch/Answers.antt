-- `session::Session::switch` meets its contract: 41, or the refusal of the limit, or the tableau after the switch.
-- Assumes nothing.
use mathlib.Core.Path.{ap, refl, sym, ◌∙◌}
use Rattle.amounts.specs.declared.Given.{Given}
use Rattle.refusals.proofs.Refused.{number-some}
use Rattle.session.specs.Switching.{limit_refusal}
use Rattle.session.proofs.Laws.Stands.Switch.{done, refused-limit, refused-unknown, settleable, switches-as}
use Rattle.session.proofs.Session.switch.Goals as goal

pub returns-then-variable-tableau : goal.returns-then-variable-tableau
returns-then-variable-tableau c = let a = c.args in
    let e = ap (λ k. record { refused = k; session = a.self }) c.number.ensures
    ∙ refused-unknown a.self a.variable a.upper a.on c.if-variable-tableau.true in
    record { exact = e; meaning = switches-as a.self a.variable a.upper a.on c.requires e }

-- the variable is one of the problem's

pub turned-tableau-requires : goal.turned-tableau-requires
turned-tableau-requires c = let a = c.args in
    settleable a.self a.variable a.upper a.on c.requires.session c.requires.holds c.if-variable-tableau.false

pub returns : goal.returns
returns c = let a = c.args in
    let e = done a.self a.variable a.upper a.on c.if-variable-tableau.false 0
    (c.in_default.ensures ∙ ap (λ (g : Given). limit_refusal g a.on) c.limit_at.ensures) refl
    c.turned-tableau.result c.turned-tableau.ensures in
    record { exact = e; meaning = switches-as a.self a.variable a.upper a.on c.requires e }

pub returns-in-Err : goal.returns-in-Err
returns-in-Err c = let a = c.args in let k = c.number-in-Err.ensures in
    let e = refused-limit a.self a.variable a.upper a.on c.if-variable-tableau.false c.number-in-Err.result
    (k ∙ c.in-Err.ensures ∙ ap (λ (g : Given). limit_refusal g a.on) c.limit_at.ensures)
    (λ z. number-some c.in-Err.refusal (sym k ∙ z)) in
    record { exact = e; meaning = switches-as a.self a.variable a.upper a.on c.requires e }
