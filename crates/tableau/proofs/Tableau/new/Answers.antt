-- `tableau::Tableau::new` meets its contract: each part is the definition's. Assumes nothing.
use mathlib.Core.Path.{◌≡◌, sym, ◌∙◌, ap, ap₂}
use mathlib.Core.List.{List}
use Prim.Native.Nat.{ℕ, ◌+◌}
use native.Mathlib.Omega.{arith}
use lib.IntN.{ℤ, pos}
use lib.Signed.{le_z_yes}
use Rattle.whole.proofs.Numbers.Order.{≤ℤ-trans}
use Rattle.rules.specs.Sizes.{most_rows}
use Rattle.rules.specs.Limit.{Limit}
use Rattle.rules.specs.Problem.{Problem, problem, vars}
use Rattle.rules.specs.Refusal.{Accepted, problem_refusal}
use Rattle.rules.proofs.Refusal.Accepted.{problem-m, problem-n}
use Rattle.rules.proofs.Refusal.Exactly.{accepted-exactly}
use Rattle.judge.proofs.Laws.Judged.{accepted-framed}
use Rattle.tableau.specs.declared.Limits.{Limits}
use Rattle.tableau.specs.declared.Seat.{Seat}
use Rattle.tableau.specs.declared.Tableau.{Tableau}
use Rattle.tableau.specs.declared.Variable.{Variable}
use Rattle.tableau.specs.declared.read.Starts.{Starts}
use Rattle.tableau.specs.Start.{limits_for, start_basic, start_entries, start_nonbasic, start_seats}
use Rattle.tableau.specs.Start.{start_laid, start_smalls, start_tableau, start_values, starts_for}
use Rattle.tableau.proofs.Laws.Read.{starts-same}
use Rattle.tableau.proofs.Tableau.new.Goals as goal

accepted : {ws : List ℤ} → problem_refusal ws ≡ 0 → Accepted most_rows ws
unfolding problem_refusal
accepted {ws} e = (accepted-exactly most_rows ws).0 e

pub count_at-columns-requires : goal.count_at-columns-requires
count_at-columns-requires c = let A = accepted c.requires in
    (omega (arith, A.enough), ≤ℤ-trans {b = pos 1} (le_z_yes tt) A.n-least)

pub count_at-rows-requires : goal.count_at-rows-requires
count_at-rows-requires c = let A = accepted c.requires in (omega (arith, A.enough), A.m-least)

pub limits_of-limits-requires : goal.limits_of-limits-requires
limits_of-limits-requires c = let A = accepted c.requires in
    record { framed = accepted-framed A c.count_at-columns.ensures c.count_at-rows.ensures; accepted = A }

pub start_values-requires : goal.start_values-requires
start_values-requires c =
    (accepted-framed (accepted c.requires) c.count_at-columns.ensures c.count_at-rows.ensures).few-columns

pub start_entries-requires : goal.start_entries-requires
start_entries-requires c = accepted-framed (accepted c.requires) c.count_at-columns.ensures c.count_at-rows.ensures

pub start_basic-requires : goal.start_basic-requires
start_basic-requires c =
    (accepted-framed (accepted c.requires) c.count_at-columns.ensures c.count_at-rows.ensures).few-columns

pub overflow_add-columns : goal.overflow_add-columns
overflow_add-columns c =
    let F = accepted-framed (accepted c.requires) c.count_at-columns.ensures c.count_at-rows.ensures in
    omega (arith, F.few-columns, F.few-rows)

pub start_seats-requires : goal.start_seats-requires
start_seats-requires c =
    let F = accepted-framed (accepted c.requires) c.count_at-columns.ensures c.count_at-rows.ensures in
    omega (arith, F.few-columns, F.few-rows)

-- a tableau is the start's if its parts are
joined : (P : Problem Limit) {rows columns : ℕ} {entries : List ℤ} {basic nonbasic : List Variable} {starts : Starts}
    {seats : List Seat} {limits : Limits} →
    rows ≡ P.m → columns ≡ P.n → entries ≡ start_entries P → basic ≡ start_basic P.n → nonbasic ≡ start_nonbasic →
    starts ≡ record { values = start_values P; smalls = start_smalls P } →
    seats ≡ start_seats P.n (vars P) → limits ≡ limits_for P →
    ◌≡◌ {A = Tableau}
    (record {
      rows = rows;
      columns = columns;
      common = pos 1;
      entries = entries;
      basic = basic;
      nonbasic = nonbasic;
      values = starts.values;
      smalls = starts.smalls;
      seats = seats;
      limits = limits;
    })
    (start_tableau P)
unfolding start_laid
joined P rows_are columns-are entries-are basic-are nonbasic-are starts-are seats-are limits-are = cc

pub returns : goal.returns
returns c = let ws = c.args.words.now in let P = problem ws in
    let columns-are : c.count_at-columns.result ≡ P.n = c.count_at-columns.ensures ∙ sym (problem-n ws) in
    let rows_are : c.count_at-rows.result ≡ P.m = c.count_at-rows.ensures ∙ sym (problem-m ws) in
    joined P rows_are columns-are c.start_entries.ensures
    (c.start_basic.ensures ∙ ap start_basic columns-are)
    c.start_nonbasic.ensures
    (c.start_values.ensures ∙ ap₂ starts_for c.limits_of-limits.ensures columns-are ∙ starts-same P)
    (c.start_seats.ensures ∙ ap₂ (λ n m. start_seats n (n + m)) columns-are rows_are)
    c.limits_of-limits.ensures
