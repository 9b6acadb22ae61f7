-- `exchange::script::put_script` meets its contract: declarations, rows and limits between the logic and the end.
-- Assumes nothing.
use Rattle.std.proofs.Common.{◌≡◌, List, ℕ, ℤ, arith, length-append}
use Rattle.whole.proofs.Numbers.Order.{≤ℤ-trans}
use Rattle.whole.proofs.Numbers.Tests.{above}
use Rattle.rules.specs.Problem.{m_of, n_of}
use Rattle.rules.specs.Program.Text.{ascii}
use Rattle.rules.specs.Refusal.{Accepted, problem_refusal}
use Rattle.rules.specs.Sizes.{most_rows}
use Rattle.rules.specs.Exchange.Script.{check_sat, set_logic}
use Rattle.rules.proofs.Refusal.Exactly.{accepted-exactly}
use Rattle.judge.specs.Words.{Framed}
use Rattle.judge.proofs.Laws.Judged.{accepted-framed}
use Rattle.put.proofs.Texts.{put_then}
use Rattle.exchange.proofs.Laws.Pieces.{script-at}
use Rattle.exchange.proofs.script.put_script.Goals as goal

fine : (ws : List ℤ) → problem_refusal ws ≡ 0 → Accepted most_rows ws
unfolding problem_refusal
fine ws e = (accepted-exactly most_rows ws).0 e

framed : {ws : List ℤ} {n m : ℕ} → problem_refusal ws ≡ 0 → n ≡ n_of ws → m ≡ m_of ws → Framed ws n m
framed {ws} e = accepted-framed (fine ws e)

pub count_at-columns-requires : goal.count_at-columns-requires
count_at-columns-requires c =
    let A = fine c.args.words.now c.requires.accepted in
    (let z = A.enough in omega arith, ≤ℤ-trans (record { le = tt }) A.n-least)

pub count_at-rows-requires : goal.count_at-rows-requires
count_at-rows-requires c =
    let A = fine c.args.words.now c.requires.accepted in (let z = A.enough in omega arith, A.m-least)

pub text-requires : goal.text-requires
unfolding set_logic check_sat ascii
text-requires c =
    let F = framed c.requires.accepted c.count_at-columns.ensures c.count_at-rows.ensures in
    let room = rw (script-at F) at c.requires.room in
    grind (arith, length-append, room)

pub overflow_add-columns : goal.overflow_add-columns
overflow_add-columns c =
    let F = framed c.requires.accepted c.count_at-columns.ensures c.count_at-rows.ensures in
    omega (arith, F.few-columns, F.few-rows)

pub put_declarations-requires : goal.put_declarations-requires
unfolding set_logic check_sat ascii
put_declarations-requires c =
    let F = framed c.requires.accepted c.count_at-columns.ensures c.count_at-rows.ensures in
    let room = rw (script-at F) at c.requires.room in
    grind (arith, length-append, room)

pub put_rows-requires-clause-framed : goal.put_rows-requires-clause-framed
put_rows-requires-clause-framed c =
    framed c.requires.accepted c.count_at-columns.ensures c.count_at-rows.ensures

pub put_rows-requires-clause-some_columns : goal.put_rows-requires-clause-some_columns
put_rows-requires-clause-some_columns c =
    let A = fine c.args.words.now c.requires.accepted in rw c.count_at-columns.ensures (above 1 _ A.n-least)

pub put_rows-requires-clause-room : goal.put_rows-requires-clause-room
unfolding set_logic check_sat ascii
put_rows-requires-clause-room c =
    let F = framed c.requires.accepted c.count_at-columns.ensures c.count_at-rows.ensures in
    let room = rw (script-at F) at c.requires.room in
    grind (arith, length-append, room)

pub put_all_limits-requires-clause-framed : goal.put_all_limits-requires-clause-framed
put_all_limits-requires-clause-framed c =
    framed c.requires.accepted c.count_at-columns.ensures c.count_at-rows.ensures

pub put_all_limits-requires-clause-room : goal.put_all_limits-requires-clause-room
unfolding set_logic check_sat ascii
put_all_limits-requires-clause-room c =
    let F = framed c.requires.accepted c.count_at-columns.ensures c.count_at-rows.ensures in
    let room = rw (script-at F) at c.requires.room in
    grind (arith, length-append, room)

pub text-requires-2 : goal.text-requires-2
unfolding set_logic check_sat ascii
text-requires-2 c =
    let F = framed c.requires.accepted c.count_at-columns.ensures c.count_at-rows.ensures in
    let room = rw (script-at F) at c.requires.room in
    grind (arith, length-append, room)

pub returns : goal.returns
unfolding set_logic check_sat ascii
returns c =
    let F = framed c.requires.accepted c.count_at-columns.ensures c.count_at-rows.ensures in
    let declared = put_then c.text.ensures c.put_declarations.ensures in
    let limited = put_then (put_then declared c.put_rows.ensures) c.put_all_limits.ensures in
    rw (script-at F) (put_then limited c.text-2.ensures)
