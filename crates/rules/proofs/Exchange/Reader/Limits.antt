-- The tokens of limits are read, one after the other.
--   assert-leads, check-leads, limit-leads   one limit, and the end
--   takes, limits-lead                       all limits, into the pieces
use mathlib.Core.Bool.{Bool, true, false, ◌&&◌}
use mathlib.Core.List.{List, [], ◌∷◌}
use mathlib.Core.Option.{Option, none, some}
use mathlib.Core.Path.{◌≡◌, refl, ◌∙◌, ap}
use Prim.Native.Nat.{ℕ, zero, suc, ◌+◌, ◌-◌, ◌*◌, ◌/◌, ◌%◌, ◌≤◌, ◌<◌}
use native.Mathlib.Omega.{arith}
use borrow.Author.Tests.{lt-ltb}
use lib.Dec.{leb, le→leb}
use lib.ListN.{length, length-append, length-replicate}
use Rattle.whole.proofs.Bools.{T→true, and-of}
use Rattle.whole.proofs.Lists.Below.{lowest-passes}
use Rattle.rules.specs.Limit.{Limit}
use Rattle.rules.specs.Program.Text.{ascii}
use Rattle.rules.specs.Exchange.Tokens.{token_bytes}
use Rattle.rules.specs.Exchange.Script
use Rattle.rules.specs.Exchange.Script.{assert_limit, check_sat, end_assert, name_of}
use Rattle.rules.specs.Exchange.Reader
use Rattle.rules.specs.Exchange.Reader.{Pieces, bounded, bounding, ended, fits, is, limit, limit_command, limiting}
use Rattle.rules.specs.Exchange.Reader.{name_read, decided, on, relation_read, relating, same_bytes, relation_taken}
use Rattle.rules.specs.Exchange.Reader.{token_step, taken, with_limit}
use Rattle.rules.proofs.Exchange.Reader.Turns.{LeadsTo, all-todo-leads, chosen-leads, leads-then, same_not}
use Rattle.rules.proofs.Exchange.Reader.Turns.{same_refl, stop, turn}
use Rattle.rules.proofs.Exchange.Reader.Rows.{Each, FineSlot, leads-to, number-leads}
use Rattle.rules.proofs.Exchange.Tokens.Said.{listed, relation_at, said_limit, said_side}
use Rattle.rules.proofs.Exchange.Reader.Openings.{assert_word, check_word, name-only, open_word, openings}

-- ---- limits

module _ (P : Pieces) where
  assert-leads : length P.limits < 2 * (P.n + P.m) →
      LeadsTo (on [] (limiting P)) (token_bytes assert_limit) (on [] (relating P))
  unfolding decided limit_command is
  assert-leads h = rw openings.limit_is
      (chosen-leads assert_word (open_word ∷ []) (limiting P) (relating P)
      (rw (openings.limit_is, same_refl assert_word, lt-ltb (length P.limits) (2 * (P.n + P.m)) h) refl))

  pub check-leads : LeadsTo (on [] (limiting P)) (token_bytes check_sat) (on [] (ended P))
  unfolding decided limit_command is
  check-leads = rw openings.check-is
      (chosen-leads check_word (ascii ")" ∷ []) (limiting P) (ended P)
      (rw (openings.limit_is, openings.check-apart, openings.check-is) refl))

  pub relation-read : (side : ℕ) (strict : Bool) → side < 2 → relation_read P (relation_at side strict)
      ≡ relation_taken P side strict
  unfolding relation_read relation_at Script.lower_relation Script.upper_relation Script.no_less Script.more
      Script.no_more
      Script.less Reader.same_bytes ascii
  relation-read zero false h = refl
  relation-read zero true h = refl
  relation-read (suc zero) false h = refl
  relation-read (suc zero) true h = refl
  relation-read (suc (suc s)) strict h = let o : ⊥ = omega arith in absurd o

  pub relation-taken : (side : ℕ) (strict : Bool) → length P.limits < 2 * (P.n + P.m) + side - 1 →
      relation_taken P side strict ≡ some (on [] (bounding P side strict))
  unfolding relation_taken
  relation-taken side strict h = rw (lt-ltb (length P.limits) (2 * (P.n + P.m) + side - 1) h) refl

  pub name-read : (v side : ℕ) → v < P.n + P.m → length P.limits ≤ 2 * v + side →
      name_read P side (name_of P.n v) ≡ some v
  unfolding name_read
  name-read v side h l =
      (lowest-passes (P.n + P.m)
      (λ u. leb (length P.limits) (2 * u + side) && same_bytes (name_of P.n u) (name_of P.n v)) v).1 (
        h,
        and-of (T→true (leb (length P.limits) (2 * v + side)) (le→leb (length P.limits) (2 * v + side) l))
            (same_refl (name_of P.n v)),
        λ u k. both (leb (length P.limits) (2 * u + side))
            (same_not (name_of P.n u) (name_of P.n v) (λ e. omega (arith, name-only P.n u v e))),
      )
    where
      both : (a : Bool) {b : Bool} → b ≡ false → (a && b) ≡ false
      both true e = e
      both false e = refl

  side-leads : (v side : ℕ) (l : Limit) → v < P.n + P.m → side < 2 → length P.limits ≤ 2 * v + side →
      FineSlot (some l) →
      LeadsTo (on [] (limiting P)) (said_side P.n v side (some l)) (on [] (limiting (with_limit P (2 * v + side) l)))
  unfolding said_side decided bounded fits taken token_step
  side-leads v side l h s k f =
      leads-then (assert-leads (omega arith))
      (turn (relation-read side l.strict s ∙ relation-taken side l.strict (omega arith))
      (turn (ap (bounded P side l.strict) (name-read v side h k))
      (leads-then (number-leads (limit P (2 * v + side) l.strict) l.plain f)
      (all-todo-leads (token_bytes end_assert) (limiting (with_limit P (2 * v + side) l))))))

  limit-leads : (k : ℕ) (l : Limit) → k < 2 * (P.n + P.m) → length P.limits ≤ k → FineSlot (some l) →
      LeadsTo (on [] (limiting P)) (said_limit P.n k (some l)) (on [] (limiting (with_limit P k l)))
  unfolding said_limit
  limit-leads k l h e f =
      leads-to (ap (λ q. on [] (limiting (with_limit P q l))) (let z : 2 * (k / 2) + k % 2 ≡ k = omega arith in z))
      (side-leads (k / 2) (k % 2) l (omega arith) (omega arith) (omega arith) f)

pub with-length : (P : Pieces) (k : ℕ) (l : Limit) → length P.limits ≤ k → length (with_limit P k l).limits ≡ suc k
unfolding with_limit
with-length P k l h = simp (length-append, length-replicate) (omega arith)

-- the limits from number k on, into the parts
unfoldable pub takes : Pieces → ℕ → List (Option Limit) → Pieces
takes P k [] = P
takes P k (none ∷ l) = takes P (suc k) l
takes P k (some x ∷ l) = takes (with_limit P k x) (suc k) l

pub limits-lead : (P : Pieces) (k : ℕ) (l : List (Option Limit)) → length P.limits ≤ k →
    k + length l ≤ 2 * (P.n + P.m) → Each FineSlot l →
    LeadsTo (on [] (limiting P)) (listed (said_limit P.n) k l) (on [] (limiting (takes P k l)))
unfolding listed takes said_limit said_side with_limit
limits-lead P k [] e h f = stop
limits-lead P k (none ∷ l) e h f = limits-lead P (suc k) l (omega arith) (omega arith) f.1
limits-lead P k (some x ∷ l) e h f =
    leads-then (limit-leads P k x (omega arith) e f.0)
    (limits-lead (with_limit P k x) (suc k) l
    (omega (arith, with-length P k x e)) (omega arith) f.1)
