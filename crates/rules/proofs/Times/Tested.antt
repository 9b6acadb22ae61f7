-- The test for a bad cycle passes exactly on bad cycles (bad-cycle-exactly): so what the worked cases compute is the
-- whole statement.
use mathlib.Core.Path.{◌≡◌, ap}
use mathlib.Core.Bool.{Bool, true, not, ◌&&◌}
use mathlib.Core.List.{List}
use mathlib.Core.Logic.{◌↔◌}
use Prim.Native.Nat.{ℕ, suc, ◌-◌}
use native.Mathlib.Omega.{arith}
use lib.Dec.{eqb, ltb}
use lib.ListN.{length}
use Rattle.whole.specs.Below.{all_below}
use Rattle.whole.specs.Values.{Values}
use Rattle.whole.proofs.Lists.Below.{all-each, all_of}
use Rattle.whole.proofs.Bools.{and-of, and-true, not-true}
use Rattle.whole.proofs.Tells.{tells-eq, tells-false, tells-lt, tells-true}
use Rattle.rules.specs.Times.Walks.{Edges}
use Rattle.rules.specs.Times.Cycle.{row_told, around, BadCycle, is_bad_cycle}

module _ {X : Type 0} (𝓥 : Values X) (E : Edges X) (rows : List ℕ) where
  -- the parts of the test
  abbrev listed : ℕ → Bool
  listed k = ltb (row_told rows k) E.count

  abbrev linked : ℕ → Bool
  linked k = eqb (E.head (row_told rows k)) (E.tail (row_told rows (suc k)))

  abbrev closed : Bool
  closed = eqb (E.head (row_told rows (length rows - 1))) (E.tail (row_told rows 0))

  abbrev met : ℕ → ℕ → Bool
  met k j = eqb (E.tail (row_told rows j)) (E.tail (row_told rows k))

  abbrev apart : ℕ → Bool
  apart k = all_below k (λ j. not (met k j))

  abbrev below : Bool
  below = 𝓥.less (around 𝓥 E rows) 𝓥.nil

  abbrev all_listed : Bool
  all_listed = all_below (length rows) listed

  abbrev all-linked : Bool
  all-linked = all_below (length rows - 1) linked

  abbrev all_apart : Bool
  all_apart = all_below (length rows) apart

  made : is_bad_cycle 𝓥 E rows ≡ true → BadCycle 𝓥 E rows
  unfolding is_bad_cycle
  made e =
      let p : ((all_listed && all-linked && closed && all_apart) ≡ true) × (below ≡ true) =
      and-true (all_listed && all-linked && closed && all_apart) below e in
      let q : ((all_listed && all-linked && closed) ≡ true) × (all_apart ≡ true) =
      and-true (all_listed && all-linked && closed) all_apart p.0 in
      let r : ((all_listed && all-linked) ≡ true) × (closed ≡ true) =
      and-true (all_listed && all-linked) closed q.0 in
      let s : (all_listed ≡ true) × (all-linked ≡ true) = and-true all_listed all-linked r.0 in
      record {
        cycle = record {
          listed = λ k h. (tells-lt (row_told rows k) E.count).if-true (all-each (length rows) listed s.0 k h);
          linked = λ k h. (tells-eq (E.head (row_told rows k)) (E.tail (row_told rows (suc k)))).if-true
              (all-each (length rows - 1) linked s.1 k (omega arith));
          closed = (tells-eq (E.head (row_told rows (length rows - 1))) (E.tail (row_told rows 0))).if-true r.1;
          apart = λ j k l h. (tells-eq (E.tail (row_told rows j)) (E.tail (row_told rows k))).if-false
              (not-true (met k j) (all-each k (λ j. not (met k j)) (all-each (length rows) apart q.1 k h) j l));
        };
        below = p.1;
      }

  passed : BadCycle 𝓥 E rows → is_bad_cycle 𝓥 E rows ≡ true
  unfolding is_bad_cycle
  passed c = and-of (and-of (and-of (and-of
      (all_of (length rows) listed (λ k h. tells-true (tells-lt (row_told rows k) E.count) (c.cycle.listed k h)))
      (all_of (length rows - 1) linked (λ k h.
      tells-true (tells-eq (E.head (row_told rows k)) (E.tail (row_told rows (suc k))))
      (c.cycle.linked k (omega arith)))))
      (tells-true (tells-eq (E.head (row_told rows (length rows - 1))) (E.tail (row_told rows 0))) c.cycle.closed))
      (all_of (length rows) apart (λ k h. all_of k (λ j. not (met k j)) (λ j l.
      ap not (tells-false (tells-eq (E.tail (row_told rows j)) (E.tail (row_told rows k)))
      (c.cycle.apart j k l h))))))
      c.below

  pub bad-cycle-exactly : (is_bad_cycle 𝓥 E rows ≡ true) ↔ BadCycle 𝓥 E rows
  bad-cycle-exactly = (made, passed)
