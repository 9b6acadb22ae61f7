-- A list of tests with their numbers: the number that `first` gives is the one beside the first test whose meaning
-- holds, or 0.
--   Tested           each test has the number of a line of a table (specs/Facts/Refusal), and tells what it says
--   tested-then      two lists of tests, one after the other
--   first-exactly    `first` gives k exactly where `First` of the table says k
--   first_fine       `first` gives 0 exactly where every line is fine
--   first-hit, first-skip    one test at a time
--   first-kept, first-front, first-passed, Upto    a list in two parts: the first part has a number, or none
--   first-most       `first` gives no number beyond those of its list
use mathlib.Core.Bool.{Bool, false, true}
use mathlib.Core.List.{List, [], ◌++◌, ◌∷◌}
use mathlib.Core.Logic.{inl, inr, ◌↔◌, ◌≢◌}
use mathlib.Core.Path.{refl, sym, ◌∙◌, ◌≡◌}
use Prim.Native.Nat.{ℕ, suc, zero, ◌<◌, ◌≤◌}
use native.Mathlib.Omega.{arith}
use Rattle.whole.proofs.Tells.{tells-false, tells-true}
use Rattle.rules.specs.Facts.Refusal.{AllFine, First, Line, Tests}
use Rattle.rules.specs.Refusal.{first}

pub first-hit : {b : Bool} (k : ℕ) (ts : List (Bool × ℕ)) → b ≡ true → first ((b, k) ∷ ts) ≡ k
unfolding first
first-hit k ts e = rw (e, first)

pub first-skip : {b : Bool} (k : ℕ) (ts : List (Bool × ℕ)) → b ≡ false → first ((b, k) ∷ ts) ≡ first ts
unfolding first
first-skip k ts e = rw (e, first)

-- ---- a list in two parts

pub first-kept : (ts us : List (Bool × ℕ)) (k : ℕ) → first ts ≡ suc k → first (ts ++ us) ≡ suc k
unfolding first
first-kept [] us k e = let z : ⊥ = omega arith in absurd z
first-kept ((true, j) ∷ ts) us k e = e
first-kept ((false, j) ∷ ts) us k e = first-kept ts us k e

-- none of all, so none of the first ones
pub first-front : (ts us : List (Bool × ℕ)) → first (ts ++ us) ≡ 0 → first ts ≡ 0
first-front ts us e = go (first ts) refl
  where
    go : (k : ℕ) → first ts ≡ k → first ts ≡ 0
    go zero q = q
    go (suc k) q = let z : suc k ≡ 0 = sym (first-kept ts us k q) ∙ e in let y : ⊥ = omega (arith, z) in absurd y

-- every number is from 1 to n
abbrev pub Upto : ℕ → List (Bool × ℕ) → Type 0
Upto n [] = Unit {0}
Upto n (t ∷ ts) = (0 < t.1) × (t.1 ≤ n) × Upto n ts

pub first-passed : (n : ℕ) (ts us : List (Bool × ℕ)) → Upto n ts → first ts ≡ 0 → first (ts ++ us) ≡ first us
unfolding first
first-passed n [] us h e = refl
first-passed n ((true, j) ∷ ts) us (l, m, h) e = let z : ⊥ = omega arith in absurd z
first-passed n ((false, j) ∷ ts) us (l, m, h) e = first-passed n ts us h e

pub first-most : (n : ℕ) (ts : List (Bool × ℕ)) → Upto n ts → first ts ≤ n
unfolding first
first-most n [] h = omega arith
first-most n ((true, j) ∷ ts) (l, m, h) = m
first-most n ((false, j) ∷ ts) (l, m, h) = first-most n ts h

-- ---- a list of tests, and a table

-- each test has the number of its line, and tells what the line says
pub data Tested : List (Bool × ℕ) → List Line → Type 1 where
  no_test : Tested [] []
  tested : {b : Bool} {l : Line} {ts : List (Bool × ℕ)} {ls : List Line} → Tests b l → Tested ts ls →
      Tested ((b, l.number) ∷ ts) (l ∷ ls)

pub tested-then : {ts us : List (Bool × ℕ)} {ls ms : List Line} → Tested ts ls → Tested us ms →
    Tested (ts ++ us) (ls ++ ms)
tested-then no_test U = U
tested-then (tested h T) U = tested h (tested-then T U)

pub first-exactly : {ts : List (Bool × ℕ)} {ls : List Line} → Tested ts ls → (k : ℕ) → (first ts ≡ k) ↔ First ls k
unfolding first
first-exactly no_test k = (λ e. sym e, λ e. sym e)
first-exactly (tested {b} {l} {ts} {ls} h T) k = both (first-exactly T k)
  where
    both : (first ts ≡ k) ↔ First ls k → (first ((b, l.number) ∷ ts) ≡ k) ↔ First (l ∷ ls) k
    both r = (λ e. go b refl e, back)
      where
        go : (c : Bool) → b ≡ c → first ((b, l.number) ∷ ts) ≡ k → First (l ∷ ls) k
        go true q e = inl (h.if-true q, sym e ∙ first-hit l.number ts q)
        go false q e = inr (λ y. h.not-both y (h.if-false q), r.0 (sym (first-skip l.number ts q) ∙ e))

        back : First (l ∷ ls) k → first ((b, l.number) ∷ ts) ≡ k
        back (inl y) = first-hit l.number ts (tells-true h y.0) ∙ sym y.1
        back (inr y) = skip b refl
          where
            skip : (c : Bool) → b ≡ c → first ((b, l.number) ∷ ts) ≡ k
            skip true q = absurd (y.0 (h.if-true q))
            skip false q = first-skip l.number ts q ∙ r.1 y.1

-- ---- 0

-- no line has the number 0
abbrev pub Numbered : List Line → Type 0
Numbered [] = Unit {0}
Numbered (l ∷ ls) = (l.number ≢ 0) × Numbered ls

pub first_fine : {ts : List (Bool × ℕ)} {ls : List Line} → Tested ts ls → Numbered ls → (first ts ≡ 0) ↔ AllFine ls
unfolding first
first_fine no_test n = (λ e. tt, λ u. refl)
first_fine (tested {b} {l} {ts} {ls} h T) n = both (first_fine T n.1)
  where
    both : (first ts ≡ 0) ↔ AllFine ls → (first ((b, l.number) ∷ ts) ≡ 0) ↔ AllFine (l ∷ ls)
    both r = (λ e. go b refl e, λ f. first-skip l.number ts (tells-false h f.0) ∙ r.1 f.1)
      where
        go : (c : Bool) → b ≡ c → first ((b, l.number) ∷ ts) ≡ 0 → AllFine (l ∷ ls)
        go true q e = absurd (n.0 (sym (first-hit l.number ts q) ∙ e))
        go false q e = (h.if-false q, r.0 (sym (first-skip l.number ts q) ∙ e))
