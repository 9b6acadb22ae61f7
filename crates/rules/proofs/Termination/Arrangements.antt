-- How many arrangements there are: n seated of N variables, each with one of three values. Distinct ones cannot be
-- more.
--   listed      an arrangement that fits is in the list of all
--   how-many    the list's length is 3^j times the ways to choose j
--   at-most     a run of different arrangements that fit is no longer
use mathlib.Core.List.Memᴰ
use mathlib.Core.List.{List, Memᴰ, [], map, ◌++◌, ◌∷◌}
use mathlib.Core.Logic.{inl, inr, ◌≢◌, ◌⊎◌}
use mathlib.Core.Option.{Option, none, some}
use mathlib.Core.Path.{refl, ◌∙◌, ◌≡◌}
use Prim.Native.Nat.{suc, zero, ℕ, ◌*◌, ◌<◌, ◌^◌, ◌≤◌}
use native.Mathlib.Nat.{pow-succ'}
use native.Mathlib.Omega.{arith}
use lib.ListN.{length, length-append, length-map}
use Rattle.whole.proofs.Lists.Pigeons.{Mem-map, distinct-fit}
use Rattle.rules.specs.Run.{choose}

-- ---- the arrangements: each variable is basic, or has one of its three values; j are seated

pub record Three (X : Type 0) : Type 0 where
  pub one : X
  pub two : X
  pub three : X

module _ {X : Type 0} where
  abbrev with_seat : Option X → List (List (Option X)) → List (List (Option X))
  with_seat o ls = map (λ a. o ∷ a) ls

  unfoldable arrangements : List (Three X) → ℕ → List (List (Option X))
  arrangements [] zero = [] ∷ []
  arrangements [] (suc j) = []
  arrangements (c ∷ cs) zero = with_seat none (arrangements cs zero)
  arrangements (c ∷ cs) (suc j) =
      with_seat none (arrangements cs (suc j)) ++ (with_seat (some c.one) (arrangements cs j)
      ++ (with_seat (some c.two) (arrangements cs j) ++ with_seat (some c.three) (arrangements cs j)))

  abbrev pub OneOf : X → Three X → Type 0
  OneOf x c = (x ≡ c.one) ⊎ ((x ≡ c.two) ⊎ (x ≡ c.three))

  abbrev pub Fits : List (Option X) → List (Three X) → ℕ → Type 0
  Fits [] [] zero = Unit {0}
  Fits [] [] (suc j) = ⊥
  Fits [] (c ∷ cs) j = ⊥
  Fits (o ∷ a) [] j = ⊥
  Fits (none ∷ a) (c ∷ cs) j = Fits a cs j
  Fits (some x ∷ a) (c ∷ cs) zero = ⊥
  Fits (some x ∷ a) (c ∷ cs) (suc j) = OneOf x c × Fits a cs j

  -- `some x` before the element, where x is the value that the part of the list is for
  put : (x y : X) (a : List (Option X)) (ls : List (List (Option X))) → x ≡ y → Memᴰ a ls →
      Memᴰ (some x ∷ a) (with_seat (some y) ls)
  put x y a ls e m = rw e (Mem-map (λ b. some y ∷ b) m)

  seat-listed : (x : X) (a : List (Option X)) (c : Three X) (ns ls : List (List (Option X))) → OneOf x c →
      Memᴰ a ls →
      Memᴰ (some x ∷ a) (ns ++ (with_seat (some c.one) ls
      ++ (with_seat (some c.two) ls ++ with_seat (some c.three) ls)))
  seat-listed x a c ns ls (inl e) m = Memᴰ.append_right ns (Memᴰ.append_left _ (put x c.one a ls e m))
  seat-listed x a c ns ls (inr (inl e)) m =
      Memᴰ.append_right ns (Memᴰ.append_right (with_seat (some c.one) ls)
      (Memᴰ.append_left _ (put x c.two a ls e m)))
  seat-listed x a c ns ls (inr (inr e)) m =
      Memᴰ.append_right ns (Memᴰ.append_right (with_seat (some c.one) ls)
      (Memᴰ.append_right (with_seat (some c.two) ls) (put x c.three a ls e m)))

  listed : (a : List (Option X)) (cs : List (Three X)) (j : ℕ) → Fits a cs j → Memᴰ a (arrangements cs j)
  unfolding arrangements
  listed [] [] zero h = Memᴰ.head refl
  listed [] [] (suc j) h = absurd h
  listed [] (c ∷ cs) j h = absurd h
  listed (o ∷ a) [] j h = absurd h
  listed (none ∷ a) (c ∷ cs) zero h = Mem-map _ (listed a cs zero h)
  listed (none ∷ a) (c ∷ cs) (suc j) h = Memᴰ.append_left _ (Mem-map _ (listed a cs (suc j) h))
  listed (some x ∷ a) (c ∷ cs) zero h = absurd h
  listed (some x ∷ a) (c ∷ cs) (suc j) h =
      seat-listed x a c (with_seat none (arrangements cs (suc j))) (arrangements cs j) h.0 (listed a cs j h.1)

  -- the count that the rules name
  how-many : (cs : List (Three X)) (j : ℕ) → length (arrangements cs j) ≡ 3 ^ j * choose (length cs) j
  unfolding arrangements choose
  how-many [] zero = refl
  how-many [] (suc j) = omega arith
  how-many (c ∷ cs) zero = length-map (arrangements cs zero) _ ∙ how-many cs zero
  how-many (c ∷ cs) (suc j) = simp (length-append, length-map, how-many cs (suc j), how-many cs j, pow-succ')
      (omega arith)

  -- a run of different arrangements, all of them fitting, is shorter than the count
  pub at-most : (cs : List (Three X)) (j k : ℕ) (f : ℕ → List (Option X)) → ((i : ℕ) → Fits (f i) cs j) →
      ((p q : ℕ) → p < q → q < k → f p ≢ f q) → k ≤ 3 ^ j * choose (length cs) j
  at-most cs j k f fits d = rw (how-many cs j) at
      (distinct-fit (arrangements cs j) k f (λ i. listed (f i) cs j (fits i)) d)
