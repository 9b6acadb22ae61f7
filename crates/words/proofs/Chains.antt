-- What `any` and `all` over some items tell, as a test of the numbers below their count: f tests an item, and g the
-- number of its place.
--   any-below    some item passes
--   all-below    each does
use Rattle.std.proofs.Common.{◌≡◌, sym, ◌∙◌, arith, Bool, true, false, List, ℕ, ◌<◌, length, get_or}
use Rattle.std.specs.Bool.{MatchBool}
use Rattle.std.specs.List.{AllWithin, HoldsAt}
use Rattle.whole.specs.Below.{all_below, some_below}
use Rattle.whole.proofs.Lists.Below.{all-not, all_of, some-empty, some_of}

module _ {A : Type 0} (f : A → Bool) (xs : List A) (d : A) (n : ℕ) (g : ℕ → Bool) (long : length xs ≡ n)
    (same : (i : ℕ) → i < n → f (get_or xs i d) ≡ g i) where
  abbrev pub EachWord : Bool → Type 0
  EachWord b = AllWithin (λ x. f x ≡ b) xs 0 (length xs)

  abbrev pub One : Bool → Type 0
  One b = (k : ℕ) × (k < length xs) × HoldsAt (λ x. f x ≡ b) xs k

  each : (b : Bool) → EachWord b → (i : ℕ) → i < n → g i ≡ b
  each b h i l = sym (same i l) ∙ h i d (omega arith) (omega arith)

  pub any-below : (r : Bool) → MatchBool r (One true) (EachWord false) → r ≡ some_below n g
  any-below true h = sym (some_of n h.0 g (omega arith) (sym (same h.0 (omega arith)) ∙ h.2 d))
  any-below false h = sym (some-empty n g (each false h))

  pub all-below : (r : Bool) → MatchBool r (EachWord true) (One false) → r ≡ all_below n g
  all-below true h = sym (all_of n g (each true h))
  all-below false h = sym (all-not n h.0 g (omega arith) (sym (same h.0 (omega arith)) ∙ h.2 d))
