-- What a test tells: one fact where it is true, another where it is false, never both. So the test is true exactly
-- where the first fact holds, and false exactly where the second does.
use Rattle.std.specs.Prelude.{Bool, false, true, ◌≡◌}

pub record Tells (b : Bool) (Yes No : Type 0) : Type 0 where
  pub if-true : b ≡ true → Yes
  pub if-false : b ≡ false → No
  pub not-both : Yes → No → ⊥
