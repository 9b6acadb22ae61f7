-- n and m, the first two words of a problem and of time rows, against the most that each may be.
use Rattle.std.specs.Prelude.{Bool, ◌||◌, List, ℕ, ℤ}
use Rattle.whole.specs.Numbers.{outside}
use Rattle.rules.specs.Problem.{word}

-- n is not from 1 to its most, or m is not from 0 to its most
abbrev pub sizes_outside : ℕ → ℕ → List ℤ → Bool
sizes_outside first second ws = outside 1 first (word ws 0) || outside 0 second (word ws 1)
