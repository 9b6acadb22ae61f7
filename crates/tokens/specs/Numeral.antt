-- A token as a number of 0 or more; one of more than five bytes is none that fits.
use Rattle.std.specs.Prelude.{cond, List, ℕ, ltb, length, Option, Some, None}
use Rattle.std.proofs.Math.Option as maths
use Rattle.rules.specs.Exchange.Reader.{numeral}

unfoldable pub numeral_of : maths.Option ℕ → Option ℕ
numeral_of maths.none = None
numeral_of (maths.some k) = Some k

unfoldable pub short_numeral : List ℕ → Option ℕ
short_numeral w = cond (ltb 5 (length w)) None (numeral_of (numeral w))
