-- Two results that a promise of this crate's public functions allows are equal: NAME-only for each.
-- The contracts themselves are compared: κs are lifetimes, x the arguments, e what lent words hold at the exit.
use mathlib.Core.Path.{◌≡◌, sym, ◌∙◌}
use Rattle.sides.proofs.breach_of.Reads as breach-of
use Rattle.sides.proofs.product.Reads as product
use Rattle.sides.proofs.suits.Reads as suits

pub breach-of-only : (κs : _) (x : _) (a b : _) (e : _) → breach-of.Post κs x a e → breach-of.Post κs x b e → a ≡ b
breach-of-only κs x a b e h k = h ∙ sym k

pub suits-only : (κs : _) (x : _) (a b : _) (e : _) → suits.Post κs x a e → suits.Post κs x b e → a ≡ b
suits-only κs x a b e h k = h ∙ sym k

pub product-only : (κs : _) (x : _) (a b : _) (e : _) → product.Post κs x a e → product.Post κs x b e → a ≡ b
product-only κs x a b e h k = h ∙ sym k
