-- Two results that a promise of this crate's public functions allows are equal: NAME-only for each.
-- The contracts themselves are compared: κs are lifetimes, x the arguments, e what lent words hold at the exit.
use mathlib.Core.Path.{◌≡◌, sym, ◌∙◌}
use Rattle.layout.proofs.place.Reads as place
use Rattle.layout.proofs.lines.Reads as lines
use Rattle.layout.proofs.steps.Reads as steps
use Rattle.layout.proofs.line_at.Reads as line_at_lem
use Rattle.layout.proofs.spot_at.Reads as spot-at
use Rattle.layout.proofs.live.Reads as live
use Rattle.layout.proofs.row_strip.Reads as row-strip
use Rattle.layout.proofs.column_strip.Reads as column-strip
use Rattle.layout.proofs.Strip.place_of.Reads as place-of

pub place-only : (κs : _) (x : _) (a b : _) (e : _) → place.Post κs x a e → place.Post κs x b e → a ≡ b
place-only κs x a b e h k = h ∙ sym k

pub lines-only : (κs : _) (x : _) (a b : _) (e : _) → lines.Post κs x a e → lines.Post κs x b e → a ≡ b
lines-only κs x a b e h k = h ∙ sym k

pub steps-only : (κs : _) (x : _) (a b : _) (e : _) → steps.Post κs x a e → steps.Post κs x b e → a ≡ b
steps-only κs x a b e h k = h ∙ sym k

pub line-at-only : (κs : _) (x : _) (a b : _) (e : _) → line_at_lem.Post κs x a e → line_at_lem.Post κs x b e → a ≡ b
line-at-only κs x a b e h k = h ∙ sym k

pub spot-at-only : (κs : _) (x : _) (a b : _) (e : _) → spot-at.Post κs x a e → spot-at.Post κs x b e → a ≡ b
spot-at-only κs x a b e h k = h ∙ sym k

pub live-only : (κs : _) (x : _) (a b : _) (e : _) → live.Post κs x a e → live.Post κs x b e → a ≡ b
live-only κs x a b e h k = h ∙ sym k

pub row-strip-only : (κs : _) (x : _) (a b : _) (e : _) → row-strip.Post κs x a e → row-strip.Post κs x b e → a ≡ b
row-strip-only κs x a b e h k = h ∙ sym k

pub column-strip-only : (κs : _) (x : _) (a b : _) (e : _) → column-strip.Post κs x a e → column-strip.Post κs x b e →
    a ≡ b
column-strip-only κs x a b e h k = h ∙ sym k

pub place-of-only : (κs : _) (x : _) (a b : _) (e : _) → place-of.Post κs x a e → place-of.Post κs x b e → a ≡ b
place-of-only κs x a b e h k = h ∙ sym k
