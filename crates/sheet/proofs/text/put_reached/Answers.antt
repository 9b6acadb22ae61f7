-- `sheet::text::put_reached`: `none`, or the number of the body. Assumes nothing.
use Rattle.std.proofs.Common.{None, Option, refl, Some, ◌≡◌, ℕ}
use Rattle.rules.specs.Program.Text.{ascii, digits}
use Rattle.rules.specs.Sheet.Text.{body_name}
use Rattle.sheet.specs.Lines.{reached_name}
use Rattle.sheet.proofs.text.put_reached.Goals as goal

none_named : {r : Option ℕ} → r ≡ None → body_name (reached_name r) ≡ ascii "none"
unfolding body_name reached_name
none_named e = rw e refl

body-named : {r : Option ℕ} (i : ℕ) → r ≡ Some i → body_name (reached_name r) ≡ digits i
unfolding body_name reached_name
body-named i e = rw e refl

pub text-requires : goal.text-requires
unfolding ascii
text-requires c = rw (none_named c.in-None.is) at c.requires

pub digits-requires : goal.digits-requires
digits-requires c = rw (body-named _ c.in-Some.is) at c.requires

pub returns-in-None : goal.returns-in-None
unfolding ascii
returns-in-None c = rw (none_named c.in-None.is) c.text.ensures

pub returns-in-Some : goal.returns-in-Some
returns-in-Some c = rw (body-named _ c.in-Some.is) c.digits.ensures
