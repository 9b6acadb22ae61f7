-- An edition by its number: what a number that is looked up tells.
--   last-edition    the constant of the code is the number of the last edition
--   unknown-told    whether there is such an edition
--   edition_other   a number of none allows nothing; src/lib.rt names it in an attribute
use Rattle.std.proofs.Common.{◌≡◌, ◌≢◌, ℕ, zero, suc, Result, Ok, Err, arith, refl, true, length}
use Rattle.std.specs.Result.{is_err}
use borrow.Author.Tests.{le-ltb, lt-ltb}
use Rattle.refusals.specs.declared.Refusal.{Refusal}
use Rattle.rules.specs.Bundle.File.{edition, editions}
use Rattle.rules.specs.Bundle.Writer.{no_such_edition}
use Rattle.editions.specs.declared.TheConstants.{EDITIONS}
use Rattle.editions.specs.declared.Edition.{Edition}
use Rattle.editions.specs.declared.Edition.TheVariants.{First, Second}
use Rattle.editions.specs.Numbered.{Decodes}

last-edition : EDITIONS ≡ length editions
unfolding editions
last-edition = refl

other-unknown : (n : ℕ) → n ≢ 1 → n ≢ 2 → true ≡ no_such_edition n
unfolding no_such_edition editions
other-unknown zero p q = refl
other-unknown (suc zero) p q = absurd (p refl)
other-unknown (suc (suc zero)) p q = absurd (q refl)
other-unknown (suc (suc (suc n))) p q =
    rw (le-ltb (suc (suc (suc n))) 1 (omega arith), lt-ltb 2 (suc (suc (suc n))) (omega arith)) refl

pub unknown-told : (n : ℕ) (r : Result Edition Refusal) → Decodes n r → is_err r ≡ no_such_edition n
unfolding no_such_edition editions
unknown-told n (Ok First) e = rw e refl
unknown-told n (Ok Second) e = rw e refl
unknown-told n (Err r) e = other-unknown n e.1 e.2

pub edition_other : (n : ℕ) → n ≢ 1 → n ≢ 2 → edition n ≡ record { bodies = 0; rows = 0 }
unfolding edition editions
edition_other zero p q = refl
edition_other (suc zero) p q = absurd (p refl)
edition_other (suc (suc zero)) p q = absurd (q refl)
edition_other (suc (suc (suc n))) p q = refl
