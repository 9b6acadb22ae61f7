-- docs/RULES.md, "A day's file": the number of an edition, and what a number stands for.
use Rattle.std.specs.Prelude.{ℕ, ◌≡◌, ◌≢◌, Result, MatchResult}
use Rattle.refusals.specs.declared.Refusal.{Refusal}
use Rattle.refusals.specs.declared.Refusal.TheVariants as reasons
use Rattle.editions.specs.declared.Edition.{Edition}
use Rattle.editions.specs.declared.Edition.TheVariants.{First, Second}

abbrev pub edition_number : Edition → ℕ
edition_number First = 1
edition_number Second = 2

-- the result is the edition with this number, or refusal 31 of a number that no edition has
abbrev pub Decodes : ℕ → Result Edition Refusal → Type 0
Decodes number r =
    MatchResult r (λ e. number ≡ edition_number e) (λ e. (e ≡ reasons.Edition) × (number ≢ 1) × (number ≢ 2))
