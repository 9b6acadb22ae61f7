-- Where a variable starts, by its two limits.
--   value-so    `StartsAt` of specs/Facts/Run: 0 where 0 is outside of neither limit; else the lower one where that is
--               above 0; else the upper one
use mathlib.Core.Bool.{Bool, cond, false, true}
use mathlib.Core.Option.{Option, none-ne-some, none, some}
use mathlib.Core.Path.{refl, ◌≡◌}
use Rattle.whole.specs.Values.{Le, Values}
use Rattle.rules.specs.Facts.Run.{StartsAt, at_high, at_low, at-nil}
use Rattle.rules.specs.Step.{start_value}

module _ {X : Type 0} (𝓥 : Values X) where
  -- what holds of the one limit that is there
  only-low : (k : X) → Le 𝓥 k 𝓥.nil → (l : X) → some k ≡ some l → Le 𝓥 l 𝓥.nil
  only-low k h l e = let z : k ≡ l = cc in rw (← z) h

  only_high : (k : X) → Le 𝓥 𝓥.nil k → (u : X) → some k ≡ some u → Le 𝓥 𝓥.nil u
  only_high k h u e = let z : k ≡ u = cc in rw (← z) h

  no-low : (l : X) → ◌≡◌ {A = Option X} none (some l) → Le 𝓥 l 𝓥.nil
  no-low l e = absurd (none-ne-some l e)

  no-high : (u : X) → ◌≡◌ {A = Option X} none (some u) → Le 𝓥 𝓥.nil u
  no-high u e = absurd (none-ne-some u e)

  pub value-so : (o p : Option X) → StartsAt 𝓥 o p (start_value 𝓥 o p)
  unfolding start_value
  value-so none none = at-nil no-low no-high refl
  value-so none (some u) = go (𝓥.less u 𝓥.nil) refl
    where
      go : (b : Bool) → 𝓥.less u 𝓥.nil ≡ b → StartsAt 𝓥 none (some u) (cond b u 𝓥.nil)
      go true e = at_high u refl e no-low refl
      go false e = at-nil no-low (only_high u e) refl
  value-so (some l) none = go (𝓥.less 𝓥.nil l) refl
    where
      go : (b : Bool) → 𝓥.less 𝓥.nil l ≡ b → StartsAt 𝓥 (some l) none (cond b l 𝓥.nil)
      go true e = at_low l refl e refl
      go false e = at-nil (only-low l e) no-high refl
  value-so (some l) (some u) = go (𝓥.less 𝓥.nil l) refl (𝓥.less u 𝓥.nil) refl
    where
      go : (b : Bool) → 𝓥.less 𝓥.nil l ≡ b → (c : Bool) → 𝓥.less u 𝓥.nil ≡ c →
          StartsAt 𝓥 (some l) (some u) (cond b l (cond c u 𝓥.nil))
      go true e c f = at_low l refl e refl
      go false e true f = at_high u refl f (only-low l e) refl
      go false e false f = at-nil (only-low l e) (only_high u f) refl
