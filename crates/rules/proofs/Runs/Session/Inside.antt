-- Where a nonbasic variable goes after a switch, in plain words.
--   inside-exactly     `inside` takes x to y exactly where `Lands` of specs/Facts/Runs/Session says so
--   inside-low, inside-high    so it is within limits that do not conflict
--   inside-still       and where it was within them, it stays
use mathlib.Core.Bool.{Bool, cond, false, true}
use mathlib.Core.Logic.{◌↔◌}
use mathlib.Core.Option.{Option, none-ne-some, none, some}
use mathlib.Core.Path.{refl, subst, sym, ◌∙◌, ◌≡◌}
use Rattle.whole.proofs.Bools.{true-false}
use Rattle.whole.proofs.Values.Laws.{le_refl, lt_irrefl, lt-le-trans}
use Rattle.whole.specs.Values.{Laws, Le, Lt, Values}
use Rattle.rules.proofs.Run.Start.{uncrossed}
use Rattle.rules.specs.Facts.Runs.Session.{Lands, stays-crossed, stays_within, to-lower, to-upper}
use Rattle.rules.specs.Run.{crossed}
use Rattle.rules.specs.Runs.Session.{inside}

module _ {X : Type 0} (𝓥 : Values X) where
  pub same_some : {x y : X} → some x ≡ some y → x ≡ y
  same_some e = cc

  pub lands : (o p : Option X) (x : X) → Lands 𝓥 o p x (inside 𝓥 o p x)
  unfolding inside crossed
  lands none none x = stays_within (λ l e. absurd (none-ne-some l e))
      (λ u e. absurd (none-ne-some u e)) refl
  lands (some l) none x = go (𝓥.less x l) refl
    where
      go : (b : Bool) → 𝓥.less x l ≡ b → Lands 𝓥 (some l) none x (cond b l x)
      go true q = to-lower l refl refl q refl
      go false q = stays_within (λ k e. subst (λ z. Le 𝓥 z x) (same_some e) q)
          (λ u e. absurd (none-ne-some u e)) refl
  lands none (some u) x = go (𝓥.less u x) refl
    where
      go : (b : Bool) → 𝓥.less u x ≡ b → Lands 𝓥 none (some u) x (cond b u x)
      go true q = to-upper u refl refl q refl
      go false q = stays_within (λ l e. absurd (none-ne-some l e))
          (λ k e. subst (λ z. Le 𝓥 x z) (same_some e) q) refl
  lands (some l) (some u) x = go (𝓥.less u l) refl (𝓥.less x l) refl (𝓥.less u x) refl
    where
      go : (c : Bool) → 𝓥.less u l ≡ c → (b : Bool) → 𝓥.less x l ≡ b → (d : Bool) → 𝓥.less u x ≡ d →
          Lands 𝓥 (some l) (some u) x (cond c x (cond b l (cond d u x)))
      go true r b q d s = stays-crossed r refl
      go false r true q d s = to-lower l refl r q refl
      go false r false q true s = to-upper u refl r s refl
      go false r false q false s = stays_within (λ k e. subst (λ z. Le 𝓥 z x) (same_some e) q)
          (λ k e. subst (λ z. Le 𝓥 x z) (same_some e) s) refl

  still : (o p : Option X) (x : X) → ((l : X) → o ≡ some l → Le 𝓥 l x) → ((u : X) → p ≡ some u → Le 𝓥 x u) →
      inside 𝓥 o p x ≡ x
  unfolding inside
  still none none x f g = refl
  still (some l) none x f g = rw (f l refl) refl
  still none (some u) x f g = rw (g u refl) refl
  still (some l) (some u) x f g = rw (f l refl, g u refl) (go (𝓥.less u l))
    where
      go : (b : Bool) → cond b x x ≡ x
      go true = refl
      go false = refl

  module _ (law : Laws 𝓥) where
    -- the value below the lower limit is not above the upper one
    not-both : (l u x : X) → Le 𝓥 l u → Lt 𝓥 x l → Lt 𝓥 u x → ⊥
    not-both l u x c h g = lt_irrefl law (lt-le-trans law g (law.less-asym x u (lt-le-trans law h c)))

    lands-is : (o p : Option X) (x y : X) → Lands 𝓥 o p x y → inside 𝓥 o p x ≡ y
    unfolding inside crossed
    lands-is o p x y (to-lower l e c h q) = at-lower o p e c ∙ sym q
      where
        at-lower : (o p : Option X) → o ≡ some l → crossed 𝓥 o p ≡ false → inside 𝓥 o p x ≡ l
        at-lower none p e c = absurd (none-ne-some l e)
        at-lower (some k) none e c = rw (same_some e, h) refl
        at-lower (some k) (some u) e c = rw (c, same_some e, h) refl
    lands-is o p x y (to-upper u e c h q) = at-upper o p e c ∙ sym q
      where
        at-upper : (o p : Option X) → p ≡ some u → crossed 𝓥 o p ≡ false → inside 𝓥 o p x ≡ u
        at-upper o none e c = absurd (none-ne-some u e)
        at-upper none (some k) e c = rw (same_some e, h) refl
        at-upper (some l) (some k) e c = rw (c, same_some e, h) (go (𝓥.less x l) refl)
          where
            go : (b : Bool) → 𝓥.less x l ≡ b → cond b l u ≡ u
            go true r = absurd (not-both l u x (rw (same_some e) at c) r h)
            go false r = refl
    lands-is o p x y (stays-crossed c q) = at_rest o p c ∙ sym q
      where
        at_rest : (o p : Option X) → crossed 𝓥 o p ≡ true → inside 𝓥 o p x ≡ x
        at_rest none p c = true-false c refl
        at_rest (some l) none c = true-false c refl
        at_rest (some l) (some u) c = rw c refl
    lands-is o p x y (stays_within f g q) = still o p x f g ∙ sym q

    pub inside-exactly : (o p : Option X) (x y : X) → (inside 𝓥 o p x ≡ y) ↔ Lands 𝓥 o p x y
    inside-exactly o p x y = (λ e. subst (Lands 𝓥 o p x) e (lands o p x), lands-is o p x y)

    pub inside-low : (o p : Option X) (x l : X) → crossed 𝓥 o p ≡ false → o ≡ some l → Le 𝓥 l (inside 𝓥 o p x)
    inside-low o p x l c e = go (inside 𝓥 o p x) (lands o p x)
      where
        go : (y : X) → Lands 𝓥 o p x y → Le 𝓥 l y
        go y (to-lower k f d h q) = rw (q, same_some (sym f ∙ e)) (le_refl law l)
        go y (to-upper u f d h q) = rw q (uncrossed 𝓥 o p c l u e f)
        go y (stays-crossed d q) = true-false d c
        go y (stays_within f g q) = rw q (f l e)

    pub inside-high : (o p : Option X) (x u : X) → crossed 𝓥 o p ≡ false → p ≡ some u → Le 𝓥 (inside 𝓥 o p x) u
    inside-high o p x u c e = go (inside 𝓥 o p x) (lands o p x)
      where
        go : (y : X) → Lands 𝓥 o p x y → Le 𝓥 y u
        go y (to-lower l f d h q) = rw q (uncrossed 𝓥 o p c l u f e)
        go y (to-upper k f d h q) = rw (q, same_some (sym f ∙ e)) (le_refl law u)
        go y (stays-crossed d q) = true-false d c
        go y (stays_within f g q) = rw q (g u e)

    -- a variable that is housed stays where it is
    pub inside-still : (o p : Option X) (x : X) → (crossed 𝓥 o p ≡ false → (l : X) → o ≡ some l → Le 𝓥 l x) →
        (crossed 𝓥 o p ≡ false → (u : X) → p ≡ some u → Le 𝓥 x u) → inside 𝓥 o p x ≡ x
    inside-still o p x f g = go (crossed 𝓥 o p) refl
      where
        go : (b : Bool) → crossed 𝓥 o p ≡ b → inside 𝓥 o p x ≡ x
        go true c = lands-is o p x x (stays-crossed c refl)
        go false c = still o p x (f c) (g c)
