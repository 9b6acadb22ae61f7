-- What a variable's value is, what limits are compared with, and what lengths are added from: an ordered set of values
-- on which whole numbers act. `whole` is ℤ itself; `beside 𝓐 𝓑` are two values side by side, the first compared first.
-- `pairs` are two whole numbers so: a plain part, and how many small amounts there are, the small amount being as near
-- to 0 as one likes, but above it.
use Rattle.std.specs.Prelude.{◌≡◌, Bool, true, false, ℕ, ℤ, pos, ◌+ℤ◌, ◌*ℤ◌, ◌<ℤ◌}
use Rattle.std.specs.Int.Signed.{lt_z}
use Rattle.whole.specs.Sums.{sum_by}

-- the operations: 0, addition, a whole number times a value, and the order
pub record Values (X : Type 0) : Type 0 where
  pub nil : X
  pub plus : X → X → X
  pub scale : ℤ → X → X
  pub less : X → X → Bool

abbrev pub whole : Values ℤ
whole = record { nil = pos 0; plus = ◌+ℤ◌; scale = ◌*ℤ◌; less = lt_z }

-- the first order decides; where it says neither less nor more, the second does
abbrev pub lexicographic : (less more rest : Bool) → Bool
lexicographic true more rest = true
lexicographic false true rest = false
lexicographic false false rest = rest

abbrev pub beside : {A B : Type 0} → Values A → Values B → Values (A × B)
beside 𝓐 𝓑 = record {
  nil = (𝓐.nil, 𝓑.nil);
  plus = λ x y. (𝓐.plus x.0 y.0, 𝓑.plus x.1 y.1);
  scale = λ a x. (𝓐.scale a x.0, 𝓑.scale a x.1);
  less = λ x y. lexicographic (𝓐.less x.0 y.0) (𝓐.less y.0 x.0) (𝓑.less x.1 y.1);
}

abbrev pub pairs : Values (ℤ × ℤ)
pairs = beside whole whole

-- what a pair comes to, times k, where the fraction e / k is put for the small amount
abbrev pub mixed : ℤ → ℤ → ℤ × ℤ → ℤ
mixed e k x = k *ℤ x.0 +ℤ e *ℤ x.1

-- f 0 + f 1 + .. + f (k - 1)
abbrev pub total : {X : Type 0} → Values X → ℕ → (ℕ → X) → X
total 𝓥 k f = sum_by 𝓥.nil 𝓥.plus k f

-- x is less than y
abbrev pub Lt : {X : Type 0} → Values X → X → X → Type 0
Lt 𝓥 x y = 𝓥.less x y ≡ true

-- x is at most y: y is not less
abbrev pub Le : {X : Type 0} → Values X → X → X → Type 0
Le 𝓥 x y = 𝓥.less y x ≡ false

-- what is asked of the operations: fourteen laws, which whole numbers and pairs have (`whole-laws`, `pairs-laws`).
-- Those on the order are equations on `less`, so that an order turned round computes
pub record Laws {X : Type 0} (𝓥 : Values X) : Type 0 where
  pub plus_assoc : (x y z : X) → 𝓥.plus (𝓥.plus x y) z ≡ 𝓥.plus x (𝓥.plus y z)
  pub plus_comm : (x y : X) → 𝓥.plus x y ≡ 𝓥.plus y x
  pub plus_nil : (x : X) → 𝓥.plus x 𝓥.nil ≡ x
  pub zero-scale : (x : X) → 𝓥.scale (pos 0) x ≡ 𝓥.nil
  pub one-scale : (x : X) → 𝓥.scale (pos 1) x ≡ x
  pub scale-plus : (a : ℤ) (x y : X) → 𝓥.scale a (𝓥.plus x y) ≡ 𝓥.plus (𝓥.scale a x) (𝓥.scale a y)
  pub plus-scale : (a b : ℤ) (x : X) → 𝓥.scale (a +ℤ b) x ≡ 𝓥.plus (𝓥.scale a x) (𝓥.scale b x)
  pub scale-times : (a b : ℤ) (x : X) → 𝓥.scale (a *ℤ b) x ≡ 𝓥.scale a (𝓥.scale b x)
  pub less-asym : (x y : X) → Lt 𝓥 x y → Le 𝓥 x y
  pub le_trans : (x y z : X) → Le 𝓥 x y → Le 𝓥 y z → Le 𝓥 x z
  pub le_antisym : (x y : X) → Le 𝓥 x y → Le 𝓥 y x → x ≡ y
  pub less-plus : (x y z : X) → 𝓥.less (𝓥.plus x z) (𝓥.plus y z) ≡ 𝓥.less x y
  pub less-up : (a : ℤ) (x y : X) → pos 0 <ℤ a → 𝓥.less (𝓥.scale a x) (𝓥.scale a y) ≡ 𝓥.less x y
  pub less-down : (a : ℤ) (x y : X) → a <ℤ pos 0 → 𝓥.less (𝓥.scale a x) (𝓥.scale a y) ≡ 𝓥.less y x
