-- Values side by side are values, the first compared first.
--   parts, beside-joined              what "at most" says of the two parts, and back
--   beside_laws, pairs-laws    all laws hold of them
use mathlib.Core.Path.{◌≡◌, refl, ◌∙◌, ap, ap₂}
use mathlib.Core.Bool.{Bool, true, false}
use Rattle.whole.specs.Values.{Values, lexicographic, beside, pairs, Lt, Le, Laws}
use Rattle.whole.proofs.Bools.{true-false}
use Rattle.whole.proofs.Values.Instances.{whole-laws}

lexicographic-same : {a b c d e f : Bool} → a ≡ b → c ≡ d → e ≡ f → lexicographic a c e ≡ lexicographic b d f
lexicographic-same {a} {b} {c} {d} {e} {f} p q r =
    ap (λ z. lexicographic z c e) p ∙ ap (λ z. lexicographic b z e) q ∙ ap (λ z. lexicographic b d z) r

-- x is at most y: its first part is, and where the first parts are level its second part is
pub record Parts {A B : Type 0} (𝓐 : Values A) (𝓑 : Values B) (x y : A × B) : Type 0 where
  pub first : Le 𝓐 x.0 y.0
  pub second : Le 𝓐 y.0 x.0 → Le 𝓑 x.1 y.1

module _ {A B : Type 0} {𝓐 : Values A} {𝓑 : Values B} where
  pub parts : (x y : A × B) → Le (beside 𝓐 𝓑) x y → Parts 𝓐 𝓑 x y
  parts x y h = go (𝓐.less y.0 x.0) refl (𝓐.less x.0 y.0) refl h
    where
      go : (a : Bool) → 𝓐.less y.0 x.0 ≡ a → (b : Bool) → 𝓐.less x.0 y.0 ≡ b →
          lexicographic a b (𝓑.less y.1 x.1) ≡ false → Parts 𝓐 𝓑 x y
      go true p b q k = true-false refl k
      go false p true q k = record { first = p; second = λ e. true-false q e }
      go false p false q k = record { first = p; second = λ e. k }

  pub beside-joined : (x y : A × B) → Parts 𝓐 𝓑 x y → Le (beside 𝓐 𝓑) x y
  beside-joined x y h = go (𝓐.less y.0 x.0) refl (𝓐.less x.0 y.0) refl
    where
      go : (a : Bool) → 𝓐.less y.0 x.0 ≡ a → (b : Bool) → 𝓐.less x.0 y.0 ≡ b →
          lexicographic a b (𝓑.less y.1 x.1) ≡ false
      go true p b q = true-false p h.first
      go false p true q = refl
      go false p false q = h.second q

module _ {A B : Type 0} {𝓐 : Values A} {𝓑 : Values B} (L : Laws 𝓐) (M : Laws 𝓑) where
  asym : (x y : A × B) → Lt (beside 𝓐 𝓑) x y → Le (beside 𝓐 𝓑) x y
  asym x y h = go (𝓐.less x.0 y.0) refl (𝓐.less y.0 x.0) refl h
    where
      go : (a : Bool) → 𝓐.less x.0 y.0 ≡ a → (b : Bool) → 𝓐.less y.0 x.0 ≡ b →
          lexicographic a b (𝓑.less x.1 y.1) ≡ true → lexicographic b a (𝓑.less y.1 x.1) ≡ false
      go true p true q k = true-false q (L.less-asym x.0 y.0 p)
      go true p false q k = refl
      go false p true q k = true-false k refl
      go false p false q k = M.less-asym x.1 y.1 k

  trans : (x y z : A × B) → Le (beside 𝓐 𝓑) x y → Le (beside 𝓐 𝓑) y z → Le (beside 𝓐 𝓑) x z
  trans x y z p q =
      let a : Parts 𝓐 𝓑 x y = parts {𝓐 = 𝓐} {𝓑 = 𝓑} x y p in
      let b : Parts 𝓐 𝓑 y z = parts {𝓐 = 𝓐} {𝓑 = 𝓑} y z q in
      beside-joined {𝓐 = 𝓐} {𝓑 = 𝓑} x z (record {
        first = L.le_trans x.0 y.0 z.0 a.first b.first;
        second = λ e. M.le_trans x.1 y.1 z.1
            (a.second (L.le_trans y.0 z.0 x.0 b.first e))
            (b.second (L.le_trans z.0 x.0 y.0 e a.first));
      })

  antisym : (x y : A × B) → Le (beside 𝓐 𝓑) x y → Le (beside 𝓐 𝓑) y x → x ≡ y
  antisym x y p q =
      let a : Parts 𝓐 𝓑 x y = parts {𝓐 = 𝓐} {𝓑 = 𝓑} x y p in
      let b : Parts 𝓐 𝓑 y x = parts {𝓐 = 𝓐} {𝓑 = 𝓑} y x q in
      ap₂ (λ a b. (a, b)) (L.le_antisym x.0 y.0 a.first b.first)
      (M.le_antisym x.1 y.1 (a.second b.first) (b.second a.first))

  beside_laws : Laws (beside 𝓐 𝓑)
  beside_laws = record {
    plus_assoc = λ x y z.
        ap₂ (λ a b. (a, b)) (L.plus_assoc x.0 y.0 z.0) (M.plus_assoc x.1 y.1 z.1);
    plus_comm = λ x y. ap₂ (λ a b. (a, b)) (L.plus_comm x.0 y.0) (M.plus_comm x.1 y.1);
    plus_nil = λ x. ap₂ (λ a b. (a, b)) (L.plus_nil x.0) (M.plus_nil x.1);
    zero-scale = λ x. ap₂ (λ a b. (a, b)) (L.zero-scale x.0) (M.zero-scale x.1);
    one-scale = λ x. ap₂ (λ a b. (a, b)) (L.one-scale x.0) (M.one-scale x.1);
    scale-plus = λ a x y. ap₂ (λ a b. (a, b)) (L.scale-plus a x.0 y.0) (M.scale-plus a x.1 y.1);
    plus-scale = λ a b x. ap₂ (λ a b. (a, b)) (L.plus-scale a b x.0) (M.plus-scale a b x.1);
    scale-times = λ a b x. ap₂ (λ a b. (a, b)) (L.scale-times a b x.0) (M.scale-times a b x.1);
    less-asym = asym;
    le_trans = trans;
    le_antisym = antisym;
    less-plus = λ x y z.
        lexicographic-same (L.less-plus x.0 y.0 z.0) (L.less-plus y.0 x.0 z.0)
        (M.less-plus x.1 y.1 z.1);
    less-up = λ a x y h.
        lexicographic-same (L.less-up a x.0 y.0 h) (L.less-up a y.0 x.0 h)
        (M.less-up a x.1 y.1 h);
    less-down = λ a x y h.
        lexicographic-same (L.less-down a x.0 y.0 h) (L.less-down a y.0 x.0 h)
        (M.less-down a x.1 y.1 h);
  }

pub pairs-laws : Laws pairs
pairs-laws = beside_laws whole-laws whole-laws
