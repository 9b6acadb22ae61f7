-- Lines put one behind the other, and whole texts.
--   text-lines-start, -room, -more   the lines of the variables below a number: none, room for one more, one more
--   printed-none, -all, -as, -only   a whole text in a slice, or none of it; bytes_fit, that it is there
--   printed-from         a text that is put into another slice first, and is written from there
--   short-clash                 a slice of as many bytes as the longest text has is not too short
use mathlib.Core.Path.{◌≡◌, refl, sym, ◌∙◌, ap}
use mathlib.Core.Bool.{Bool, true, false, cond}
use mathlib.Core.List.{List, ◌++◌}
use Prim.Native.Nat.{ℕ, ◌+◌, ◌*◌, ◌^◌, ◌≤◌, ◌<◌}
use native.Mathlib.Nat.{mul-le-mul, mul-suc}
use native.Mathlib.Numerals.{add-one}
use native.Mathlib.Omega.{arith}
use borrow.Author.Tests.{le-leb, lt-leb}
use Rattle.std.proofs.Common.{None, Option, Some}
use lib.Dec.{leb}
use lib.ListN.{length, drop, take, length-append}
use Rattle.rules.specs.Program.Text.{lines_below, printed}
use Rattle.rules.proofs.Program.Lengths.{lines-longer}
use Rattle.put.specs.Put.{PutShort}
use Rattle.put.proofs.Texts.{put_front, put-none, put_then}
use Rattle.lines.specs.Printed.{Printed, bytes_told}
use Rattle.put.specs.declared.Writer.{Writer}

-- ---- the lines of the variables, one after the other, of at most b bytes each

module _ (f : ℕ → List ℕ) (b : ℕ) where
  pub text-lines-start : (w : Writer) → PutShort (b * 0) w (lines_below 0 f) w
  unfolding lines_below
  text-lines-start w = record { put = put-none w; short = omega arith }

  pub lines-room :
      {u w : Writer} (v most : ℕ) → PutShort (b * v) u (lines_below v f) w → v < most → u.at + b * most < 2 ^ 64 →
      w.at + b < 2 ^ 64
  lines-room v most p h l =
      omega (arith, p.put.place, p.short, mul-suc b v, mul-le-mul (let z : b ≤ b = omega arith in z) h)

  pub text-lines-more :
      {u w x : Writer} (v : ℕ) → PutShort (b * v) u (lines_below v f) w → PutShort b w (f v) x →
      PutShort (b * (v + 1)) u (lines_below (v + 1) f) x
  unfolding lines_below
  text-lines-more v p q = record {
    put = rw add-one (put_then p.put q.put);
    short = omega (arith, lines-longer v f, add-one v, mul-suc b v, p.short, q.short);
  }

-- ---- a whole text

module _ {text before : List ℕ} where
  pub printed-none : length before < length text → Printed (length text) text before before None
  unfolding printed bytes_told
  printed-none h =
      let e : leb (length text) (length before) ≡ false = lt-leb (length text) (length before) h in
      record { short = omega arith; answer = rw e refl; bytes = rw e refl }

  pub printed-all : {after : List ℕ} → length text ≤ length before → after ≡ text ++ drop (length text) before →
      Printed (length text) text before after (Some (length text))
  unfolding printed bytes_told
  printed-all h e = record {
    short = omega arith;
    answer = rw (le-leb (length text) (length before) h) refl;
    bytes = rw (le-leb (length text) (length before) h) e;
  }

-- another name for the text, and another bound
printed-as : {text other before after : List ℕ} {n : ℕ} {r : Option ℕ} (most : ℕ) → text ≡ other →
    length other ≤ most → Printed n text before after r → Printed most other before after r
printed-as most e h p = record { short = h; answer = rw (← e) p.answer; bytes = rw (← e) p.bytes }

-- a text that was put into a slice with room for it, and is written from there
module _ {text : List ℕ} {most : ℕ} {v w : Writer} (p : PutShort most v text w) (z : v.at ≡ 0)
    (room : most ≤ length v.out.now) where
  front : take w.at w.out.now ≡ text
  front = put_front p.put z (omega (arith, p.short))

  pub printed-from : {before after : List ℕ} {k : ℕ} {r : Option ℕ} →
      Printed k (take w.at w.out.now) before after r → Printed most text before after r
  printed-from q = printed-as most front p.short q

-- the text and the slice leave nothing open
pub printed-only :
    {text before a b : List ℕ} {most : ℕ} {r s : Option ℕ} → Printed most text before a r →
    Printed most text before b s → (a ≡ b) × (r ≡ s)
printed-only p q = (p.bytes ∙ sym q.bytes, p.answer ∙ sym q.answer)

-- the bytes that are said to be there are there
pub bytes_fit : {text before after : List ℕ} {r : Option ℕ} {most n : ℕ} →
    Printed most text before after r → r ≡ Some n → n ≤ length after
unfolding bytes_told printed
bytes_fit {text} {before} {after} {r} {most} {n} p e = go (leb (length text) (length before)) refl
  where
    zero_one : ◌≡◌ {A = ℕ} 0 1 → n ≤ length after
    zero_one z = let y : ⊥ = omega arith in absurd y

    go : (b : Bool) → leb (length text) (length before) ≡ b → n ≤ length after
    go true q =
        let told : Some (length text) ≡ Some n =
        sym (ap (λ c. cond c (Some (length text)) None) q) ∙ sym p.answer ∙ e in
        let same : length text ≡ n = cc in
        let kept : after ≡ text ++ drop (length text) before =
        p.bytes ∙ ap (λ c. cond c (text ++ drop (length text) before) before) q in
        rw kept (simp length-append (omega arith))
    go false q =
        let told : None ≡ Some n = sym (ap (λ c. cond c (Some (length text)) None) q) ∙ sym p.answer ∙ e in
        let z : ◌≡◌ {A = ℕ} 0 1 = cc in zero_one z

-- a slice of as many bytes as the longest text has is not too short
pub short-clash :
    {text before after : List ℕ} {most : ℕ} {r : Option ℕ} → Printed most text before after r → most ≤ length before →
    r ≡ None → ⊥
unfolding bytes_told
short-clash {text} {before} p room e =
    let fits : leb (length text) (length before) ≡ true =
    le-leb (length text) (length before) (omega (arith, p.short)) in
    let told : Some (length text) ≡ None =
    sym (ap (λ c. cond c (Some (length text)) None) fits) ∙ sym p.answer ∙ e in
    let z : ◌≡◌ {A = ℕ} 0 1 = cc in
    omega arith
