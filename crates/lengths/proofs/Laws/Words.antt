-- The answer's words, written from the front.
--   parts_more, parts-all                a half of the times: one more, and all
--   words_more, words-all, words_take    the rows of a cycle: one more, all, and the first n words
--   words-twice                          .. and zeros for as many words more
--   put-half                             a half, copied into the output
--   two-halves                           the output: two words, then two halves
use mathlib.Core.Path.{◌≡◌, refl, sym, ◌∙◌, ap}
use mathlib.Core.List.{List, [], ◌∷◌, ◌++◌, map, append_assoc, append-nil}
use Prim.Native.Nat.{ℕ, zero, suc, ◌+◌, ◌*◌, ◌-◌, ◌≤◌, ◌<◌}
use native.Mathlib.Omega.{arith}
use lib.IntN.{ℤ, pos}
use lib.ListN.{length, get_or, set, take, drop, replicate, length-map, length-replicate, get_or-map}
use lib.Seq.{length-take-le, paste, take_at, take-append-add, drop-append-add, drop-drop}
use borrow.Rule.Slice.PartMut.{put_mid}
use Rattle.std.proofs.lemmas.List.{take-take}
use Rattle.std.proofs.lemmas.Slice.{put_mid-paste}
use Rattle.whole.proofs.Lists.Prefix.{set-prefix, prefix-all}
use Rattle.rules.specs.Sizes.{most_vertices}
use Rattle.lengths.specs.declared.Length.{Length}
use Rattle.lengths.specs.Lengths.{no_rows}
use Rattle.rules.specs.Times.Answer.{cycle_words}

drop-replicate : {A : Type 0} (k n : ℕ) (a : A) → drop k (replicate n a) ≡ replicate (n - k) a
drop-replicate zero n a = ap (λ m. replicate m a) (let z : n ≡ n - 0 = omega arith in z)
drop-replicate (suc k) zero a = ap (λ m. replicate m a) (let z : 0 ≡ 0 - suc k = omega arith in z)
drop-replicate (suc k) (suc n) a = drop-replicate k n a
    ∙ ap (λ m. replicate m a) (let z : n - k ≡ suc n - suc k = omega arith in z)

pub take-replicate : {A : Type 0} (k n : ℕ) (a : A) → k ≤ n → take k (replicate n a) ≡ replicate k a
take-replicate zero n a h = refl
take-replicate (suc k) zero a h = absurd (omega arith)
take-replicate (suc k) (suc n) a h = ap (λ l. a ∷ l) (take-replicate k n a (omega arith))

-- ---- the rows of a cycle, and zeros

module _ (rows : List ℕ) where
  pub words_more : (k : ℕ) → k < length rows → length rows ≤ most_vertices →
      set (take k (map pos rows) ++ drop k (replicate most_vertices (pos 0))) k (pos (get_or rows k 0))
      ≡ take (k + 1) (map pos rows) ++ drop (k + 1) (replicate most_vertices (pos 0))
  words_more k h l =
      ap (set (take k (map pos rows) ++ drop k (replicate most_vertices (pos 0))) k) (sym (get_or-map pos rows k 0))
      ∙ set-prefix (map pos rows) (replicate most_vertices (pos 0)) k (pos 0)
      (omega (arith, length-map rows pos)) (omega (arith, length-map rows pos, length-replicate most_vertices (pos 0)))

  pub words-all : (k : ℕ) → k ≡ length rows →
      take k (map pos rows) ++ drop k (replicate most_vertices (pos 0)) ≡ cycle_words most_vertices rows
  unfolding cycle_words
  words-all k e =
      prefix-all (map pos rows) (replicate most_vertices (pos 0)) k (e ∙ sym (length-map rows pos))
      ∙ ap (λ l. map pos rows ++ l)
      (drop-replicate (length (map pos rows)) most_vertices (pos 0)
      ∙ ap (λ m. replicate (most_vertices - m) (pos 0)) (length-map rows pos))

  pub words_take : (n : ℕ) → length rows ≤ n → n ≤ most_vertices →
      take n (cycle_words most_vertices rows) ≡ cycle_words n rows
  unfolding cycle_words
  words_take n h l =
      let e : length (map pos rows) + (n - length rows) ≡ n = omega (arith, length-map rows pos) in
      ap (λ m. take m (map pos rows ++ replicate (most_vertices - length rows) (pos 0))) (sym e)
      ∙ take-append-add (map pos rows) (replicate (most_vertices - length rows) (pos 0)) (n - length rows)
      ∙ ap (λ l. map pos rows ++ l) (take-replicate (n - length rows)
      (most_vertices - length rows) (pos 0) (omega arith))

-- the first 2n words of a cycle are its rows and zeros up to n, and n zeros more
pub words-twice : (rows : List ℕ) (n : ℕ) → length rows ≤ n →
    cycle_words (2 * n) rows ≡ cycle_words n rows ++ replicate n (pos 0)
unfolding cycle_words
words-twice rows n h =
    ap (λ k. map pos rows ++ replicate k (pos 0))
    (let z : 2 * n - length rows ≡ (n - length rows) + n = omega arith in z)
    ∙ ap (λ l. map pos rows ++ l) (replicate-add (n - length rows) n)
    ∙ sym (append_assoc (map pos rows) (replicate (n - length rows) (pos 0)) (replicate n (pos 0)))
  where
    replicate-add : (a b : ℕ) → replicate (a + b) (pos 0) ≡ replicate a (pos 0) ++ replicate b (pos 0)
    replicate-add zero b = ap (λ k. replicate k (pos 0)) (let z : 0 + b ≡ b = omega arith in z)
    replicate-add (suc a) b =
        ap (λ k. replicate k (pos 0)) (let z : suc a + b ≡ suc (a + b) = omega arith in z)
        ∙ ap (λ l. pos 0 ∷ l) (replicate-add a b)

-- ---- the output

pub put-half : (d s p : List ℤ) (at k n : ℕ) → p ≡ take n s → k ≡ n → n ≤ length s →
    put_mid at k d p ≡ paste d at s n
put-half d s p at k n e f h =
    put_mid-paste at k d p (take n s) n e (sym f) (sym (length-take-le n s h))
    ∙ ap (λ l. take at d ++ l ++ drop (at + n) d) (take-take n n s (omega arith))

two-words : (d s : List ℤ) (a b : ℤ) (n : ℕ) → 2 ≤ length d →
    paste (set (set d 0 a) 1 b) 2 s n ≡ a ∷ b ∷ take n s ++ drop (2 + n) d
two-words [] s a b n h = absurd (omega arith)
two-words (x ∷ []) s a b n h = absurd (omega arith)
two-words (x ∷ y ∷ d) s a b n h = ap (λ l. a ∷ b ∷ take n s ++ l) (same n)
  where
    two : (n : ℕ) → 2 + n ≡ suc (suc n)
    two n = omega arith

    same : (n : ℕ) → drop (2 + n) (a ∷ b ∷ d) ≡ drop (2 + n) (x ∷ y ∷ d)
    same n = ap (λ k. drop k (a ∷ b ∷ d)) (two n) ∙ sym (ap (λ k. drop k (x ∷ y ∷ d)) (two n))

-- two words, and two halves after them
pub two-halves : (d p s : List ℤ) (a b : ℤ) (n : ℕ) → 2 ≤ length d → n ≤ length p →
    paste (paste (set (set d 0 a) 1 b) 2 p n) (2 + n) s n ≡ a ∷ b ∷ (take n p ++ take n s) ++ drop (2 + 2 * n) d
two-halves d p s a b n h k =
    ap (λ l. paste l (2 + n) s n) (two-words d p a b n h)
    ∙ ap (λ l. l ++ take n s ++ drop ((2 + n) + n) (front ++ rest)) (take_at front rest (2 + n) long)
    ∙ ap (λ l. front ++ take n s ++ l)
    (ap (λ k. drop (k + n) (front ++ rest)) (sym long) ∙ drop-append-add front rest n ∙ past)
  where
    front : List ℤ
    front = a ∷ b ∷ take n p

    rest : List ℤ
    rest = drop (2 + n) d

    long : length front ≡ 2 + n
    long = omega (arith, length-take-le n p k)

    past : drop n rest ≡ drop (2 + 2 * n) d
    past = drop-drop n (2 + n) d ∙ ap (λ k. drop k d) (let z : (2 + n) + n ≡ 2 + 2 * n = omega arith in z)

-- ---- the times

module _ (part : Length → ℤ) (best : List Length) (long : length best ≡ most_vertices) where
  pub parts_more : (k : ℕ) → k < most_vertices →
      set (take k (map part best) ++ drop k (replicate most_vertices (pos 0))) k (part (get_or best k no_rows))
      ≡ take (k + 1) (map part best) ++ drop (k + 1) (replicate most_vertices (pos 0))
  parts_more k h =
      ap (set (take k (map part best) ++ drop k (replicate most_vertices (pos 0))) k)
      (sym (get_or-map part best k no_rows))
      ∙ set-prefix (map part best) (replicate most_vertices (pos 0)) k (part no_rows)
      (omega (arith, length-map best part))
      (omega (arith, length-map best part, length-replicate most_vertices (pos 0)))

  pub parts-all : (k : ℕ) → k ≡ most_vertices →
      take k (map part best) ++ drop k (replicate most_vertices (pos 0)) ≡ map part best
  parts-all k e =
      prefix-all (map part best) (replicate most_vertices (pos 0)) k (e ∙ sym (length-map best part ∙ long))
      ∙ ap (λ m. map part best ++ drop m (replicate most_vertices (pos 0))) (length-map best part ∙ long)
      ∙ append-nil (map part best)
