-- What the bodies of an accepted file are.
--   bodies-many      there are as many as the file says
--   body-at          body i of the list is body i
--   body-long        body i is as long as its pair says
--   bodies-are       body i is the part of the bodies' words that stands behind the lengths before it
--   bodies-joined    all bodies, one behind the other, are the bodies' words
use mathlib.Core.List.{List, [], flatten, ◌++◌, ◌∷◌}
use mathlib.Core.List.{append_assoc, append-nil}
use mathlib.Core.Path.{◌≡◌, ap, ap₂, sym, ◌∙◌}
use Prim.Native.Nat.{ℕ, zero, suc, ◌+◌, ◌≤◌, ◌<◌}
use native.Mathlib.Omega.{arith}
use lib.IntN.{ℤ, pos, nat_abs}
use lib.ListN.{drop, get_or, length, take, length-drop, take-append-drop, drop_of_length-le}
use lib.Seq.{drop-drop, length-take-le}
use Rattle.whole.specs.Tables.{table, table_from}
use Rattle.whole.specs.Sums.{sum}
use Rattle.whole.proofs.Lists.Tables.{table_at, table-last, table-length}
use Rattle.whole.proofs.Numbers.Sums.{sum_same}
use Rattle.rules.specs.Problem.{word}
use Rattle.rules.specs.Bundle.File.{bodies_in, body_in, count_in, head_size, pair_length, lengths_in, words_in}
use Rattle.rules.specs.Bundle.Facts.{FileAccepted}
use Rattle.rules.proofs.Bundle.Places.{count_before, counts-next, counts-none, first-own, place, place_end}
use Rattle.rules.proofs.Bundle.Places.{place-within, sum-counts}

pub flatten-last : {A : Type 0} (ls : List (List A)) (l : List A) → flatten (ls ++ (l ∷ [])) ≡ flatten ls ++ l
unfolding flatten
flatten-last [] l = append-nil l
flatten-last (m ∷ ls) l = ap (λ r. m ++ r) (flatten-last ls l) ∙ sym (append_assoc m (flatten ls) l)

pub lengths-many : (ws : List ℤ) → length (lengths_in ws) ≡ count_in ws
unfolding lengths_in
lengths-many ws = table-length (count_in ws) (pair_length ws)

pub length_at_lem : (ws : List ℤ) (i : ℕ) → i < count_in ws → word (lengths_in ws) i ≡ pair_length ws i
unfolding lengths_in
length_at_lem ws i h = table_at (count_in ws) (pair_length ws) (pos 0) i h

pub bodies-many : (ws : List ℤ) → length (bodies_in ws) ≡ count_in ws
unfolding bodies_in
bodies-many ws = table-length (count_in ws) (body_in ws)

pub body-at : (ws : List ℤ) (i : ℕ) → i < count_in ws → get_or (bodies_in ws) i [] ≡ body_in ws i
unfolding bodies_in
body-at ws i h = table_at (count_in ws) (body_in ws) [] i h

module _ {bs : List ℕ} {ws : List ℤ} (A : FileAccepted bs ws) where
  abbrev size : ℕ → ℕ
  size i = nat_abs (pair_length ws i)

  -- by where it starts
  body_is_lem : (i : ℕ) → i < count_in ws → body_in ws i ≡ take (size i) (drop (place A i) ws)
  unfolding body_in
  body_is_lem i h = ap (λ z. take (size i) (drop (nat_abs z) ws)) (first-own A i h)

  pub body-long : (i : ℕ) → i < count_in ws → length (body_in ws i) ≡ size i
  body-long i h = ap length (body_is_lem i h) ∙ length-take-le (size i) (drop (place A i) ws)
      (omega (arith, length-drop (place A i) ws, place-within A i h))

  pub bodies-are : (i : ℕ) → i < count_in ws → body_in ws i
      ≡ take (nat_abs (word (lengths_in ws) i)) (drop (nat_abs (sum i (word (lengths_in ws)))) (words_in ws))
  unfolding words_in
  bodies-are i h = body_is_lem i h ∙ ap₂ take (ap nat_abs (sym (length_at_lem ws i h)))
      (sym (drop-drop (count_before i (pair_length ws)) (head_size (count_in ws)) ws)
      ∙ ap (λ z. drop (nat_abs z) (drop (head_size (count_in ws)) ws)) (sym before))
    where
      before : sum i (word (lengths_in ws)) ≡ pos (count_before i (pair_length ws))
      before = sum_same i (word (lengths_in ws)) (pair_length ws) (λ j l. length_at_lem ws j (omega arith))
          ∙ sum-counts (count_in ws) (pair_length ws) A.lengths i (omega arith)

  -- a body, and what stands behind it
  body-then : (i : ℕ) → i < count_in ws → body_in ws i ++ drop (place A (suc i)) ws ≡ drop (place A i) ws
  body-then i h =
      ap₂ ◌++◌ (body_is_lem i h)
      (ap (λ n. drop n ws) (let z : place A (suc i) ≡ place A i + size i = omega (arith, counts-next i (pair_length ws))
      in z) ∙ sym (drop-drop (size i) (place A i) ws))
      ∙ take-append-drop (size i) (drop (place A i) ws)

  joined : (i : ℕ) → i ≤ count_in ws → flatten (table i (body_in ws)) ++ drop (place A i) ws ≡ words_in ws
  unfolding flatten table_from words_in
  joined zero h = ap (λ n. drop n ws) (let z : place A 0 ≡ head_size (count_in ws) =
      omega (arith, counts-none (pair_length ws)) in z)
  joined (suc i) h =
      ap (λ l. flatten l ++ drop (place A (suc i)) ws) (table-last i (body_in ws))
      ∙ ap (λ l. l ++ drop (place A (suc i)) ws) (flatten-last (table i (body_in ws)) (body_in ws i))
      ∙ append_assoc (flatten (table i (body_in ws))) (body_in ws i) (drop (place A (suc i)) ws)
      ∙ ap (λ l. flatten (table i (body_in ws)) ++ l) (body-then i h)
      ∙ joined i (omega arith)

  pub bodies-joined : flatten (bodies_in ws) ≡ words_in ws
  unfolding bodies_in
  bodies-joined =
      let all = flatten (table (count_in ws) (body_in ws)) in
      sym (ap (λ l. all ++ l) (drop_of_length-le ws {i = place A (count_in ws)} (omega (arith, place_end A)))
      ∙ append-nil all)
      ∙ joined (count_in ws) (omega arith)
