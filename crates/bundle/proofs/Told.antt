-- What a reader hands back, by its number.
--   contents-refused, lengths-kept, words-kept    a refusal tells itself, and keeps what is lent
--   contents-fine, lengths-told, words-told       otherwise: edition and count, the lengths, the words
use mathlib.Core.List.{List, ◌++◌}
use mathlib.Core.Logic.{◌≢◌}
use mathlib.Core.Path.{◌≡◌, ap, ap₂, refl, sym, ◌∙◌}
use Prim.Native.Nat.{ℕ, zero, suc, ◌-◌, ◌*◌, ◌/◌}
use native.Mathlib.Omega.{arith}
use lib.IntN.{ℤ}
use lib.ListN.{drop, length, length-drop, take}
use lib.Seq.{take_all}
use Rattle.whole.specs.Tables.{table}
use Rattle.rules.specs.Program.Bytes.{words_from}
use Rattle.rules.specs.Bundle.File.{count_in, count_told, edition_in, edition_told, head_size, lengths_in, lengths_left}
use Rattle.rules.specs.Bundle.File.{pair_length, words_in, words_left}
use Rattle.rules.proofs.Program.Words.{words-behind, words-length}
use Rattle.bundle.specs.Contents.{contents_told}
use Rattle.bundle.specs.declared.Contents.{Contents}

module _ (ws : List ℤ) where
  pub contents-refused : (k n : ℕ) → k ≡ n → k ≢ 0 →
      ◌≡◌ {A = Contents} (record { refused = k; edition = 0; bodies = 0 }) (contents_told n ws)
  unfolding contents_told edition_told count_told
  contents-refused zero n e z = absurd (z refl)
  contents-refused (suc k) n e z = ap (λ m. contents_told m ws) e

  pub lengths-kept : (k : ℕ) (before : List ℤ) → k ≢ 0 → before ≡ lengths_left k ws before
  unfolding lengths_left
  lengths-kept zero before z = absurd (z refl)
  lengths-kept (suc k) before z = refl

  pub words-kept : (k : ℕ) (before : List ℤ) → k ≢ 0 → before ≡ words_left k ws before
  unfolding words_left
  words-kept zero before z = absurd (z refl)
  words-kept (suc k) before z = refl

  pub contents-fine : (n e k : ℕ) → n ≡ 0 → e ≡ edition_in ws → k ≡ count_in ws →
      ◌≡◌ {A = Contents} (record { refused = 0; edition = e; bodies = k }) (contents_told n ws)
  unfolding contents_told edition_told count_told
  contents-fine n e k q p r =
      ap₂ (λ a b. record { refused = 0; edition = a; bodies = b }) p r ∙ sym (ap (λ m. contents_told m ws) q)

  pub lengths-told : (k : ℕ) (before : List ℤ) → k ≡ count_in ws →
      table k (pair_length ws) ++ drop k before ≡ lengths_left 0 ws before
  unfolding lengths_left lengths_in
  lengths-told k before e = ap (λ n. table n (pair_length ws) ++ drop n before) e

-- the words behind the head
part-is : (bs : List ℕ) (start k : ℕ) → start ≡ 4 * head_size k → k ≡ count_in (words_from bs) →
    words_from (take (length bs - start) (drop start bs)) ≡ words_in (words_from bs)
unfolding words_in
part-is bs start k e q =
    ap words_from (take_all (length bs - start) (drop start bs) (omega (arith, length-drop start bs))
    ∙ ap (λ n. drop n bs) e)
    ∙ words-behind bs (head_size k) ∙ ap (λ n. drop (head_size n) (words_from bs)) q

pub words-told : (bs : List ℕ) (start k r : ℕ) (before : List ℤ) → start ≡ 4 * head_size k →
    k ≡ count_in (words_from bs) → r ≡ length (take (length bs - start) (drop start bs)) / 4 →
    words_from (take (length bs - start) (drop start bs)) ++ drop r before ≡ words_left 0 (words_from bs) before
unfolding words_left
words-told bs start k r before e q n =
    ap₂ (λ l m. l ++ drop m before) (part-is bs start k e q)
    (n ∙ sym (words-length (take (length bs - start) (drop start bs))) ∙ ap length (part-is bs start k e q))
