-- The words that are written into the lent output, over what was there.
--   written_all    the three first words and the two halves
use Rattle.std.proofs.Common.{◌≡◌, ℕ, ◌+◌, ◌-◌, ◌*◌, ◌≤◌, List, [], ◌∷◌, ◌++◌, ℤ, pos, length, get_or, take, drop}
use Rattle.std.proofs.Common.{ap, ap₂, refl, sym, ◌∙◌, arith, append_assoc, length-take}
use Rattle.std.proofs.lemmas.List.{get_or-take}
use Rattle.std.proofs.Math.Seq.{drop-append_seam, drop-drop, ext_get_or, take-append_seam}
use borrow.Rule.Slice.PartMut.{put_mid}
use Rattle.whole.proofs.Lists.Tables.{table-length, table_at}
use Rattle.answers.specs.declared.Verdict.{Verdict}
use Rattle.answers.specs.Answer.{first_of, verdict_number, words_at}

-- words are put behind those that stand in front, over what was there
put-behind : (front x before : List ℤ) (a k e : ℕ) → length front ≡ a → a + k ≡ e →
    put_mid a k (front ++ drop a before) x ≡ (front ++ x) ++ drop e before
put-behind front x before a k e p q = rw (← q, ← p)
    (ap₂ (λ f b. f ++ (x ++ b)) (take-append_seam front (drop (length front) before))
    (ap (drop k) (drop-append_seam front (drop (length front) before)) ∙ drop-drop k (length front) before)
    ∙ sym (append_assoc front x (drop (length front + k) before)))

-- the first words of an array
first-length : (N : ℕ) (x : List ℤ) → N ≤ length x → length (take N x) ≡ N
first-length N x h = simp length-take (omega arith)

first-is : (N : ℕ) (x : List ℤ) → N ≤ length x → take N x ≡ first_of N x
first-is N x h = ext_get_or (pos 0) (take N x) (first_of N x)
    (first-length N x h ∙ sym (table-length N (λ v. get_or x v (pos 0))))
    (λ i p. get_or-take N x i (pos 0) (rw (first-length N x h) at p)
    ∙ sym (table_at N (λ v. get_or x v (pos 0)) (pos 0) i (rw (first-length N x h) at p)))

pub written_all : (v : Verdict) (k : ℕ) (d : ℤ) (N : ℕ) (x y before : List ℤ) {head first second : List ℤ} →
    head ≡ verdict_number v ∷ pos k ∷ d ∷ [] → first ≡ take N x → second ≡ take N y → N ≤ length x → N ≤ length y →
    put_mid (3 + N) (3 + 2 * N - (3 + N)) (put_mid 3 (3 + N - 3) (head ++ drop 3 before) first) second
    ≡ words_at v k d N x y ++ drop (3 + 2 * N) before
unfolding words_at
written_all v k d N x y before h p q f g =
    ap₂ (λ s z. put_mid (3 + N) (3 + 2 * N - (3 + N)) s z)
    (ap₂ (λ s z. put_mid 3 (3 + N - 3) (s ++ drop 3 before) z) h (p ∙ first-is N x f)
    ∙ put-behind (verdict_number v ∷ pos k ∷ d ∷ []) (first_of N x) before 3 (3 + N - 3) (3 + N) refl (omega arith))
    (q ∙ first-is N y g)
    ∙ put-behind (verdict_number v ∷ pos k ∷ d ∷ first_of N x) (first_of N y) before (3 + N) (3 + 2 * N - (3 + N))
    (3 + 2 * N)
    (omega (arith, table-length N (λ v. get_or x v (pos 0)))) (omega arith)
