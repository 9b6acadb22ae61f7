-- The checker's number for words that are accepted, by the answer's length and verdict.
--   length-is                                     how long an answer must be, from the sizes that were read
--   can-judged, cannot-judged, other-judged
use mathlib.Core.Path.{◌≡◌, refl, ap, ap₂, sym, ◌∙◌}
use mathlib.Core.Bool.{Bool, true, false, cond}
use mathlib.Core.List.{List}
use mathlib.Core.Logic.{◌≢◌}
use Prim.Native.Nat.{ℕ, ◌+◌, ◌*◌, ◌≤◌}
use lib.IntN.{ℤ, pos}
use lib.ListN.{length}
use Rattle.whole.specs.Numbers.{eq_z}
use Rattle.whole.proofs.Tells.{tells-eq_z, tells-false, tells-true}
use Rattle.rules.specs.Problem.{answer_length, m_of, n_of, problem}
use Rattle.rules.specs.Refusal.{problem_refusal}
use Rattle.rules.specs.Evidence.{verdict_of, shows_can, shows_cannot, accepted, checked}
use Rattle.rules.proofs.Refusal.Exactly.{room-tells}
use Rattle.rules.proofs.Evidence.Checked.{checked-by-answer}
use Rattle.parts.proofs.Laws.Judged.{one-or-two}

pub length-is : (ws : List ℤ) {n m : ℕ} → n ≡ n_of ws → m ≡ m_of ws → 3 + 2 * (n + m) ≡ answer_length ws
length-is ws e q = ap₂ (λ n m. 3 + 2 * (n + m)) e q

module _ (ws a : List ℤ) (fine : problem_refusal ws ≡ 0) where
  module _ (long : answer_length ws ≤ length a) where
    judged : checked ws a ≡ cond (accepted (problem ws) a) 8 9
    judged = checked-by-answer ws a fine
        ∙ ap (λ b. cond b 7 (cond (accepted (problem ws) a) 8 9)) (tells-false (room-tells ws (length a)) long)

    of-verdict : (one two : Bool) → eq_z (verdict_of a) (pos 1) ≡ one → eq_z (verdict_of a) (pos 2) ≡ two →
        accepted (problem ws) a ≡ cond one (shows_can (problem ws) a) (cond two (shows_cannot (problem ws) a) false)
    unfolding accepted
    of-verdict one two e f = ap (λ b. cond b (shows_can (problem ws) a)
        (cond (eq_z (verdict_of a) (pos 2)) (shows_cannot (problem ws) a) false)) e
        ∙ ap (λ b. cond one (shows_can (problem ws) a) (cond b (shows_cannot (problem ws) a) false)) f

    pub can-judged : verdict_of a ≡ pos 1 → checked ws a ≡ cond (shows_can (problem ws) a) 8 9
    can-judged e = judged
        ∙ ap (λ b. cond b 8 9) (of-verdict true (eq_z (verdict_of a) (pos 2)) (tells-true (tells-eq_z _ (pos 1)) e)
        refl)

    pub cannot-judged : verdict_of a ≡ pos 2 → checked ws a ≡ cond (shows_cannot (problem ws) a) 8 9
    cannot-judged e = judged
        ∙ ap (λ b. cond b 8 9) (of-verdict false true
        (tells-false (tells-eq_z (verdict_of a) (pos 1)) (λ f. one-or-two (sym f ∙ e)))
        (tells-true (tells-eq_z _ (pos 2)) e))

    pub other-judged : verdict_of a ≢ pos 1 → verdict_of a ≢ pos 2 → checked ws a ≡ 9
    other-judged n m = judged
        ∙ ap (λ b. cond b 8 9) (of-verdict false false (tells-false (tells-eq_z (verdict_of a) (pos 1)) n)
        (tells-false (tells-eq_z (verdict_of a) (pos 2)) m))
