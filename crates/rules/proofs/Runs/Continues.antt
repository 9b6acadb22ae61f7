-- A continue's number and output, of a state on the way of its run.
--   slice-exactly             7 exactly where the output has no room for an answer, be there one or not, else 0
--                             (`slice_table`, specs/Facts/Runs/Slices)
--   slice-fine                0 exactly where it has
--   slice-many                an answer has 3 + 2(n+m) words
--   slice-told                that there is an answer is told exactly where there is one
--   slice_kept                without an answer, and where it is refused, the output stays
--   slice-length, slice-past  an output keeps its length and the words past the answer
use mathlib.Core.Bool.{true}
use mathlib.Core.List.{List, [], ◌∷◌}
use mathlib.Core.Logic.{◌↔◌}
use mathlib.Core.Option.{Option, none-ne-some, none, some}
use mathlib.Core.Path.{ap, refl, sym, ◌∙◌, ◌≡◌}
use Prim.Native.Nat.{ℕ, ◌*◌, ◌+◌, ◌<◌, ◌≤◌}
use native.Mathlib.Decide.{dec_lt}
use native.Mathlib.Omega.{arith}
use lib.Dec.{ltb}
use lib.IntN.{pos, ℤ}
use lib.ListN.{length}
use Rattle.whole.proofs.Lists.Prefix.{laid-long, laid-past}
use Rattle.whole.proofs.Bools.{true-false}
use Rattle.whole.proofs.Tells.{tells-lt}
use Rattle.rules.proofs.Answer.Shape.{shaped}
use Rattle.rules.proofs.Refusal.First.{Tested, first-exactly, first_fine, no_test, tested}
use Rattle.rules.specs.Answer.{answer_from}
use Rattle.rules.specs.Facts.Refusal.{AllFine, First}
use Rattle.rules.specs.Facts.Runs.Slices.{OnWay, cut, slice_table}
use Rattle.rules.specs.Problem.{vars, word}
use Rattle.rules.specs.Runs.Slices.{Slice, is_answer, slice_answer, slice_length, slice_output, slice_refusal}

slice-tested : (S : Slice (ℤ × ℤ)) (room : ℕ) → Tested ((ltb room (slice_length S), 7) ∷ []) (slice_table S room)
slice-tested S room = tested (tells-lt room (3 + 2 * vars S.problem)) no_test

pub slice-exactly : (S : Slice (ℤ × ℤ)) (room k : ℕ) → (slice_refusal S room ≡ k) ↔ First (slice_table S room) k
unfolding slice_refusal
slice-exactly S room k = first-exactly (slice-tested S room) k

pub slice-fine : (S : Slice (ℤ × ℤ)) (room : ℕ) → (slice_refusal S room ≡ 0) ↔ AllFine (slice_table S room)
unfolding slice_refusal
slice-fine S room = first_fine (slice-tested S room) (λ e. let z : ⊥ = omega arith in z, tt)

pub slice-told : (o : Option (List ℤ)) → (is_answer o ≡ true) ↔ ((a : List ℤ) × (o ≡ some a))
slice-told none = (λ e. true-false e refl, λ (a, e). absurd (none-ne-some a e))
slice-told (some a) = (λ e. (a, refl), λ e. refl)

pub slice_kept : (n : ℕ) (before : List ℤ) → slice_output none n before ≡ before
unfolding slice_output
slice_kept n before = refl

module _ (S : Slice (ℤ × ℤ)) (W : OnWay S) (b : ℕ) where
  slice-many : (a : List ℤ) → slice_answer S b ≡ some a → length a ≡ 3 + 2 * vars S.problem
  slice-many a e = go (dec_lt (S.count + b) W.run.count)
    where
      is : slice_answer S b ≡ slice_answer (cut S.problem W.from S.count) b
      is = ap (λ x. slice_answer (record { problem = S.problem; state = x; count = S.count }) b) W.state-is

      go : Dec (S.count + b < W.run.count) → length a ≡ 3 + 2 * vars S.problem
      go (yes h) = absurd (none-ne-some a (sym (W.run.goes_on b S.count h) ∙ sym is ∙ e))
      go (no n) =
          let y : some a ≡ some (answer_from S.problem W.from) =
          sym e ∙ is ∙ W.run.answers b S.count W.reached (omega arith) in
          let z : a ≡ answer_from S.problem W.from = cc in
          ap length z ∙ (shaped S.problem W.from W.ready).many

  module _ (before : List ℤ) (room : slice_length S ≤ length before) where
    abbrev out : Option (List ℤ) → List ℤ
    out o = slice_output o (slice_length S) before

    pub slice-length : length (slice_output (slice_answer S b) (slice_length S) before) ≡ length before
    unfolding slice_output
    slice-length = go (slice_answer S b) refl
      where
        go : (o : Option (List ℤ)) → slice_answer S b ≡ o → length (out o) ≡ length before
        go none e = refl
        go (some a) e = laid-long a before (slice_length S) (slice-many a e) room

    pub slice-past : (i : ℕ) → word (slice_output (slice_answer S b) (slice_length S) before) (slice_length S + i)
        ≡ word before (slice_length S + i)
    unfolding slice_output
    slice-past i = go (slice_answer S b) refl
      where
        go : (o : Option (List ℤ)) → slice_answer S b ≡ o →
            word (out o) (slice_length S + i) ≡ word before (slice_length S + i)
        go none e = refl
        go (some a) e = laid-past a before (slice_length S) (slice-many a e) i (pos 0)
