-- What is told of a text that was read into room for the most words.
--   place_short           the line of a place is short
--   lab-long, lab-short   a text that is too long, and one that is not
--   told-place            a refusal has the place of the text
--   TextTold, text-told          else the words of the text stand at the front
use mathlib.Core.Bool.{false}
use mathlib.Core.List.{List, [], ◌++◌, ◌∷◌}
use mathlib.Core.Logic.{◌≢◌}
use mathlib.Core.Path.{ap, refl, sym, ◌∙◌, ◌≡◌}
use Prim.Native.Nat.{ℕ, suc, zero, ◌^◌, ◌<◌, ◌≤◌}
use native.Mathlib.Nat.{mul-le-mul}
use native.Mathlib.Omega.{arith}
use borrow.Author.Tests.{le-ltb, lt-ltb}
use lib.Dec.{ltb}
use lib.IntN.{ℤ}
use lib.ListN.{drop, length, length-append, take}
use Rattle.rules.proofs.Exchange.Exact.{read_only}
use Rattle.rules.proofs.Program.Numbers.{digits-short}
use Rattle.rules.proofs.Refusal.Accepted.{m-few, n-few}
use Rattle.rules.specs.Exchange.Reader.{TextOutcome, read_text, refused_at, words}
use Rattle.rules.specs.Program.Reply.{reply_to}
use Rattle.rules.specs.Program.Text.{ascii, decimal, line}
use Rattle.rules.specs.Refusal.{Accepted, problem_refusal}
use Rattle.rules.specs.Sizes.{most_input, most_rows, most_words}
use Rattle.reader.specs.Taken.{fitting_by, kept_by, taken_by, taken_output}
use Rattle.reader.specs.declared.Taken.{Taken}
use Rattle.rules.specs.Exchange.Lab.{lab_after, lab_text, outcome_text, place_text}

pub place_short : (p : ℕ) → p < 2 ^ 64 → length (place_text p) ≤ 32
unfolding place_text line decimal ascii
place_short p h = simp length-append (omega (arith, digits-short 19 p (omega (arith, h))))

take-front : (s rest : List ℤ) (i : ℕ) → i ≡ length s → take i (s ++ rest) ≡ s
take-front [] rest zero q = refl
take-front [] rest (suc i) q = let z : ⊥ = omega arith in absurd z
take-front (a ∷ s) rest zero q = let z : ⊥ = omega arith in absurd z
take-front (a ∷ s) rest (suc i) q = ap (λ l. a ∷ l) (take-front s rest i (omega arith))

front : (ws after rest : List ℤ) (i : ℕ) → i ≡ length ws → after ≡ ws ++ rest → take i after ≡ ws
front ws after rest i e q = ap (take i) q ∙ take-front ws rest i e

-- the first words of a slice are those of the text
pub record TextTold (t : List ℕ) (count : ℕ) (after : List ℤ) : Type 0 where
  pub few : count ≤ most_words
  pub many : count ≡ length (take count after)
  pub text : outcome_text (read_text t) ≡ reply_to (problem_refusal (take count after)) (take count after)

module _ (t : List ℕ) where
  pub lab-long : most_input < length t → place_text most_input ≡ lab_text t
  unfolding lab_text lab_after
  lab-long h = rw (lt-ltb most_input (length t) h) refl

  pub lab-short : length t ≤ most_input → outcome_text (read_text t) ≡ lab_text t
  unfolding lab_text lab_after
  lab-short h = rw (le-ltb most_input (length t) h) refl

  words-fit : (ws : List ℤ) → read_text t ≡ words ws → length ws ≤ most_words
  words-fit ws e =
      let A : Accepted most_rows ws = (read_only t ws e).0 in
      omega (arith, A.exact, mul-le-mul (m-few A) (n-few A), n-few A, m-few A)

  -- room for the most words is enough
  fitting : (ws : List ℤ) → read_text t ≡ words ws → ltb most_words (length ws) ≡ false
  fitting ws e = le-ltb most_words (length ws) (words-fit ws e)

  module _ (r : Taken) (e : r ≡ taken_by (read_text t) most_words) where
    told-words : (ws : List ℤ) → read_text t ≡ words ws → r ≡ record { refused = 0; count = length ws }
    unfolding taken_by fitting_by
    told-words ws q = e ∙ ap (λ o. taken_by o most_words) q ∙ ap (fitting_by ws) (fitting ws q)

    told-refused : (p : ℕ) → read_text t ≡ refused_at p → r ≡ record { refused = 60; count = p }
    unfolding taken_by
    told-refused p q = e ∙ ap (λ o. taken_by o most_words) q

    pub told-place : r.refused ≢ 0 → place_text r.count ≡ outcome_text (read_text t)
    unfolding outcome_text
    told-place h = go (read_text t) refl
      where
        go : (o : TextOutcome) → read_text t ≡ o → place_text r.count ≡ outcome_text o
        go (words ws) q = absurd (h (ap (λ (x : Taken). x.refused) (told-words ws q)))
        go (refused_at p) q = ap (λ (x : Taken). place_text x.count) (told-refused p q)

    pub text-told : (before after : List ℤ) → length before ≡ most_words → after ≡ taken_output (read_text t) before →
        r.refused ≡ 0 → TextTold t r.count after
    unfolding outcome_text taken_output kept_by
    text-told before after l k h = go (read_text t) refl
      where
        go : (o : TextOutcome) → read_text t ≡ o → TextTold t r.count after
        go (words ws) q =
            let many : r.count ≡ length ws = ap (λ (x : Taken). x.count) (told-words ws q) in
            let laid : after ≡ ws ++ drop (length ws) before =
            k ∙ ap (λ o. taken_output o before) q
            ∙ ap (λ b. kept_by ws b before) (ap (λ n. ltb n (length ws)) l ∙ fitting ws q) in
            record {
              few = omega (arith, many, words-fit ws q);
              many = many ∙ sym (ap length (front ws after (drop (length ws) before) r.count many laid));
              text = ap outcome_text q
                  ∙ sym (ap (λ (s : List ℤ). reply_to (problem_refusal s) s)
                  (front ws after (drop (length ws) before) r.count many laid));
            }
        go (refused_at p) q =
            let z : r.refused ≡ 60 = ap (λ (x : Taken). x.refused) (told-refused p q) in
            let f : ⊥ = omega (arith, z, h) in absurd f
