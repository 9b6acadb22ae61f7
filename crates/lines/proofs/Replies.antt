-- What the program prints for words, from what the solver answers with room for the most words of an answer, within any
-- most rows.
--   room-enough, fine-words             an accepted problem has room; the solver's 0 is the problem's 0
--   replied-refused, replied-answered       the text by the solver's number
--   written-long                        the output holds all of the answer
--   program-refused, program-replied    the same for bytes
--   words-few, words-front              how many words there are, and where they stand
--   put_as                              a text that is another is put as it
--   vars-few                            as many variables as the writer takes
--   front-words, front-words-long             words that were made of bytes stand at the front
use mathlib.Core.List.{List, [], ◌∷◌, ◌++◌}
use mathlib.Core.Logic.{◌≢◌}
use mathlib.Core.Path.{◌≡◌, ap, refl, sym, ◌∙◌}
use Prim.Native.Nat.{ℕ, zero, suc, ◌/◌, ◌≤◌}
use native.Mathlib.Omega.{arith}
use lib.IntN.{ℤ, pos}
use lib.ListN.{drop, length, take, length-append, get_or-append}
use Rattle.rules.specs.Answer.{answer, written}
use Rattle.rules.specs.Problem.{answer_length, vars_of}
use Rattle.rules.specs.Program.Bytes.{count_refusal, words_from}
use Rattle.rules.specs.Program.Reply.{program_text, reply_after, reply_to}
use Rattle.rules.specs.Refusal.{problem_refusal, problem_refusal_within, refusal_within}
use Rattle.rules.specs.Sizes.{most_answer, most_rows, most_variables, most_words}
use Rattle.rules.specs.Program.Text.{answer_text, refusal_text}
use Rattle.rules.proofs.Refusal.Accepted.{m-few, n-few}
use Rattle.rules.proofs.Answer.Shape.{answer-shaped}
use Rattle.rules.proofs.Program.Counts.{count-fine}
use Rattle.rules.proofs.Program.Words.{words-length}
use Rattle.rules.proofs.Program.Same.{answer-text-same}
use Rattle.put.specs.Put.{PutShort}
use Rattle.put.specs.declared.Writer.{Writer}
use Rattle.solver.proofs.Laws.Refusals.{accepted-of, fine-within, within_none, within-problem}

pub put_as : {text other : List ℕ} {before after : Writer} {most : ℕ} → text ≡ other →
    PutShort most before text after → PutShort most before other after
put_as e p = rw e at p

module _ (rows : ℕ) (few : rows ≤ most_rows) (ws : List ℤ) where
  abbrev own : ℕ
  own = problem_refusal_within rows ws

  fine : own ≡ 0 → problem_refusal ws ≡ 0
  fine = fine-within rows ws few

  pub vars-few : own ≡ 0 → vars_of ws ≤ most_variables
  vars-few e = let n = n-few (accepted-of ws (fine e)) in let m = m-few (accepted-of ws (fine e)) in omega arith

  room-enough : own ≡ 0 → answer_length ws ≤ most_answer
  room-enough e = let h = vars-few e in omega arith

  pub fine-words : (r : ℕ) → r ≡ refusal_within rows ws most_answer → r ≡ 0 → own ≡ 0
  fine-words r e z = go own refl
    where
      go : (k : ℕ) → own ≡ k → own ≡ 0
      go zero q = q
      go (suc k) q = let n : own ≢ 0 = λ f. let y : suc k ≡ 0 = sym q ∙ f in omega arith in
          within-problem rows ws most_answer n ∙ sym e ∙ z

  pub replied-refused : (r : ℕ) → r ≡ refusal_within rows ws most_answer → r ≢ 0 → refusal_text r ≡ reply_to own ws
  unfolding reply_to
  replied-refused r e n = go own refl
    where
      go : (k : ℕ) → own ≡ k → refusal_text r ≡ reply_to own ws
      go zero q = absurd (n (e ∙ sym (within_none rows ws most_answer q (room-enough q))))
      go (suc k) q =
          let f : own ≢ 0 = λ f. let y : suc k ≡ 0 = sym q ∙ f in omega arith in
          ap refusal_text (e ∙ sym (within-problem rows ws most_answer f) ∙ q) ∙ sym (ap (λ j. reply_to j ws) q)

  -- ---- the answer

  pub written-long : (before : List ℤ) → answer_length ws ≤ length (written 0 ws before)
  unfolding written
  written-long before = simp length-append (let h = (answer-shaped ws).many in omega arith)

  pub replied-answered : (before : List ℤ) → own ≡ 0 → answer_text (written 0 ws before) (vars_of ws) ≡ reply_to own ws
  unfolding written reply_to
  replied-answered before e =
      answer-text-same (answer ws ++ drop (answer_length ws) before) (answer ws) (vars_of ws)
      (λ i h. get_or-append (answer ws) (drop (answer_length ws) before) (pos 0) i (rw (answer-shaped ws).many h))
      ∙ sym (ap (λ k. reply_to k ws) e)

-- ---- the program: bytes first

module _ (bs : List ℕ) where
  pub program-refused : (r : ℕ) → r ≡ count_refusal (length bs) → r ≢ 0 → refusal_text r ≡ program_text bs
  unfolding program_text reply_after
  program-refused r e n = go (count_refusal (length bs)) refl
    where
      go : (k : ℕ) → count_refusal (length bs) ≡ k → refusal_text r ≡ reply_after (count_refusal (length bs))
          (words_from bs)
      go zero q = absurd (n (e ∙ q))
      go (suc k) q = ap refusal_text (e ∙ q) ∙ sym (ap (λ j. reply_after j (words_from bs)) q)

  pub words-few : count_refusal (length bs) ≡ 0 → length bs / 4 ≤ most_words
  words-few e = let h = (count-fine (length bs)).0 e in omega arith

  pub program-replied : count_refusal (length bs) ≡ 0 →
      reply_to (problem_refusal (words_from bs)) (words_from bs) ≡ program_text bs
  unfolding program_text reply_after
  program-replied e = sym (ap (λ j. reply_after j (words_from bs)) e)

  -- the words at the front of an array that they were put into
  words-front : (rest : List ℤ) (k : ℕ) → k ≡ length bs / 4 → take k (words_from bs ++ rest) ≡ words_from bs
  words-front rest k e = take-append-all (words_from bs) rest k (e ∙ sym (words-length bs))
    where
      take-append-all : (s t : List ℤ) (i : ℕ) → i ≡ length s → take i (s ++ t) ≡ s
      take-append-all [] t zero q = refl
      take-append-all [] t (suc i) q = let z : ⊥ = omega arith in absurd z
      take-append-all (a ∷ s) t zero q = let z : ⊥ = omega arith in absurd z
      take-append-all (a ∷ s) t (suc i) q = ap (λ l. a ∷ l) (take-append-all s t i (omega arith))

-- words that were made of bytes stand at the front
module _ (bytes : List ℕ) (rest : List ℤ) {k : ℕ} {words : List ℤ} (count : k ≡ length bytes / 4)
    (content : words ≡ words_from bytes ++ rest) where
  pub front-words : take k words ≡ words_from bytes
  front-words = ap (take k) content ∙ words-front bytes rest k count

  pub front-words-long : k ≡ length (take k words)
  front-words-long = count ∙ sym (ap length front-words ∙ words-length bytes)
