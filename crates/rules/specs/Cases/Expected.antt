-- What is expected of words, and what comes out of them by the rules: the form of the worked cases (Cases/Limits.antt,
-- Cases/Times.antt).
use Rattle.std.specs.Prelude.{◌≡◌, cond, List, [], ◌∷◌, map, ℕ, ℤ, pos, neg_ℤ, length}
use Rattle.whole.specs.Values.{pairs}
use Rattle.rules.specs.Problem.{answer_length}
use Rattle.rules.specs.Refusal.{refusal}
use Rattle.rules.specs.Answer.{answer}
use Rattle.rules.specs.Evidence.{checked}
use Rattle.rules.specs.Times.Cycle.{around, is_bad_cycle}
use Rattle.rules.specs.Times.Words.{time_edges, time_refusal, times_length}
use Rattle.rules.specs.Times.Answer.{times_answer}
use Rattle.rules.specs.Times.Check.{checked_times}
use Rattle.rules.specs.Wide.{checked_wide}

-- a refusal, an answer's words, or the checker's number of a stranger's, with numbers of one word or of four; of time
-- rows, those of times, or of a cycle with its rows and what their lengths sum to, or the number of a stranger's
pub data Expected : Type 0 where
  refused : ℕ → Expected
  answers : List ℤ → Expected
  checks : (answer : List ℤ) (number : ℕ) → Expected
  checks_wide : (answer : List ℤ) (number : ℕ) → Expected
  times : List ℤ → Expected
  cycle : (rows : List ℕ) (length-sum : ℤ × ℤ) (answer : List ℤ) → Expected
  checks_times : (answer : List ℤ) (number : ℕ) → Expected

pub record Case : Type 0 where
  pub words : List ℤ
  pub expected : Expected

-- What comes out of words, with just room enough: the refusal's number; the checker's number of an answer; what the
-- lengths of a cycle's rows sum to, and 1 where they are a bad cycle; and the answer's words
unfoldable pub comes_out : List ℤ → Expected → List ℤ
comes_out ws (refused k) = pos (refusal ws (answer_length ws)) ∷ []
comes_out ws (answers a) = pos (refusal ws (length a)) ∷ pos (checked ws a) ∷ answer ws
comes_out ws (checks a k) = pos (checked ws a) ∷ []
comes_out ws (checks_wide a k) = pos (checked_wide ws a) ∷ []
comes_out ws (times a) = pos (time_refusal ws (times_length ws)) ∷ pos (checked_times ws a) ∷ times_answer ws []
comes_out ws (cycle rows total a) =
    pos (time_refusal ws (times_length ws)) ∷ (around pairs (time_edges ws) rows).0 ∷
    (around pairs (time_edges ws) rows).1
    ∷ cond (is_bad_cycle pairs (time_edges ws) rows) (pos 1) (pos 0) ∷ pos (checked_times ws a) ∷ times_answer ws rows
comes_out ws (checks_times a k) = pos (checked_times ws a) ∷ []

-- .. and what is to come out: an answer is not refused, and the checker accepts it
unfoldable pub wanted : Expected → List ℤ
wanted (refused k) = pos k ∷ []
wanted (answers a) = pos 0 ∷ pos 8 ∷ a
wanted (checks a k) = pos k ∷ []
wanted (checks_wide a k) = pos k ∷ []
wanted (times a) = pos 0 ∷ pos 8 ∷ a
wanted (cycle rows total a) = pos 0 ∷ total.0 ∷ total.1 ∷ pos 1 ∷ pos 8 ∷ a
wanted (checks_times a k) = pos k ∷ []

abbrev pub AllRight : List Case → Type 0
AllRight cs = map (λ c. comes_out c.words c.expected) cs ≡ map (λ c. wanted c.expected) cs

-- how a number below 0 is written in a case
abbrev pub minus : ℕ → ℤ
minus k = neg_ℤ (pos k)
