-- What is printed for a day's file, in plain words.
--   day-refused       a refused file has its own line
--   day-is            otherwise the text is each body's own text, one behind the other
--   day-lines         .. as a loop over the bodies puts them
--   body_refused, body-answered    a body's own text: its refusal's line, or its answer's text
use mathlib.Core.List.{List, [], flatten, map, ◌++◌, ◌∷◌}
use mathlib.Core.Path.{◌≡◌, ap, refl, ◌∙◌}
use Prim.Native.Nat.{ℕ, zero, suc}
use lib.IntN.{ℤ}
use Rattle.whole.specs.Tables.{table, table_from}
use Rattle.whole.proofs.Lists.Tables.{table-last}
use Rattle.rules.specs.Problem.{vars_of}
use Rattle.rules.specs.Answer.{answer}
use Rattle.rules.specs.Program.Bytes.{words_from}
use Rattle.rules.specs.Program.Reply.{reply_to}
use Rattle.rules.specs.Program.Text.{answer_text, lines_below, refusal_text}
use Rattle.rules.specs.Bundle.File.{bodies_in, body_in, count_in, edition_in, file_refusal}
use Rattle.rules.specs.Bundle.Day.{body_refusal, body_text, day_after, day_text}
use Rattle.rules.proofs.Bundle.Bodies.{flatten-last}

module _ (e : ℕ) (body : List ℤ) where
  pub body_refused : (k : ℕ) → body_refusal e body ≡ suc k → body_text e body ≡ refusal_text (suc k)
  unfolding body_text reply_to
  body_refused k q = rw q refl

  pub body-answered : body_refusal e body ≡ 0 → body_text e body ≡ answer_text (answer body) (vars_of body)
  unfolding body_text reply_to
  body-answered q = rw q refl

module _ (bs : List ℕ) where
  pub day-refused : (k : ℕ) → file_refusal bs ≡ suc k → day_text bs ≡ refusal_text (suc k)
  unfolding day_text day_after
  day-refused k q = rw q refl

  pub day-is : file_refusal bs ≡ 0 →
      day_text bs ≡ flatten (map (body_text (edition_in (words_from bs))) (bodies_in (words_from bs)))
  unfolding day_text day_after
  day-is q = rw q refl

-- a list made of a function, mapped and joined
map_last : {A B : Type 0} (f : A → B) (l : List A) (a : A) → map f (l ++ (a ∷ [])) ≡ map f l ++ (f a ∷ [])
map_last f [] a = refl
map_last f (b ∷ l) a = ap (λ r. f b ∷ r) (map_last f l a)

lines-joined : {A : Type 0} (f : A → List ℕ) (g : ℕ → A) (k : ℕ) →
    flatten (map f (table k g)) ≡ lines_below k (λ i. f (g i))
unfolding flatten table_from lines_below
lines-joined f g zero = refl
lines-joined f g (suc k) =
    ap (λ l. flatten (map f l)) (table-last k g)
    ∙ ap flatten (map_last f (table k g) (g k))
    ∙ flatten-last (map f (table k g)) (f (g k))
    ∙ ap (λ l. l ++ f (g k)) (lines-joined f g k)

pub day-lines : (bs : List ℕ) → file_refusal bs ≡ 0 → day_text bs
    ≡ lines_below (count_in (words_from bs)) (λ i. body_text (edition_in (words_from bs)) (body_in (words_from bs) i))
unfolding bodies_in
day-lines bs q =
    day-is bs q ∙ lines-joined (body_text (edition_in (words_from bs))) (body_in (words_from bs))
    (count_in (words_from bs))
