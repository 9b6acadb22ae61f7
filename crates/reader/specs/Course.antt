-- Where a reading stands: the state of the rules' reader there, and the words so far. Each says that what is read of
-- the whole text is what is read from there on.
use Rattle.std.specs.Prelude.{Bool, ◌&&◌, ◌≡◌, ℕ, suc, ◌+◌, ◌-◌, ◌*◌, ◌≤◌, eqb, ℤ, pos, length, replicate}
use Rattle.std.specs.Prelude.{Result}
use mathlib.Core.List.{List, [], ◌∷◌, ◌++◌, flatten}
use Rattle.std.proofs.Math.Option.{Option}
use Rattle.rules.specs.Limit.{Limit}
use Rattle.rules.specs.Sizes.{most_columns, most_rows, most_words}
use Rattle.rules.specs.Exchange.Reader.{Pieces, ReaderState, all_zero, behind_term, coefficient, declaring, ended}
use Rattle.rules.specs.Exchange.Reader.{going, limiting, number, on, pieces, pieces_words, read_text, refused_at, words}
use Rattle.rules.specs.Exchange.Script.{open_term}
use Rattle.rules.specs.Exchange.Tokens.{token_bytes}
use Rattle.tokens.specs.declared.Halted.{Halted}
use Rattle.tokens.specs.Followed.{Followed}
use Rattle.tokens.specs.Placed.{read_behind}
use Rattle.reader.specs.declared.numbers.Told.{Told}
use Rattle.reader.specs.Flow.{StandsAt}
use Rattle.reader.specs.Numbers.{told_place, told_value}

-- what is read from there on, in this state, is what is read of the text
pub record Reads (t : List ℕ) (S : ReaderState) (so : Followed) : Type 0 where
  pub reads : read_text t ≡ read_behind t S so
  pub stands : StandsAt t so

-- the text is refused where a reading was halted
abbrev pub Refused : List ℕ → Halted → Type 0
Refused t e = read_text t ≡ refused_at e.place

-- sizes in their range
pub record FewSizes (n m : ℕ) : Type 0 where
  pub n-least : 1 ≤ n
  pub n-most : n ≤ most_columns
  pub m-most : m ≤ most_rows

-- words at the front of the array, and zeros behind them
unfoldable pub pushed : List ℤ → List ℤ
pushed ws = ws ++ replicate (most_words - length ws) (pos 0)

-- so many columns and rows are declared
pub record DeclaredAt (t : List ℕ) (n m : ℕ) (so : Followed) : Type 0 where
  pub few : FewSizes n m
  pub on-course : Reads t (on [] (declaring n m)) so

-- all are
pub record SizedAt (t : List ℕ) (n m : ℕ) (so : Followed) : Type 0 where
  pub few : FewSizes n m
  pub on-course : Reads t (going (pieces n m [] [])) so

-- i rows are read
pub record RowsAt (t : List ℕ) (n m i : ℕ) (ws : List ℤ) (so : Followed) : Type 0 where
  pub few : FewSizes n m
  pub rows : List (List ℤ)
  pub count : length rows ≡ i
  pub flat : length (flatten rows) ≡ i * n
  pub words : ws ≡ pushed (pos n ∷ pos m ∷ flatten rows)
  pub on-course : Reads t (going (pieces n m rows [])) so

-- .. and j coefficients of the next one, which are all 0 or not
pub record TermsAt (t : List ℕ) (n m i j : ℕ) (ws : List ℤ) (blank : Bool) (so : Followed) : Type 0 where
  pub few : FewSizes n m
  pub rows : List (List ℤ)
  pub row : List ℤ
  pub count : length rows ≡ i
  pub flat : length (flatten rows) ≡ i * n
  pub size : length row ≡ j
  pub blanks : blank ≡ all_zero row
  pub words : ws ≡ pushed (pos n ∷ pos m ∷ (flatten rows ++ row))
  pub on-course : Reads t (behind_term (pieces n m rows []) row) so

-- a term is read: the next coefficient of a row, which is not 0 where it is the last one and all others are
pub record TermGoes (t : List ℕ) (so : Followed) (j : ℕ) (blank : Bool) (r : Result Told Halted) : Type 0 where
  pub goes : (P : Pieces) (row : List ℤ) → length row ≡ j → blank ≡ (eqb (suc j) P.n && all_zero row) →
      read_behind t (on (token_bytes open_term) (number (coefficient P row))) so
      ≡ read_behind t (behind_term P (row ++ (told_value r ∷ []))) (told_place r)
  pub stands : StandsAt t (told_place r)

-- .. and all of its coefficients
pub record TermsDone (t : List ℕ) (n m i : ℕ) (ws : List ℤ) (so : Followed) : Type 0 where
  pub blank : Bool
  pub terms : TermsAt t n m i n ws blank so

-- what was read of a problem with all its rows, and the limits before number `count`
pub record HeldWords (n m count : ℕ) (ws : List ℤ) : Type 0 where
  pub few : FewSizes n m
  pub rows : List (List ℤ)
  pub limits : List (Option Limit)
  pub flat : length (flatten rows) ≡ m * n
  pub all-rows : length rows ≡ m
  pub numbered : length limits ≡ count
  pub few-limits : count ≤ 2 * (n + m)
  pub words : ws ≡ pushed (pieces_words (pieces n m rows limits))

-- those limits are read
pub record LimitsAt (t : List ℕ) (n m count : ℕ) (ws : List ℤ) (so : Followed) : Type 0 where
  pub held : HeldWords n m count ws
  pub on-course : Reads t (on [] (limiting (pieces n m held.rows held.limits))) so

-- the whole problem is read, and nothing may follow
pub record EndedAt (t : List ℕ) (n m : ℕ) (ws : List ℤ) (so : Followed) : Type 0 where
  pub count : ℕ
  pub held : HeldWords n m count ws
  pub on-course : Reads t (on [] (ended (pieces n m held.rows held.limits))) so

-- the whole text is read, and its words, so many, stand at the front of the array
pub record WholeAt (t : List ℕ) (ws : List ℤ) (count : ℕ) : Type 0 where
  pub own : List ℤ
  pub size : length own ≡ count
  pub room : count ≤ most_words
  pub front : ws ≡ pushed own
  pub reads : read_text t ≡ words own
