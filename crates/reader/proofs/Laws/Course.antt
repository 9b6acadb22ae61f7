-- From one place of a reading to the next.
--   on-passed, on-name, on_same, on-as        a reading goes on: behind tokens, a name, in an equal state
--   refused-at, reached                        or it is halted
--   declared-start, declared-column, declared-row, declared-all   the declarations
--   course-rows, row_opened, terms-more, terms-refused, row-closed   the rows
use mathlib.Core.Bool.{Bool, true, false, cond, ◌&&◌}
use mathlib.Core.List.{List, [], ◌∷◌, ◌++◌, append_assoc, append-nil, flatten}
use mathlib.Core.Path.{◌≡◌, refl, sym, ◌∙◌, ap, subst}
use Prim.Native.Nat.{ℕ, suc, ◌+◌, ◌*◌, ◌≤◌, ◌<◌}
use native.Mathlib.Nat.{mul-le-mul}
use native.Mathlib.Omega.{arith}
use borrow.Author.Tests.{le-ltb, lt-ltb}
use lib.Dec.{eqb, ltb}
use lib.IntN.{ℤ, pos}
use lib.ListN.{length, length-append, set}
use Rattle.whole.specs.Numbers.{eq_z}
use Rattle.rules.specs.Sizes.{most_columns, most_rows, most_words}
use Rattle.rules.specs.Exchange.Tokens.{token_bytes}
use Rattle.rules.specs.Exchange.Script.{assert_row, close, column_name, declare_const, end_assert, of_real, open_sum}
use Rattle.rules.specs.Exchange.Script.{open_term, row_name}
use Rattle.rules.specs.Exchange.Reader.{Bytes, Pieces, ReaderState, Stage, ahead, all_zero, behind_term, closes}
use Rattle.rules.specs.Exchange.Reader.{coefficient}
use Rattle.rules.specs.Exchange.Reader.{declaring, going, naming, number, on, opens, outset, pieces}
use Rattle.rules.specs.Exchange.Reader.{row_head, with_row}
use Rattle.rules.proofs.Exchange.Reader.Rows.{zero-then}
use Rattle.tokens.specs.Followed.{Followed}
use Rattle.std.specs.Prelude.{Ok, Err, MatchResult}
use Rattle.tokens.specs.declared.Halted.{Halted}
use Rattle.tokens.specs.Gaps.{start_at}
use Rattle.tokens.specs.Placed.{read_behind}
use Rattle.tokens.proofs.Laws.Placed.{read-placed}
use Rattle.tokens.proofs.Laws.Places.{start-again, start-most}
use Rattle.reader.specs.declared.numbers.Told.{Told}
use Rattle.reader.specs.Course.{DeclaredAt, FewSizes, Reads, Refused, RowsAt, SizedAt, TermGoes, TermsAt, pushed}
use Rattle.reader.specs.Flow.{declare_token, followed_on, next_is, skip_if, sum_on}
use Rattle.reader.proofs.Laws.Decisions.{column-due, declare-due, declare-over, row-due}
use Rattle.reader.proofs.Laws.Flow.{name-passed, passed, stands-followed, stands-reached, stands-skip}
use Rattle.reader.proofs.Laws.Pushed.{push-more}

-- ---- a reading goes on

module _ {t : List ℕ} where
  pub on-passed : (ws us : List Bytes) (st : Stage) {so : Followed} → Reads t (on (ws ++ us) st) so →
      Reads t (on us st) (followed_on t so ws)
  on-passed ws us st {so} r = record {
    reads = r.reads ∙ passed t ws us st so r.stands;
    stands = stands-followed t so ws r.stands;
  }

  on-name : (w : Bytes) (us : List Bytes) (st : Stage) {so : Followed} → Reads t (on (w ∷ us) st) so →
      Reads t (on us st) (skip_if t so (next_is t so w))
  on-name w us st {so} r = record {
    reads = r.reads ∙ name-passed t w us st so r.stands;
    stands = stands-skip t so (next_is t so w) r.stands;
  }

  -- where it is halted the text is refused
  pub refused-at : {S : ReaderState} {so : Followed} {e : Halted} → Reads t S so → so ≡ Err e → Refused t e
  unfolding read_behind
  refused-at {S = S} r q = r.reads ∙ ap (read_behind t S) q

  -- what holds where a reading goes on, of one that may be halted
  pub reached : (P : Followed → Type 0) {S : ReaderState} (so : Followed) → P so → Reads t S so →
      MatchResult so (λ at. P (Ok at)) (Refused t)
  reached P (Ok at) p r = p
  reached P (Err e) p r = refused-at r refl

  -- in a state that reads the same there
  pub on_same : {S T : ReaderState} {so : Followed} → Reads t S so → read_behind t S so ≡ read_behind t T so →
      Reads t T so
  on_same r e = record { reads = r.reads ∙ e; stands = r.stands }

  pub on-as : {S T : ReaderState} {so : Followed} → S ≡ T → Reads t S so → Reads t T so
  on-as {so = so} e r = subst (λ S. Reads t S so) e r

  -- tokens of a sum
  on-sum : (n : ℕ) (ws us : List Bytes) (st : Stage) {so : Followed} →
      Reads t (on (cond (eqb n 1) [] ws ++ us) st) so → Reads t (on us st) (sum_on t so n ws)
  unfolding sum_on
  on-sum n ws us st {so} r = go (eqb n 1) r
    where
      go : (b : Bool) → Reads t (on (cond b [] ws ++ us) st) so →
          Reads t (on us st) (elim b [ true ↦ so | false ↦ followed_on t so ws ])
      go true q = q
      go false q = on-passed ws us st q

  -- ---- declarations

  pub course-start : Reads t outset (Ok (start_at t 0))
  unfolding read_behind
  course-start = record {
    reads = read-placed t;
    stands = stands-reached t (start_at t 0) (start-most t 0 (omega arith)) (start-again t 0);
  }

  -- the first declaration is of a column
  pub declared-start : {so : Followed} →
      Reads t (on (column_name 0 ∷ token_bytes of_real) (declaring 1 0)) so →
      DeclaredAt t 1 0 (followed_on t (skip_if t so (next_is t so (column_name 0))) (token_bytes of_real))
  declared-start r = record {
    few = record { n-least = omega arith; n-most = omega arith; m-most = omega arith };
    on-course =
        on-passed (token_bytes of_real) [] (declaring 1 0)
        (on-as (ap (λ ws. on ws (declaring 1 0)) (sym (append-nil (token_bytes of_real))))
        (on-name (column_name 0) (token_bytes of_real) (declaring 1 0) r));
  }

  module _ {n m : ℕ} {so : Followed} (d : DeclaredAt t n m so) where
    -- behind the word of a declaration
    pub declared-opened : (next_is t so declare_token && ltb m most_rows) ≡ true →
        Reads t (on [] (naming n m)) (followed_on t so (token_bytes declare_const))
    declared-opened e =
        on-passed (token_bytes declare_const) [] (naming n m)
        (on-as (ap (λ ws. on ws (naming n m)) (sym (append-nil (token_bytes declare_const))))
        (on_same d.on-course (declare-due t so d.on-course.stands n m e)))

    pub declared-all : (next_is t so declare_token && ltb m most_rows) ≡ false → SizedAt t n m so
    declared-all e = record {
      few = d.few;
      on-course = on_same d.on-course (declare-over t so d.on-course.stands n m e);
    }

  -- a name and its sort
  named : (w : Bytes) (st : Stage) {so : Followed} → Reads t (on (w ∷ token_bytes of_real) st) so →
      Reads t (on [] st) (followed_on t (skip_if t so (next_is t so w)) (token_bytes of_real))
  named w st r =
      on-passed (token_bytes of_real) [] st
      (on-as (ap (λ ws. on ws st) (sym (append-nil (token_bytes of_real)))) (on-name w (token_bytes of_real) st r))

  module _ {n m : ℕ} {so : Followed} (f : FewSizes n m) (r : Reads t (on [] (naming n m)) so) where
    pub declared-column : (eqb m 0 && ltb n most_columns && next_is t so (column_name n)) ≡ true →
        n < most_columns → m ≡ 0 →
        DeclaredAt t (suc n) m (followed_on t (skip_if t so (next_is t so (column_name n))) (token_bytes of_real))
    declared-column e h z = record {
      few = record { n-least = omega arith; n-most = omega arith; m-most = f.m-most };
      on-course =
          on-as (ap (λ k. on [] (declaring (suc n) k)) (sym z))
          (named (column_name n) (declaring (suc n) 0) (on_same r (column-due t so r.stands n m e)));
    }

    pub declared-row : (eqb m 0 && ltb n most_columns && next_is t so (column_name n)) ≡ false → m < most_rows →
        DeclaredAt t n (suc m) (followed_on t (skip_if t so (next_is t so (row_name m))) (token_bytes of_real))
    declared-row e h = record {
      few = record { n-least = f.n-least; n-most = f.n-most; m-most = omega arith };
      on-course = named (row_name m) (declaring n (suc m)) (on_same r (row-due t so r.stands n m e));
    }

-- ---- rows

more-cells : (i n : ℕ) → i * n + n ≡ suc i * n
more-cells i n = omega arith

-- i rows of m and j coefficients of n are before the last word
cell-place : (i m j n : ℕ) → i < m → j < n → n ≤ most_columns → m ≤ most_rows → 2 + (i * n + j) < most_words
cell-place i m j n h k l o = let b = cells i 23 n 8 (omega arith) l in omega arith
  where
    cells : (a c b d : ℕ) → a ≤ c → b ≤ d → a * b ≤ c * d
    cells a c b d p q = mul-le-mul p q

module _ {t : List ℕ} {n m : ℕ} where
  pub course-rows : {ws : List ℤ} {so : Followed} → SizedAt t n m so → ws ≡ pushed (pos n ∷ pos m ∷ []) →
      RowsAt t n m 0 ws so
  unfolding flatten
  course-rows s e = record {
    few = s.few;
    rows = [];
    count = refl;
    flat = omega arith;
    words = e;
    on-course = s.on-course;
  }

  module _ {i : ℕ} {ws : List ℤ} {so : Followed} (r : RowsAt t n m i ws so) (h : i < m) where
    abbrev P : Pieces
    P = pieces n m r.rows []

    head-due : going P ≡ on (row_head P) (number (coefficient P []))
    unfolding going
    head-due = rw (lt-ltb (length r.rows) m (omega (arith, r.count))) refl

    first-term : behind_term P [] ≡ on (token_bytes open_term) (number (coefficient P []))
    unfolding behind_term
    first-term = rw (lt-ltb 0 n r.few.n-least) refl

    head-is : on (row_head P) (number (coefficient P []))
        ≡ on (token_bytes assert_row ++ (row_name (length r.rows) ∷ (opens n ++ token_bytes open_term)))
        (number (coefficient P []))
    unfolding row_head
    head-is = ap (λ l. on l (number (coefficient P []))) (simp append_assoc refl)

    head-named : Reads t (on (row_name i ∷ (opens n ++ token_bytes open_term)) (number (coefficient P [])))
        (followed_on t so (token_bytes assert_row))
    head-named =
        on-as (ap (λ k. on (row_name k ∷ (opens n ++ token_bytes open_term)) (number (coefficient P []))) r.count)
        (on-passed (token_bytes assert_row) (row_name (length r.rows) ∷ (opens n ++ token_bytes open_term))
        (number (coefficient P [])) (on-as (head-due ∙ head-is) r.on-course))

    pub row_opened : (let named = followed_on t so (token_bytes assert_row) in
        TermsAt t n m i 0 ws true (sum_on t (skip_if t named (next_is t named (row_name i))) n (token_bytes open_sum)))
    unfolding opens all_zero
    row_opened = record {
      few = r.few;
      rows = r.rows;
      row = [];
      count = r.count;
      flat = r.flat;
      size = refl;
      blanks = refl;
      words = r.words ∙ ap (λ l. pushed (pos n ∷ pos m ∷ l)) (sym (append-nil (flatten r.rows)));
      on-course =
          on-as (sym first-term)
          (on-sum n (token_bytes open_sum) (token_bytes open_term) (number (coefficient P []))
          (on-name (row_name i) (opens n ++ token_bytes open_term) (number (coefficient P [])) head-named));
    }

  -- one term more
  module _ {i j : ℕ} {ws : List ℤ} {blank : Bool} {so : Followed} (r : TermsAt t n m i j ws blank so) (h : j < n)
      (l : i < m) where
    abbrev Q : Pieces
    Q = pieces n m r.rows []

    place-fits : 2 + i * n + j < most_words
    place-fits = let z = cell-place i m j n l h r.few.n-most r.few.m-most in omega arith

    due : behind_term Q r.row ≡ on (token_bytes open_term) (number (coefficient Q r.row))
    unfolding behind_term
    due = term-due r.row (omega (arith, r.size))
      where
        term-due : (row : List ℤ) → length row < n →
            behind_term Q row ≡ on (token_bytes open_term) (number (coefficient Q row))
        term-due row k = ap (λ b. cond b (on (token_bytes open_term) (number (coefficient Q row)))
            (ahead (closes n ++ token_bytes end_assert) (going (with_row Q row)))) (lt-ltb (length row) n k)

    pub terms-refused : {x : Halted} → TermGoes t so j (eqb (suc j) n && blank) (Err x) → Refused t x
    unfolding read_behind
    terms-refused g = (on-as due r.on-course).reads ∙ g.goes Q r.row r.size (ap (λ b. eqb (suc j) n && b) r.blanks)

    pub terms-more : (told : Told) → TermGoes t so j (eqb (suc j) n && blank) (Ok told) →
        TermsAt t n m i (suc j) (set ws (2 + i * n + j) told.value) (blank && eq_z told.value (pos 0)) (Ok told.at)
    unfolding all_zero behind_term
    terms-more told g = record {
      few = r.few;
      rows = r.rows;
      row = r.row ++ (told.value ∷ []);
      count = r.count;
      flat = r.flat;
      size = length-append r.row (told.value ∷ []) ∙ (omega (arith, r.size));
      blanks = ap (λ b. b && eq_z told.value (pos 0)) r.blanks
          ∙ ap (λ b. all_zero r.row && b) (last (eq_z told.value (pos 0)))
          ∙ sym (zero-then r.row (told.value ∷ []));
      words = ap (λ w. set w (2 + i * n + j) told.value) r.words
          ∙ push-more (pos n ∷ pos m ∷ (flatten r.rows ++ r.row)) told.value (2 + i * n + j)
          (omega (arith, length-append (flatten r.rows) r.row, r.flat, r.size)) place-fits
          ∙ ap (λ k. pushed (pos n ∷ pos m ∷ k)) (append_assoc (flatten r.rows) r.row (told.value ∷ []));
      on-course = record {
        reads = (on-as due r.on-course).reads
            ∙ g.goes Q r.row r.size (ap (λ b. eqb (suc j) n && b) r.blanks);
        stands = g.stands;
      };
    }
      where
        last : (b : Bool) → b ≡ (b && true)
        last true = refl
        last false = refl

  -- the end of a row
  module _ {i : ℕ} {ws : List ℤ} {blank : Bool} {so : Followed} (r : TermsAt t n m i n ws blank so) where
    abbrev R : Pieces
    R = pieces n m r.rows []

    abbrev next : ReaderState
    next = going (with_row R r.row)

    row-due-end : behind_term R r.row ≡ on ((closes n ++ token_bytes end_assert) ++ next.todo) next.stage
    unfolding behind_term ahead
    row-due-end = rw (le-ltb (length r.row) n (omega (arith, r.size))) refl

    pub row-closed :
        RowsAt t n m (suc i) ws (followed_on t (sum_on t so n (token_bytes close)) (token_bytes end_assert))
    unfolding closes with_row flatten
    row-closed = record {
      few = r.few;
      rows = r.rows ++ (r.row ∷ []);
      count = length-append r.rows (r.row ∷ []) ∙ (omega (arith, r.count));
      flat = ap length (flatten-one r.rows) ∙ length-append (flatten r.rows) r.row
          ∙ (omega (arith, r.flat, r.size, more-cells i n));
      words = r.words ∙ ap (λ l. pushed (pos n ∷ pos m ∷ l)) (sym (flatten-one r.rows));
      on-course =
          on-passed (token_bytes end_assert) next.todo next.stage
          (on-sum n (token_bytes close) (token_bytes end_assert ++ next.todo) next.stage
          (on-as
          (row-due-end ∙ ap (λ l. on l next.stage) (append_assoc (closes n) (token_bytes end_assert) next.todo))
          r.on-course));
    }
      where
        flatten-one : (rs : List (List ℤ)) → flatten (rs ++ (r.row ∷ [])) ≡ flatten rs ++ r.row
        flatten-one [] = append-nil r.row
        flatten-one (x ∷ rs) = ap (λ l. x ++ l) (flatten-one rs) ∙ sym (append_assoc x (flatten rs) r.row)
