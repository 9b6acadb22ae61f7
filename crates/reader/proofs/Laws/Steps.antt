-- What the code has at hand, by the results of its calls: each is named, with what its function says of it.
--   logic-reads, opened-reads, first-declared   the text up to its first declaration
--   name-reads, one-column, one-row      one declaration
--   row-stands, row-begun                a row up to its first term
--   term-next, term-refused              one term more, or none that may stand there
--   sum-stands, row_done                 the end of a row
--   terms-length                         how long the array is
use mathlib.Core.Bool.{Bool, true, false, ◌&&◌}
use mathlib.Core.List.{List, [], ◌∷◌, ◌++◌, append_assoc, flatten}
use mathlib.Core.Path.{◌≡◌, refl, sym, ◌∙◌, ap, subst}
use Prim.Native.Nat.{ℕ, suc, ◌+◌, ◌*◌, ◌≤◌, ◌<◌}
use native.Mathlib.Nat.{mul-le-mul}
use native.Mathlib.Omega.{arith}
use borrow.Author.Tests.{eqb-true, ltb-true}
use lib.Dec.{eqb, ltb}
use lib.IntN.{ℤ, pos}
use lib.ListN.{length, length-append, set}
use Rattle.whole.specs.Numbers.{eq_z}
use Rattle.whole.proofs.Bools.{and-true}
use Rattle.rules.specs.Sizes.{most_cells, most_columns, most_rows, most_words}
use Rattle.rules.specs.Exchange.Tokens.{token_bytes}
use Rattle.rules.specs.Exchange.Script.{assert_row, close, column_name, declare_const, end_assert, of_real, open_sum}
use Rattle.rules.specs.Exchange.Script.{row_name}
use Rattle.rules.specs.Exchange.Script.{set_logic}
use Rattle.rules.specs.Exchange.Reader.{declaring, naming, on, outset}
use Rattle.tokens.specs.Followed.{Followed}
use Rattle.std.specs.Prelude.{Ok, Err}
use Rattle.tokens.specs.Gaps.{start_at}
use Rattle.reader.specs.declared.numbers.Told.{Told}
use Rattle.reader.specs.Course.{DeclaredAt, FewSizes, Reads, Refused, RowsAt, TermGoes, TermsAt, TermsDone}
use Rattle.reader.specs.Flow.{StandsAt, declare_token, followed_on, next_is, skip_if, sum_on}
use Rattle.reader.proofs.Laws.Course.{course-start, declared-column, declared-opened, declared-row}
use Rattle.reader.proofs.Laws.Course.{declared-start}
use Rattle.reader.proofs.Laws.Course.{on-as, on-passed, row-closed, row_opened, terms-more, terms-refused}
use Rattle.tokens.specs.declared.Halted.{Halted}
use Rattle.reader.proofs.Laws.Flow.{stands-followed, stands-skip, stands-sum}
use Rattle.reader.proofs.Laws.Pushed.{push-length}

-- ---- declarations

outset-is : outset
    ≡ on (token_bytes set_logic ++ (token_bytes declare_const ++ (column_name 0 ∷ token_bytes of_real))) (declaring 1 0)
unfolding outset
outset-is = ap (λ l. on l (declaring 1 0)) (simp append_assoc refl)

module _ {t : List ℕ} {first : ℕ} (f : first ≡ start_at t 0) where
  pub first_reads : Reads t outset (Ok first)
  first_reads = subst (λ k. Reads t outset (Ok k)) (sym f) course-start

  module _ {logic opened : Followed} (l : logic ≡ followed_on t (Ok first) (token_bytes set_logic))
      (o : opened ≡ followed_on t logic (token_bytes declare_const)) where
    pub logic-reads :
        Reads t (on (token_bytes declare_const ++ (column_name 0 ∷ token_bytes of_real)) (declaring 1 0)) logic
    logic-reads =
        subst (Reads t _) (sym l)
        (on-passed (token_bytes set_logic) (token_bytes declare_const ++ (column_name 0 ∷ token_bytes of_real))
        (declaring 1 0)
        (on-as outset-is first_reads))

    pub opened-reads : Reads t (on (column_name 0 ∷ token_bytes of_real) (declaring 1 0)) opened
    opened-reads =
        subst (Reads t _) (sym o)
        (on-passed (token_bytes declare_const) (column_name 0 ∷ token_bytes of_real) (declaring 1 0) logic-reads)

    pub first-declared : {so : Followed} →
        so ≡ followed_on t (skip_if t opened (next_is t opened (column_name 0))) (token_bytes of_real) →
        DeclaredAt t 1 0 so
    first-declared e = subst (DeclaredAt t 1 0) (sym e) (declared-start opened-reads)

module _ {t : List ℕ} {n m : ℕ} {so : Followed} (d : DeclaredAt t n m so)
    (due : (next_is t so declare_token && ltb m most_rows) ≡ true) {opened : Followed}
    (o : opened ≡ followed_on t so (token_bytes declare_const)) where
  pub name-reads : Reads t (on [] (naming n m)) opened
  name-reads = subst (Reads t (on [] (naming n m))) (sym o) (declared-opened d due)

  pub one-column : (eqb m 0 && ltb n most_columns && next_is t opened (column_name n)) ≡ true → {to : Followed} →
      to ≡ followed_on t (skip_if t opened (next_is t opened (column_name n))) (token_bytes of_real) →
      (k : ℕ) → k ≡ suc n →
      DeclaredAt t k m to
  one-column e {to} q k z =
      let p = (and-true (eqb m 0 && ltb n most_columns) (next_is t opened (column_name n)) e).0 in
      let r = and-true (eqb m 0) (ltb n most_columns) p in
      subst (λ j. DeclaredAt t j m to) (sym z)
      (subst (DeclaredAt t (suc n) m) (sym q)
      (declared-column d.few name-reads e (ltb-true n most_columns r.1) (eqb-true m 0 r.0)))

  pub one-row : (eqb m 0 && ltb n most_columns && next_is t opened (column_name n)) ≡ false → {to : Followed} →
      to ≡ followed_on t (skip_if t opened (next_is t opened (row_name m))) (token_bytes of_real) →
      (k : ℕ) → k ≡ suc m →
      DeclaredAt t n k to
  one-row e {to} q k z =
      subst (λ j. DeclaredAt t n j to) (sym z)
      (subst (DeclaredAt t n (suc m)) (sym q)
      (declared-row d.few name-reads e
      (ltb-true m most_rows (and-true (next_is t so declare_token) (ltb m most_rows) due).1)))

-- ---- rows

pub cells-few : (i m n : ℕ) → i < m → FewSizes n m → i * n + n ≤ most_cells
cells-few i m n h f =
    let b : suc i * n ≤ 24 * 8 = mul-le-mul (let z : suc i ≤ 24 = omega (arith, f.m-most) in z) f.n-most in
    omega arith

module _ {t : List ℕ} {n m i : ℕ} {ws : List ℤ} {so : Followed} (r : RowsAt t n m i ws so) where
  module _ (h : i < m) {opened named : Followed} (o : opened ≡ followed_on t so (token_bytes assert_row))
      (e : named ≡ skip_if t opened (next_is t opened (row_name i))) where
    pub row-stands : StandsAt t named
    row-stands =
        subst (StandsAt t) (sym e)
        (stands-skip t opened (next_is t opened (row_name i))
        (subst (StandsAt t) (sym o) (stands-followed t so (token_bytes assert_row) r.on-course.stands)))

    pub row-begun : {summed : Followed} → summed ≡ sum_on t named n (token_bytes open_sum) →
        TermsAt t n m i 0 ws true summed
    row-begun q =
        subst (TermsAt t n m i 0 ws true)
        (sym (q ∙ ap (λ f. sum_on t f n (token_bytes open_sum))
        (e ∙ ap (λ f. skip_if t f (next_is t f (row_name i))) o)))
        (row_opened r h)

module _ {t : List ℕ} {n m i j : ℕ} {ws : List ℤ} {blank : Bool} {so : Followed} (r : TermsAt t n m i j ws blank so)
    (l : i < m) where
  pub terms-length : j ≤ n → length ws ≡ most_words
  terms-length h =
      let b = cells-few i m n l r.few in
      ap length r.words
      ∙ push-length (pos n ∷ pos m ∷ (flatten r.rows ++ r.row))
      (omega (arith, length-append (flatten r.rows) r.row, r.flat, r.size))

  pub term-next : (h : j < n) (from : ℕ) → from ≡ 2 + i * n → (last : Bool) → last ≡ (eqb (suc j) n && blank) →
      (told : Told) → TermGoes t so j last (Ok told) → (z : ℤ) → z ≡ told.value →
      (b : Bool) → b ≡ (blank && eq_z told.value (pos 0)) → (k : ℕ) → k ≡ suc j →
      TermsAt t n m i k (set ws (from + j) z) b (Ok told.at)
  term-next h from f last q told g z v b e k y =
      let blank-then = blank && eq_z told.value (pos 0) in
      subst (λ x. TermsAt t n m i x (set ws (from + j) z) b (Ok told.at)) (sym y)
      (subst (λ x. TermsAt t n m i (suc j) (set ws (from + j) z) x (Ok told.at)) (sym e)
      (subst (λ x. TermsAt t n m i (suc j) (set ws (from + j) x) blank-then (Ok told.at)) (sym v)
      (subst (λ x. TermsAt t n m i (suc j) (set ws (x + j) told.value) blank-then (Ok told.at)) (sym f)
      (terms-more r h l told (subst (λ x. TermGoes t so j x (Ok told)) q g)))))

  pub term-refused : j < n → (last : Bool) → last ≡ (eqb (suc j) n && blank) → {x : Halted} →
      TermGoes t so j last (Err x) → Refused t x
  term-refused h last q {x} g = terms-refused r h l (subst (λ b. TermGoes t so j b (Err x)) q g)

module _ {t : List ℕ} {n m i : ℕ} {ws : List ℤ} {so : Followed} (d : TermsDone t n m i ws so) {closed : Followed}
    (e : closed ≡ sum_on t so n (token_bytes close)) where
  pub sum-stands : StandsAt t closed
  sum-stands = subst (StandsAt t) (sym e) (stands-sum t so n (token_bytes close) d.terms.on-course.stands)

  pub row_done : {last : Followed} → last ≡ followed_on t closed (token_bytes end_assert) → RowsAt t n m (suc i) ws last
  row_done q =
      subst (RowsAt t n m (suc i) ws) (sym (q ∙ ap (λ f. followed_on t f (token_bytes end_assert)) e))
      (row-closed d.terms)
