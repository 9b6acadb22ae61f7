-- What the next token decides.
--   declare-due, declare-over   another declaration, and none
--   column-due, row-due         which kind it is of
--   limit-due, limit-over       another limit, and none
--   minus-due                   a number below 0
--   no-less-related, more-related, no-more-related, less-related   the relation of a limit
--   bound-found                 the variable of a limit
use mathlib.Core.Bool.{Bool, true, false, cond, ◌&&◌}
use mathlib.Core.List.{List, [], ◌∷◌}
use mathlib.Core.Option.{Option, none, some}
use mathlib.Core.Path.{◌≡◌, refl, sym, ◌∙◌, ap, ap₂}
use Prim.Native.Nat.{ℕ, suc, ◌+◌, ◌-◌, ◌*◌, ◌<◌}
use native.Mathlib.Omega.{arith}
use borrow.Author.Tests.{le-ltb, lt-ltb}
use lib.Dec.{eqb, leb, ltb}
use lib.ListN.{length}
use Rattle.whole.specs.Below.{lowest}
use Rattle.whole.proofs.Lists.Below.{lowest-passes, none_passes}
use Rattle.rules.specs.Sizes.{most_columns, most_rows}
use Rattle.rules.specs.Exchange.Tokens.{token_bytes}
use Rattle.rules.specs.Exchange.Script.{assert_limit, check_sat, column_name, declare_const, less, more, no_less}
use Rattle.rules.specs.Exchange.Script.{no_more}
use Rattle.rules.specs.Exchange.Script.{of_real}
use Rattle.rules.specs.Exchange.Script.{name_of, open_minus, row_name}
use Rattle.rules.specs.Exchange.Reader.{Bytes, Pieces, ReaderState, Spot, bounded, bounding, command, decided}
use Rattle.rules.specs.Exchange.Reader.{declaring}
use Rattle.rules.specs.Exchange.Reader.{ended, finish, going, is, limit_command, limiting, matched, name_read, naming}
use Rattle.rules.specs.Exchange.Reader.{coefficient, number, on, pieces, relating, relation_read, relation_taken}
use Rattle.rules.specs.Exchange.Reader.{row_head}
use Rattle.rules.specs.Exchange.Reader.{same_bytes, size, stuck, token_step, limit}
use Rattle.rules.proofs.Exchange.Reader.Openings.{assert_word, declare_word, open_word, openings}
use Rattle.tokens.specs.Followed.{Followed}
use Rattle.tokens.specs.Placed.{read_behind}
use Rattle.reader.specs.Flow.{StandsAt, assert_token, declare_token, next_is, next_token, skip_if}
use Rattle.reader.specs.Limits.{name_test, or_most, variable_from}
use Rattle.reader.proofs.Laws.Flow.{alike, chosen, same-token}

-- the first row, or the limits
abbrev first_row : Pieces → Bool → ReaderState
first_row P b = cond b (on (row_head P) (number (coefficient P []))) (on [] (limiting P))

module _ (t : List ℕ) (so : Followed) (s : StandsAt t so) where
  -- ---- declarations

  module _ (n m : ℕ) where
    pub declare-due : (next_is t so declare_token && ltb m most_rows) ≡ true →
        read_behind t (on [] (declaring n m)) so ≡ read_behind t (on (token_bytes declare_const) (naming n m)) so
    unfolding declare_token finish decided token_step is matched
    declare-due e =
        alike t (on [] (declaring n m)) (on (token_bytes declare_const) (naming n m)) so s refl ended-due
        (λ w q. step w (ap (λ b. b && ltb m most_rows) (sym (same-token t so declare_word w q)) ∙ e))
      where
        ended-due : finish 0 (token_bytes declare_const) (naming n m) ≡ stuck 0
        ended-due = rw openings.declare-is refl

        step : (w : Bytes) → (same_bytes declare_word w && ltb m most_rows) ≡ true →
            decided (declaring n m) w ≡ token_step (token_bytes declare_const) (naming n m) w
        step w q = rw (openings.declare-is, q) refl

    pub declare-over : (next_is t so declare_token && ltb m most_rows) ≡ false →
        read_behind t (on [] (declaring n m)) so ≡ read_behind t (going (pieces n m [] [])) so
    unfolding declare_token going row_head finish decided is command token_step matched
    declare-over e =
        alike t (on [] (declaring n m)) (going (pieces n m [] [])) so s refl ended-over
        (λ w q. step w (ap (λ b. b && ltb m most_rows) (sym (same-token t so declare_word w q)) ∙ e))
      where
        ended-over : finish 0 (going (pieces n m [] [])).todo (going (pieces n m [] [])).stage ≡ stuck 0
        ended-over = go (ltb 0 m)
          where
            go : (b : Bool) →
                finish 0 (first_row (pieces n m [] []) b).todo (first_row (pieces n m [] []) b).stage ≡ stuck 0
            go true = rw openings.row_is refl
            go false = refl

        step : (w : Bytes) → (same_bytes declare_word w && ltb m most_rows) ≡ false →
            decided (declaring n m) w ≡ token_step (going (pieces n m [] [])).todo (going (pieces n m [] [])).stage w
        step w q = rw (openings.declare-is, q) (go (ltb 0 m))
          where
            go : (b : Bool) →
                cond b (matched (row_head (pieces n m [] [])) (number (coefficient (pieces n m [] []) [])) w)
                (limit_command (pieces n m [] []) w)
                ≡ token_step (first_row (pieces n m [] []) b).todo (first_row (pieces n m [] []) b).stage w
            go true = rw openings.row_is refl
            go false = refl

    pub column-due : (eqb m 0 && ltb n most_columns && next_is t so (column_name n)) ≡ true →
        read_behind t (on [] (naming n m)) so
        ≡ read_behind t (on (column_name n ∷ token_bytes of_real) (declaring (suc n) 0)) so
    unfolding decided token_step finish
    column-due e =
        alike t (on [] (naming n m)) (on (column_name n ∷ token_bytes of_real) (declaring (suc n) 0)) so s refl refl
        (λ w q. step w (ap (λ b. eqb m 0 && ltb n most_columns && b) (sym (same-token t so (column_name n) w q)) ∙ e))
      where
        step : (w : Bytes) → (eqb m 0 && ltb n most_columns && same_bytes (column_name n) w) ≡ true →
            decided (naming n m) w ≡ token_step (column_name n ∷ token_bytes of_real) (declaring (suc n) 0) w
        step w q = rw q refl

    pub row-due : (eqb m 0 && ltb n most_columns && next_is t so (column_name n)) ≡ false →
        read_behind t (on [] (naming n m)) so
        ≡ read_behind t (on (row_name m ∷ token_bytes of_real) (declaring n (suc m))) so
    unfolding decided token_step finish
    row-due e =
        alike t (on [] (naming n m)) (on (row_name m ∷ token_bytes of_real) (declaring n (suc m))) so s refl refl
        (λ w q. step w (ap (λ b. eqb m 0 && ltb n most_columns && b) (sym (same-token t so (column_name n) w q)) ∙ e))
      where
        step : (w : Bytes) → (eqb m 0 && ltb n most_columns && same_bytes (column_name n) w) ≡ false →
            decided (naming n m) w ≡ token_step (row_name m ∷ token_bytes of_real) (declaring n (suc m)) w
        step w q = rw q refl

  -- ---- limits

  module _ (P : Pieces) where
    pub limit-due : (next_is t so assert_token && ltb (length P.limits) (2 * (P.n + P.m))) ≡ true →
        read_behind t (on [] (limiting P)) so ≡ read_behind t (on (token_bytes assert_limit) (relating P)) so
    unfolding assert_token finish decided limit_command token_step is matched
    limit-due e =
        alike t (on [] (limiting P)) (on (token_bytes assert_limit) (relating P)) so s refl ended-due
        (λ w q. step w
        (ap (λ b. b && ltb (length P.limits) (2 * (P.n + P.m))) (sym (same-token t so assert_word w q)) ∙ e))
      where
        ended-due : finish 0 (token_bytes assert_limit) (relating P) ≡ stuck 0
        ended-due = rw openings.limit_is refl

        step : (w : Bytes) → (same_bytes assert_word w && ltb (length P.limits) (2 * (P.n + P.m))) ≡ true →
            decided (limiting P) w ≡ token_step (token_bytes assert_limit) (relating P) w
        step w q = rw (openings.limit_is, q) refl

    pub limit-over : (next_is t so assert_token && ltb (length P.limits) (2 * (P.n + P.m))) ≡ false →
        read_behind t (on [] (limiting P)) so ≡ read_behind t (on (token_bytes check_sat) (ended P)) so
    unfolding assert_token finish decided limit_command token_step is matched
    limit-over e =
        alike t (on [] (limiting P)) (on (token_bytes check_sat) (ended P)) so s refl ended-over
        (λ w q. step w
        (ap (λ b. b && ltb (length P.limits) (2 * (P.n + P.m))) (sym (same-token t so assert_word w q)) ∙ e))
      where
        ended-over : finish 0 (token_bytes check_sat) (ended P) ≡ stuck 0
        ended-over = rw openings.check-is refl

        step : (w : Bytes) → (same_bytes assert_word w && ltb (length P.limits) (2 * (P.n + P.m))) ≡ false →
            decided (limiting P) w ≡ token_step (token_bytes check_sat) (ended P) w
        step w q = rw (openings.limit_is, q, openings.check-is) refl

    -- a relation that stands there, and its side's limits that are left
    related-by : (side : ℕ) (strict left : Bool) → ltb (length P.limits) (2 * (P.n + P.m) + side - 1) ≡ left →
        ((w : Bytes) → next_token t so ≡ some w → relation_read P w ≡ relation_taken P side strict) →
        read_behind t (on [] (relating P)) so ≡ read_behind t (on [] (bounding P side strict)) (skip_if t so left)
    unfolding decided token_step finish relation_taken
    related-by side strict left l h =
        chosen t (on [] (relating P)) (on [] (bounding P side strict)) so left s refl
        (λ w q. h w q ∙ ap (λ c. cond c (some (on [] (bounding P side strict))) none) l)

    pub no-less-related : (left : Bool) → ltb (length P.limits) (2 * (P.n + P.m) + 0 - 1) ≡ left →
        next_is t so no_less ≡ true →
        read_behind t (on [] (relating P)) so ≡ read_behind t (on [] (bounding P 0 false)) (skip_if t so left)
    unfolding relation_read
    no-less-related left l e = related-by 0 false left l (λ w q. step w (sym (same-token t so no_less w q) ∙ e))
      where
        step : (w : Bytes) → same_bytes no_less w ≡ true → relation_read P w ≡ relation_taken P 0 false
        step w q = rw q refl

    module _ (no_less_lem : next_is t so no_less ≡ false) where
      pub more-related : (left : Bool) → ltb (length P.limits) (2 * (P.n + P.m) + 0 - 1) ≡ left →
          next_is t so more ≡ true →
          read_behind t (on [] (relating P)) so ≡ read_behind t (on [] (bounding P 0 true)) (skip_if t so left)
      unfolding relation_read
      more-related left l e = related-by 0 true left l
          (λ w q. step w (sym (same-token t so no_less w q) ∙ no_less_lem) (sym (same-token t so more w q) ∙ e))
        where
          step : (w : Bytes) → same_bytes no_less w ≡ false → same_bytes more w ≡ true →
              relation_read P w ≡ relation_taken P 0 true
          step w a q = rw (a, q) refl

      module _ (no_more_lem : next_is t so more ≡ false) (left : length P.limits < 2 * (P.n + P.m)) where
        upper-left : ltb (length P.limits) (2 * (P.n + P.m) + 1 - 1) ≡ true
        upper-left = lt-ltb (length P.limits) (2 * (P.n + P.m) + 1 - 1) (omega arith)

        pub no-more-related : next_is t so no_more ≡ true →
            read_behind t (on [] (relating P)) so ≡ read_behind t (on [] (bounding P 1 false)) (skip_if t so true)
        unfolding relation_read
        no-more-related e = related-by 1 false true upper-left
            (λ w q. step w (sym (same-token t so no_less w q) ∙ no_less_lem)
            (sym (same-token t so more w q) ∙ no_more_lem)
            (sym (same-token t so no_more w q) ∙ e))
          where
            step : (w : Bytes) → same_bytes no_less w ≡ false → same_bytes more w ≡ false →
                same_bytes no_more w ≡ true →
                relation_read P w ≡ relation_taken P 1 false
            step w a b q = rw (a, b, q) refl

        pub less-related : next_is t so no_more ≡ false →
            read_behind t (on [] (relating P)) so
            ≡ read_behind t (on [] (bounding P 1 true)) (skip_if t so (next_is t so less))
        unfolding decided token_step relation_read relation_taken finish
        less-related e =
            chosen t (on [] (relating P)) (on [] (bounding P 1 true)) so (next_is t so less) s refl
            (λ w q. step w (sym (same-token t so no_less w q) ∙ no_less_lem)
            (sym (same-token t so more w q) ∙ no_more_lem)
            (sym (same-token t so no_more w q) ∙ e)
            ∙ ap (λ b. cond b (some (on [] (bounding P 1 true))) none) (sym (same-token t so less w q)))
          where
            step : (w : Bytes) → same_bytes no_less w ≡ false → same_bytes more w ≡ false →
                same_bytes no_more w ≡ false →
                relation_read P w ≡ cond (same_bytes less w) (some (on [] (bounding P 1 true))) none
            step w a b q = rw (a, b, q, upper-left) refl

    -- ---- the variable of a limit

    module _ (side from : ℕ) (strict : Bool)
        (first : (v : ℕ) → leb from v ≡ leb (length P.limits) (2 * v + side)) where
      module _ (w : Bytes) (q : next_token t so ≡ some w) where
        same_test : (v : ℕ) → (leb from v && next_is t so (name_of P.n v))
            ≡ (leb (length P.limits) (2 * v + side) && same_bytes (name_of P.n v) w)
        same_test v = ap₂ (λ a b. a && b) (first v) (same-token t so (name_of P.n v) w q)

        found-by : (o : Option ℕ) → lowest (P.n + P.m) (name_test t so P.n from) ≡ o →
            bounded P side strict (name_read P side w)
            ≡ cond (ltb (or_most (P.n + P.m) o) (P.n + P.m))
            (some (on [] (number (limit P (2 * or_most (P.n + P.m) o + side) strict)))) none
        unfolding bounded name_read name_test or_most
        found-by none e =
            let h = (none_passes (P.n + P.m) (λ v. leb from v && next_is t so (name_of P.n v))).0 e in
            ap (bounded P side strict)
            ((none_passes (P.n + P.m)
            (λ v. leb (length P.limits) (2 * v + side) && same_bytes (name_of P.n v) w)).1
            (λ v l. sym (same_test v) ∙ h v l))
            ∙ sym (ap (λ b. cond b (some (on [] (number (limit P (2 * (P.n + P.m) + side) strict)))) none)
            (le-ltb (P.n + P.m) (P.n + P.m) (omega arith)))
        found-by (some v) e =
            let h = (lowest-passes (P.n + P.m) (λ u. leb from u && next_is t so (name_of P.n u)) v).0 e in
            ap (bounded P side strict)
            ((lowest-passes (P.n + P.m)
            (λ u. leb (length P.limits) (2 * u + side) && same_bytes (name_of P.n u) w) v).1
            (h.0, sym (same_test v) ∙ h.1, λ u l. sym (same_test u) ∙ h.2 u l))
            ∙ sym (ap (λ b. cond b (some (on [] (number (limit P (2 * v + side) strict)))) none)
            (lt-ltb v (P.n + P.m) h.0))

      pub bound-found : read_behind t (on [] (bounding P side strict)) so
          ≡ read_behind t
          (on [] (number (limit P (2 * variable_from t so P.n from (P.n + P.m) + side) strict)))
          (skip_if t so (ltb (variable_from t so P.n from (P.n + P.m)) (P.n + P.m)))
      unfolding decided token_step variable_from finish
      bound-found =
          chosen t (on [] (bounding P side strict))
          (on [] (number (limit P (2 * variable_from t so P.n from (P.n + P.m) + side) strict))) so
          (ltb (variable_from t so P.n from (P.n + P.m)) (P.n + P.m)) s refl
          (λ w q. found-by w q (lowest (P.n + P.m) (name_test t so P.n from)) refl)

  -- ---- the sign of a number

  pub minus-due : (c : Spot) → next_is t so open_word ≡ true →
      read_behind t (on [] (number c)) so ≡ read_behind t (on (token_bytes open_minus) (size c)) so
  unfolding finish decided token_step is matched
  minus-due c e =
      alike t (on [] (number c)) (on (token_bytes open_minus) (size c)) so s refl ended-due
      (λ w q. step w (sym (same-token t so open_word w q) ∙ e))
    where
      ended-due : finish 0 (token_bytes open_minus) (size c) ≡ stuck 0
      ended-due = rw openings.minus_is refl

      step : (w : Bytes) → same_bytes open_word w ≡ true →
          decided (number c) w ≡ token_step (token_bytes open_minus) (size c) w
      step w q = rw (openings.minus_is, q) refl
