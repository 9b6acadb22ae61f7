-- A number, a term and a relation by the results of calls: each is named, with what its function says of it.
--   number-plain, number-minus  a number of 0 or more; one below 0
--   size-opened, size-stands    where the reading stands before and behind its size
--   term-opened, term-named     where the reading stands before a term's number, and behind its name
--   term_told                   all of a term is read
--   no-less-goes, more-goes, no-more-goes, less-goes   a relation
use mathlib.Core.Bool.{Bool, true, false, ◌&&◌}
use mathlib.Core.List.{List, [], ◌∷◌, ◌++◌}
use mathlib.Core.Path.{◌≡◌, refl, sym, ◌∙◌, ap, subst}
use Prim.Native.Nat.{ℕ, suc, ◌+◌, ◌-◌, ◌*◌, ◌<◌}
use lib.Dec.{eqb, ltb}
use lib.IntN.{ℤ}
use Rattle.rules.specs.Sizes.{largest_coefficient}
use Rattle.rules.specs.Exchange.Tokens.{token_bytes}
use Rattle.rules.specs.Exchange.Script.{close, column_name, open_minus, open_term, less, more, no_less}
use Rattle.rules.specs.Exchange.Script.{no_more}
use Rattle.rules.specs.Exchange.Reader.{ahead, all_zero, behind_term, coefficient, number, on, size, taken, Pieces}
use Rattle.rules.specs.Exchange.Reader.{ReaderState, relating, bounding}
use Rattle.rules.proofs.Exchange.Reader.Openings.{open_word}
use Rattle.std.specs.Prelude.{Result, Ok, Err}
use Rattle.tokens.specs.declared.Halted.{Halted}
use Rattle.tokens.specs.Followed.{Followed}
use Rattle.tokens.specs.Placed.{read_behind}
use Rattle.reader.specs.declared.numbers.Asked.{Asked}
use Rattle.reader.specs.declared.numbers.Told.{Told}
use Rattle.reader.specs.Course.{TermGoes}
use Rattle.reader.specs.Flow.{StandsAt, followed_on, next_is, skip_if}
use Rattle.reader.specs.Numbers.{NumberGoes, numeral_on, told_place, told_value}
use Rattle.reader.proofs.Laws.Flow.{ahead-passed, name-passed, passed, passed-all, stands-followed, stands-halted}
use Rattle.reader.proofs.Laws.Flow.{stands-skip}
use Rattle.reader.proofs.Laws.Decisions.{minus-due, less-related, more-related, no-less-related, no-more-related}
use Rattle.reader.proofs.Laws.Numbers.{coefficient-asks, numeral-goes, size-goes, stands-numeral}
use native.Mathlib.Decide.{dec_lt}
use native.Mathlib.Omega.{arith}
use borrow.Author.Tests.{le-ltb, lt-ltb}
use lib.ListN.{length}
use Rattle.reader.specs.declared.limits.Related.{Related}
use Rattle.reader.specs.Limits.{RelationGoes, read_related, related, related_by, side_number}

-- a value counts where the reading goes on
with-value : (t : List ℕ) (S : ℤ → ReaderState) (z : ℤ) (r : Result Told Halted) →
    ((p : ℕ) → told_place r ≡ Ok p → told_value r ≡ z) →
    read_behind t (S z) (told_place r) ≡ read_behind t (S (told_value r)) (told_place r)
unfolding read_behind
with-value t S z (Ok r) v = ap (λ x. read_behind t (S x) (Ok r.at)) (sym (v r.at refl))
with-value t S z (Err e) v = refl

-- ---- a number

pub number-halted : (t : List ℕ) (e : Halted) (a : Asked) → NumberGoes t (Err e) a (Err e)
unfolding read_behind
number-halted t e a = record { goes = λ c A. refl; stands = stands-halted t e }

module _ {t : List ℕ} {so : Followed} (s : StandsAt t so) (a : Asked) where
  pub number-plain : {told : Result Told Halted} → told ≡ numeral_on t so false a → next_is t so open_word ≡ false →
      NumberGoes t so a told
  number-plain q e = subst (NumberGoes t so a) (sym q)
      (record {
        goes = λ c A. numeral-goes t so s c a A e;
        stands = stands-numeral t so false a s;
      })

  module _ {opened : Followed} {told : Result Told Halted} (o : opened ≡ followed_on t so (token_bytes open_minus))
      (q : told ≡ numeral_on t opened true a) where
    size-opened : StandsAt t opened
    size-opened = subst (StandsAt t) (sym o) (stands-followed t so (token_bytes open_minus) s)

    pub size-stands : StandsAt t (told_place told)
    size-stands = subst (λ r. StandsAt t (told_place r)) (sym q) (stands-numeral t opened true a size-opened)

    pub number-minus : (r : Result Told Halted) → told_place r ≡ followed_on t (told_place told) (token_bytes close) →
        ((p : ℕ) → told_place r ≡ Ok p → told_value r ≡ told_value told) → next_is t so open_word ≡ true →
        NumberGoes t so a r
    number-minus r d v e = record {
      goes = λ c A.
          minus-due t so s c e
          ∙ passed-all t (token_bytes open_minus) (size c) so s
          ∙ ap (read_behind t (on [] (size c))) (sym o)
          ∙ size-goes t opened size-opened c a A
          ∙ ap (λ r. read_behind t (ahead (token_bytes close) (taken c (told_value r))) (told_place r)) (sym q)
          ∙ ahead-passed t (token_bytes close) (taken c (told_value told)) (told_place told) size-stands
          ∙ ap (read_behind t (taken c (told_value told))) (sym d)
          ∙ with-value t (taken c) (told_value told) r v;
      stands = subst (StandsAt t) (sym d) (stands-followed t (told_place told) (token_bytes close) size-stands);
    }

-- ---- a term

module _ {t : List ℕ} {so : Followed} (s : StandsAt t so) (j : ℕ) (blank : Bool) {opened : Followed}
    (o : opened ≡ followed_on t so (token_bytes open_term)) where
  pub term-opened : StandsAt t opened
  term-opened = subst (StandsAt t) (sym o) (stands-followed t so (token_bytes open_term) s)

  module _ {told : Result Told Halted}
      (g : NumberGoes t opened (record { largest = largest_coefficient; blank = blank }) told)
      {named : Followed} (e : named ≡ skip_if t (told_place told) (next_is t (told_place told) (column_name j))) where
    pub term-named : StandsAt t named
    term-named =
        subst (StandsAt t) (sym e)
        (stands-skip t (told_place told) (next_is t (told_place told) (column_name j)) g.stands)

    pub term_told : (r : Result Told Halted) → told_place r ≡ followed_on t named (token_bytes close) →
        ((p : ℕ) → told_place r ≡ Ok p → told_value r ≡ told_value told) → TermGoes t so j blank r
    unfolding taken ahead
    term_told r d v = record {
      goes = λ P row q b.
          let S = behind_term P (row ++ (told_value told ∷ [])) in
          passed-all t (token_bytes open_term) (number (coefficient P row)) so s
          ∙ ap (read_behind t (on [] (number (coefficient P row)))) (sym o)
          ∙ g.goes (coefficient P row)
          (coefficient-asks P row blank (b ∙ ap (λ k. eqb (suc k) P.n && all_zero row) (sym q)))
          ∙ ap (λ k. read_behind t (on (column_name k ∷ (token_bytes close ++ S.todo)) S.stage) (told_place told)) q
          ∙ name-passed t (column_name j) (token_bytes close ++ S.todo) S.stage (told_place told) g.stands
          ∙ ap (read_behind t (on (token_bytes close ++ S.todo) S.stage)) (sym e)
          ∙ passed t (token_bytes close) S.todo S.stage named term-named
          ∙ ap (read_behind t S) (sym d)
          ∙ with-value t (λ z. behind_term P (row ++ (z ∷ []))) (told_value told) r v;
      stands = subst (StandsAt t) (sym d) (stands-followed t named (token_bytes close) term-named);
    }

-- ---- a relation

module _ (t : List ℕ) (so : Followed) (s : StandsAt t so) (count most : ℕ) (few : count < most) where
  same_left : (P : Pieces) → length P.limits ≡ count → 2 * (P.n + P.m) ≡ most →
      ltb (length P.limits) (2 * (P.n + P.m) + 0 - 1) ≡ ltb (count + 1) most
  same_left P e f = go (dec_lt (count + 1) most)
    where
      go : Dec (count + 1 < most) → ltb (length P.limits) (2 * (P.n + P.m) + 0 - 1) ≡ ltb (count + 1) most
      go (yes l) =
          lt-ltb (length P.limits) (2 * (P.n + P.m) + 0 - 1) (omega arith) ∙ sym (lt-ltb (count + 1) most l)
      go (no l) =
          le-ltb (length P.limits) (2 * (P.n + P.m) + 0 - 1) (omega arith)
          ∙ sym (le-ltb (count + 1) most (omega arith))

  -- a relation that is read
  went : (left upper strict : Bool) →
      ((P : Pieces) → length P.limits ≡ count → 2 * (P.n + P.m) ≡ most →
      read_behind t (on [] (relating P)) so
      ≡ read_behind t (on [] (bounding P (side_number upper) strict)) (skip_if t so left)) →
      RelationGoes t so count most (related_by t so left upper strict)
  unfolding related_by related read_related read_behind
  went left upper strict h = go (skip_if t so left) (stands-skip t so left s) h
    where
      go : (f : Followed) → StandsAt t f →
          ((P : Pieces) → length P.limits ≡ count → 2 * (P.n + P.m) ≡ most →
          read_behind t (on [] (relating P)) so ≡ read_behind t (on [] (bounding P (side_number upper) strict)) f) →
          RelationGoes t so count most (related f upper strict)
      go (Ok at) g k = record {
        goes = k;
        stands = λ r e.
            let z : record { upper = upper; strict = strict; at = at } ≡ r = cc in
            subst (λ (p : Related). StandsAt t (Ok p.at)) z g;
      }
      go (Err e) g k = record { goes = k; stands = λ r o. cc }

  pub no-less-goes : next_is t so no_less ≡ true →
      RelationGoes t so count most (related_by t so (ltb (count + 1) most) false false)
  unfolding side_number
  no-less-goes a = went (ltb (count + 1) most) false false
      (λ P e f. no-less-related t so s P (ltb (count + 1) most) (same_left P e f) a)

  module _ (a : next_is t so no_less ≡ false) where
    pub more-goes : next_is t so more ≡ true →
        RelationGoes t so count most (related_by t so (ltb (count + 1) most) false true)
    unfolding side_number
    more-goes b = went (ltb (count + 1) most) false true
        (λ P e f. more-related t so s P a (ltb (count + 1) most) (same_left P e f) b)

    module _ (b : next_is t so more ≡ false) where
      pub no-more-goes : next_is t so no_more ≡ true → RelationGoes t so count most (related_by t so true true false)
      unfolding side_number
      no-more-goes d = went true true false (λ P e f. no-more-related t so s P a b (omega arith) d)

      pub less-goes : next_is t so no_more ≡ false →
          RelationGoes t so count most (related_by t so (next_is t so less) true true)
      unfolding side_number
      less-goes d = went (next_is t so less) true true (λ P e f. less-related t so s P a b (omega arith) d)
