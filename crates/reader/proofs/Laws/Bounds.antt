-- Limits: from one to the next, and the end.
--   variable-found, variable-none, variable-least      the variable that is named
--   words-fit, limits-start                            no limit is read yet
--   limit-related, limit-named, bound-goes   one limit
--   limits-ended                                       the end
use mathlib.Core.Bool.{Bool, true, false, ◌&&◌}
use mathlib.Core.List.{List, [], ◌∷◌, ◌++◌, append_assoc, append-nil, flatten}
use mathlib.Core.Option.{Option, none, some}
use mathlib.Core.Path.{◌≡◌, refl, sym, ◌∙◌, ap, subst}
use Prim.Native.Nat.{ℕ, zero, suc, ◌+◌, ◌-◌, ◌*◌, ◌/◌, ◌%◌, ◌≤◌, ◌<◌}
use native.Mathlib.Decide.{dec_lt}
use native.Mathlib.Nat.{mul-le-mul}
use native.Mathlib.Omega.{arith}
use borrow.Author.Tests.{le-leb, leb-true, lt-leb}
use lib.Dec.{leb, ltb}
use lib.IntN.{ℤ, pos}
use lib.ListN.{length, length-append, length-replicate, replicate, replicate-append-replicate}
use Rattle.whole.specs.Below.{lowest}
use Rattle.whole.specs.Tables.{table_from}
use Rattle.whole.proofs.Lists.Below.{lowest-passes, none_passes}
use Rattle.rules.specs.Limit.{Limit}
use Rattle.rules.specs.Sizes.{largest_limit, most_words}
use Rattle.rules.specs.Exchange.Tokens.{token_bytes}
use Rattle.rules.specs.Exchange.Script.{assert_limit, check_sat, end_assert, name_of}
use Rattle.rules.specs.Exchange.Reader.{Pieces, bounding, ended, limit, limit_word, limit_words, limiting}
use Rattle.rules.specs.Exchange.Reader.{marks, number, on, pieces, pieces_words, plain_number, relating, slot_at, taken}
use Rattle.rules.specs.Exchange.Reader.{with_limit}
use Rattle.rules.proofs.Exchange.Reader.Limits.{with-length}
use Rattle.rules.proofs.Exchange.Reader.Rows.{going-limits}
use Rattle.tokens.specs.Followed.{Followed}
use Rattle.std.specs.Prelude.{Ok}
use Rattle.tokens.specs.Placed.{read_behind}
use Rattle.reader.specs.declared.limits.Related.{Related}
use Rattle.reader.specs.declared.numbers.Told.{Told}
use Rattle.reader.specs.Course.{EndedAt, FewSizes, LimitsAt, Reads, RowsAt, pushed}
use Rattle.reader.specs.Flow.{assert_token, followed_on, next_is, skip_if}
use Rattle.reader.specs.Limits.{RelationGoes, read_related, limit_set, name_test, or_most, side_number, variable_from}
use Rattle.reader.specs.Numbers.{NumberGoes}
use Rattle.reader.proofs.Laws.Course.{on-as, on-passed, on_same}
use Rattle.reader.proofs.Laws.Decisions.{bound-found, limit-due, limit-over}
use Rattle.reader.proofs.Laws.Flow.{stands-skip}
use Rattle.reader.proofs.Laws.Numbers.{limit-asks}
use Rattle.reader.proofs.Laws.Puts.{pieces-set}

-- ---- the variable

module _ (t : List ℕ) (so : Followed) (n from most : ℕ) where
  abbrev pub name_stands : ℕ → Bool
  name_stands u = leb from u && next_is t so (name_of n u)

  pub variable-found : (v : ℕ) → v < most → name_stands v ≡ true → ((u : ℕ) → u < v → name_stands u ≡ false) →
      v ≡ variable_from t so n from most
  unfolding variable_from name_test or_most
  variable-found v h e first = sym (ap (or_most most) ((lowest-passes most name_stands v).1 (h, e, first)))

  pub variable-none : ((u : ℕ) → u < most → name_stands u ≡ false) → most ≡ variable_from t so n from most
  unfolding variable_from name_test or_most
  variable-none h = sym (ap (or_most most) ((none_passes most name_stands).1 h))

  variable-least : variable_from t so n from most < most → from ≤ variable_from t so n from most
  unfolding variable_from name_test or_most
  variable-least h = go (lowest most (name_test t so n from)) refl h
    where
      first : (a b : Bool) → (a && b) ≡ true → a ≡ true
      first true b e = refl
      first false b e = e

      go : (o : Option ℕ) → lowest most (name_test t so n from) ≡ o → or_most most o < most → from ≤ or_most most o
      go none e l = let z : ⊥ = omega arith in absurd z
      go (some v) e l =
          leb-true from v (first (leb from v) (next_is t so (name_of n v)) ((lowest-passes most name_stands v).0 e).1)

-- ---- no limit is read yet

pub words-fit : (n m : ℕ) → FewSizes n m → 2 + m * n + 3 * (n + m) ≤ most_words
words-fit n m f = let b = cells m 24 n 8 f.m-most f.n-most in omega (arith, b, f.n-most, f.m-most)
  where
    cells : (a c b d : ℕ) → a ≤ c → b ≤ d → a * b ≤ c * d
    cells a c b d p q = mul-le-mul p q

all-zeros : (a k : ℕ) (f : ℕ → ℤ) → ((i : ℕ) → f i ≡ pos 0) → table_from a k f ≡ replicate k (pos 0)
unfolding table_from
all-zeros a zero f h = refl
all-zeros a (suc k) f h = ap (λ z. z ∷ table_from (suc a) k f) (h a) ∙ ap (λ l. pos 0 ∷ l) (all-zeros (suc a) k f h)

no_word : (c : ℕ) → limit_word none none c ≡ pos 0
unfolding limit_word marks plain_number
no_word zero = refl
no_word (suc zero) = refl
no_word (suc (suc c)) = refl

no-limits : (n m : ℕ) (rows : List (List ℤ)) →
    limit_words (pieces n m rows []) ≡ replicate (3 * (n + m)) (pos 0)
unfolding limit_words slot_at
no-limits n m rows = all-zeros 0 (3 * (n + m)) (λ k. limit_word none none (k % 3)) (λ k. no_word (k % 3))

pushed-zeros : (H : List ℤ) (k : ℕ) → length H + k ≤ most_words → pushed H ≡ pushed (H ++ replicate k (pos 0))
unfolding pushed
pushed-zeros H k h =
    let size : length (H ++ replicate k (pos 0)) ≡ length H + k =
    length-append H (replicate k (pos 0)) ∙ ap (λ j. length H + j) (length-replicate k (pos 0)) in
    ap (λ j. H ++ replicate j (pos 0))
    (let e : most_words - length H ≡ k + (most_words - length (H ++ replicate k (pos 0))) = omega (arith, size) in e)
    ∙ ap (λ l. H ++ l)
    (sym (replicate-append-replicate k (most_words - length (H ++ replicate k (pos 0))) (pos 0)))
    ∙ sym (append_assoc H (replicate k (pos 0)) (replicate (most_words - length (H ++ replicate k (pos 0))) (pos 0)))

module _ {t : List ℕ} {n m : ℕ} {ws : List ℤ} {so : Followed} where
  pub limits-start : RowsAt t n m m ws so → LimitsAt t n m 0 ws so
  unfolding pieces_words
  limits-start r = record {
    held = record {
      few = r.few;
      rows = r.rows;
      limits = [];
      flat = r.flat;
      all-rows = r.count;
      numbered = refl;
      few-limits = omega arith;
      words = r.words
          ∙ pushed-zeros (pos n ∷ pos m ∷ flatten r.rows) (3 * (n + m))
          (omega (arith, words-fit n m r.few, r.flat))
          ∙ ap (λ l. pushed (pos n ∷ pos m ∷ (flatten r.rows ++ l))) (sym (no-limits n m r.rows));
    };
    on-course = on-as (going-limits (pieces n m r.rows []) (omega (arith, r.count))) r.on-course;
  }

-- ---- one limit

module _ {t : List ℕ} {n m count : ℕ} {ws : List ℤ} {so : Followed} (r : LimitsAt t n m count ws so) where
  abbrev P : Pieces
  P = pieces n m r.held.rows r.held.limits

  pub limit-opened : (next_is t so assert_token && ltb count (2 * (n + m))) ≡ true →
      Reads t (on [] (relating P)) (followed_on t so (token_bytes assert_limit))
  limit-opened e =
      on-passed (token_bytes assert_limit) [] (relating P)
      (on-as (ap (λ l. on l (relating P)) (sym (append-nil (token_bytes assert_limit))))
      (on_same r.on-course
      (limit-due t so r.on-course.stands P
      (subst (λ k. (next_is t so assert_token && ltb k (2 * (n + m))) ≡ true) (sym r.held.numbered) e))))

  pub limit-related : {opened : Followed} → Reads t (on [] (relating P)) opened → (told : Related) →
      RelationGoes t opened count (2 * (n + m)) (Ok told) →
      Reads t (on [] (bounding P (side_number told.upper) told.strict)) (Ok told.at)
  unfolding read_related read_behind
  limit-related o told g = record {
    reads = o.reads ∙ g.goes P r.held.numbered refl;
    stands = g.stands told refl;
  }

  module _ (upper strict : Bool) {related : Followed}
      (b : Reads t (on [] (bounding P (side_number upper) strict)) related) where
    abbrev v : ℕ
    v = variable_from t related n ((count + 1 - side_number upper) / 2) (n + m)

    side-small : (u : Bool) → side_number u < 2
    unfolding side_number
    side-small true = omega arith
    side-small false = omega arith

    same_first : (u : ℕ) →
        leb ((count + 1 - side_number upper) / 2) u ≡ leb (length P.limits) (2 * u + side_number upper)
    same_first u = go (dec_lt u ((count + 1 - side_number upper) / 2))
      where
        go : Dec (u < (count + 1 - side_number upper) / 2) →
            leb ((count + 1 - side_number upper) / 2) u ≡ leb (length P.limits) (2 * u + side_number upper)
        go (yes l) =
            lt-leb ((count + 1 - side_number upper) / 2) u l
            ∙ sym (lt-leb (length P.limits) (2 * u + side_number upper)
            (omega (arith, side-small upper, r.held.numbered)))
        go (no l) =
            le-leb ((count + 1 - side_number upper) / 2) u (omega arith)
            ∙ sym (le-leb (length P.limits) (2 * u + side_number upper)
            (omega (arith, side-small upper, r.held.numbered)))

    pub limit-named :
        Reads t (on [] (number (limit P (2 * v + side_number upper) strict))) (skip_if t related (ltb v (n + m)))
    limit-named = record {
      reads = b.reads
          ∙ bound-found t related b.stands P (side_number upper) ((count + 1 - side_number upper) / 2) strict
          same_first;
      stands = stands-skip t related (ltb v (n + m)) b.stands;
    }

    pub limit-behind : v < n + m → count ≤ 2 * v + side_number upper
    limit-behind h =
        omega (arith, variable-least t related n ((count + 1 - side_number upper) / 2) (n + m) h, side-small upper)

    pub bound-goes : v < n + m → {to : Followed} →
        Reads t (on [] (number (limit P (2 * v + side_number upper) strict))) to →
        (told : Told) → NumberGoes t to (record { largest = largest_limit; blank = false }) (Ok told) →
        LimitsAt t n m (2 * v + side_number upper + 1)
        (limit_set ws (2 + m * n + 3 * v) upper strict told.value) (followed_on t (Ok told.at) (token_bytes end_assert))
    unfolding taken with_limit
    bound-goes h o told g = record {
      held = record {
        few = r.held.few;
        rows = r.held.rows;
        limits = (with_limit P (2 * v + side_number upper) l).limits;
        flat = r.held.flat;
        all-rows = r.held.all-rows;
        numbered = with-length P (2 * v + side_number upper) l behind
            ∙ (let z : suc (2 * v + side_number upper) ≡ 2 * v + side_number upper + 1 = omega arith in z);
        few-limits = omega (arith, side-small upper);
        words = ap (λ w. limit_set w (2 + m * n + 3 * v) upper strict told.value) r.held.words
            ∙ pieces-set P r.held.flat v upper strict told.value h behind;
      };
      on-course =
          on-passed (token_bytes end_assert) [] (limiting (with_limit P (2 * v + side_number upper) l))
          (on-as (ap (λ ts. on ts (limiting (with_limit P (2 * v + side_number upper) l)))
          (sym (append-nil (token_bytes end_assert)))) reading);
    }
      where
        l : Limit
        l = record { plain = told.value; strict = strict }

        behind : length P.limits ≤ 2 * v + side_number upper
        behind = omega (arith, limit-behind h, r.held.numbered)

        reading : Reads t (on (token_bytes end_assert) (limiting (with_limit P (2 * v + side_number upper) l)))
            (Ok told.at)
        reading = record {
          reads = o.reads ∙ g.goes (limit P (2 * v + side_number upper) strict)
              (limit-asks P (2 * v + side_number upper) strict);
          stands = g.stands;
        }

  pub limits-ended : (next_is t so assert_token && ltb count (2 * (n + m))) ≡ false →
      EndedAt t n m ws (followed_on t so (token_bytes check_sat))
  limits-ended e = record {
    count = count;
    held = r.held;
    on-course =
        on-passed (token_bytes check_sat) [] (ended P)
        (on-as (ap (λ l. on l (ended P)) (sym (append-nil (token_bytes check_sat))))
        (on_same r.on-course
        (limit-over t so r.on-course.stands P
        (subst (λ k. (next_is t so assert_token && ltb k (2 * (n + m))) ≡ false) (sym r.held.numbered) e))));
  }
