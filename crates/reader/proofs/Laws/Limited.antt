-- One limit by the results of calls.
--   limits-length, limit-left       how long the array is; a limit is left
--   opened-on, named-on            behind the word of a limit, and behind a name
--   relation-refused, variable-refused, bound-refused   its relation, its name or its number cannot stand there
--   place-room                     where the words of the limit stand
--   limited-at, limited-more       the limit is read, and it is a later one
use mathlib.Core.Bool.{true, false, ◌&&◌}
use mathlib.Core.List.{List, []}
use mathlib.Core.Path.{refl, ◌≡◌, sym, ◌∙◌, ap, ap₂, subst}
use Prim.Native.Nat.{ℕ, ◌+◌, ◌-◌, ◌*◌, ◌/◌, ◌≤◌, ◌<◌}
use native.Mathlib.Omega.{arith}
use borrow.Author.Tests.{le-ltb, lt-ltb, ltb-true}
use lib.Dec.{ltb}
use lib.IntN.{ℤ, pos}
use lib.ListN.{get_or, length}
use lib.Signed.{◌≤ℤ◌}
use Rattle.whole.proofs.Bools.{and-true}
use Rattle.rules.specs.Sizes.{largest_limit, most_words}
use Rattle.rules.specs.Exchange.Tokens.{token_bytes}
use Rattle.rules.specs.Exchange.Script.{assert_limit, end_assert}
use Rattle.rules.specs.Exchange.Reader.{Pieces, bounding, limit, number, on, pieces, pieces_words, relating}
use Rattle.tokens.specs.Followed.{Followed}
use Rattle.reader.specs.declared.limits.Related.{Related}
use Rattle.reader.specs.declared.numbers.Told.{Told}
use Rattle.reader.specs.Course.{LimitsAt, Reads, Refused}
use Rattle.reader.specs.Flow.{assert_token, followed_on, next_is, skip_if}
use Rattle.reader.specs.Limits.{RelationGoes, limit_set, read_related, side_number, variable_from}
use Rattle.reader.specs.Numbers.{NumberGoes}
use Rattle.reader.proofs.Laws.Bounds.{limit-behind, bound-goes, limit-named}
use Rattle.reader.proofs.Laws.Bounds.{limit-opened, limit-related, words-fit}
use Rattle.reader.proofs.Laws.Course.{refused-at}
use Rattle.reader.proofs.Laws.Flow.{skip-not}
use Rattle.reader.proofs.Laws.Numbers.{limit-asks}
use Rattle.std.specs.Prelude.{Ok, Err}
use Rattle.tokens.specs.declared.Halted.{Halted}
use Rattle.tokens.specs.Placed.{read_behind}
use Rattle.reader.proofs.Laws.Pushed.{push-length}
use Rattle.reader.proofs.Laws.Puts.{kind-small, pieces-length}

module _ {t : List ℕ} {n m count : ℕ} {ws : List ℤ} {so : Followed} (r : LimitsAt t n m count ws so) where
  abbrev H : Pieces
  H = pieces n m r.held.rows r.held.limits

  limits-length : length ws ≡ most_words
  limits-length =
      ap length r.held.words
      ∙ push-length (pieces_words H)
      (omega (arith, pieces-length H r.held.flat, words-fit n m r.held.few))

  module _ (due : (next_is t so assert_token && ltb count (2 * (n + m))) ≡ true) where
    pub limit-left : count < 2 * (n + m)
    limit-left =
        ltb-true count (2 * (n + m)) (and-true (next_is t so assert_token) (ltb count (2 * (n + m))) due).1

    module _ {opened : Followed} (e : opened ≡ followed_on t so (token_bytes assert_limit)) where
      pub opened-on : Reads t (on [] (relating H)) opened
      opened-on = subst (Reads t (on [] (relating H))) (sym e) (limit-opened r due)

      pub relation-refused : {x : Halted} → RelationGoes t opened count (2 * (n + m)) (Err x) → Refused t x
      unfolding read_related
      relation-refused g = opened-on.reads ∙ g.goes H r.held.numbered refl

      module _ {told : Related} (g : RelationGoes t opened count (2 * (n + m)) (Ok told)) {side : ℕ}
          (f : side ≡ side_number told.upper) where
        bounds : Reads t (on [] (bounding H (side_number told.upper) told.strict)) (Ok told.at)
        bounds = limit-related r opened-on told g

        abbrev U : ℕ
        U = variable_from t (Ok told.at) n ((count + 1 - side_number told.upper) / 2) (n + m)

        same-from : variable_from t (Ok told.at) n ((count + 1 - side) / 2) (n + m) ≡ U
        same-from = ap (λ k. variable_from t (Ok told.at) n ((count + 1 - k) / 2) (n + m)) f

        name-reads : Reads t (on [] (number (limit H (2 * U + side_number told.upper) told.strict)))
            (skip_if t (Ok told.at) (ltb U (n + m)))
        name-reads = limit-named r told.upper told.strict bounds

        pub variable-refused : n + m ≡ variable_from t (Ok told.at) n ((count + 1 - side) / 2) (n + m) →
            Refused t (record { place = told.at })
        unfolding skip_if
        variable-refused q =
            refused-at name-reads
            (ap (skip_if t (Ok told.at)) (le-ltb U (n + m) (omega (arith, q, same-from))) ∙ skip-not t told.at)

        module _ {v : ℕ} (h : v < n + m) (q : v ≡ variable_from t (Ok told.at) n ((count + 1 - side) / 2) (n + m))
            {named : Followed} (s : named ≡ skip_if t (Ok told.at) true) where
          same : v ≡ U
          same = q ∙ same-from

          small : U < n + m
          small = subst (λ k. k < n + m) same h

          pub named-on : Reads t (on [] (number (limit H (2 * U + side_number told.upper) told.strict))) named
          named-on =
              subst (Reads t (on [] (number (limit H (2 * U + side_number told.upper) told.strict))))
              (ap (skip_if t (Ok told.at)) (lt-ltb U (n + m) small) ∙ sym s) name-reads

          pub named-refused : {x : Halted} → named ≡ Err x → Refused t x
          named-refused o = refused-at named-on o

          behind : count ≤ 2 * U + side_number told.upper
          behind = limit-behind r told.upper told.strict bounds small

          pub bound-refused : {x : Halted} →
              NumberGoes t named (record { largest = largest_limit; blank = false }) (Err x) → Refused t x
          unfolding read_behind
          bound-refused d =
              named-on.reads
              ∙ d.goes (limit H (2 * U + side_number told.upper) told.strict)
              (limit-asks H (2 * U + side_number told.upper) told.strict)

          pub place-room : (2 + m * n + 3 * v + 2 < length ws)
              × (pos 0 ≤ℤ get_or ws (2 + m * n + 3 * v) (pos 0)) × (get_or ws (2 + m * n + 3 * v) (pos 0) ≤ℤ pos 5)
          place-room = (omega (arith, limits-length, words-fit n m r.held.few), kinds.0, kinds.1)
            where
              kinds : (pos 0 ≤ℤ get_or ws (2 + m * n + 3 * v) (pos 0))
                  × (get_or ws (2 + m * n + 3 * v) (pos 0) ≤ℤ pos 5)
              kinds =
                  subst (λ w. (pos 0 ≤ℤ get_or w (2 + m * n + 3 * v) (pos 0))
                  × (get_or w (2 + m * n + 3 * v) (pos 0) ≤ℤ pos 5)) (sym r.held.words)
                  (kind-small H r.held.flat v told.upper told.strict (pos 0) h
                  (omega (arith, behind, same, r.held.numbered)))

          pub limited-more : count < 2 * v + side + 1
          limited-more = omega (arith, same, f, behind)

          module _ {bound : Told}
              (d : NumberGoes t named (record { largest = largest_limit; blank = false }) (Ok bound))
              (z : ℤ) (i : z ≡ bound.value) (last : Followed)
              (j : last ≡ followed_on t (Ok bound.at) (token_bytes end_assert)) (new : List ℤ)
              (k : new ≡ limit_set ws (2 + m * n + 3 * v) told.upper told.strict z) (next : ℕ)
              (l : next ≡ 2 * v + side + 1) where
            token-same : next ≡ 2 * U + side_number told.upper + 1
            token-same = l ∙ ap₂ (λ p y. 2 * p + y + 1) same f

            new-same : new ≡ limit_set ws (2 + m * n + 3 * U) told.upper told.strict bound.value
            new-same =
                k ∙ ap₂ (λ p y. limit_set ws (2 + m * n + 3 * p) told.upper told.strict y) same i

            pub limited-at : LimitsAt t n m next new last
            limited-at =
                subst (LimitsAt t n m next new) (sym j)
                (subst (λ w. LimitsAt t n m next w (followed_on t (Ok bound.at) (token_bytes end_assert)))
                (sym new-same)
                (subst (λ c. LimitsAt t n m c
                (limit_set ws (2 + m * n + 3 * U) told.upper told.strict bound.value)
                (followed_on t (Ok bound.at) (token_bytes end_assert))) (sym token-same)
                (bound-goes r told.upper told.strict bounds small named-on bound d)))
