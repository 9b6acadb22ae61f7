-- A number by its tokens.
--   coefficient-asks, limit-asks   what is asked of a coefficient, and of a limit
--   numeral-out, numeral-told, numeral-nothing   no byte is left; a numeral is there, or no number
--   numeral-goes, size-goes        a numeral is read, and the size of a number below 0
--   stands-numeral                 where the reading stands then
use mathlib.Core.Bool.{Bool, true, false, cond, not, ◌&&◌, ◌||◌}
use mathlib.Core.List.{List, []}
use mathlib.Core.Option.{Option, none, some, none-ne-some}
use mathlib.Core.Path.{◌≡◌, refl, sym, ◌∙◌, ap, subst}
use Prim.Native.Nat.{ℕ, zero, suc, ◌≤◌, ◌<◌}
use native.Mathlib.Decide.{dec_lt}
use native.Mathlib.Omega.{arith}
use borrow.Author.Tests.{le-leb, le-ltb, lt-leb, lt-ltb, ne_eqb}
use lib.Dec.{eqb, leb, ltb}
use lib.IntN.{ℤ, nat_abs, negsuc, pos}
use lib.ListN.{length}
use Rattle.whole.specs.Numbers.{eq_z, within}
use Rattle.whole.proofs.Bools.{true-false}
use Rattle.rules.specs.Exchange.Tokens.{token_bytes}
use Rattle.rules.specs.Exchange.Script.{close}
use Rattle.rules.specs.Exchange.Reader.{Bytes, Pieces, ReaderState, Spot, admitted, ahead, all_zero, coefficient}
use Rattle.rules.specs.Exchange.Reader.{decided, finish, fits, is, limit, number, numeral, on, same_bytes, size, stuck}
use Rattle.rules.specs.Exchange.Reader.{taken, token_step, with_sign}
use Rattle.rules.specs.Sizes.{largest_coefficient, largest_limit}
use Rattle.rules.proofs.Exchange.Reader.Openings.{open_word, openings}
use Rattle.tokens.specs.Followed.{Followed, halted}
use Rattle.std.specs.Prelude.{Ok, Err, Result, Some, None, ok_or, take, drop, ◌-◌}
use Rattle.tokens.proofs.Laws.Follows.{token-due}
use Rattle.std.specs.Prelude.{Option as Found}
use Rattle.tokens.specs.declared.Halted.{Halted}
use Rattle.tokens.specs.Gaps.{bytes_at, stop_at}
use Rattle.tokens.specs.Numeral.{numeral_of, short_numeral}
use Rattle.tokens.specs.Placed.{read_behind}
use Rattle.tokens.proofs.Laws.Numerals.{long-refused}
use Rattle.reader.specs.declared.numbers.Asked.{Asked}
use Rattle.reader.specs.declared.numbers.Told.{Told}
use Rattle.reader.specs.Flow.{StandsAt, next_is, next_token, skip_if}
use Rattle.reader.specs.Numbers.{Asks, admissible, told_place, told_value, numeral_at, numeral_by, numeral_fit}
use Rattle.reader.specs.Numbers.{numeral_on, value_by}
use Rattle.reader.proofs.Laws.Flow.{chosen, same-token, skip-in, skip-not, stands-halted, stands-skip}
use Rattle.reader.proofs.Laws.Flow.{token-in, token-out}

-- ---- what is asked

and-not-false : (b : Bool) → b ≡ (b && not false)
and-not-false true = refl
and-not-false false = refl

and_assoc : (a b c : Bool) → (a && (b && c)) ≡ (a && b && c)
and_assoc true b c = refl
and_assoc false b c = refl

pub limit-asks : (P : Pieces) (k : ℕ) (strict : Bool) →
    Asks (limit P k strict) (record { largest = largest_limit; blank = false })
unfolding fits
limit-asks P k strict = record { same = λ z. and-not-false (within largest_limit z) }

pub coefficient-asks : (P : Pieces) (row : List ℤ) (blank : Bool) →
    blank ≡ (eqb (suc (length row)) P.n && all_zero row) →
    Asks (coefficient P row) (record { largest = largest_coefficient; blank = blank })
unfolding fits
coefficient-asks P row blank e = record {
  same = λ z. ap (λ b. within largest_coefficient z && not b)
      (and_assoc (eqb (suc (length row)) P.n) (all_zero row) (eq_z z (pos 0))
      ∙ ap (λ b. b && eq_z z (pos 0)) (sym e));
}

-- ---- a numeral

module _ (t : List ℕ) (at : ℕ) (below : Bool) (a : Asked) where
  pub numeral-out : length t ≤ at → numeral_at t at below a ≡ halted at
  unfolding numeral_at
  numeral-out h = rw (le-ltb at (length t) h, numeral_at) refl

  numeral-in : at < length t → numeral_at t at below a ≡ numeral_by t at below a (short_numeral (bytes_at t at))
  unfolding numeral_at
  numeral-in h = rw (lt-ltb at (length t) h, numeral_at) refl

  -- .. by its bytes
  module _ (l : at < length t) (o : Found ℕ) {end : ℕ} (s : end ≡ stop_at t at)
      (n : o ≡ short_numeral (take (end - at) (drop at t))) where
    numeral-found : numeral_on t (Ok at) below a ≡ numeral_by t at below a o
    unfolding numeral_on
    numeral-found =
        numeral-in l ∙ ap (λ w. numeral_by t at below a (short_numeral w)) (token-due t at s)
        ∙ ap (numeral_by t at below a) (sym n)

    pub numeral-told : {k : ℕ} → ok_or {E = Halted} o (record { place = at }) ≡ Ok k →
        numeral_fit t at below k (admissible k below a) ≡ numeral_on t (Ok at) below a
    unfolding numeral_by
    numeral-told {k} q = go o q ∙ sym numeral-found
      where
        go : (x : Found ℕ) → ok_or {E = Halted} x (record { place = at }) ≡ Ok k →
            numeral_fit t at below k (admissible k below a) ≡ numeral_by t at below a x
        go None e = cc
        go (Some j) e = let z : j ≡ k = cc in ap (λ i. numeral_fit t at below i (admissible i below a)) (sym z)

    pub numeral-nothing : {e : Halted} → ok_or o (record { place = at }) ≡ Err e →
        Err e ≡ numeral_on t (Ok at) below a
    unfolding numeral_by
    numeral-nothing {e} q = go o q ∙ sym numeral-found
      where
        go : (x : Found ℕ) → ok_or x (record { place = at }) ≡ Err e → Err e ≡ numeral_by t at below a x
        go None f = let z : record { place = at } ≡ e = cc in ap (λ (h : Halted). Err h) (sym z)
        go (Some j) f = cc

module _ (k : ℕ) (below : Bool) (a : Asked) where
  admissible-over : a.largest < k → admissible k below a ≡ false
  unfolding admissible
  admissible-over h = rw (lt-ltb a.largest k h, admissible) refl

  pub admissible-most : admissible k below a ≡ true → k ≤ a.largest
  admissible-most e = go (dec_lt a.largest k)
    where
      go : Dec (a.largest < k) → k ≤ a.largest
      go (yes l) = true-false e (admissible-over l)
      go (no n) = omega arith

-- what is admitted, by its value
module _ (c : Spot) (a : Asked) (A : Asks c a) (before : List Bytes) where
  abbrev fitted : Bool → ℤ → Option ReaderState
  fitted b z = cond b (some (ahead before (taken c z))) none

  not-size : (l b : Bool) → elim l [ true ↦ false | false ↦ not (true && (true || b)) ] ≡ false
  not-size true b = refl
  not-size false b = refl

  by_size : (k : ℕ) (z : ℤ) (b : Bool) → within a.largest z ≡ not (ltb a.largest k) →
      not (a.blank && eq_z z (pos 0)) ≡ not (eqb k 0 && (b || a.blank)) → fits c z ≡ admissible k b a
  unfolding admissible
  by_size k z b e f = A.same z ∙ go (ltb a.largest k) e f
    where
      go : (l : Bool) → within a.largest z ≡ not l →
          not (a.blank && eq_z z (pos 0)) ≡ not (eqb k 0 && (b || a.blank)) →
          (within a.largest z && not (a.blank && eq_z z (pos 0)))
          ≡ elim l [ true ↦ false | false ↦ not (eqb k 0 && (b || a.blank)) ]
      go true e f = rw e refl
      go false e f = rw e f

  size-test : (z : ℤ) (k : ℕ) → nat_abs z ≡ k → within a.largest z ≡ not (ltb a.largest k)
  unfolding within
  size-test z k e = ap (λ j. leb j a.largest) e ∙ go (dec_lt a.largest k)
    where
      go : Dec (a.largest < k) → leb k a.largest ≡ not (ltb a.largest k)
      go (yes l) = lt-leb k a.largest l ∙ sym (ap not (lt-ltb a.largest k l))
      go (no n) = le-leb k a.largest (omega arith) ∙ sym (ap not (le-ltb a.largest k (omega arith)))

  and-swap : (b d : Bool) → not (b && d) ≡ not (d && b)
  and-swap true true = refl
  and-swap true false = refl
  and-swap false true = refl
  and-swap false false = refl

  and_none : (b : Bool) → not (b && false) ≡ true
  and_none true = refl
  and_none false = refl

  admitted-value : (below : Bool) (k : ℕ) →
      admitted c before (with_sign below (some k)) ≡ fitted (admissible k below a) (value_by below k)
  unfolding admitted with_sign value_by admissible
  admitted-value false k =
      ap (λ b. fitted b (pos k))
      (by_size k (pos k) false (size-test (pos k) k refl) (and-swap a.blank (eqb k 0)))
  admitted-value true zero = sym (ap (λ b. fitted b (pos 0)) (never (ltb a.largest 0)))
    where
      never : (l : Bool) → admissible 0 true a ≡ false
      never l = not-size (ltb a.largest 0) a.blank
  admitted-value true (suc k) =
      ap (λ b. fitted b (negsuc k))
      (by_size (suc k) (negsuc k) true (size-test (negsuc k) (suc k) refl)
      (and_none a.blank ∙ sym (ap (λ b. not (b && (true || a.blank))) (ne_eqb (suc k) 0 (λ e. omega arith)))))

  short-is : (w : Bytes) (k : ℕ) → short_numeral w ≡ Some k → numeral w ≡ some k
  unfolding short_numeral numeral_of
  short-is w k e = go (ltb 5 (length w)) (numeral w) refl e
    where
      go : (b : Bool) (o : Option ℕ) → numeral w ≡ o → cond b None (numeral_of o) ≡ Some k → numeral w ≡ some k
      go true o q f = cc
      go false none q f = cc
      go false (some j) q f = q ∙ (let z : some j ≡ some k = cc in z)

  admitted-not : (below : Bool) (w : Bytes) → short_numeral w ≡ None →
      admitted c before (with_sign below (numeral w)) ≡ none
  unfolding short_numeral numeral_of admitted with_sign
  admitted-not below w e = go (dec_lt 5 (length w)) (numeral w) refl
    where
      nothing : (b : Bool) → admitted c before (with_sign b none) ≡ none
      nothing true = refl
      nothing false = refl

      go : Dec (5 < length w) → (o : Option ℕ) → numeral w ≡ o → admitted c before (with_sign below (numeral w)) ≡ none
      go (yes l) o q = long-refused c before below w l
      go (no n) none q = ap (λ o. admitted c before (with_sign below o)) q ∙ nothing below
      go (no n) (some k) q =
          let z : None ≡ Some k =
          sym e ∙ ap (λ b. cond b None (numeral_of (numeral w))) (le-ltb 5 (length w) (omega arith))
          ∙ ap numeral_of q in
          cc

  -- a state that the next token leaves as a numeral
  numeral-leads : (t : List ℕ) (S : ReaderState) (below : Bool) (so : Followed) → StandsAt t so →
      finish 0 S.todo S.stage ≡ stuck 0 →
      ((w : Bytes) → next_token t so ≡ some w →
      token_step S.todo S.stage w ≡ admitted c before (with_sign below (numeral w))) →
      read_behind t S so
      ≡ read_behind t (ahead before (taken c (told_value (numeral_on t so below a))))
      (told_place (numeral_on t so below a))
  unfolding numeral_on skip_if numeral_by numeral_fit next_token read_behind
  numeral-leads t S below (Err p) s e h = refl
  numeral-leads t S below (Ok at) s e h = go (dec_lt at (length t))
    where
      goal : Result Told Halted → Type 0
      goal r = read_behind t S (Ok at) ≡ read_behind t (ahead before (taken c (told_value r))) (told_place r)

      -- halted there, for any state
      stopped : (may : Bool) (T : ReaderState) → may ≡ false →
          ((w : Bytes) → next_token t (Ok at) ≡ some w → token_step S.todo S.stage w ≡ none) →
          read_behind t S (Ok at) ≡ read_behind t T (halted at)
      stopped may T q none-taken =
          chosen t S T (Ok at) false s e none-taken ∙ ap (read_behind t T) (skip-not t at)

      halted-goal : ((w : Bytes) → next_token t (Ok at) ≡ some w → token_step S.todo S.stage w ≡ none) →
          goal (halted at)
      halted-goal f = stopped false (ahead before (taken c (pos 0))) refl f

      go : Dec (at < length t) → goal (numeral_at t at below a)
      go (no n) =
          subst goal (sym (numeral-out t at below a (omega arith)))
          (halted-goal (λ w q. absurd (none-ne-some w (sym (token-out t at (omega arith)) ∙ q))))
      go (yes l) =
          subst goal (sym (numeral-in t at below a l)) (by (short_numeral (bytes_at t at)) refl)
        where
          taken-there : (w : Bytes) → next_token t (Ok at) ≡ some w → bytes_at t at ≡ w
          taken-there w q = some_same (sym (token-in t at l) ∙ q)
            where
              some_same : ◌≡◌ {A = Option Bytes} (some (bytes_at t at)) (some w) → bytes_at t at ≡ w
              some_same f = cc

          by : (r : Found ℕ) → short_numeral (bytes_at t at) ≡ r → goal (numeral_by t at below a r)
          by None q = halted-goal (λ w f. h w f
              ∙ ap (λ v. admitted c before (with_sign below (numeral v))) (sym (taken-there w f))
              ∙ admitted-not below (bytes_at t at) q)
          by (Some k) q = fit (admissible k below a) refl
            where
              step : (w : Bytes) → next_token t (Ok at) ≡ some w →
                  token_step S.todo S.stage w ≡ fitted (admissible k below a) (value_by below k)
              step w f = h w f
                  ∙ ap (λ v. admitted c before (with_sign below (numeral v))) (sym (taken-there w f))
                  ∙ ap (λ o. admitted c before (with_sign below o)) (short-is (bytes_at t at) k q)
                  ∙ admitted-value below k

              fit : (b : Bool) → admissible k below a ≡ b → goal (numeral_fit t at below k b)
              fit false f = halted-goal (λ w g. step w g ∙ ap (λ b. fitted b (value_by below k)) f)
              fit true f =
                  chosen t S (ahead before (taken c (value_by below k))) (Ok at) true s e
                  (λ w g. step w g ∙ ap (λ b. fitted b (value_by below k)) f)
                  ∙ ap (read_behind t (ahead before (taken c (value_by below k)))) (skip-in t at l)

-- ---- a number, in both forms

module _ (t : List ℕ) (so : Followed) (s : StandsAt t so) (c : Spot) (a : Asked) (A : Asks c a) where
  pub numeral-goes : next_is t so open_word ≡ false →
      read_behind t (on [] (number c)) so
      ≡ read_behind t (taken c (told_value (numeral_on t so false a))) (told_place (numeral_on t so false a))
  unfolding ahead decided is finish token_step
  numeral-goes e = numeral-leads c a A [] t (on [] (number c)) false so s refl
      (λ w q. step w (sym (same-token t so open_word w q) ∙ e))
    where
      step : (w : Bytes) → same_bytes open_word w ≡ false →
          decided (number c) w ≡ admitted c [] (with_sign false (numeral w))
      step w q = rw (openings.minus_is, q) refl

  pub size-goes : read_behind t (on [] (size c)) so
      ≡ read_behind t (ahead (token_bytes close) (taken c (told_value (numeral_on t so true a))))
      (told_place (numeral_on t so true a))
  unfolding decided finish token_step
  size-goes = numeral-leads c a A (token_bytes close) t (on [] (size c)) true so s refl (λ w q. refl)

-- where the reading stands then
pub stands-numeral : (t : List ℕ) (so : Followed) (below : Bool) (a : Asked) → StandsAt t so →
    StandsAt t (told_place (numeral_on t so below a))
unfolding numeral_on numeral_fit numeral_by skip_if
stands-numeral t (Err p) below a s = stands-halted t p
stands-numeral t (Ok at) below a s = go (dec_lt at (length t))
  where
    go : Dec (at < length t) → StandsAt t (told_place (numeral_at t at below a))
    go (no n) =
        subst (λ r. StandsAt t (told_place r)) (sym (numeral-out t at below a (omega arith)))
        (stands-halted t (record { place = at }))
    go (yes l) =
        subst (λ r. StandsAt t (told_place r)) (sym (numeral-in t at below a l)) (by (short_numeral (bytes_at t at)))
      where
        fit : (k : ℕ) (b : Bool) → StandsAt t (told_place (numeral_fit t at below k b))
        fit k false = stands-halted t (record { place = at })
        fit k true = subst (StandsAt t) (skip-in t at l) (stands-skip t (Ok at) true s)

        by : (r : Found ℕ) → StandsAt t (told_place (numeral_by t at below a r))
        by None = stands-halted t (record { place = at })
        by (Some k) = fit k (admissible k below a)
