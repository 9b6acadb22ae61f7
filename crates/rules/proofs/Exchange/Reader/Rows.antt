-- The tokens of numbers and rows are read, one after the other.
--   Each, FineRow, FineSlot, FinePieces   what is read of a problem: numbers in range, no row being blank
--   leads-from, leads-to, leads-as        runs of the reader that are equal
--   number-leads, terms-lead, rows-lead   numbers, coefficients, rows
use mathlib.Core.Bool.{Bool, true, false, not, ◌&&◌}
use mathlib.Core.List.{List, [], ◌∷◌, ◌++◌, append_assoc, append-nil}
use mathlib.Core.Option.{Option, none, some}
use mathlib.Core.Path.{◌≡◌, refl, sym, ◌∙◌, ap, ap₂, subst}
use Prim.Native.Nat.{ℕ, suc, ◌+◌, ◌*◌, ◌≤◌, ◌<◌}
use native.Mathlib.Omega.{arith}
use native.Mathlib.Decide.{ℕ_discrete}
use borrow.Author.Tests.{lt-ltb, le-ltb, ne_eqb}
use lib.Dec.{eqb}
use lib.IntN.{ℤ, pos, negsuc}
use lib.ListN.{length, length-append}
use Rattle.whole.specs.Numbers.{eq_z, within}
use Rattle.rules.specs.Limit.{Limit}
use Rattle.rules.specs.Sizes.{largest_coefficient, largest_limit, most_columns, most_rows}
use Rattle.rules.specs.Program.Text.{ascii, digits}
use Rattle.rules.specs.Exchange.Tokens.{token_bytes}
use Rattle.rules.specs.Exchange.Script.{close, column_name, end_assert, open_minus, open_term}
use Rattle.rules.specs.Exchange.Reader.{Bytes, Pieces, Spot, ReaderState, admitted, all_zero, ahead, behind_term}
use Rattle.rules.specs.Exchange.Reader.{closes, coefficient, fits, going, is, limiting, decided, number, on}
use Rattle.rules.specs.Exchange.Reader.{pieces, row_head, with_sign, size, token_step, taken, with_row}
use Rattle.rules.proofs.Exchange.Reader.Turns.{LeadsTo, all-todo-leads, chosen-leads, leads-then, same_not}
use Rattle.rules.proofs.Exchange.Reader.Turns.{same_refl, stop, todo-leads, turn}
use Rattle.rules.proofs.Exchange.Tokens.Said.{listed, said_number, said_row, said_term}
use Rattle.rules.proofs.Exchange.Reader.Openings.{digits-open, numeral-digits, open_word, openings}

-- ---- fine parts

abbrev pub Each : {A : Type 0} → (A → Type 0) → List A → Type 0
Each Q [] = Unit {0}
Each Q (a ∷ l) = Q a × Each Q l

abbrev pub FineNumber : ℤ → Type 0
FineNumber z = within largest_coefficient z ≡ true

pub record FineRow (n : ℕ) (row : List ℤ) : Type 0 where
  pub width : length row ≡ n
  pub each : Each FineNumber row
  pub filled : all_zero row ≡ false

abbrev pub FineSlot : Option Limit → Type 0
FineSlot none = Unit {0}
FineSlot (some l) = within largest_limit l.plain ≡ true

pub record FinePieces (P : Pieces) : Type 0 where
  pub n-least : 1 ≤ P.n
  pub n-most : P.n ≤ most_columns
  pub m-most : P.m ≤ most_rows
  pub all-rows : length P.rows ≡ P.m
  pub each_row : Each (FineRow P.n) P.rows
  pub few-limits : length P.limits ≤ 2 * (P.n + P.m)
  pub each_limit : Each FineSlot P.limits

-- ---- runs that are equal

pub leads-from : {S T U : ReaderState} {p : List Bytes} → S ≡ T → LeadsTo T p U → LeadsTo S p U
leads-from {U = U} {p = p} e r = subst (λ X. LeadsTo X p U) (sym e) r

pub leads-to : {S T U : ReaderState} {p : List Bytes} → T ≡ U → LeadsTo S p T → LeadsTo S p U
leads-to {S} {p = p} e r = subst (λ X. LeadsTo S p X) e r

pub leads-as : {S T : ReaderState} {p q : List Bytes} → p ≡ q → LeadsTo S q T → LeadsTo S p T
leads-as {S} {T} e r = subst (λ l. LeadsTo S l T) (sym e) r

-- ---- numbers

module _ (c : Spot) where
  decided-digits : (k : ℕ) → decided (number c) (digits k) ≡ admitted c [] (some (pos k))
  unfolding decided is with_sign
  decided-digits k = rw (openings.minus_is, same_not open_word (digits k) (digits-open k), numeral-digits k) refl

  decided-size : (k : ℕ) → decided (size c) (digits (suc k)) ≡ admitted c (token_bytes close) (some (negsuc k))
  unfolding decided with_sign
  decided-size k = rw (numeral-digits (suc k)) refl

  minus-leads : LeadsTo (on [] (number c)) (token_bytes open_minus) (on [] (size c))
  unfolding decided is
  minus-leads = rw openings.minus_is
      (chosen-leads open_word (ascii "-" ∷ []) (number c) (size c)
      (rw (openings.minus_is, same_refl open_word) refl))

  accepted-fits : (before : List Bytes) (z : ℤ) → fits c z ≡ true →
      admitted c before (some z) ≡ some (ahead before (taken c z))
  unfolding admitted
  accepted-fits before z h = rw h refl

  pub size-leads : (k : ℕ) → fits c (negsuc k) ≡ true →
      LeadsTo (on [] (size c)) (digits (suc k) ∷ token_bytes close) (taken c (negsuc k))
  unfolding ahead token_step
  size-leads k h = turn (decided-size k ∙ accepted-fits (token_bytes close) (negsuc k) h)
      (todo-leads (token_bytes close) (taken c (negsuc k)).todo (taken c (negsuc k)).stage)

  pub number-leads : (z : ℤ) → fits c z ≡ true → LeadsTo (on [] (number c)) (said_number z) (taken c z)
  unfolding said_number ahead token_step
  number-leads (pos k) h = turn (decided-digits k ∙ accepted-fits [] (pos k) h) stop
  number-leads (negsuc k) h = leads-then minus-leads (size-leads k h)

-- ---- a row

pub zero-then : (s t : List ℤ) → all_zero (s ++ t) ≡ (all_zero s && all_zero t)
unfolding all_zero
zero-then [] t = refl
zero-then (z ∷ s) t = go (eq_z z (pos 0)) (zero-then s t)
  where
    go : (b : Bool) → all_zero (s ++ t) ≡ (all_zero s && all_zero t) →
        (b && all_zero (s ++ t)) ≡ ((b && all_zero s) && all_zero t)
    go true e = e
    go false e = refl

module _ (P : Pieces) where
  pub fits-here : (done : List ℤ) (z : ℤ) → FineNumber z →
      (suc (length done) ≡ P.n → (all_zero done && eq_z z (pos 0)) ≡ false) → fits (coefficient P done) z ≡ true
  unfolding fits
  fits-here done z w h = rw w (go (ℕ_discrete (suc (length done)) P.n))
    where
      go : Dec (suc (length done) ≡ P.n) →
          not (eqb (suc (length done)) P.n && (all_zero done && eq_z z (pos 0))) ≡ true
      go (yes e) = rw (h e) (none (eqb (suc (length done)) P.n))
        where
          none : (b : Bool) → not (b && false) ≡ true
          none true = refl
          none false = refl
      go (no n) = rw (ne_eqb (suc (length done)) P.n n) refl

  more-terms : (row : List ℤ) → length row < P.n →
      behind_term P row ≡ on (token_bytes open_term) (number (coefficient P row))
  unfolding behind_term
  more-terms row h = rw (lt-ltb (length row) P.n h) refl

  last-term : (row : List ℤ) → length row ≡ P.n →
      behind_term P row ≡ ahead (closes P.n ++ token_bytes end_assert) (going (with_row P row))
  unfolding behind_term
  last-term row h = rw (le-ltb (length row) P.n (omega arith)) refl

  -- one coefficient, with its column
  term-leads : (done : List ℤ) (z : ℤ) → fits (coefficient P done) z ≡ true → {q : List Bytes} {U : ReaderState} →
      LeadsTo (behind_term P (done ++ (z ∷ []))) q U →
      LeadsTo (on [] (number (coefficient P done)))
      (said_number z ++ ((column_name (length done) ∷ token_bytes close) ++ q)) U
  unfolding taken ahead
  term-leads done z h r =
      let S = behind_term P (done ++ (z ∷ [])) in
      leads-then (number-leads (coefficient P done) z h)
      (leads-then (todo-leads (column_name (length done) ∷ token_bytes close) S.todo S.stage) r)

  -- the coefficients from z on, and the row's end
  pub terms-lead : (done : List ℤ) (z : ℤ) (zs : List ℤ) (j : ℕ) → length done ≡ j → j + suc (length zs) ≡ P.n →
      Each FineNumber (z ∷ zs) → all_zero (done ++ z ∷ zs) ≡ false →
      LeadsTo (on [] (number (coefficient P done)))
      (said_number z ++ ((column_name j ∷ token_bytes close)
      ++ (listed said_term (suc j) zs ++ (closes P.n ++ token_bytes end_assert))))
      (going (with_row P (done ++ z ∷ zs)))
  unfolding listed said_term ahead all_zero
  terms-lead done z [] j d e w f =
      leads-as
      (ap (λ k. said_number z ++ ((column_name k ∷ token_bytes close) ++ (closes P.n ++ token_bytes end_assert)))
      (sym d))
      (term-leads done z
      (fits-here done z w.0 (λ q. zero-last (sym (zero-then done (z ∷ [])) ∙ f)))
      (leads-from (last-term (done ++ (z ∷ [])) (omega (arith, length-append done (z ∷ []))))
      (todo-leads (closes P.n ++ token_bytes end_assert) (going (with_row P (done ++ (z ∷ [])))).todo
      (going (with_row P (done ++ (z ∷ [])))).stage)))
    where
      zero-last : (all_zero done && all_zero (z ∷ [])) ≡ false → (all_zero done && eq_z z (pos 0)) ≡ false
      zero-last h = go (eq_z z (pos 0)) refl
        where
          go : (b : Bool) → eq_z z (pos 0) ≡ b → (all_zero done && b) ≡ false
          go true q = rw q at h
          go false q = both (all_zero done)
            where
              both : (a : Bool) → (a && false) ≡ false
              both true = refl
              both false = refl
  terms-lead done z (y ∷ zs) j d e w f =
      leads-as
      (ap₂ (λ k l. said_number z ++ ((column_name k ∷ token_bytes close) ++ l)) (sym d)
      (simp append_assoc))
      (term-leads done z
      (fits-here done z w.0 (λ q. let o : ⊥ = omega arith in absurd o))
      (leads-from (more-terms (done ++ (z ∷ [])) (omega (arith, length-append done (z ∷ []))))
      (leads-then (all-todo-leads (token_bytes open_term) (number (coefficient P (done ++ (z ∷ [])))))
      (leads-to (ap (λ l. going (with_row P l)) (append_assoc done (z ∷ []) (y ∷ zs)))
      (terms-lead (done ++ (z ∷ [])) y zs (suc j) (omega (arith, length-append done (z ∷ []))) (omega arith) w.1
      (ap all_zero (append_assoc done (z ∷ []) (y ∷ zs)) ∙ f))))))

pub going-row : (P : Pieces) → length P.rows < P.m → going P ≡ on (row_head P) (number (coefficient P []))
unfolding going
going-row P h = rw (lt-ltb (length P.rows) P.m h) refl

pub going-limits : (P : Pieces) → P.m ≤ length P.rows → going P ≡ on [] (limiting P)
unfolding going
going-limits P h = rw (le-ltb (length P.rows) P.m h) refl

row-leads : (P : Pieces) (row : List ℤ) → 1 ≤ P.n → length P.rows < P.m → FineRow P.n row →
    LeadsTo (going P) (said_row P.n (length P.rows) row) (going (with_row P row))
unfolding said_row row_head listed said_term
row-leads P [] h l f = let o : ⊥ = omega (arith, f.width) in absurd o
row-leads P (z ∷ zs) h l f =
    leads-from (going-row P l)
    (leads-as
    (simp append_assoc)
    (leads-then
    (all-todo-leads (row_head P) (number (coefficient P [])))
    (terms-lead P [] z zs 0 refl (omega (arith, f.width)) f.each f.filled)))

abbrev pub with_rows : Pieces → List (List ℤ) → Pieces
with_rows P rs = pieces P.n P.m (P.rows ++ rs) P.limits

pub rows-lead : (P : Pieces) (rs : List (List ℤ)) (i : ℕ) → 1 ≤ P.n → length P.rows ≡ i → i + length rs ≡ P.m →
    Each (FineRow P.n) rs → LeadsTo (going P) (listed (said_row P.n) i rs) (going (with_rows P rs))
unfolding listed with_row
rows-lead P [] i h e l f =
    leads-to (ap (λ rows. going (pieces P.n P.m rows P.limits)) (sym (append-nil P.rows))) stop
rows-lead P (r ∷ rs) i h e l f =
    leads-as (ap (λ k. said_row P.n k r ++ listed (said_row P.n) (suc i) rs) (sym e))
    (leads-then (row-leads P r h (omega arith) f.0)
    (leads-to (ap (λ rows. going (pieces P.n P.m rows P.limits)) (append_assoc P.rows (r ∷ []) rs))
    (rows-lead (with_row P r) rs (suc i) h (omega (arith, length-append P.rows (r ∷ []))) (omega arith) f.1)))
