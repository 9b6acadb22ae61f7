-- Each token keeps what is known of those before it.
--   heard-start, heard-leads   so it is at the start, and behind any tokens that are taken
use mathlib.Core.Bool.{Bool, true, false, cond, ◌&&◌}
use mathlib.Core.List.{List, [], ◌∷◌, ◌++◌, append_assoc, append-nil}
use mathlib.Core.Option.{Option, none, some, none-ne-some}
use mathlib.Core.Path.{◌≡◌, refl, sym, ◌∙◌, ap, ap₂, subst}
use Prim.Native.Nat.{ℕ, zero, suc, ◌+◌, ◌-◌, ◌*◌, ◌/◌, ◌%◌, ◌<◌}
use native.Mathlib.Omega.{arith}
use lib.Dec.{eqb, leb, leb→le, ltb}
use lib.IntN.{ℤ, pos, negsuc}
use lib.ListN.{length}
use Rattle.whole.proofs.Bools.{and-true, true→T}
use Rattle.whole.proofs.Lists.Below.{lowest-passes}
use Rattle.whole.proofs.Tells.{tells-eq, tells-lt}
use Rattle.rules.specs.Sizes.{most_columns, most_rows}
use Rattle.rules.specs.Exchange.Tokens.{token_bytes}
use Rattle.rules.specs.Exchange.Script.{assert_limit, close, column_name, declare_const, less, lower_relation, more}
use Rattle.rules.specs.Exchange.Script.{name_of, no_less, no_more, of_real, open_minus, row_name, upper_relation}
use Rattle.rules.specs.Exchange.Reader.{Bytes, Pieces, Spot, Stage, ReaderState, admitted, ahead, bounded}
use Rattle.rules.specs.Exchange.Reader.{bounding, command, declaring, ended, fits, is, limit, limiting, matched}
use Rattle.rules.specs.Exchange.Reader.{name_read, naming, decided, number, numeral, on, pieces, relation_read}
use Rattle.rules.specs.Exchange.Reader.{relating, same_bytes, relation_taken, with_sign, size, outset, token_step}
use Rattle.rules.specs.Exchange.Reader.{taken}
use Rattle.rules.proofs.Exchange.Reader.Turns.{LeadsTo, same_true, stop, turn}
use Rattle.rules.proofs.Exchange.Reader.Heard.{Onward, Good, GoodSpot, Heard, RowsRead, Sizes, before, heard}
use Rattle.rules.proofs.Exchange.Reader.Heard.{limit-goes, matched-goes, none-goes, rowed, told-goes}
use Rattle.rules.proofs.Exchange.Tokens.Said.{body, heads, listed, relation_at, said_declaration, said_number}
use Rattle.rules.proofs.Exchange.Tokens.Said.{words_below}
use Rattle.rules.proofs.Exchange.Reader.Openings.{numeral-some}
use Rattle.rules.proofs.Exchange.Reader.Behind.{command-goes, taken-heard}
use Rattle.rules.proofs.Exchange.Reader.Rows.{FinePieces}

-- ---- each decision

accepted-goes : (c : Spot) (ts : List Bytes) (o : Option ℤ) (w : Bytes) (T : ReaderState) (p : List Bytes) →
    GoodSpot c →
    ((z : ℤ) → o ≡ some z → p ++ w ∷ ts ≡ before c ++ said_number z) → admitted c ts o ≡ some T → Onward p w T
unfolding admitted ahead
accepted-goes c ts none w T p g h e = none-goes T e
accepted-goes c ts (some z) w T p g h e = go (fits c z) refl e
  where
    go : (b : Bool) → fits c z ≡ b → cond b (some (ahead ts (taken c z))) none ≡ some T → Onward p w T
    go true q e =
        let k = taken-heard c z g q in
        told-goes (ahead ts (taken c z)) T w p e
        (sym (append_assoc p (w ∷ ts) (taken c z).todo) ∙ ap (λ x. x ++ (taken c z).todo) (h z refl)
        ∙ append_assoc (before c) (said_number z) (taken c z).todo ∙ k.0)
        k.1
    go false q e = none-goes T e

some_is : {A : Type 0} {x y : A} → ◌≡◌ {A = Option A} (some x) (some y) → x ≡ y
some_is e = cc

plain-said : (w : Bytes) (o : Option ℕ) (z : ℤ) → numeral w ≡ o → with_sign false o ≡ some z → w ∷ [] ≡ said_number z
unfolding with_sign said_number
plain-said w none z n e = absurd (none-ne-some z e)
plain-said w (some k) z n e =
    ap (λ v. v ∷ []) (numeral-some w k n) ∙ ap said_number (let q : pos k ≡ z = some_is e in q)

below-said : (w : Bytes) (o : Option ℕ) (z : ℤ) → numeral w ≡ o → with_sign true o ≡ some z →
    token_bytes open_minus ++ w ∷ token_bytes close ≡ said_number z
unfolding with_sign said_number
below-said w none z n e = absurd (none-ne-some z e)
below-said w (some zero) z n e = absurd (none-ne-some z e)
below-said w (some (suc k)) z n e =
    ap (λ v. token_bytes open_minus ++ v ∷ token_bytes close) (numeral-some w (suc k) n)
    ∙ ap said_number (let q : negsuc k ≡ z = some_is e in q)

number-goes : (c : Spot) (w : Bytes) (T : ReaderState) → GoodSpot c → decided (number c) w ≡ some T →
    Onward (before c) w T
unfolding decided heard
number-goes c w T g e = go (is (token_bytes open_minus) w) e
  where
    go : (b : Bool) → cond b (matched (token_bytes open_minus) (size c) w) (admitted c [] (with_sign false (numeral w)))
        ≡ some T →
        Onward (before c) w T
    go true e = matched-goes (token_bytes open_minus) (size c) w T (before c) e refl g
    go false e = accepted-goes c [] (with_sign false (numeral w)) w T (before c) g
        (λ z q. ap (λ x. before c ++ x) (plain-said w (numeral w) z refl q)) e

size-goes : (c : Spot) (w : Bytes) (T : ReaderState) → GoodSpot c → decided (size c) w ≡ some T →
    Onward (before c ++ token_bytes open_minus) w T
unfolding decided
size-goes c w T g e =
    accepted-goes c (token_bytes close) (with_sign true (numeral w)) w T (before c ++ token_bytes open_minus) g
    (λ z q. append_assoc (before c) (token_bytes open_minus) (w ∷ token_bytes close)
    ∙ ap (λ x. before c ++ x) (below-said w (numeral w) z refl q)) e

-- declarations
columns-heard : (n : ℕ) → heads n 0 ++ token_bytes declare_const ++ column_name n ∷ token_bytes of_real ≡ heads
    (suc n) 0
unfolding heads words_below said_declaration
columns-heard n = simp (append_assoc, append-nil)

rows-heard : (n m : ℕ) → heads n m ++ token_bytes declare_const ++ row_name m ∷ token_bytes of_real ≡ heads n (suc m)
unfolding heads words_below said_declaration
rows-heard n m = simp append_assoc

declaring-goes : (n m : ℕ) (w : Bytes) (T : ReaderState) → Sizes n m → decided (declaring n m) w ≡ some T →
    Onward (heads n m) w T
unfolding decided heard rowed listed
declaring-goes n m w T g e = go (is (token_bytes declare_const) w) (ltb m most_rows) refl e
  where
    rows : RowsRead (pieces n m [] [])
    rows = record { sizes = g; few-rows = omega arith; each_row = tt; no-limits = refl }

    other : command (pieces n m [] []) w ≡ some T → Onward (heads n m) w T
    other q = command-goes (pieces n m [] []) w T (heads n m) rows (sym (append-nil (heads n m))) q

    go : (a b : Bool) → ltb m most_rows ≡ b →
        cond (a && b) (matched (token_bytes declare_const) (naming n m) w) (command (pieces n m [] []) w) ≡ some T →
        Onward (heads n m) w T
    go true true l q =
        matched-goes (token_bytes declare_const) (naming n m) w T (heads n m) q refl
        (g, (tells-lt m most_rows).if-true l)
    go true false l q = other q
    go false b l q = other q

naming-goes : (n m : ℕ) (w : Bytes) (T : ReaderState) → Sizes n m → m < most_rows → decided (naming n m) w ≡ some T →
    Onward (heads n m ++ token_bytes declare_const) w T
unfolding decided heard
naming-goes n m w T g few e = go (eqb m 0) (ltb n most_columns) (same_bytes (column_name n) w) refl refl e
  where
    h : List Bytes
    h = heads n m ++ token_bytes declare_const

    row : matched (row_name m ∷ token_bytes of_real) (declaring n (suc m)) w ≡ some T → Onward h w T
    row q = matched-goes (row_name m ∷ token_bytes of_real) (declaring n (suc m)) w T h q (rows-heard n m)
        (record { n-least = g.n-least; n-most = g.n-most; m-most = few })

    go : (a b c : Bool) → eqb m 0 ≡ a → ltb n most_columns ≡ b →
        cond (a && b && c) (matched (column_name n ∷ token_bytes of_real) (declaring (suc n) 0) w)
        (matched (row_name m ∷ token_bytes of_real) (declaring n (suc m)) w) ≡ some T → Onward h w T
    go true true true z l q =
        matched-goes (column_name n ∷ token_bytes of_real) (declaring (suc n) 0) w T h q
        (ap (λ k. heads n k ++ token_bytes declare_const ++ column_name n ∷ token_bytes of_real)
        ((tells-eq m 0).if-true z)
        ∙ columns-heard n)
        (record { n-least = omega arith; n-most = (tells-lt n most_columns).if-true l; m-most = omega arith })
    go true true false z l q = row q
    go true false c z l q = row q
    go false b c z l q = row q

-- relations and names of limits
relation-goes : (P : Pieces) (side : ℕ) (strict : Bool) (w : Bytes) (T : ReaderState) → FinePieces P → side < 2 →
    relation_at side strict ≡ w → relation_taken P side strict ≡ some T → Onward (body P ++ token_bytes assert_limit)
    w T
unfolding relation_taken heard
relation-goes P side strict w T f s q e = go (ltb (length P.limits) (2 * (P.n + P.m) + side - 1)) refl e
  where
    go : (b : Bool) → ltb (length P.limits) (2 * (P.n + P.m) + side - 1) ≡ b →
        cond b (some (on [] (bounding P side strict))) none ≡ some T → Onward (body P ++ token_bytes assert_limit) w T
    go true l e =
        told-goes (on [] (bounding P side strict)) T w (body P ++ token_bytes assert_limit) e
        (append_assoc (body P) (token_bytes assert_limit) (w ∷ [])
        ∙ ap (λ x. body P ++ (token_bytes assert_limit ++ x ∷ [])) (sym q))
        (f, s, (tells-lt (length P.limits) (2 * (P.n + P.m) + side - 1)).if-true l)
    go false l e = none-goes T e

relating-goes : (P : Pieces) (w : Bytes) (T : ReaderState) → FinePieces P → decided (relating P) w ≡ some T →
    Onward (body P ++ token_bytes assert_limit) w T
unfolding decided relation_read relation_at lower_relation upper_relation
relating-goes P w T f e = go (same_bytes no_less w) (same_bytes more w) (same_bytes no_more w)
    (same_bytes less w) refl refl refl refl e
  where
    go : (a b c d : Bool) → same_bytes no_less w ≡ a → same_bytes more w ≡ b → same_bytes no_more w ≡ c → same_bytes
        less w
        ≡ d →
        cond a (relation_taken P 0 false) (cond b (relation_taken P 0 true)
        (cond c (relation_taken P 1 false) (cond d (relation_taken P 1 true) none))) ≡ some T →
        Onward (body P ++ token_bytes assert_limit) w T
    go true b c d i j k l e = relation-goes P 0 false w T f (omega arith) (same_true no_less w i) e
    go false true c d i j k l e = relation-goes P 0 true w T f (omega arith) (same_true more w j) e
    go false false true d i j k l e = relation-goes P 1 false w T f (omega arith) (same_true no_more w k) e
    go false false false true i j k l e = relation-goes P 1 true w T f (omega arith) (same_true less w l) e
    go false false false false i j k l e = none-goes T e

bounding-goes : (P : Pieces) (side : ℕ) (strict : Bool) (w : Bytes) (T : ReaderState) → FinePieces P → side < 2 →
    decided (bounding P side strict) w ≡ some T → Onward (body P
    ++ (token_bytes assert_limit ++ relation_at side strict ∷ [])) w T
unfolding decided bounded name_read heard before
bounding-goes P side strict w T f s e = go (name_read P side w) refl e
  where
    h : List Bytes
    h = body P ++ (token_bytes assert_limit ++ relation_at side strict ∷ [])

    test : ℕ → Bool
    test u = leb (length P.limits) (2 * u + side) && same_bytes (name_of P.n u) w

    name-heard : (v k : ℕ) → 2 * v + side ≡ k → name_of P.n v ≡ w →
        h ++ w ∷ [] ≡ body P ++ (token_bytes assert_limit ++ relation_at (k % 2) strict ∷ name_of P.n (k / 2) ∷ [])
    name-heard v k q r =
        append_assoc (body P) (token_bytes assert_limit ++ relation_at side strict ∷ []) (w ∷ [])
        ∙ ap (λ x. body P ++ x)
        (append_assoc (token_bytes assert_limit) (relation_at side strict ∷ []) (w ∷ [])
        ∙ ap₂ (λ x y. token_bytes assert_limit ++ relation_at x strict ∷ y ∷ [])
        (let z : side ≡ k % 2 = omega arith in z)
        (sym r ∙ ap (name_of P.n) (let z : v ≡ k / 2 = omega arith in z)))

    go : (o : Option ℕ) → name_read P side w ≡ o → bounded P side strict o ≡ some T → Onward h w T
    go none q e = none-goes T e
    go (some v) q e =
        let found = (lowest-passes (P.n + P.m) test v).0 q in
        let both = and-true (leb (length P.limits) (2 * v + side)) (same_bytes (name_of P.n v) w) found.1 in
        told-goes (on [] (number (limit P (2 * v + side) strict))) T w h e
        (name-heard v (2 * v + side) refl (same_true (name_of P.n v) w both.1))
        (f, leb→le (length P.limits) (2 * v + side) (true→T both.0), omega (arith, found.0))

-- ---- so each token keeps it

decided-goes : (st : Stage) (w : Bytes) (T : ReaderState) → Good st → decided st w ≡ some T → Onward (heard st) w T
unfolding heard decided
decided-goes (declaring n m) w T g e = declaring-goes n m w T g e
decided-goes (naming n m) w T g e = naming-goes n m w T g.0 g.1 e
decided-goes (number c) w T g e = number-goes c w T g e
decided-goes (size c) w T g e = size-goes c w T g e
decided-goes (limiting P) w T g e = limit-goes P w T (body P) g refl e
decided-goes (relating P) w T g e = relating-goes P w T g.0 e
decided-goes (bounding P side strict) w T g e = bounding-goes P side strict w T g.0 g.1 e
decided-goes (ended P) w T g e = none-goes T e

token-goes : (S T : ReaderState) (w : Bytes) (p : List Bytes) → Heard S p → token_step S.todo S.stage w ≡ some T →
    Onward p w T
unfolding token_step
token-goes S T w p h e = go S.todo h.is e
  where
    go : (ts : List Bytes) → p ++ ts ≡ heard S.stage → token_step ts S.stage w ≡ some T → Onward p w T
    go [] q e = subst (λ x. Onward x w T) (sym (sym (append-nil p) ∙ q)) (decided-goes S.stage w T h.good e)
    go (t ∷ ts) q e = matched-goes (t ∷ ts) S.stage w T p e q h.good

pub heard-leads : (S T : ReaderState) (p ws : List Bytes) → LeadsTo S ws T → Heard S p → Heard T (p ++ ws)
heard-leads S T p [] stop h = rw append-nil h
heard-leads S T p (w ∷ ws) (turn {T = U} e r) h =
    subst (λ x. Heard T x) (append_assoc p (w ∷ []) ws) (heard-leads U T (p ++ (w ∷ [])) ws r (token-goes S U w p h e))

pub heard-start : Heard outset []
unfolding outset heard heads words_below said_declaration
heard-start = record {
  is = simp (append_assoc, append-nil);
  good = record { n-least = omega arith; n-most = omega arith; m-most = omega arith };
}
