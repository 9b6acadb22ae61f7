-- Reading token by token.
--   same_refl, same_true, same_not        tokens that have the same bytes
--   LeadsTo S p T, leads-then, leads-reads  the tokens p take the reader from S to T; two parts; what is read then
--   todo-leads, chosen-leads              tokens that must follow; and where the first of them decides
--   reads-got, reads-stuck, Halted        what the two ends of a reading say
use mathlib.Core.Bool.{Bool, true, false}
use mathlib.Core.List.{List, [], ◌∷◌, ◌++◌, append-nil}
use mathlib.Core.Option.{Option, none, some, none-ne-some}
use mathlib.Core.Path.{◌≡◌, refl, sym, ◌∙◌, ap, ap₂, subst}
use Prim.Native.Nat.{ℕ, suc, ◌+◌}
use native.Mathlib.Omega.{arith}
use lib.Dec.{eqb, eqb_refl}
use lib.ListN.{length}
use Rattle.whole.proofs.Bools.{T→true, and-of, and-true, true-false}
use Rattle.whole.proofs.Tells.{tells-eq}
use Rattle.rules.specs.Exchange.Reader.{Bytes, Pieces, Stage, ReaderState, bounding, declaring, ended, finish}
use Rattle.rules.specs.Exchange.Reader.{got, limiting, matched, naming, decided, number, on, reads, relating}
use Rattle.rules.specs.Exchange.Reader.{same_bytes, size, token_step, stuck}

-- ---- the same bytes

pub same_refl : (w : Bytes) → same_bytes w w ≡ true
unfolding same_bytes
same_refl [] = refl
same_refl (b ∷ w) = and-of (T→true (eqb b b) (eqb_refl b)) (same_refl w)

pub same_true : (v w : Bytes) → same_bytes v w ≡ true → v ≡ w
unfolding same_bytes
same_true [] [] e = refl
same_true [] (b ∷ w) e = true-false e refl
same_true (a ∷ v) [] e = true-false e refl
same_true (a ∷ v) (b ∷ w) e =
    let h = and-true (eqb a b) (same_bytes v w) e in
    ap₂ (λ x y. x ∷ y) ((tells-eq a b).if-true h.0) (same_true v w h.1)

pub same_not : (v w : Bytes) → (v ≡ w → ⊥) → same_bytes v w ≡ false
same_not v w n = go (same_bytes v w) refl
  where
    go : (c : Bool) → same_bytes v w ≡ c → c ≡ false
    go true e = absurd (n (same_true v w e))
    go false e = refl

-- ---- from one state to another

pub data LeadsTo : ReaderState → List Bytes → ReaderState → Type 0 where
  stop : {S : ReaderState} → LeadsTo S [] S
  turn : {S T U : ReaderState} {w : Bytes} {ws : List Bytes} → token_step S.todo S.stage w ≡ some T →
      LeadsTo T ws U →
      LeadsTo S (w ∷ ws) U

pub leads-then : {S T U : ReaderState} {p q : List Bytes} → LeadsTo S p T → LeadsTo T q U → LeadsTo S (p ++ q) U
leads-then stop r = r
leads-then (turn e s) r = turn e (leads-then s r)

pub leads-reads : {S T : ReaderState} {p : List Bytes} (i : ℕ) (q : List Bytes) → LeadsTo S p T →
    reads i S (p ++ q) ≡ reads (i + length p) T q
unfolding reads
leads-reads {S} i q stop = ap (λ k. reads k S q) (let z : i ≡ i + 0 = omega arith in z)
leads-reads {T = U} i q (turn {T = T} {ws = ws} e r) =
    rw (e, reads) (leads-reads (suc i) q r
    ∙ ap (λ k. reads k U q) (let z : suc i + length ws ≡ i + suc (length ws) = omega arith in z))

-- ---- tokens that must follow

matched-same : (t : Bytes) (ts : List Bytes) (st : Stage) → matched (t ∷ ts) st t ≡ some (on ts st)
unfolding matched
matched-same t ts st = rw (same_refl t) refl

pub todo-leads : (ts us : List Bytes) (st : Stage) → LeadsTo (on (ts ++ us) st) ts (on us st)
unfolding token_step
todo-leads [] us st = stop
todo-leads (t ∷ ts) us st = turn (matched-same t (ts ++ us) st) (todo-leads ts us st)

pub all-todo-leads : (ts : List Bytes) (st : Stage) → LeadsTo (on ts st) ts (on [] st)
all-todo-leads ts st = rw append-nil at (todo-leads ts [] st)

-- .. where the first of them decides
pub chosen-leads : (t : Bytes) (ts : List Bytes) (st₀ st : Stage) → decided st₀ t ≡ matched (t ∷ ts) st t →
    LeadsTo (on [] st₀) (t ∷ ts) (on [] st)
unfolding token_step
chosen-leads t ts st₀ st e = turn (e ∙ matched-same t ts st) (all-todo-leads ts st)

pub matched-some : (ts : List Bytes) (st : Stage) (w : Bytes) (T : ReaderState) → matched ts st w ≡ some T →
    (ts ≡ w ∷ T.todo) × (T.stage ≡ st)
unfolding matched
matched-some [] st w T e = absurd (none-ne-some T e)
matched-some (t ∷ ts) st w T e = go (same_bytes t w) refl
  where
    go : (c : Bool) → same_bytes t w ≡ c → (t ∷ ts ≡ w ∷ T.todo) × (T.stage ≡ st)
    go true q =
        let z : on ts st ≡ T = some_is (rw q at e) in
        (ap₂ (λ x y. x ∷ y) (same_true t w q) (ap (λ S. S.todo) z), sym (ap (λ S. S.stage) z))
      where
        some_is : ◌≡◌ {A = Option ReaderState} (some (on ts st)) (some T) → on ts st ≡ T
        some_is f = cc
    go false q = absurd (none-ne-some T (rw q at e))

-- ---- how a reading ends

clash : {P : Pieces} {k : ℕ} {A : Type 0} → stuck k ≡ got P → A
clash e = let z : ◌≡◌ {A = ℕ} 0 1 = cc in let y : ⊥ = omega arith in absurd y

finish-got : (i : ℕ) (ts : List Bytes) (st : Stage) (P : Pieces) → finish i ts st ≡ got P → on ts st ≡ on [] (ended P)
unfolding finish
finish-got i (t ∷ ts) st P e = clash e
finish-got i [] (declaring n m) P e = clash e
finish-got i [] (naming n m) P e = clash e
finish-got i [] (number c) P e = clash e
finish-got i [] (size c) P e = clash e
finish-got i [] (limiting Q) P e = clash e
finish-got i [] (relating Q) P e = clash e
finish-got i [] (bounding Q side strict) P e = clash e
finish-got i [] (ended Q) P e = let z : Q ≡ P = cc in ap (λ q. on [] (ended q)) z

pub reads-got : (i : ℕ) (S : ReaderState) (ws : List Bytes) (P : Pieces) → reads i S ws ≡ got P →
    LeadsTo S ws (on [] (ended P))
unfolding reads
reads-got i S [] P e = let z : S ≡ on [] (ended P) = finish-got i S.todo S.stage P e in
    subst (λ T. LeadsTo S [] T) z stop
reads-got i S (w ∷ ws) P e = go (token_step S.todo S.stage w) refl (λ T. reads-got (suc i) T ws P)
  where
    go : (o : Option ReaderState) → token_step S.todo S.stage w ≡ o →
        ((T : ReaderState) → reads (suc i) T ws ≡ got P → LeadsTo T ws (on [] (ended P))) →
        LeadsTo S (w ∷ ws) (on [] (ended P))
    go none q rest = clash (rw (q, reads) at e)
    go (some T) q rest = turn q (rest T (rw (q, reads) at e))

-- nothing can come, though it is not the end; or a token that cannot stand there
abbrev pub Blocked : ReaderState → List Bytes → Type 0
Blocked T [] = (P : Pieces) → T ≡ on [] (ended P) → ⊥
Blocked T (w ∷ ws) = token_step T.todo T.stage w ≡ none

pub record Halted (i : ℕ) (S : ReaderState) (ws : List Bytes) (k : ℕ) : Type 0 where
  pub before : List Bytes
  pub rest : List Bytes
  pub at : ReaderState
  pub split : ws ≡ before ++ rest
  pub leads : LeadsTo S before at
  pub count : k ≡ i + length before
  pub blocked : Blocked at rest

stuck-only : {k j : ℕ} → stuck k ≡ stuck j → k ≡ j
stuck-only e = cc

pub reads-stuck : (i : ℕ) (S : ReaderState) (ws : List Bytes) (k : ℕ) → reads i S ws ≡ stuck k → Halted i S ws k
unfolding reads finish
reads-stuck i S [] k e = record {
  before = [];
  rest = [];
  at = S;
  split = refl;
  leads = stop;
  count = sym (ended_at_lem S.todo S.stage e) ∙ (let z : i ≡ i + 0 = omega arith in z);
  blocked = λ P q. clash (sym e ∙ ap (λ T. finish i T.todo T.stage) q);
}
  where
    ended_at_lem : (ts : List Bytes) (st : Stage) → finish i ts st ≡ stuck k → i ≡ k
    ended_at_lem (t ∷ ts) st e = stuck-only e
    ended_at_lem [] (declaring n m) e = stuck-only e
    ended_at_lem [] (naming n m) e = stuck-only e
    ended_at_lem [] (number c) e = stuck-only e
    ended_at_lem [] (size c) e = stuck-only e
    ended_at_lem [] (limiting Q) e = stuck-only e
    ended_at_lem [] (relating Q) e = stuck-only e
    ended_at_lem [] (bounding Q side strict) e = stuck-only e
    ended_at_lem [] (ended Q) e = clash (sym e)
reads-stuck i S (w ∷ ws) k e = go (token_step S.todo S.stage w) refl (λ T. reads-stuck (suc i) T ws k)
  where
    go : (o : Option ReaderState) → token_step S.todo S.stage w ≡ o →
        ((T : ReaderState) → reads (suc i) T ws ≡ stuck k → Halted (suc i) T ws k) → Halted i S (w ∷ ws) k
    go none q rest = record {
      before = [];
      rest = w ∷ ws;
      at = S;
      split = refl;
      leads = stop;
      count = sym (stuck-only (rw (q, reads) at e)) ∙ (let z : i ≡ i + 0 = omega arith in z);
      blocked = q;
    }
    go (some T) q rest = let r = rest T (rw (q, reads) at e) in record {
      before = w ∷ r.before;
      rest = r.rest;
      at = r.at;
      split = ap (λ l. w ∷ l) r.split;
      leads = turn q r.leads;
      count = omega (arith, r.count);
      blocked = r.blocked;
    }
