-- The words of a step of the run, by the basic variables before and after it.
--   went-out, went-in    who is basic no more is the leaving variable, who is now the entering one
--   tests-say            the tests of the code
--   left-told, entered-told, mask-told    so the sets tell the words of the step
--   compared_is          .. and the first word that differs
use mathlib.Core.Bool.{Bool, cond, false, not, true}
use mathlib.Core.Logic.{◌≢◌}
use mathlib.Core.Option.{none-ne-some, none, some}
use mathlib.Core.Path.{ap, ap₂, refl, subst, sym, ◌∙◌, ◌≡◌}
use Prim.Native.Nat.{ℕ, ◌<◌}
use native.Mathlib.Decide.{ℕ_discrete}
use lib.Dec.{eqb}
use lib.ListN.{length}
use Rattle.whole.proofs.Bools.{and-of, and-true, not-true, same_tests, true-false}
use Rattle.whole.proofs.Tells.{tells-eq, tells-true}
use Rattle.whole.specs.Values.{Values}
use Rattle.rules.proofs.Runs.Replay.Masks.{mask-exactly}
use Rattle.rules.proofs.Step.Cases.{Goes, step-goes}
use Rattle.rules.proofs.Step.Entering.{entered, swap}
use Rattle.rules.proofs.Step.Leaving.{left}
use Rattle.rules.specs.Facts.Rule.{Entered, Left, Swap}
use Rattle.rules.specs.Problem.{Problem, vars}
use Rattle.rules.specs.Runs.Replay.{TraceStep, basis_mask, bit_in, entering-word, first_wrong, leaving-word, mask_word}
use Rattle.rules.specs.Runs.Replay.{step_words}
use Rattle.rules.specs.Step.{State, goes, limit_at, seat, step}
use Rattle.masks.specs.Masks.{went_from}
use Rattle.replay.specs.Replay.{compared_by, compared_of, tested}

-- a variable that is basic before and not after
module _ {X : Type 0} (N : ℕ) (s t : State X) (l e : ℕ) (x : X) where
  in-set : (u : State X) (v : ℕ) → v < N → seat u v ≡ none → bit_in (basis_mask N u) v ≡ true
  in-set u v h q = (mask-exactly N u v).1 (h, q)

  not-in-set : (u : State X) (v : ℕ) (y : X) → seat u v ≡ some y → bit_in (basis_mask N u) v ≡ false
  not-in-set u v y q = go (bit_in (basis_mask N u) v) refl
    where
      go : (b : Bool) → bit_in (basis_mask N u) v ≡ b → bit_in (basis_mask N u) v ≡ false
      go false p = p
      go true p = absurd (none-ne-some y (sym ((mask-exactly N u v).0 p).1 ∙ q))

  -- what a true test says
  went-says : (a b : State X) (v : ℕ) → went_from (basis_mask N a) (basis_mask N b) v ≡ true →
      (v < N) × (seat a v ≡ none) × (seat b v ≢ none)
  went-says a b v e = let f = and-true _ _ e in let g = (mask-exactly N a v).0 f.0 in
      (g.0, g.1, λ q. true-false (in-set b v g.0 q) (not-true _ f.1))

  went-of : (a b : State X) (v : ℕ) (y : X) → v < N → seat a v ≡ none → seat b v ≡ some y →
      went_from (basis_mask N a) (basis_mask N b) v ≡ true
  went-of a b v y h p q = and-of (in-set a v h p) (ap not (not-in-set b v y q))

  module _ (S : Swap (seat s) (seat t) l e x) (h : l < N) (k : e < N) where
    out-only : (v : ℕ) → seat s v ≡ none → seat t v ≢ none → Dec (v ≡ l) → Dec (v ≡ e) → l ≡ v
    out-only v p q (yes z) d = sym z
    out-only v p q (no n) (yes z) = absurd (q (ap (seat t) z ∙ S.now-basic))
    out-only v p q (no n) (no m) = absurd (q (S.others v n m ∙ p))

    in-only : (v : ℕ) → seat t v ≡ none → seat s v ≢ none → Dec (v ≡ l) → Dec (v ≡ e) → e ≡ v
    in-only v p q d (yes z) = sym z
    in-only v p q (yes z) (no m) = absurd (q (ap (seat s) z ∙ S.was-basic))
    in-only v p q (no n) (no m) = absurd (q (sym (S.others v n m) ∙ p))

    went-out : (v : ℕ) → went_from (basis_mask N s) (basis_mask N t) v ≡ eqb l v
    went-out v = same_tests _ _
        (λ e. let f = went-says s t v e in
        tells-true (tells-eq l v) (out-only v f.1 f.2 (ℕ_discrete v l) (ℕ_discrete v _)))
        (λ e. let z = (tells-eq l v).if-true e in
        ap (went_from (basis_mask N s) (basis_mask N t)) (sym z) ∙ went-of s t l x h S.was-basic S.set_to)

    went-in : (v : ℕ) → went_from (basis_mask N t) (basis_mask N s) v ≡ eqb e v
    went-in v = same_tests _ _
        (λ q. let f = went-says t s v q in
        tells-true (tells-eq e v) (in-only v f.1 f.2 (ℕ_discrete v l) (ℕ_discrete v e)))
        (λ q. let z = (tells-eq e v).if-true q in let (y, w) = S.was-seated in
        ap (went_from (basis_mask N t) (basis_mask N s)) (sym z) ∙ went-of t s e y k S.now-basic w)

-- ---- a step of the run

eqb-turned : (a b : ℕ) → eqb a b ≡ eqb b a
eqb-turned a b = same_tests _ _ (λ e. tells-true (tells-eq b a) (sym ((tells-eq a b).if-true e)))
    (λ e. tells-true (tells-eq a b) (sym ((tells-eq b a).if-true e)))

-- the tests, told by one enum or by the other
by_tests_lem : (a b c : Bool) →
    tested a b c ≡ compared_of (cond a (cond b (cond c none (some mask_word)) (some entering-word)) (some leaving-word))
by_tests_lem true true true = refl
by_tests_lem true true false = refl
by_tests_lem true false c = refl
by_tests_lem false b c = refl

pub tests-say : (before after l e m : ℕ) (a b c : Bool) → went_from before after l ≡ a → went_from after before e ≡ b →
    eqb m after ≡ c → tested a b c ≡ compared_by before after l e m
unfolding compared_by
tests-say before after l e m a b c p q r = ap (λ x. tested x b c) (sym p)
    ∙ ap₂ (λ y z. tested (went_from before after l) y z) (sym q) (sym r)

module _ {X : Type 0} (𝓥 : Values X) (P : Problem X) (s t : State X) (many : length s.seats ≡ vars P)
    (Goes-to : step 𝓥 P s ≡ goes t) where
  G : Goes 𝓥 P s t
  G = step-goes 𝓥 P s t Goes-to

  left_is : Left 𝓥 P s G.out
  left_is = left 𝓥 P s G.out G.leaves

  entered-is : Entered 𝓥 P s G.out G.into
  entered-is = entered 𝓥 P s G.out G.into G.enters

  swapped : Swap (seat s) (seat t) G.out.variable G.into (limit_at 𝓥 P G.out)
  swapped = subst (λ (u : State X). Swap (seat s) (seat u) G.out.variable G.into (limit_at 𝓥 P G.out))
      (sym G.next-is) (swap 𝓥 P s G.out G.into many left_is entered-is)

  abbrev N : ℕ
  N = vars P

  words_are : step_words 𝓥 P s t ≡ record { out = G.out.variable; into = G.into; mask = basis_mask N t }
  unfolding step_words
  words_are = rw (G.leaves, step_words) (rw G.enters refl)

  abbrev own : TraceStep
  own = step_words 𝓥 P s t

  pub left-told : (own.out < N) × ((v : ℕ) → went_from (basis_mask N s) (basis_mask N t) v ≡ eqb own.out v)
  left-told = subst (λ (a : TraceStep). (a.out < N)
      × ((v : ℕ) → went_from (basis_mask N s) (basis_mask N t) v ≡ eqb a.out v)) (sym words_are) (
        left_is.variable,
        went-out N s t G.out.variable G.into _ swapped left_is.variable entered-is.variable,
      )

  pub entered-told : (own.into < N) × ((v : ℕ) → went_from (basis_mask N t) (basis_mask N s) v ≡ eqb own.into v)
  entered-told = subst (λ (a : TraceStep). (a.into < N)
      × ((v : ℕ) → went_from (basis_mask N t) (basis_mask N s) v ≡ eqb a.into v)) (sym words_are) (
        entered-is.variable,
        went-in N s t G.out.variable G.into _ swapped left_is.variable entered-is.variable,
      )

  pub mask-told : basis_mask N t ≡ own.mask
  mask-told = ap (λ (a : TraceStep). a.mask) (sym words_are)

  pub compared_is : (f : TraceStep) →
      compared_by (basis_mask N s) (basis_mask N t) f.out f.into f.mask ≡ compared_of (first_wrong own f)
  unfolding compared_by first_wrong
  compared_is f =
      ap₂ (λ a b. tested a b (eqb f.mask (basis_mask N t))) (left-told.1 f.out) (entered-told.1 f.into)
      ∙ ap (tested (eqb own.out f.out) (eqb own.into f.into))
      (eqb-turned f.mask (basis_mask N t) ∙ ap (λ m. eqb m f.mask) mask-told)
      ∙ by_tests_lem (eqb own.out f.out) (eqb own.into f.into) (eqb own.mask f.mask)
