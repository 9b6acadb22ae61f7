-- What a switch does: its number exactly, and what it changes.
--   switch-exactly                 41 to 44, each exactly where its line of `switch_table` is the first that applies
--   switch-fine                    0 exactly where none does
--   switched-refused, switched-done    refused, nothing changes; else one flag does, and values are settled
--   flag-there, flag-elsewhere     that flag, and every other
--   settled-one                    no variable moves but the one that was switched
--   switched-so                    all that a switch does that is not refused: `Switches`
-- The table and `Switches` are in specs/Facts/Runs/Session.
use mathlib.Core.Bool.{Bool, false, true}
use mathlib.Core.Logic.{◌↔◌, ◌≢◌}
use mathlib.Core.Option.{Option, none-ne-some, some-ne-none, none, some}
use mathlib.Core.Path.{ap, ap₂, refl, subst, sym, ◌∙◌, ◌≡◌}
use Prim.Native.Nat.{suc, ℕ, ◌<◌}
use native.Mathlib.Omega.{arith}
use lib.ListN.{length}
use lib.Seq.{get_or-set_other, get_or-set_same}
use Rattle.whole.proofs.Bools.{true-false}
use Rattle.whole.proofs.Tells.{tells-and, tells-lt, tells-not}
use Rattle.whole.specs.Tells.{Tells}
use Rattle.whole.specs.Values.{Laws, Values}
use Rattle.rules.proofs.Refusal.First.{Tested, first-exactly, first_fine, no_test, tested}
use Rattle.rules.proofs.Runs.Session.Fair.{seat-settled}
use Rattle.rules.proofs.Runs.Session.Inside.{inside-exactly, inside-still, same_some}
use Rattle.rules.specs.Facts.Refusal.{AllFine, First}
use Rattle.rules.specs.Facts.Runs.Session.{Fair, Lands, Switches, switch_table, Sworn}
use Rattle.rules.specs.Keeping.Limits.{kept, limit_of}
use Rattle.rules.specs.Problem.{vars}
use Rattle.rules.specs.Runs.Session.{Session, by_side, flagged, inside, inside_seat, is_missing, is_on, live_of}
use Rattle.rules.specs.Runs.Session.{all_inside, switch_refusal, switch_tests, switched}
use Rattle.rules.specs.Step.{Side, above, below, seat}

-- ---- the numbers

tells-absent : {X : Type 0} (o : Option X) → Tells (is_missing o) (o ≡ none) ((l : X) × (o ≡ some l))
tells-absent none = record {
  if-true = λ e. refl;
  if-false = λ e. true-false refl e;
  not-both = λ y (l, n). none-ne-some l n;
}
tells-absent (some l) = record {
  if-true = λ e. true-false e refl;
  if-false = λ e. (l, refl);
  not-both = λ y n. some-ne-none l y;
}

tells-itself : (b : Bool) → Tells b (b ≡ true) (b ≡ false)
tells-itself b = record { if-true = λ e. e; if-false = λ e. e; not-both = λ y n. true-false y n }

module _ {X : Type 0} (A : Session X) (v : ℕ) (σ : Side) (on : Bool) where
  switch-tested : Tested (switch_tests A v σ on) (switch_table A v σ on)
  unfolding switch_tests
  switch-tested =
      tested (tells-not (tells-lt v (vars A.given))) (tested (tells-absent (limit_of A.given σ v))
      (tested (tells-and (tells-itself on) (tells-itself (is_on A σ v)))
      (tested (tells-and (tells-not (tells-itself on)) (tells-not (tells-itself (is_on A σ v)))) no_test)))

  pub switch-exactly : (k : ℕ) → (switch_refusal A v σ on ≡ k) ↔ First (switch_table A v σ on) k
  unfolding switch_refusal
  switch-exactly k = first-exactly switch-tested k

  pub switch-fine : (switch_refusal A v σ on ≡ 0) ↔ AllFine (switch_table A v σ on)
  unfolding switch_refusal
  switch-fine = first_fine switch-tested (omega arith)

-- ---- the flags

module _ {X : Type 0} (A : Session X) (v : ℕ) (on : Bool) where
  pub flag-there : (σ : Side) → v < length (by_side σ A.lowers_on A.uppers_on) → is_on (flagged A v σ on) σ v ≡ on
  unfolding flagged
  flag-there below h = get_or-set_same A.lowers_on v on false h
  flag-there above h = get_or-set_same A.uppers_on v on false h

  pub flag-elsewhere : (σ τ : Side) (w : ℕ) → (τ ≡ σ → w ≢ v) → is_on (flagged A v σ on) τ w ≡ is_on A τ w
  unfolding flagged
  flag-elsewhere below below w n = get_or-set_other A.lowers_on v w on false (n refl)
  flag-elsewhere below above w n = refl
  flag-elsewhere above below w n = refl
  flag-elsewhere above above w n = get_or-set_other A.uppers_on v w on false (n refl)

  pub given-flagged : (σ : Side) → (flagged A v σ on).given ≡ A.given
  unfolding flagged
  given-flagged below = refl
  given-flagged above = refl

  pub state-flagged : (σ : Side) → (flagged A v σ on).state ≡ A.state
  unfolding flagged
  state-flagged below = refl
  state-flagged above = refl

-- ---- what changes

module _ {X : Type 0} (𝓥 : Values X) (A : Session X) (v : ℕ) (σ : Side) (on : Bool) where
  abbrev B : Session X
  B = flagged A v σ on

  pub switched-refused : (k : ℕ) → switch_refusal A v σ on ≡ suc k → switched 𝓥 A v σ on ≡ A
  unfolding switched
  switched-refused k e = rw (e, switched)

  pub switched-done : switch_refusal A v σ on ≡ 0 → switched 𝓥 A v σ on ≡ all_inside 𝓥 B
  unfolding switched
  switched-done e = rw (e, switched)

  -- the limits of another variable are on or off as they were
  lower-else : (w : ℕ) → w ≢ v → (live_of B).lower w ≡ (live_of A).lower w
  lower-else w n = ap₂ (λ b P. kept b (P.lower w)) (flag-elsewhere A v on σ below w (λ e. n)) (given-flagged A v on σ)

  upper-else : (w : ℕ) → w ≢ v → (live_of B).upper w ≡ (live_of A).upper w
  upper-else w n = ap₂ (λ b P. kept b (P.upper w)) (flag-elsewhere A v on σ above w (λ e. n)) (given-flagged A v on σ)

  -- .. and it was within them, so it stays: a switch moves no variable but, at most, its own
  pub settled-one : Laws 𝓥 → Fair 𝓥 A → (w : ℕ) → w < vars A.given → w ≢ v →
      seat (all_inside 𝓥 (flagged A v σ on)).state w ≡ seat A.state w
  unfolding inside_seat
  settled-one law F w h n = seat-settled 𝓥 B w (rw (given-flagged A v on σ) h)
      ∙ ap (λ s. inside_seat 𝓥 ((live_of B).lower w) ((live_of B).upper w) (seat s w)) (state-flagged A v on σ)
      ∙ ap₂ (λ o p. inside_seat 𝓥 o p (seat A.state w)) (lower-else w n) (upper-else w n)
      ∙ at_rest (seat A.state w) refl
    where
      at_rest : (o : Option X) → seat A.state w ≡ o → inside_seat 𝓥 ((live_of A).lower w) ((live_of A).upper w) o ≡ o
      at_rest none e = refl
      at_rest (some x) e = ap some (inside-still 𝓥 law ((live_of A).lower w) ((live_of A).upper w) x
          (λ c l k. F.housed.low w x l h c e k) (λ c u k. F.housed.high w x u h c e k))

  -- a sworn session has a flag for each variable
  flagged-there : (τ : Side) → Sworn 𝓥 A → v < vars A.given → v < length (by_side τ A.lowers_on A.uppers_on)
  flagged-there below S h = subst (λ k. v < k) (sym S.lowers-many) h
  flagged-there above S h = subst (λ k. v < k) (sym S.uppers-many) h

  settled-so : Laws 𝓥 → Switches 𝓥 A v σ on (all_inside 𝓥 B)
  unfolding all_inside inside_seat
  settled-so law = record {
    given_stays = given-flagged A v on σ;
    tableau-stays = ap (λ s. s.tableau) (state-flagged A v on σ);
    flag = λ S h. flag-there A v on σ (flagged-there σ S h);
    flags-stay = λ τ w n. flag-elsewhere A v on σ τ w n;
    basic-exactly = λ w h. (
      λ e. basic-before ((live_of B).lower w) ((live_of B).upper w) (seat A.state w) (sym (now w h) ∙ e),
      λ e. now w h ∙ ap (inside_seat 𝓥 ((live_of B).lower w) ((live_of B).upper w)) e,
    );
    moved-exactly = λ w y h. (
      λ e. there w y (seat A.state w) refl (sym (now w h) ∙ e),
      λ (x, e, L). now w h ∙ ap (inside_seat 𝓥 ((live_of B).lower w) ((live_of B).upper w)) e
          ∙ ap some ((inside-exactly 𝓥 law ((live_of B).lower w) ((live_of B).upper w) x y).1 L),
    );
    others-stay = settled-one law;
  }
    where
      now : (w : ℕ) → w < vars A.given →
          seat (all_inside 𝓥 B).state w ≡ inside_seat 𝓥 ((live_of B).lower w) ((live_of B).upper w) (seat A.state w)
      now w h = seat-settled 𝓥 B w (rw (given-flagged A v on σ) h)
          ∙ ap (λ s. inside_seat 𝓥 ((live_of B).lower w) ((live_of B).upper w) (seat s w)) (state-flagged A v on σ)

      basic-before : (l u o : Option X) → inside_seat 𝓥 l u o ≡ none → o ≡ none
      basic-before l u none e = refl
      basic-before l u (some x) e = absurd (some-ne-none (inside 𝓥 l u x) e)

      there : (w : ℕ) (y : X) (o : Option X) → seat A.state w ≡ o →
          inside_seat 𝓥 ((live_of B).lower w) ((live_of B).upper w) o ≡ some y →
          (x : X) × (seat A.state w ≡ some x) × Lands 𝓥 ((live_of B).lower w) ((live_of B).upper w) x y
      there w y none q e = absurd (none-ne-some y e)
      there w y (some x) q e =
          (x, q, (inside-exactly 𝓥 law ((live_of B).lower w) ((live_of B).upper w) x y).0 (same_some 𝓥 e))

  pub switched-so : Laws 𝓥 → switch_refusal A v σ on ≡ 0 → Switches 𝓥 A v σ on (switched 𝓥 A v σ on)
  switched-so law e = subst (Switches 𝓥 A v σ on) (sym (switched-done e)) (settled-so law)
