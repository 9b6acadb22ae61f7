-- The answer is the run: from a state that is ready, where no limits cross, it ends once, after fewer pivots than the
-- bound, and the words are those of the state that it ends at; where some cross, the lowest such variable is the
-- evidence, with no pivot.
--   crosses-exactly                           the lowest variable whose lower limit exceeds its upper
--   spending-run, spending-crossed            what a run with pivots to spend comes to, of any values
--   ending-run, ending-crossed                .. and a check
--   answer-run                                the one count, and the answer's words: `TheRun` of specs/Facts/Run
--   words_count                               word 1 is the count of pivots
--   answer-crossed                            the words where limits cross
use mathlib.Core.Bool.{false}
use mathlib.Core.List.{◌++◌, ◌∷◌}
use mathlib.Core.Logic.{◌↔◌}
use mathlib.Core.Option.{Option, none-ne-some, none, some}
use mathlib.Core.Path.{ap, refl, ◌∙◌, ◌≡◌}
use Prim.Native.Nat.{ℕ, ◌<◌}
use native.Mathlib.Omega.{arith}
use lib.IntN.{pos, ℤ}
use Rattle.whole.proofs.Lists.Below.{lowest-passes}
use Rattle.whole.proofs.Bools.{true-false}
use Rattle.whole.proofs.Values.Beside.{pairs-laws}
use Rattle.whole.specs.Tells.{Tells}
use Rattle.whole.proofs.Tells.{tells-false, tells-true}
use Rattle.whole.specs.Values.{Laws, Lt, Values, pairs}
use Rattle.whole.specs.Tables.{table}
use Rattle.rules.proofs.Termination.Bound.{below-bound}
use Rattle.rules.proofs.Termination.Ends.{ends}
use Rattle.rules.proofs.Run.Steady.{sound-after}
use Rattle.rules.proofs.Run.Once.{ends-only, run_is}
use Rattle.rules.proofs.Run.State.{ready-sound}
use Rattle.rules.proofs.Run.Start.{no-conflict}
use Rattle.rules.specs.Answer.{answer_from, words_of}
use Rattle.rules.specs.Problem.{Problem, vars, word}
use Rattle.rules.specs.Run.{Ending, Ends, bound, conflict, crossed, ending, run, spending}
use Rattle.rules.specs.Facts.State.{Apart, Ready, Sound, how_many_seated}
use Rattle.rules.specs.Step.{Outcome, State, can, cannot, goes, range, same}
use Rattle.rules.specs.Facts.Run.{Crosses, TheRun, ended}

module _ {X : Type 0} (𝓥 : Values X) where
  -- ---- crossed limits

  crossed-tells : (P : Problem X) (v : ℕ) →
      Tells (crossed 𝓥 (P.lower v) (P.upper v)) (Crosses 𝓥 P v) (¬ Crosses 𝓥 P v)
  unfolding crossed
  crossed-tells P v = go (P.lower v) (P.upper v)
    where
      go : (o p : Option X) → Tells (crossed 𝓥 o p) ((l : X) × (u : X) × (o ≡ some l) × (p ≡ some u) × Lt 𝓥 u l)
          (¬ ((l : X) × (u : X) × (o ≡ some l) × (p ≡ some u) × Lt 𝓥 u l))
      go none p = record {
        if-true = λ e. true-false e refl;
        if-false = λ e (l, u, a, b, h). none-ne-some l a;
        not-both = λ y n. n y;
      }
      go (some l) none = record {
        if-true = λ e. true-false e refl;
        if-false = λ e (k, u, a, b, h). none-ne-some u b;
        not-both = λ y n. n y;
      }
      go (some l) (some u) = record {
        if-true = λ e. (l, u, refl, refl, e);
        if-false = λ e (k, w, a, b, h). clash k w a b h e;
        not-both = λ y n. n y;
      }
        where
          clash : (k w : X) → some l ≡ some k → some u ≡ some w → Lt 𝓥 w k → 𝓥.less u l ≡ false → ⊥
          clash k w a b h e = let p : l ≡ k = cc in let q : u ≡ w = cc in true-false (rw (p, q) h) e

  pub crosses-exactly : (P : Problem X) (v : ℕ) →
      (conflict 𝓥 P ≡ some v) ↔ ((v < vars P) × Crosses 𝓥 P v × ((u : ℕ) → u < v → ¬ Crosses 𝓥 P u))
  unfolding conflict
  crosses-exactly P v = let r = lowest-passes (vars P) (λ v. crossed 𝓥 (P.lower v) (P.upper v)) v in (
    λ e. let f = r.0 e in (f.0, (crossed-tells P v).if-true f.1, λ u h. (crossed-tells P u).if-false (f.2 u h)),
    λ (h, c, first). r.1 (h, tells-true (crossed-tells P v) c, λ u k. tells-false (crossed-tells P u) (first u k)),
  )

  -- ---- what a check comes to

  pub spending-crossed : (P : Problem X) (v : ℕ) → conflict 𝓥 P ≡ some v → (b : ℕ) (s : State X) (k : ℕ) →
      spending 𝓥 b P s k
      ≡ record { how = cannot (table (vars P) (same v)) (table (vars P) (same v)); pivots = k; last = s }
  unfolding spending
  spending-crossed P v e b s k = rw (e, spending)

  pub spending-run : (P : Problem X) → conflict 𝓥 P ≡ none → (b : ℕ) (s : State X) (k : ℕ) →
      spending 𝓥 b P s k ≡ run 𝓥 b P s k
  unfolding spending
  spending-run P e b s k = rw (e, spending)

  pub ending-crossed : (P : Problem X) (s : State X) (v : ℕ) → conflict 𝓥 P ≡ some v →
      ending 𝓥 P s ≡ record { how = cannot (table (vars P) (same v)) (table (vars P) (same v)); pivots = 0; last = s }
  unfolding ending
  ending-crossed P s v e = spending-crossed P v e _ s 0

  pub ending-run : Laws 𝓥 → (P : Problem X) (s : State X) → conflict 𝓥 P ≡ none → Sound 𝓥 P s →
      how_many_seated s.seats ≡ P.n →
      (k : ℕ) → Ends 𝓥 P s k → ending 𝓥 P s ≡ ended 𝓥 P s k
  unfolding ending
  ending-run law P s e S n k E = spending-run P e (bound P) s 0 ∙ (run_is 𝓥 P s (bound P) k
      (let h = below-bound 𝓥 law P s (no-conflict 𝓥 P e) S n k E.runs in omega arith) E)

-- ---- the answer

-- word 1 is the count, whatever the ending
pub words_count : (P : Problem (ℤ × ℤ)) (e : Ending (ℤ × ℤ)) → word (words_of P e) 1 ≡ pos e.pivots
unfolding words_of
words_count P e = go e.how
  where
    go : (o : Outcome (ℤ × ℤ)) →
        word (words_of P (record { how = o; pivots = e.pivots; last = e.last })) 1 ≡ pos e.pivots
    go can = refl
    go (cannot ls us) = refl
    go range = refl
    go (goes t) = refl

pub answer-run : (P : Problem (ℤ × ℤ)) (s : State (ℤ × ℤ)) → conflict pairs P ≡ none → Ready pairs P s → TheRun P s
unfolding answer_from
answer-run P s e R = go (ends pairs pairs-laws P s A S R.seated-many)
  where
    A : Apart pairs P
    A = no-conflict pairs P e

    S : Sound pairs P s
    S = ready-sound pairs P s A R

    words : (k : ℕ) → Ends pairs P s k → answer_from P s ≡ words_of P (ended pairs P s k)
    words k E = ap (words_of P) (ending-run pairs pairs-laws P s e S R.seated-many k E)

    go : (k : ℕ) × Ends pairs P s k → TheRun P s
    go (k, E) = record {
      uncrossed = e;
      count = k;
      ends = E;
      sound = sound-after pairs pairs-laws P s A S k;
      only = λ j F. ends-only pairs P s j k F E;
      below = below-bound pairs pairs-laws P s A S R.seated-many k E.runs;
      words = words k E;
      word-1 = ap (λ a. word a 1) (words k E) ∙ words_count P (ended pairs P s k);
    }

pub answer-crossed : (P : Problem (ℤ × ℤ)) (s : State (ℤ × ℤ)) (v : ℕ) → conflict pairs P ≡ some v →
    answer_from P s ≡ pos 2 ∷ pos 0 ∷ pos 0 ∷ table (vars P) (same v) ++ table (vars P) (same v)
unfolding answer_from words_of
answer-crossed P s v e = ap (words_of P) (ending-crossed pairs P s v e)
