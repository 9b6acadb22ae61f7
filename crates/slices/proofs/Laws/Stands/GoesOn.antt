-- What a continue hands back, by whether there is room for an answer, and what that means.
--   slice-short, slice-long     the equations of the promise
--   goes-on-as            what they mean for every state of the rules' run that the struct stands for
use mathlib.Core.Bool.{Bool, true, false}
use mathlib.Core.List.{List, []}
use mathlib.Core.Path.{◌≡◌, ap, refl, subst₂, sym, ◌∙◌}
use Prim.Native.Nat.{ℕ, ◌*◌, ◌+◌}
use lib.Dec.{ltb}
use lib.IntN.{ℤ}
use lib.ListN.{length}
use Rattle.rules.proofs.Refusal.First.{first-hit, first-skip}
use Rattle.rules.specs.Refusal.{first}
use Rattle.rules.specs.Runs.Slices.{slice_length, slice_output, slice_refusal}
use Rattle.rules.specs.Runs.Slices as rules
use Rattle.answers.specs.Answer.{is_short}
use Rattle.solver.specs.Spend.{many_of, out_at, spent_at}
use Rattle.solver.proofs.Laws.Stands.Slices.{holds_more, many_is, out-is}
use Rattle.slices.specs.declared.Continued.{Continued}
use Rattle.slices.specs.declared.Slice.{Slice}
use Rattle.slices.specs.Slices.{GoesOnAs, SliceHolds, Means, SliceStanding}
use Rattle.slices.specs.Slices.{slice_output_at, slice_output_where, went_on_at, went_on_by, went_on_where}

module _ (s : Slice) (b : ℕ) (before : List ℤ) where
  abbrev short : Bool
  short = is_short (length before) (many_of s.tableau)

  by-room : (x : Bool) → short ≡ x →
      (went_on_where x s b ≡ went_on_at s b (length before)) ×
      (slice_output_where x s b before ≡ slice_output_at s b before)
  unfolding went_on_at slice_output_at
  by-room x q = (ap (λ y. went_on_where y s b) (sym q), ap (λ y. slice_output_where y s b before) (sym q))

  pub slice-short : short ≡ true →
      (record { refused = 7; answered = false; slice = s } ≡ went_on_at s b (length before))
      × (before ≡ slice_output_at s b before)
  slice-short = by-room true

  pub slice-long : short ≡ false →
      (went_on_by (spent_at s.tableau s.count b) ≡ went_on_at s b (length before))
      × (out_at s.tableau s.count b before ≡ slice_output_at s b before)
  slice-long = by-room false

  module _ (S : rules.Slice (ℤ × ℤ)) (H : SliceHolds S s) where
    room-is : (x : Bool) → short ≡ x → ltb (length before) (slice_length S) ≡ x
    room-is x q = ap (λ N. ltb (length before) (3 + 2 * N)) (sym (many_is H)) ∙ q

    means-by : (x : Bool) → short ≡ x →
        Means S b before (went_on_where x s b) (slice_output_where x s b before)
    unfolding slice_refusal slice_output first
    means-by true q =
        record { number = sym (first-hit 7 [] (room-is true q)); answered = refl; output = refl; state = H }
    means-by false q = record {
      number = sym (first-skip 7 [] (room-is false q));
      answered = (out-is H b before).0;
      output = (out-is H b before).1;
      state = holds_more H b;
    }

    means-at : Means S b before (went_on_at s b (length before)) (slice_output_at s b before)
    unfolding went_on_at slice_output_at
    means-at = means-by (short) refl

  pub goes-on-as : SliceStanding s → {r : Continued} {after : List ℤ} →
      r ≡ went_on_at s b (length before) → after ≡ slice_output_at s b before → GoesOnAs s b before r after
  goes-on-as T {r} {after} e f = record {
    means = λ S H. meant S H;
    standing = record { slice = _; holds = (meant T.slice T.holds).state };
  }
    where
      meant : (S : rules.Slice (ℤ × ℤ)) → SliceHolds S s → Means S b before r after
      meant S H = subst₂ (Means S b before) (sym e) (sym f) (means-at S H)
