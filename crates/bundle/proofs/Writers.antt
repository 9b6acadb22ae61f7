-- The refusal of a writer, test after test.
--   negative-tells, unknown-tells      the tests of the lengths and of the edition
--   unknown-hit, many-hit, negative-hit, sum-hit, long-hit, room-hit    a test applies, and none before it does
--   none-hit                           none applies
--   counts_of                          what the first three tests leave
--   file-kept                          a refusal keeps what is lent
--   fillable                           what is written without a refusal
use mathlib.Core.Bool.{false, true}
use mathlib.Core.List.{List}
use mathlib.Core.Logic.{inl, inr, ◌≢◌, ◌⊎◌}
use mathlib.Core.Path.{◌≡◌, ap, refl, sym, ◌∙◌}
use Prim.Native.Nat.{ℕ, zero, suc, ◌*◌, ◌≤◌, ◌<◌}
use native.Mathlib.Omega.{arith}
use lib.IntN.{ℤ, pos, nat_abs}
use lib.ListN.{length}
use lib.Dec.{le→leb}
use lib.Signed.{◌<ℤ◌, ◌≤ℤ◌}
use Rattle.whole.specs.Numbers.{is_neg}
use Rattle.whole.specs.Sums.{sum}
use Rattle.whole.specs.Tells.{Tells}
use Rattle.whole.proofs.Tells.{tells-lt, tells-lt_z, tells-or, tells-some}
use Rattle.rules.specs.Problem.{word}
use Rattle.rules.specs.Sizes.{most_file_words}
use Rattle.rules.specs.Bundle.File.{bodies_most, editions}
use Rattle.rules.specs.Bundle.Facts.{WriterAccepted}
use Rattle.rules.specs.Bundle.Writer.{bad_lengths, file_left, file_size, no_such_edition, writer_refusal}
use Rattle.rules.proofs.Bundle.Exactly.{writer-accepted-exactly, writer-refusal-exactly}
use Rattle.rules.proofs.Bundle.Places.{bodies-few}
use Rattle.bundle.specs.Lengths.{Counts, Fillable}

negative-tells : (l : List ℤ) → Tells (bad_lengths l) ((i : ℕ) × (i < length l) × (word l i <ℤ pos 0))
    ((i : ℕ) → i < length l → pos 0 ≤ℤ word l i)
unfolding bad_lengths
negative-tells l = tells-some (length l) (λ i. is_neg (word l i)) (λ i h. tells-lt_z (word l i) (pos 0))

unknown-tells : (e : ℕ) →
    Tells (no_such_edition e) ((e < 1) ⊎ (length editions < e)) ((1 ≤ e) × (e ≤ length editions))
unfolding no_such_edition
unknown-tells e = tells-or (tells-lt e 1) (tells-lt (length editions) e)

-- the table of refusals of edition e, line by line
module _ (e : ℕ) (lengths ws : List ℤ) (room : ℕ) where
  abbrev number : ℕ
  number = writer_refusal e lengths ws room

  pub unknown-hit : no_such_edition e ≡ true → 31 ≡ number
  unknown-hit h = sym ((writer-refusal-exactly e lengths ws room 31).1 (inl ((unknown-tells e).if-true h, refl)))

  module _ (known : no_such_edition e ≡ false) where
    abbrev not-31 : ¬ ((e < 1) ⊎ (length editions < e))
    not-31 h = (unknown-tells e).not-both h ((unknown-tells e).if-false known)

    pub many-hit : bodies_most e < length lengths → 32 ≡ number
    many-hit h = sym ((writer-refusal-exactly e lengths ws room 32).1 (inr (not-31, inl (h, refl))))

    module _ (few : length lengths ≤ bodies_most e) where
      abbrev not-32 : ¬ (bodies_most e < length lengths)
      not-32 h = omega arith

      pub negative-hit : bad_lengths lengths ≡ true → 34 ≡ number
      negative-hit q = sym ((writer-refusal-exactly e lengths ws room 34).1
          (inr (not-31, inr (not-32, inl ((negative-tells lengths).if-true q, refl)))))

      module _ (fine : bad_lengths lengths ≡ false) where
        abbrev least : (i : ℕ) → i < length lengths → pos 0 ≤ℤ word lengths i
        least = (negative-tells lengths).if-false fine

        abbrev not-34 : ¬ ((i : ℕ) × (i < length lengths) × (word lengths i <ℤ pos 0))
        not-34 b = (negative-tells lengths).not-both b least

        pub counts_of : Counts lengths
        counts_of = record { few = omega (arith, bodies-few e); least = least }

        module _ (total : ℕ) (total-is : pos total ≡ sum (length lengths) (word lengths)) where
          pub sum-hit : total ≢ length ws → 35 ≡ number
          sum-hit n = sym ((writer-refusal-exactly e lengths ws room 35).1
              (inr (not-31, inr (not-32, inr (not-34, inl (λ q. n (ap nat_abs (total-is ∙ q)), refl))))))

          module _ (same : total ≡ length ws) where
            sum_is : sum (length lengths) (word lengths) ≡ pos (length ws)
            sum_is = sym total-is ∙ ap pos same

            pub long-hit : most_file_words < file_size lengths ws → 30 ≡ number
            long-hit h = sym ((writer-refusal-exactly e lengths ws room 30).1
                (inr (not-31, inr (not-32, inr (not-34, inr (λ q. q sum_is, inl (h, refl)))))))

            pub room-hit : file_size lengths ws ≤ most_file_words → room < 4 * file_size lengths ws → 36 ≡ number
            room-hit l h = sym ((writer-refusal-exactly e lengths ws room 36).1
                (inr (not-31, inr (not-32, inr (not-34, inr (λ q. q sum_is, inr (λ h. omega arith, inl (h, refl))))))))

            pub none-hit : file_size lengths ws ≤ most_file_words → 4 * file_size lengths ws ≤ room → 0 ≡ number
            none-hit l h = sym ((writer-accepted-exactly e lengths ws room).1 (record {
              edition-least = ((unknown-tells e).if-false known).0;
              edition-most = ((unknown-tells e).if-false known).1;
              count_most = few;
              lengths-least = least;
              total = sum_is;
              few = l;
              roomy = h;
            }))

pub file-kept : (k e : ℕ) (lengths ws : List ℤ) (file : List ℕ) → k ≢ 0 → file ≡ file_left k e lengths ws file
unfolding file_left
file-kept zero e lengths ws file n = absurd (n refl)
file-kept (suc k) e lengths ws file n = refl

pub fillable : {e : ℕ} {lengths ws : List ℤ} {room : ℕ} → WriterAccepted e lengths ws room → Fillable lengths
fillable {e} {lengths} {ws} A = record {
  counts = record { few = omega (arith, A.count_most, bodies-few e); least = A.lengths-least };
  total = rw A.total (record { le = le→leb (length ws) most_file_words (omega (arith, A.few)) });
}
