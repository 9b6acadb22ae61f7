-- The refusal of a file, test after test.
--   count-hit, edition-hit, bodies-hit, table-hit    a test applies, and none before it does
--   all-skipped                                      none of the first four applies
--   read_kept, read_short, read-fine                 the reader's refusal, from the file's
--   edition-tested, bodies-tested                    the tests of the first two words, as they are read
--   count-enough, edition-least, edition-few, bodies-least, bodies-most    what a test that does not apply leaves
use mathlib.Core.Bool.{Bool, false, true}
use mathlib.Core.List.{List, [], ◌∷◌}
use mathlib.Core.Logic.{◌≢◌, ◌⊎◌}
use mathlib.Core.Path.{◌≡◌, ap, ap₂, refl, sym, ◌∙◌}
use Prim.Native.Nat.{ℕ, zero, suc, ◌-◌, ◌≤◌, ◌<◌}
use native.Mathlib.Omega.{arith}
use lib.IntN.{ℤ, pos}
use lib.ListN.{length}
use lib.Signed.{◌≤ℤ◌}
use mir.Facts.{to_z-of_z}
use mir.Syntax.{w32}
use mir.Val.{SFits, of_z, to_z}
use Rattle.whole.specs.Numbers.{outside}
use Rattle.whole.proofs.Numbers.Tests.{under-size}
use Rattle.whole.proofs.Tells.{tells-false, tells-outside, tells-true}
use Rattle.rules.specs.Problem.{word}
use Rattle.rules.specs.Refusal.{first}
use Rattle.rules.specs.Sizes.{most_bodies}
use Rattle.rules.specs.Program.Bytes.{words_from}
use Rattle.rules.specs.Bundle.File.{bad_bodies, bad_count, bad_edition, bad_table, bad_total, bodies_most, count_in}
use Rattle.rules.specs.Bundle.File.{edition_in, editions, file_refusal, file_tests, head_size, read_refusal, short_room}
use Rattle.rules.specs.Bundle.File.{short_table}
use Rattle.rules.proofs.Bundle.Places.{bodies-few, editions-few}
use Rattle.rules.proofs.Bundle.Exactly.{bytes-tells, file-numbered, read-room-tells}
use Rattle.rules.proofs.Refusal.First.{first-hit, first-kept, first-passed, first-skip}

module _ (bs : List ℕ) where
  abbrev ws : List ℤ
  ws = words_from bs

  abbrev tests-34 : List (Bool × ℕ)
  tests-34 = (bad_table ws, 34) ∷ (bad_total ws, 35) ∷ []

  abbrev tests-33 : List (Bool × ℕ)
  tests-33 = (short_table ws, 33) ∷ tests-34

  abbrev tests-32 : List (Bool × ℕ)
  tests-32 = (bad_bodies ws, 32) ∷ tests-33

  abbrev tests-31 : List (Bool × ℕ)
  tests-31 = (bad_edition ws, 31) ∷ tests-32

  pub edition-tested : (z : ℤ) → SFits w32 z → z ≡ word ws 0 → (b : Bool) →
      b ≡ outside 1 2 (to_z w32 (of_z w32 z)) → b ≡ bad_edition ws
  unfolding bad_edition editions
  edition-tested z fit is b e = e ∙ ap (outside 1 2) (to_z-of_z fit ∙ is)

  pub bodies-tested : (z : ℤ) (most e : ℕ) → SFits w32 z → z ≡ word ws 1 → e ≡ edition_in ws → most ≡ bodies_most e →
      (b : Bool) → b ≡ outside 0 most (to_z w32 (of_z w32 z)) → b ≡ bad_bodies ws
  unfolding bad_bodies
  bodies-tested z most e fit is known most-is b t =
      t ∙ ap₂ (outside 0) (most-is ∙ ap bodies_most known) (to_z-of_z fit ∙ is)

  pub count-hit : bad_count (length bs) ≡ true → 30 ≡ file_refusal bs
  unfolding file_refusal file_tests
  count-hit h = sym (first-hit 30 tests-31 h)

  module _ (c : bad_count (length bs) ≡ false) where
    count-skip : file_refusal bs ≡ first tests-31
    unfolding file_refusal file_tests
    count-skip = first-skip 30 tests-31 c

    pub count-enough : 8 ≤ length bs
    count-enough = ((bytes-tells (length bs)).if-false c).1.0

    pub edition-hit : bad_edition ws ≡ true → 31 ≡ file_refusal bs
    edition-hit h = sym (count-skip ∙ first-hit 31 tests-32 h)

    module _ (e : bad_edition ws ≡ false) where
      edition-skip : file_refusal bs ≡ first tests-32
      edition-skip = count-skip ∙ first-skip 31 tests-32 e

      edition-least : pos 1 ≤ℤ word ws 0
      unfolding bad_edition
      edition-least = ((tells-outside 1 (length editions) (word ws 0)).if-false e).0

      pub edition-few : edition_in ws ≤ most_bodies
      unfolding bad_edition
      edition-few = omega (
        arith,
        editions-few,
        under-size (length editions) 1 (word ws 0) edition-least
            ((tells-outside 1 (length editions) (word ws 0)).if-false e).1,
      )

      pub bodies-hit : bad_bodies ws ≡ true → 32 ≡ file_refusal bs
      bodies-hit h = sym (edition-skip ∙ first-hit 32 tests-33 h)

      module _ (b : bad_bodies ws ≡ false) where
        bodies-least : pos 0 ≤ℤ word ws 1
        unfolding bad_bodies
        bodies-least = ((tells-outside 0 (bodies_most (edition_in ws)) (word ws 1)).if-false b).0

        pub bodies-most : count_in ws ≤ most_bodies
        unfolding bad_bodies
        bodies-most = omega (
          arith,
          bodies-few (edition_in ws),
          under-size (bodies_most (edition_in ws)) 0 (word ws 1) bodies-least
              ((tells-outside 0 (bodies_most (edition_in ws)) (word ws 1)).if-false b).1,
        )

        pub table-hit : short_table ws ≡ true → 33 ≡ file_refusal bs
        table-hit h = sym (edition-skip ∙ first-skip 32 tests-33 b ∙ first-hit 33 tests-34 h)

        pub all-skipped : short_table ws ≡ false → first tests-34 ≡ file_refusal bs
        all-skipped h = sym (edition-skip ∙ first-skip 32 tests-33 b ∙ first-skip 33 tests-34 h)

-- ---- the reader

module _ (bs : List ℕ) (length_room word_room : ℕ) where
  pub read_kept : (k : ℕ) → k ≡ file_refusal bs → k ≢ 0 → k ≡ read_refusal bs length_room word_room
  unfolding read_refusal file_refusal
  read_kept zero e n = absurd (n refl)
  read_kept (suc k) e n = sym (first-kept (file_tests (length bs) (ws bs))
      ((short_room (ws bs) length_room word_room, 36) ∷ []) k (sym e))

  module _ (fine : file_refusal bs ≡ 0) where
    read-passed : read_refusal bs length_room word_room ≡ first ((short_room (ws bs) length_room word_room, 36) ∷ [])
    unfolding read_refusal file_refusal
    read-passed = first-passed 35 (file_tests (length bs) (ws bs)) ((short_room (ws bs) length_room word_room, 36) ∷ [])
        (file-numbered (length bs) (ws bs)) fine

    pub read_short : (length_room < count_in (ws bs)) ⊎ (word_room < length (ws bs) - head_size (count_in (ws bs))) →
        36 ≡ read_refusal bs length_room word_room
    read_short h = sym (read-passed ∙ first-hit 36 [] (tells-true (read-room-tells (ws bs) length_room word_room) h))

    pub read-fine : count_in (ws bs) ≤ length_room → length (ws bs) - head_size (count_in (ws bs)) ≤ word_room →
        0 ≡ read_refusal bs length_room word_room
    unfolding first
    read-fine h l = sym (read-passed ∙ first-skip 36 []
        (tells-false (read-room-tells (ws bs) length_room word_room) (h, l)))
