-- Two results that a promise of this crate's public functions allows are equal: NAME-only for each.
-- The contracts themselves are compared: κs are lifetimes, x the arguments, e what lent words hold at the exit.
--   read_only     what is told, and every word of both outputs
--   write-only    the number, and every byte of the output
use mathlib.Core.Path.{◌≡◌, ap, sym, ◌∙◌}
use Rattle.refusals.specs.Numbers.{number_told}
use Rattle.refusals.proofs.Refused.{told-only}
use Rattle.rules.specs.Program.Bytes.{words_from}
use Rattle.rules.specs.Bundle.File.{lengths_left, words_left}
use Rattle.rules.specs.Bundle.Writer.{file_left}
use Rattle.bundle.proofs.body.part_of.Reads as part_of
use Rattle.bundle.proofs.body.rows_of.Reads as rows_of_lem
use Rattle.bundle.proofs.judge.judge.Reads as judge
use Rattle.bundle.proofs.read.Reads as read
use Rattle.bundle.proofs.write.Reads as write

pub rows-of-only : (κs : _) (x : _) (a b : _) (e f : _) → rows_of_lem.Post κs x a e → rows_of_lem.Post κs x b f → a ≡ b
rows-of-only κs x a b e f h k = h ∙ sym k

pub part-of-only : (κs : _) (x : _) (a b : _) (e f : _) → part_of.Post κs x a e → part_of.Post κs x b f → a ≡ b
part-of-only κs x a b e f h k = h ∙ sym k

pub judge-only : (κs : _) (x : _) (a b : _) (e f : _) → judge.Post κs x a e →
    judge.Post κs x b f → a ≡ b
judge-only κs x a b e f h k = told-only a b (h ∙ sym k)

pub read_only : (κs : _) (x : _) (a b : _) (e f : _) → read.Post κs x a e → read.Post κs x b f →
    (a ≡ b) × ((e.1.0.now ≡ f.1.0.now) × (e.1.1.0.now ≡ f.1.1.0.now))
read_only κs x a b e f h k =
    let n : a ≡ b = h.0 ∙ sym k.0 in (
      n,
      (
        h.1.0 ∙ ap (λ c. lengths_left c.refused (words_from x.0.now) x.1.0.now) n ∙ sym k.1.0,
        h.1.1 ∙ ap (λ c. words_left c.refused (words_from x.0.now) x.1.1.0.now) n ∙ sym k.1.1,
      ),
    )

pub write-only : (κs : _) (x : _) (a b : _) (e f : _) → write.Post κs x a e → write.Post κs x b f →
    (a ≡ b) × (e.1.1.1.0.now ≡ f.1.1.1.0.now)
write-only κs x a b e f h k =
    let n : a ≡ b = told-only a b (h.0 ∙ sym k.0) in
    (n, h.1 ∙ ap (λ j. file_left (number_told j) x.0 x.1.0.now x.1.1.0.now x.1.1.1.0.now) n ∙ sym k.1)
