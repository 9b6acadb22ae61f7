-- A text in a lent slice of bytes: all of it or, where the slice is too short, none of it.
--   text-kept                a slice that is too short stays as it was
--   text-front, text-past    else the text, then what stood behind it
use mathlib.Core.Bool.{cond}
use mathlib.Core.List.{List, ◌++◌}
use mathlib.Core.Path.{ap, refl, ◌∙◌, ◌≡◌}
use Prim.Native.Nat.{ℕ, ◌+◌, ◌<◌, ◌≤◌}
use borrow.Author.Tests.{le-leb, lt-leb}
use lib.ListN.{drop, length, take}
use Rattle.whole.proofs.Lists.Prefix.{laid-front, laid-past}
use Rattle.rules.specs.Program.Bytes.{byte}
use Rattle.rules.specs.Program.Text.{printed}

module _ (text before : List ℕ) where
  pub text-kept : length before < length text → printed text before ≡ before
  unfolding printed
  text-kept h = ap (λ b. cond b (text ++ drop (length text) before) before) (lt-leb (length text) (length before) h)

  module _ (h : length text ≤ length before) where
    text-laid : printed text before ≡ text ++ drop (length text) before
    unfolding printed
    text-laid = ap (λ b. cond b (text ++ drop (length text) before) before) (le-leb (length text) (length before) h)

    pub text-front : take (length text) (printed text before) ≡ text
    text-front = ap (take (length text)) text-laid ∙ laid-front text before (length text) refl

    pub text-past : (i : ℕ) → byte (printed text before) (length text + i) ≡ byte before (length text + i)
    text-past i = ap (λ l. byte l (length text + i)) text-laid ∙ laid-past text before (length text) refl i 0
