-- One limit put into the words of the whole problem.
--   pieces-length  how many words there are
--   pieces-set     the three words of its variable
--   kind-small     what stands there before it
use mathlib.Core.Bool.{Bool, true, false, cond}
use mathlib.Core.List.{List, [], ◌∷◌, ◌++◌, append_assoc, flatten}
use mathlib.Core.Option.{Option, none, some}
use mathlib.Core.Path.{◌≡◌, sym, ◌∙◌, ap, ap₂, subst}
use Prim.Native.Nat.{ℕ, suc, ◌+◌, ◌-◌, ◌*◌, ◌≤◌, ◌<◌}
use native.Mathlib.Omega.{arith}
use lib.IntN.{ℤ, pos, ◌+ℤ◌}
use lib.ListN.{get_or, length, length-append, length-set, replicate, set, get_or-append}
use lib.Seq.{get_or-append-add, set-append_left}
use lib.Signed.{◌≤ℤ◌, le_z_yes}
use Rattle.rules.specs.Limit.{Limit}
use Rattle.rules.specs.Sizes.{most_words}
use Rattle.rules.specs.Exchange.Reader.{Pieces, limit_words, marks, pieces_words, slot_at, with_limit}
use Rattle.reader.specs.Course.{pushed}
use Rattle.reader.specs.Limits.{limit_set, mark_of, side_number}
use Rattle.reader.proofs.Laws.Slots.{kind-before, limit-words-set, limit_said, limits-words}

set-behind : (xs ys : List ℤ) (i : ℕ) (a : ℤ) → set (xs ++ ys) (length xs + i) a ≡ xs ++ set ys i a
set-behind [] ys i a = ap (λ k. set ys k a) (let e : 0 + i ≡ i = omega arith in e)
set-behind (x ∷ xs) ys i a =
    ap (λ k. set (x ∷ (xs ++ ys)) k a) (let e : suc (length xs) + i ≡ suc (length xs + i) = omega arith in e)
    ∙ ap (λ s. x ∷ s) (set-behind xs ys i a)

module _ (H W Z : List ℤ) (at : ℕ) where
  set-inside : (x : ℤ) → at < length W → set (H ++ (W ++ Z)) (length H + at) x ≡ H ++ (set W at x ++ Z)
  set-inside x h = set-behind H (W ++ Z) at x ∙ ap (λ s. H ++ s) (set-append_left W Z at x h)

  get-inside : at < length W → get_or (H ++ (W ++ Z)) (length H + at) (pos 0) ≡ get_or W at (pos 0)
  get-inside h = get_or-append-add H (W ++ Z) at (pos 0) ∙ get_or-append W Z (pos 0) at h

limit-inside : (H W Z : List ℤ) (at : ℕ) (upper strict : Bool) (z : ℤ) → at + 2 < length W →
    limit_set (H ++ (W ++ Z)) (length H + at) upper strict z ≡ H ++ (limit_set W at upper strict z ++ Z)
unfolding limit_set
limit-inside H W Z at upper strict z h = go upper
  where
    both : (c : ℕ) (x : ℤ) → c < 3 →
        set (set (H ++ (W ++ Z)) (length H + at) x) (length H + at + c) z
        ≡ H ++ (set (set W at x) (at + c) z ++ Z)
    both c x b =
        ap (λ s. set s (length H + at + c) z) (set-inside H W Z at x (omega arith))
        ∙ ap (λ j. set (H ++ (set W at x ++ Z)) j z)
        (let e : length H + at + c ≡ length H + (at + c) = omega arith in e)
        ∙ set-inside H (set W at x) Z (at + c) z (rw (length-set W at x) (omega arith))

    go : (u : Bool) → limit_set (H ++ (W ++ Z)) (length H + at) u strict z ≡ H ++ (limit_set W at u strict z ++ Z)
    go false = both 1 (pos (mark_of strict)) (omega arith)
    go true =
        ap (λ k. set (set (H ++ (W ++ Z)) (length H + at) (k +ℤ pos (2 * mark_of strict))) (length H + at + 2) z)
        (get-inside H W Z at (omega arith))
        ∙ both 2 (get_or W at (pos 0) +ℤ pos (2 * mark_of strict)) (omega arith)

module _ (P : Pieces) (flat : length (flatten P.rows) ≡ P.m * P.n) where
  abbrev front : List ℤ
  front = pos P.n ∷ pos P.m ∷ flatten P.rows

  pub pieces-length : length (pieces_words P) ≡ 2 + P.m * P.n + 3 * (P.n + P.m)
  unfolding pieces_words
  pieces-length = rw (length-append (flatten P.rows) (limit_words P), limits-words P, flat) (omega arith)

  module _ (v : ℕ) (upper strict : Bool) (z : ℤ) (few : v < P.n + P.m)
      (h : length P.limits ≤ 2 * v + side_number upper) where
    abbrev R : Pieces
    R = with_limit P (2 * v + side_number upper) (limit_said z strict)

    abbrev zeros : List ℤ
    zeros = replicate (most_words - length (pieces_words P)) (pos 0)

    place : 2 + P.m * P.n + 3 * v ≡ length front + 3 * v
    place = rw flat (omega arith)

    parted : pushed (pieces_words P) ≡ front ++ (limit_words P ++ zeros)
    unfolding pushed pieces_words
    parted = append_assoc front (limit_words P) zeros

    three : 3 * v + 2 < length (limit_words P)
    three = rw (limits-words P) (omega arith)

    same_size : length (pieces_words P) ≡ length (pieces_words R)
    unfolding pieces_words with_limit
    same_size = ap (λ k. suc (suc k))
        (length-append (flatten P.rows) (limit_words P)
        ∙ ap (λ k. length (flatten P.rows) + k) (limits-words P ∙ sym (limits-words R))
        ∙ sym (length-append (flatten P.rows) (limit_words R)))

    joined : front ++ (limit_words R ++ zeros) ≡ pushed (pieces_words R)
    unfolding pushed pieces_words with_limit
    joined =
        sym (append_assoc front (limit_words R) zeros)
        ∙ ap (λ k. pieces_words R ++ replicate (most_words - k) (pos 0)) same_size

    pub pieces-set :
        limit_set (pushed (pieces_words P)) (2 + P.m * P.n + 3 * v) upper strict z ≡ pushed (pieces_words R)
    pieces-set =
        ap₂ (λ s k. limit_set s k upper strict z) parted place
        ∙ limit-inside front (limit_words P) zeros (3 * v) upper strict z three
        ∙ ap (λ s. front ++ (s ++ zeros)) (limit-words-set P v upper strict z few h)
        ∙ joined

    kind-there : get_or (pushed (pieces_words P)) (2 + P.m * P.n + 3 * v) (pos 0)
        ≡ pos (marks (slot_at P (2 * v)) + 2 * 0)
    unfolding side_number
    kind-there =
        ap₂ (λ s k. get_or s k (pos 0)) parted place
        ∙ get-inside front (limit_words P) zeros (3 * v) (omega (arith, three))
        ∙ kind-before P v strict z few (bound upper h)
      where
        bound : (u : Bool) → length P.limits ≤ 2 * v + side_number u → length P.limits ≤ 2 * v + 1
        bound true q = q
        bound false q = omega (arith, q)

    pub kind-small : (pos 0 ≤ℤ get_or (pushed (pieces_words P)) (2 + P.m * P.n + 3 * v) (pos 0))
        × (get_or (pushed (pieces_words P)) (2 + P.m * P.n + 3 * v) (pos 0) ≤ℤ pos 5)
    unfolding marks
    kind-small = subst (λ w. (pos 0 ≤ℤ w) × (w ≤ℤ pos 5)) (sym kind-there) (small (slot_at P (2 * v)))
      where
        strict-small : (b : Bool) → (pos 0 ≤ℤ pos (1 + cond b 4 0 + 2 * 0)) × (pos (1 + cond b 4 0 + 2 * 0) ≤ℤ pos 5)
        strict-small true = (le_z_yes tt, le_z_yes tt)
        strict-small false = (le_z_yes tt, le_z_yes tt)

        small : (o : Option Limit) → (pos 0 ≤ℤ pos (marks o + 2 * 0)) × (pos (marks o + 2 * 0) ≤ℤ pos 5)
        small none = (le_z_yes tt, le_z_yes tt)
        small (some l) = strict-small l.strict
