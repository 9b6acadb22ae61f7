-- What two reads after one another consume, and where the bytes of the second stand.
use Rattle.std.proofs.Common.{◌≡◌, ℕ, ◌+◌, ◌≤◌, List, ◌++◌, length, take, Option, None, Some, sym, ap, ◌∙◌}
use Rattle.std.proofs.Common.{append_assoc}
use Rattle.std.proofs.Math.Seq.{take-append-add}
use Rattle.std.proofs.lemmas.List.{length-take-le, take-append-le}
use Rattle.std.specs.Io.KnownBytes.{Consumes}
use borrow.Rule.Slice.PartMut.{put_mid, post_of}

pub consumed-then : (a b c : Option (List ℕ)) (xs ys : List ℕ) → Consumes a b xs → Consumes b c ys →
    Consumes a c (xs ++ ys)
consumed-then None b c xs ys p q = tt
consumed-then (Some a) None c xs ys p q = elim p [ ]
consumed-then (Some a) (Some b) None xs ys p q = elim q [ ]
consumed-then (Some a) (Some b) (Some c) xs ys p q = p ∙ ap (λ l. xs ++ l) q ∙ sym (append_assoc xs ys c)

pub put-more : (d k n : ℕ) (xs ys : List ℕ) → d ≤ length xs → n ≤ length ys →
    take (d + n) (put_mid d k xs ys) ≡ take d xs ++ take n ys
put-more d k n xs ys p q =
    let e : length (take d xs) ≡ d = length-take-le d xs p in
    ap (λ z. take (z + n) (put_mid d k xs ys)) (sym e)
    ∙ take-append-add (take d xs) (ys ++ post_of d k xs) n
    ∙ ap (λ l. take d xs ++ l) (take-append-le n ys (post_of d k xs) q)
