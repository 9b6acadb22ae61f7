-- Texts put one behind the other.
--   put-none, put_then       no text; two texts are one
--   put-past                 behind the end the slice is as it was
--   put-length               the slice is as long as before
--   put_front                a text put at the front is the front, where it fits
--   room-left, room-right    where there is room for both, there is room for each
--   texts                    these for `search`: texts one behind the other, in the order of their definition
--   put-lines-start, -room, -more   the lines below a number: none, room for one more, one more
--   put_only                 writer and text leave nothing open
use mathlib.Core.Path.{◌≡◌, refl, sym, ◌∙◌, ap, ap₂}
use mathlib.Core.List.{List, [], ◌∷◌, ◌++◌}
use Prim.Native.Nat.{ℕ, suc, ◌+◌, ◌≤◌, ◌<◌}
use native.Mathlib.Numerals.{add-one}
use native.Mathlib.Omega.{arith}
use lib.ListN.{drop, length, take, length-append, length-set, set}
use lib.Seq.{sets, length-sets, set_out, take-append_seam}
use Rattle.whole.proofs.Lists.Stores.{sets-front, sets_then}
use Rattle.rules.specs.Program.Text.{lines_below}
use Rattle.rules.proofs.Program.Lengths.{lines-inside}
use Rattle.put.specs.declared.Writer.{Writer}
use Rattle.put.specs.Put.{Put, Room}

pub put-none : (w : Writer) → Put w [] w
put-none w = record { same = refl; bytes = refl; place = omega arith }

module _ {u v w : Writer} {s t : List ℕ} where
  pub put_then : Put u s v → Put v t w → Put u (s ++ t) w
  put_then p q = record {
    same = q.same ∙ p.same;
    bytes = q.bytes ∙ ap₂ (λ a b. sets a b t) p.bytes p.place ∙ sym (sets_then s t u.out.now u.at);
    place = omega (arith, length-append s t, p.place, q.place);
  }

sets-past : (s l : List ℕ) (i : ℕ) → length l ≤ i → sets l i s ≡ l
sets-past [] l i h = refl
sets-past (a ∷ s) l i h = sets-past s (set l i a) (suc i) (omega (arith, length-set l i a)) ∙ set_out l i a h

pub put-past : (w : Writer) (s : List ℕ) → length w.out.now ≤ w.at →
    Put w s record { out = w.out; at = w.at + length s }
put-past w s h = record { same = refl; bytes = sym (sets-past s w.out.now w.at h); place = refl }

pub put-length : {v w : Writer} {s : List ℕ} → Put v s w → length w.out.now ≡ length v.out.now
put-length {v} {w} {s} p = ap length p.bytes ∙ length-sets v.out.now v.at s

pub put_front :
    {v w : Writer} {s : List ℕ} → Put v s w → v.at ≡ 0 → length s ≤ length v.out.now → take w.at w.out.now ≡ s
put_front {v} {w} {s} p z h =
    ap₂ take (let e : w.at ≡ length s = omega (arith, p.place, z) in e)
    (p.bytes ∙ ap (λ i. sets v.out.now i s) z ∙ sets-front s v.out.now h)
    ∙ take-append_seam s (drop (length s) v.out.now)

pub room-left : {w : Writer} {s : List ℕ} (t : List ℕ) → Room w (s ++ t) → Room w s
room-left {w} {s} t r = record { room = omega (arith, length-append s t, r.room) }

pub room-right : {v w : Writer} {s t : List ℕ} → Put v s w → Room v (s ++ t) → Room w t
room-right {v} {w} {s} {t} p r = record { room = omega (arith, length-append s t, p.place, r.room) }

pub ruleset texts = (put_then, room-left, room-right)

-- ---- lines one behind the other

module _ (f : ℕ → List ℕ) where
  pub put-lines-start : (w : Writer) → Put w (lines_below 0 f) w
  unfolding lines_below
  put-lines-start w = put-none w

  -- where there is room for k lines, there is room for each
  pub put-lines-room :
      {v w : Writer} (k i : ℕ) → Room v (lines_below k f) → Put v (lines_below i f) w → i < k → Room w (f i)
  put-lines-room k i r p h = record { room = omega (arith, p.place, r.room, lines-inside k i f h) }

  pub put-lines-more :
      {u v w : Writer} (i : ℕ) → Put u (lines_below i f) v → Put v (f i) w → Put u (lines_below (i + 1) f) w
  unfolding lines_below
  put-lines-more i p q = rw add-one (put_then p q)

pub put_only : {v a b : Writer} {s : List ℕ} → Put v s a → Put v s b → (a.out.now ≡ b.out.now) × (a.at ≡ b.at)
put_only p q = (p.bytes ∙ sym q.bytes, p.place ∙ sym q.place)
