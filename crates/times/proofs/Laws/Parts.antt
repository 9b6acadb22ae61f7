-- Both parts of the times, where the distances are right.
--   plain-times-are, small-times-are    the minutes; the small amounts
use mathlib.Core.Path.{◌≡◌, refl, sym, ◌∙◌, ap, ap₂}
use mathlib.Core.List.{List, map}
use Prim.Native.Nat.{ℕ, ◌<◌, ◌/◌, ◌%◌}
use native.Mathlib.Omega.{arith}
use lib.IntN.{ℤ, pos, nat_abs, neg_ℤ, neg_ℤ-neg_ℤ}
use lib.ListN.{length, get_or, take, length-map, length-take, get_or-map}
use lib.Seq.{ext_get_or, get_or-take}
use lib.Signed.{◌≤ℤ◌, ◌<ℤ◌}
use Rattle.whole.specs.Values.{whole, pairs}
use Rattle.whole.proofs.Values.Beside.{Parts, parts, pairs-laws}
use Rattle.whole.proofs.Numbers.Order.{false→le, <ℤ→≤ℤ}
use Rattle.whole.proofs.Numbers.Tests.{own-size, under-size}
use Rattle.rules.specs.Sizes.{most_vertices}
use Rattle.rules.specs.Problem.{n_of}
use Rattle.rules.specs.Times.Passes.{distance, distances}
use Rattle.rules.specs.Times.Words.{time_edges}
use Rattle.rules.specs.Times.Answer.{plain_time, small_time}
use Rattle.rules.proofs.Times.Decide.{distances-long, distances-low}
use Rattle.rules.proofs.Times.Means.{times-few}
use Rattle.rules.proofs.Times.Refused.{vertices-few, accepted-ends}
use Rattle.lengths.specs.declared.Length.{Length}
use Rattle.lengths.specs.Lengths.{unit, key_of, no_rows, length_at, plain_part, small_part}
use Rattle.lengths.proofs.Laws.Keys.{turned_up, plain-key, small-key}
use Rattle.timerows.specs.Judged.{Fine}
use Rattle.times.specs.Steps.{Settled}

-- a half of the times, by its words
half-are : (ws : List ℤ) → Fine ws → (best : List Length) → length best ≡ most_vertices →
    (part : Length → ℤ) (half : ℤ × ℤ → ℤ) → part no_rows ≡ pos 0 → half pairs.nil ≡ pos 0 →
    ((v : ℕ) → v < n_of ws →
    part (length_at best v) ≡ half (distance pairs (time_edges ws) (distances pairs (time_edges ws)) v)) →
    take (n_of ws) (map part best) ≡ map half (distances pairs (time_edges ws))
half-are ws f best long part half part-nil half-nil same =
    ext_get_or (pos 0) (take (n_of ws) (map part best)) (map half ds) lengths each
  where
    ds : List (ℤ × ℤ)
    ds = distances pairs (time_edges ws)

    all : length (map part best) ≡ most_vertices
    all = length-map best part ∙ long

    ds-long : length ds ≡ n_of ws
    ds-long = distances-long pairs-laws (time_edges ws) (accepted-ends f)

    lengths : length (take (n_of ws) (map part best)) ≡ length (map half ds)
    lengths =
        length-take (n_of ws) (map part best) ∙ omega (arith, all, vertices-few f) ∙ sym (length-map ds half ∙ ds-long)

    each : (v : ℕ) → v < length (take (n_of ws) (map part best)) →
        get_or (take (n_of ws) (map part best)) v (pos 0) ≡ get_or (map half ds) v (pos 0)
    each v h =
        let low : v < n_of ws = omega (arith, length-take (n_of ws) (map part best)) in
        get_or-take (n_of ws) (map part best) v (pos 0) low
        ∙ ap (get_or (map part best) v) (sym part-nil)
        ∙ get_or-map part best v no_rows
        ∙ same v low
        ∙ sym (ap (get_or (map half ds) v) (sym half-nil) ∙ get_or-map half ds v pairs.nil)

module _ (ws : List ℤ) (f : Fine ws) (best : List Length) (s : Settled ws best) where
  -- a distance is minus p minutes and q small amounts, fewer than n
  record Counted (v : ℕ) : Type 0 where
    p : ℕ
    q : ℕ
    few : q < unit
    is : distance pairs (time_edges ws) (distances pairs (time_edges ws)) v ≡ (neg_ℤ (pos p), neg_ℤ (pos q))

  counted : (v : ℕ) → v < n_of ws → Counted v
  counted v h = record {
    p = nat_abs (plain_time (D v));
    q = nat_abs (small_time (D v));
    few = omega (arith, under-size (n_of ws) 0 (small_time (D v)) small.0 (<ℤ→≤ℤ small.1), vertices-few f);
    is = ap₂ (λ a b. (a, b)) (back (D v).0 plain) (back (D v).1 small.0);
  }
    where
      D : ℕ → ℤ × ℤ
      D u = distance pairs (time_edges ws) (distances pairs (time_edges ws)) u

      low : Parts whole whole (D v) pairs.nil
      low =
          parts {𝓐 = whole} {𝓑 = whole} (D v) pairs.nil
          (distances-low pairs-laws (time_edges ws) (accepted-ends f) v)

      plain : pos 0 ≤ℤ neg_ℤ (D v).0
      plain = turned_up (D v).0 (false→le {a = (D v).0} {b = pos 0} low.first)

      small : (pos 0 ≤ℤ neg_ℤ (D v).1) × (neg_ℤ (D v).1 <ℤ pos (n_of ws))
      small = times-few f s.can v h

      -- minus a count
      back : (z : ℤ) → pos 0 ≤ℤ neg_ℤ z → z ≡ neg_ℤ (pos (nat_abs (neg_ℤ z)))
      back z g = sym (neg_ℤ-neg_ℤ z) ∙ ap neg_ℤ (own-size 0 (neg_ℤ z) g)

  pub plain-times-are : take (n_of ws) (map plain_part best) ≡ map plain_time (distances pairs (time_edges ws))
  plain-times-are = half-are ws f best s.long plain_part plain_time refl refl (λ v h.
      let c = counted v h in
      ap (λ z. pos (nat_abs z / unit)) (s.are v ∙ ap key_of c.is) ∙ ap pos (plain-key c.p c.q c.few)
      ∙ sym (ap plain_time c.is ∙ neg_ℤ-neg_ℤ (pos c.p)))

  pub small-times-are : take (n_of ws) (map small_part best) ≡ map small_time (distances pairs (time_edges ws))
  small-times-are = half-are ws f best s.long small_part small_time refl refl (λ v h.
      let c = counted v h in
      ap (λ z. pos (nat_abs z % unit)) (s.are v ∙ ap key_of c.is) ∙ ap pos (small-key c.p c.q c.few)
      ∙ sym (ap small_time c.is ∙ neg_ℤ-neg_ℤ (pos c.q)))
