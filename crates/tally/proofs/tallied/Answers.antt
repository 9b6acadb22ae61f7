-- `tally::tallied`: the counts of the variables passed are told, the others as they were. Assumes nothing.
use Rattle.std.proofs.Common.{◌≡◌, ap, ap₂, refl, ◌∙◌, ◌+◌, ◌++◌, ℕ, List, ℤ, Bool, pos, drop, get_or, set, arith}
use Rattle.std.proofs.Common.{rules, w64}
use mathlib.Core.Bool.{cond, not}
use mir.Facts.{sfits_lit}
use mir.Val.{SFits}
use Rattle.whole.proofs.Lists.Prefix.{set-table, table-next}
use Rattle.whole.proofs.Tells.{bits-eq}
use Rattle.whole.specs.Numbers.{eq_z}
use Rattle.whole.specs.Tables.{table, table_from}
use Rattle.rules.specs.Problem.{word}
use Rattle.tally.specs.Counting.{one_more, tallied_at}
use Rattle.tally.proofs.Bits.{byte-cond, byte-most}
use Rattle.tally.proofs.tallied.Goals as goal

-- the count of the variable that is looked at is as it was
as_it_was : (counts now : List ℕ) (answer : List ℤ) (at v : ℕ) →
    now ≡ table v (one_more counts answer at) ++ drop v counts → get_or now v 0 ≡ get_or counts v 0
as_it_was counts now answer at v e = ap (λ l. get_or l v 0) e ∙ table-next (one_more counts answer at) 0 counts v

-- one more, or none
told : (counts now : List ℕ) {n : ℕ} {b : Bool} (answer : List ℤ) (at v : ℕ) →
    now ≡ table v (one_more counts answer at) ++ drop v counts → n ≡ cond (not b) 1 0 →
    b ≡ eq_z (word answer (at + v)) (pos 0) →
    get_or now v 0 + n ≡ one_more counts answer at v
told counts now answer at v e d f =
    ap₂ (λ a b. a + b) (as_it_was counts now answer at v e) (d ∙ ap (λ b. cond (not b) 1 0) f)

pub loop-v-init : goal.loop-v-init
unfolding table_from
loop-v-init c = (omega arith, refl)

pub overflow_add-counts : goal.overflow_add-counts
overflow_add-counts c =
    let s = c.args in
    let e = as_it_was s.counts c.loop-v.counts s.answer.now s.at c.loop-v.v c.loop-v.invariant.1 in
    let few = c.requires.2.few c.loop-v.v in
    let one = byte-most (not _) c.from.ensures in
    omega (arith, e, few, one)

pub loop-v-preserved : goal.loop-v-preserved
loop-v-preserved c =
    let s = c.args in
    let v = c.loop-v.v in
    let q : SFits w64 (word s.answer.now (s.at + v)) = search rules in (
      omega arith,
      ap₂ (λ l n. set l v n) c.loop-v.invariant.1
          (told s.counts c.loop-v.counts s.answer.now s.at v c.loop-v.invariant.1 (c.from.ensures ∙ byte-cond _)
          (bits-eq w64 {a = word s.answer.now (s.at + v)} {b = pos 0} q (sfits_lit tt)))
          ∙ set-table (one_more s.counts s.answer.now s.at) 0 s.counts v
          (let h = c.requires.2.counted in omega (arith, h, c.requires.0)),
    )

pub returns : goal.returns
unfolding tallied_at
returns c =
    let s = c.args in
    let e : c.loop-v.v ≡ s.variables = omega arith in
    c.loop-v.invariant.1 ∙ ap (λ k. table k (one_more s.counts s.answer.now s.at) ++ drop k s.counts) e
