-- `bundle::head::fill` meets its contract: edition and count are put first, and then pair after pair.
use Rattle.std.proofs.Common.{◌≡◌, ◌+◌, ◌*◌, ◌++◌, [], arith, rules, ap, sym, ◌∙◌, w32, set, pos, length, to_z, of_z}
use Rattle.std.proofs.Common.{nat_abs}
use Rattle.std.proofs.Math.Numerals.{add-one}
use Rattle.std.proofs.Math.ListN.{length-set}
use mir.Facts.{to_z-of_z, to_z_pos}
use mir.Val.{SFits}
use Rattle.whole.specs.Tables.{table}
use Rattle.whole.proofs.Numbers.Sizes.{fits-abs}
use Rattle.rules.specs.Problem.{word}
use Rattle.rules.specs.Bundle.File.{head_size}
use Rattle.rules.specs.Bundle.Writer.{file_words}
use Rattle.rules.proofs.Bundle.Places.{counts-next, counts-none}
use Rattle.bundle.proofs.Heads.{head_done, head_more, head_over, head_word, head-begun, head-kept, place-few}
use Rattle.bundle.proofs.Heads.{word_first}
use Rattle.bundle.proofs.Heads.{word_size}
use Rattle.bundle.proofs.head.fill.Goals as goal

pub loop-i-init : goal.loop-i-init
loop-i-init c =
    let e = c.args.edition in
    let ls = c.args.lengths.now in
    let first = c.args.front.now in
    let begun = head-begun e ls first (omega arith) (to_z w32 e) (to_z w32 (length ls))
    (to_z_pos w32 (omega arith)) (to_z_pos w32 (omega (arith, c.requires.0.counts.few))) in
    let later = head-kept e ls first 2 (omega arith) (to_z w32 e) (to_z w32 (length ls)) in record {
      at-is = omega (arith, counts-none (word ls));
      front-is = begun ∙ ap (λ l. table 2 (head_word e ls) ++ l) (sym later);
    }

pub overflow_cast-front-in-loop-i : goal.overflow_cast-front-in-loop-i
overflow_cast-front-in-loop-i c = fits-abs (omega (
  arith,
  c.loop-i.invariant.at-is,
  c.requires.0.counts.few,
  place-few c.args.lengths.now c.requires.0 c.loop-i.i (omega arith),
))

pub overflow_add-at-in-loop-i : goal.overflow_add-at-in-loop-i
overflow_add-at-in-loop-i c = omega (
  arith,
  c.loop-i.invariant.at-is,
  c.requires.0.counts.few,
  place-few c.args.lengths.now c.requires.0 c.loop-i.i (omega arith),
  c.unsigned_abs.ensures.bound,
)

pub loop-i-preserved : goal.loop-i-preserved
loop-i-preserved c =
    let e = c.args.edition in
    let ls = c.args.lengths.now in
    let i = c.loop-i.i in
    let kept = set (set c.args.front.now 0 (to_z w32 e)) 1 (to_z w32 (length ls)) in
    let fit : SFits w32 (word ls i) = search rules in
    let size : c.unsigned_abs.result ≡ nat_abs (word ls i) =
    c.unsigned_abs.ensures.value ∙ ap nat_abs (to_z-of_z fit) in
    let small = place-few ls c.requires.0 i (omega arith) in
    let first-told = to_z_pos w32 (omega (arith, c.loop-i.invariant.at-is, c.requires.0.counts.few, small))
    ∙ ap pos c.loop-i.invariant.at-is ∙ sym (word_first e ls c.requires.0.counts i (omega arith)) in
    let size-told = to_z-of_z fit ∙ sym (word_size e ls i (omega arith)) in record {
      at-is = rw add-one (omega (arith, size, c.loop-i.invariant.at-is, counts-next i (word ls)));
      front-is =
          ap (λ l. set (set l (2 + 2 * i) (to_z w32 c.loop-i.at)) (3 + 2 * i) (to_z w32 (of_z w32 (word ls i))))
          c.loop-i.invariant.front-is
          ∙ head_more e ls kept i (rw length-set (rw length-set (omega arith))) _ _ first-told size-told;
    }

pub returns-clause-content : goal.returns-clause-content
returns-clause-content c =
    let e = c.args.edition in
    let ls = c.args.lengths.now in
    let first = c.args.front.now in
    let kept = set (set first 0 (to_z w32 e)) 1 (to_z w32 (length ls)) in
    let all : 2 + 2 * c.loop-i.i ≡ head_size (length ls) = omega arith in
    let later = head-kept e ls first (head_size (length ls)) (omega arith) (to_z w32 e) (to_z w32 (length ls)) in
    c.loop-i.invariant.front-is ∙ ap (λ n. head_over e ls n kept) all ∙ head_done e ls kept
    ∙ ap (λ l. file_words e ls [] ++ l) later
