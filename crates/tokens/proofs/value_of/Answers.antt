-- `tokens::value_of` meets its contract. The loop's invariant: the value is that of the bytes passed, and no larger
-- than so many bytes make it. Assumes nothing.
use Rattle.std.proofs.Common.{refl, ◌∙◌, ap, arith, ◌+◌, ◌*◌}
use Rattle.rules.specs.Program.Text.{reading}
use Rattle.tokens.proofs.Laws.Decimals.{most-few, most-more, value-more}
use Rattle.tokens.proofs.value_of.Goals as goal

pub loop-byte-init : goal.loop-byte-init
unfolding reading
loop-byte-init c = record { read = refl; few = omega arith }

pub overflow_mul-value : goal.overflow_mul-value
overflow_mul-value c = omega (arith, c.loop-byte.invariant.few, most-few c.loop-byte.byte-index (omega arith))

pub overflow_add-value : goal.overflow_add-value
overflow_add-value c =
    omega (
      arith,
      c.loop-byte.invariant.few,
      c.digit_of.ensures.1,
      most-few c.loop-byte.byte-index (omega arith),
    )

pub loop-byte-preserved : goal.loop-byte-preserved
loop-byte-preserved c = record {
  read = ap (λ d. 10 * c.loop-byte.value + d) c.digit_of.ensures.0
      ∙ value-more c.args.token.now c.loop-byte.byte-index c.loop-byte.value (omega arith) c.loop-byte.invariant.read;
  few = most-more c.loop-byte.byte-index c.loop-byte.value c.digit_of.result c.loop-byte.invariant.few
      c.digit_of.ensures.1;
}
