use Rattle.std.proofs.Common.{◌+◌, ◌*◌, refl, ap, arith, get_or}
use Rattle.sheet_lexemes.proofs.Decimals.{value_more, small_more, small_fits, digit_small}
use Rattle.sheet_lexemes.proofs.numbers.value_of.Goals as goal

pub overflow_mul-value : goal.overflow_mul-value
overflow_mul-value c =
    let p = small_fits c.loop-digit.digit-index (omega (arith, c.requires.few, c.loop-digit-test.true)) in
    let h = c.loop-digit.invariant.small in omega (arith, p, h)

pub overflow_add-value : goal.overflow_add-value
overflow_add-value c =
    let p = small_fits c.loop-digit.digit-index (omega (arith, c.requires.few, c.loop-digit-test.true)) in
    let h = c.loop-digit.invariant.small in
    let d = digit_small (get_or c.args.digits.now c.loop-digit.digit-index 0) (c.requires.digits c.loop-digit.digit-index 0 c.loop-digit-test.true) in
    omega (arith, p, h, d, c.from.ensures)

pub loop-digit-preserved : goal.loop-digit-preserved
loop-digit-preserved c =
    let d = digit_small (get_or c.args.digits.now c.loop-digit.digit-index 0) (c.requires.digits c.loop-digit.digit-index 0 c.loop-digit-test.true) in
    record {
      so_far = value_more c.args.digits.now c.loop-digit.digit-index c.loop-digit.value _ _ c.loop-digit-test.true refl c.loop-digit.invariant.so_far (ap (λ n. c.loop-digit.value * 10 + n) c.from.ensures);
      small = small_more c.loop-digit.digit-index c.loop-digit.value c.from.result _ c.loop-digit.invariant.small (omega (arith, d, c.from.ensures)) refl;
    }
