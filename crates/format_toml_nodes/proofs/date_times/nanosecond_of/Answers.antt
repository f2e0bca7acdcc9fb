use Rattle.std.proofs.Common.{◌+◌, arith}
use Rattle.format_toml_nodes.proofs.Nanoseconds.{digit_next, product_small, sum_small, whole}
use Rattle.format_toml_nodes.proofs.date_times.nanosecond_of.Goals as goal

pub overflow_mul-sum : goal.overflow_mul-sum
overflow_mul-sum c =
    let small = product_small c.args.digits.now c.requires c.loop-place.place c.loop-place.sum
    c.loop-place-test.true c.loop-place.invariant in
    omega (arith, small)

pub overflow_add-sum : goal.overflow_add-sum
overflow_add-sum c =
    let next = digit_next c.args.digits.now c.loop-place.place c.loop-place.sum
    c.digit_at.result c.loop-place-test.true c.loop-place.invariant c.digit_at.ensures in
    let small = sum_small c.args.digits.now c.requires (c.loop-place.place + 1) in
    omega (arith, next, small, c.from.ensures)

pub loop-place-preserved : goal.loop-place-preserved
loop-place-preserved c =
    let next = digit_next c.args.digits.now c.loop-place.place c.loop-place.sum
    c.digit_at.result c.loop-place-test.true c.loop-place.invariant c.digit_at.ensures in
    omega (arith, next, c.from.ensures)

pub returns : goal.returns
returns c =
    whole c.args.digits.now c.loop-place.place c.loop-place.sum c.loop-place-test.false
    c.loop-place.invariant
