use Rattle.std.proofs.Common.{arith, ap, take, ◌*◌, ◌∙◌}
use Rattle.std.specs.Str.Parse.{digits_value}
use Rattle.std.proofs.lemmas.Int.Digits.{digits_value_more}
use Rattle.format_http.proofs.BodiesLemmas.Numbers.{all_digits, past_size}
use Rattle.format_http.proofs.bodies.numbers.number_in.Goals as goal

pub returns-in_err-checked_mul : goal.returns-in_err-checked_mul
returns-in_err-checked_mul c = rw c.from_residual.ensures (past_size c.args.base
    c.args.digits.now c.loop-digit.digit-index c.loop-digit.number c.requires (omega arith)
    c.loop-digit.invariant.so_far
    (λ small. c.in_err-checked_mul.ensures (omega (arith, small))))

pub returns-in_err-number : goal.returns-in_err-number
returns-in_err-number c = rw c.from_residual-in_err-number.ensures (past_size c.args.base
    c.args.digits.now c.loop-digit.digit-index c.loop-digit.number c.requires (omega arith)
    c.loop-digit.invariant.so_far
    (λ small. c.in_err-number.ensures
    (omega (arith, small, c.in_ok-checked_mul.ensures.1, c.value_of.ensures))))

pub loop-digit-preserved : goal.loop-digit-preserved
loop-digit-preserved c = record {
  so_far = omega (
    arith,
    digits_value_more c.args.base c.args.digits.now c.loop-digit.digit-index (omega arith),
    ap (λ n. n * c.args.base) c.loop-digit.invariant.so_far,
    c.in_ok-checked_mul.ensures.1,
    c.value_of.ensures,
    c.in_ok-number.ensures.1,
  );
  fits = omega (arith, c.in_ok-number.ensures.0, c.in_ok-number.ensures.1);
}

pub returns : goal.returns
returns c =
    let b = c.args.digits.now in
    let is = all_digits c.args.base b c.loop-digit.number
    (c.loop-digit.invariant.so_far ∙ ap (λ k. digits_value c.args.base (take k b)) (omega arith))
    in
    (omega (arith, is, c.loop-digit.invariant.fits), is)
