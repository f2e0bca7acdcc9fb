use Rattle.std.proofs.Common.{arith, inl, inr, refl, sym, ◌∙◌}
use Rattle.format_toml.specs.Digits.{no_under, number_goes}
use Rattle.format_toml.specs.Digits.{true_false, value_next, value_under}
use Rattle.format_toml.specs.Numbers.{IsNumber}
use Rattle.format_toml.proofs.integers.number_in.Goals as goal
use Rattle.format_toml.proofs.integers.number_in.Goals.{then-byte-eq95+else-due}
use Rattle.format_toml.proofs.integers.number_in.Goals.{
  else-byte-eq95+else-digit-base+in_ok-checked_mul+in_ok-number,
}
use Rattle.format_toml.proofs.DigitsLemmas.{goes_end, goes_next, goes_stop, value_end, value_over}

pub loop-byte-init : goal.loop-byte-init
loop-byte-init c = (record { same = (λ x. x, λ x. x) }, refl)

pub returns-then-due : goal.returns-then-due
unfolding IsNumber
returns-then-due c = λ n x small.
    goes_stop c.loop-byte.invariant.0 c.loop-byte-test.true
    (λ is. no_under _ (omega arith) _ is c.if-byte-eq95.true)
    (λ e ready. true_false (sym c.if-due.true ∙ ready)) ((number_goes _ (omega arith) n _).0 x).0

pub returns-then-digit-base : goal.returns-then-digit-base
unfolding IsNumber
returns-then-digit-base c = λ n x small.
    goes_stop c.loop-byte.invariant.0 c.loop-byte-test.true
    (λ is. omega (arith, c.if-digit-base.true, c.value_of-digit.ensures))
    (λ e ready. c.if-byte-eq95.false e) ((number_goes _ (omega arith) n _).0 x).0

pub returns-in_err-checked_mul : goal.returns-in_err-checked_mul
unfolding IsNumber
returns-in_err-checked_mul c = rw c.from_residual.ensures (λ n x small.
    let over = value_over _ _ _ n (omega arith) c.loop-byte-test.true c.if-byte-eq95.false
    c.loop-byte.invariant.1 ((number_goes _ (omega arith) n _).0 x).1 in
    c.in_err-checked_mul.ensures (omega (arith, small, over)))

pub returns-in_err-number : goal.returns-in_err-number
unfolding IsNumber
returns-in_err-number c = rw c.from_residual-in_err-number.ensures (λ n x small.
    let over = value_over _ _ _ n (omega arith) c.loop-byte-test.true c.if-byte-eq95.false
    c.loop-byte.invariant.1 ((number_goes _ (omega arith) n _).0 x).1 in
    c.in_err-number.ensures
    (omega (arith, small, over, c.in_ok-checked_mul.ensures.1, c.value_of-digit.ensures)))

pub loop-byte-preserved : goal.loop-byte-preserved
loop-byte-preserved c =
    let (so, is) = c.loop-byte.invariant in
    let less = c.loop-byte-test.true in elim c.if-byte-eq95.branch [
      | then-byte-eq95+else-due w ↦ (
        goes_next so (omega arith) less (inr (w.if-byte-eq95.true, w.if-due.false, w.due-is)),
        w.number-is ∙ is ∙ sym (value_under _ _ _ less w.if-byte-eq95.true),
      )
      | else-byte-eq95+else-digit-base+in_ok-checked_mul+in_ok-number w ↦ (
        goes_next so (omega arith) less
            (inl (omega (arith, w.if-digit-base.false, w.value_of-digit.ensures), w.due-is)),
        value_next _ _ _ less w.if-byte-eq95.false is (omega (
          arith,
          w.number-is,
          w.in_ok-number.ensures.1,
          w.in_ok-checked_mul.ensures.1,
          w.value_of-digit.ensures,
        )),
      )
    ]

pub returns-then-due-2 : goal.returns-then-due-2
unfolding IsNumber
returns-then-due-2 c = λ n x small.
    true_false (sym c.if-due-2.true ∙ (goes_end c.loop-byte.invariant.0 c.loop-byte-test.false).0
    ((number_goes _ (omega arith) n _).0 x).0)

pub returns-else-due-2 : goal.returns-else-due-2
unfolding IsNumber
returns-else-due-2 c =
    let (so, is) = c.loop-byte.invariant in
    let value = is ∙ value_end _ _ _ c.loop-byte-test.false in (
      (number_goes _ (omega arith) _ _).1
          ((goes_end so c.loop-byte-test.false).1 c.if-due-2.false, value),
      λ m x. ((number_goes _ (omega arith) m _).0 x).1 ∙ sym value,
    )
