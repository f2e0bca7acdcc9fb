use Rattle.std.proofs.Common.{◌≡◌, ◌+◌, ◌*◌, ◌^◌, ℕ, arith, rules, sym, ◌∙◌, ap, subst}
use Rattle.format_json_texts.specs.Digits.{IsReduced, IsTooLong}
use Rattle.format_json_texts.proofs.Tens.{next_is, part_too_long, push_digit, push_too_long}
use Rattle.format_json_texts.proofs.Tens.{push_zero, times_ten}
use Rattle.format_json_texts.proofs.digits.push.Goals as goal

pub returns-else-read-eq0-clause-reduced : goal.returns-else-read-eq0-clause-reduced
returns-else-read-eq0-clause-reduced c = λ n is.
    let P : ℕ → Type 0 = λ d. IsReduced (n * 10 + d) c.args.read.digits (c.args.read.zeros + 1) in
    subst P (sym c.if-digit-eq0.true)
    (push_zero n c.args.read.digits c.args.read.zeros c.if-read-eq0.false is)

pub returns-in_err-digits-clause-reduced : goal.returns-in_err-digits-clause-reduced
returns-in_err-digits-clause-reduced c =
    let long : (n : ℕ) → IsReduced n c.args.read.digits c.args.read.zeros
    → IsTooLong (n * 10 + c.args.digit) = λ n is.
    let least = part_too_long n c.args.read.digits c.args.read.zeros c.places.places
    c.places.digits is (search rules) c.places.invariant.0
    (omega (arith, c.in_err-digits.ensures)) in
    push_too_long n c.args.digit c.if-digit-eq0.false c.requires.digit (omega (arith, least)) in
    search rules

pub places-preserved : goal.places-preserved
places-preserved c = (
  omega (
    arith,
    c.in_ok-digits.ensures,
    c.places.invariant.0,
    times_ten c.args.read.digits c.places.places,
  ),
  search rules,
)

pub returns-in_err-checked_add-clause-reduced : goal.returns-in_err-checked_add-clause-reduced
returns-in_err-checked_add-clause-reduced c =
    let all : c.places.places ≡ c.args.read.zeros + 1 = search rules in
    let makes = c.places.invariant.0
    ∙ ap (λ k. c.args.read.digits * 10 ^ k) all in
    let long : (n : ℕ) → IsReduced n c.args.read.digits c.args.read.zeros
    → IsTooLong (n * 10 + c.args.digit) = λ n is.
    push_too_long n c.args.digit c.if-digit-eq0.false c.requires.digit
    (omega (
      arith,
      makes,
      next_is n c.args.read.digits c.args.read.zeros is,
      c.in_err-checked_add.ensures,
    )) in
    search rules

pub returns-clause-reduced : goal.returns-clause-reduced
returns-clause-reduced c = λ n is.
    let all : c.places.places ≡ c.args.read.zeros + 1 = search rules in
    let makes = c.places.invariant.0
    ∙ ap (λ k. c.args.read.digits * 10 ^ k) all in
    let same : n * 10 + c.args.digit ≡ c.in_ok-checked_add.field-0 =
    omega (
      arith,
      makes,
      next_is n c.args.read.digits c.args.read.zeros is,
      c.in_ok-checked_add.ensures,
    ) in
    let P : ℕ → Type 0 = λ k. IsReduced (n * 10 + c.args.digit) k 0 in
    subst P same (push_digit n c.args.digit c.if-digit-eq0.false c.requires.digit)
