use Rattle.format_resp.proofs.NumberTexts.{digits_large, digits_some}
use Rattle.format_resp.proofs.numbers.digits_of.Goals as goal

pub returns-then-are_digits-clause-some : goal.returns-then-are_digits-clause-some
returns-then-are_digits-clause-some c =
    digits_some c.args.bytes.now c.decimal.result c.if-are_digits.ensures c.decimal.ensures

pub returns-then-are_digits-clause-none : goal.returns-then-are_digits-clause-none
returns-then-are_digits-clause-none c =
    digits_large c.args.bytes.now c.decimal.result c.decimal.ensures

pub returns-else-are_digits-clause-none : goal.returns-else-are_digits-clause-none
returns-else-are_digits-clause-none c e n a = absurd (c.if-are_digits.ensures a.0)
