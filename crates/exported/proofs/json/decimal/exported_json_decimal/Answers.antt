use Rattle.std.proofs.Common.{FitsSigned, rules}
use Rattle.std.specs.Int.{w32}
use Rattle.exported.proofs.JsonDecimals.{decimal_shown}
use Rattle.exported.proofs.json.decimal.exported_json_decimal.Goals as goal

pub returns-in-Ok-clause-decimal : goal.returns-in-Ok-clause-decimal
returns-in-Ok-clause-decimal c _ =
    let (n, is) = (c.numbers_are_written_in_parts.ensures _).0 c.in-Some.ensures.found.is in
    let fits : FitsSigned w32 c.in-Ok.found.exponent = search rules in (
      _,
      _,
      c.in-Some.ensures.found,
      (n, is, decimal_shown n _ _ _ fits (c.in-Ok.ensures n is)),
    )

pub returns-in-Err-clause-range : goal.returns-in-Err-clause-range
returns-in-Err-clause-range c _ =
    let (n, is) = (c.numbers_are_written_in_parts.ensures _).0 c.in-Some.ensures.found.is in
    let (negative, digits, exponent, decimal, exceeds) = c.in-Err.ensures n is in (
      _,
      _,
      c.in-Some.ensures.found,
      (n, is, (c.in-Err.field-0, negative, digits, exponent, decimal, exceeds)),
    )
