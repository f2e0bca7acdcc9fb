use Rattle.std.proofs.Common.{sym}
use Rattle.std.proofs.lemmas.Bool.{both_ways, true≢false}
use Rattle.format_toml.proofs.FloatCutsLemmas.{decimal_none, decimal_some}
use Rattle.format_toml.proofs.floats.is_decimal.Goals as goal

pub returns-then-is_whole : goal.returns-then-is_whole
returns-then-is_whole c =
    let (there, back) = decimal_some c.args.text.now (c.in-Some.whole, c.in-Some.fraction)
    c.in-Some.ensures in (
      λ t. back (c.is_whole.ensures.0 c.if-is_whole.true, c.are_digits.ensures.0 t),
      λ x. c.are_digits.ensures.1 (there x).1,
    )

pub returns-else-is_whole : goal.returns-else-is_whole
returns-else-is_whole c = (
  λ t. absurd (both_ways _ c.if-is_whole.false t),
  λ x. c.is_whole.ensures.1 ((decimal_some c.args.text.now (c.in-Some.whole, c.in-Some.fraction)
      c.in-Some.ensures).0 x).0,
)

pub returns-in-None : goal.returns-in-None
returns-in-None c = (
  λ bad. absurd (true≢false (sym bad)),
  λ x. absurd (decimal_none c.args.text.now c.in-None.ensures x),
)
