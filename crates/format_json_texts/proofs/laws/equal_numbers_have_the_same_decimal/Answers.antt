use Rattle.format_json_texts.proofs.EqualDecimals.{one_decimal, same_decimal}
use Rattle.format_json_texts.proofs.laws.equal_numbers_have_the_same_decimal.Goals as goal

pub returns : goal.returns
returns c = λ n m negative sign digits others exponent power is has. (
  one_decimal n m negative sign digits others exponent power is has,
  same_decimal n m negative sign digits others exponent power is has,
)
